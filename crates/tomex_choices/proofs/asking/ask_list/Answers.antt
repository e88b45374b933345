-- No number yet, one more, and all of them.
use Rattle.std.proofs.Common.{◌≡◌, ◌≤◌, ◌<◌, ◌∙◌, ◌+◌, ◌-◌, ap, arith, length, refl, subst, suc, sym, take, List, ℕ}
use Rattle.std.proofs.lemmas.Bool.Decides.{nat_tests}
use Rattle.tomex_config.specs.Parts.{part_at, with_count}
use Rattle.tomex_study.specs.Cycles.{totals_on}
use Rattle.tomex_study.specs.Program.{Workload}
use Rattle.tomex_choices.specs.Asking.{IsNumberAsked}
use Rattle.tomex_config.specs.Parts.{most_of}
use Rattle.tomex_choices.proofs.Asked.{AreNumbersAsked, all_asked, none_asked, number_asked}
use Rattle.tomex_choices.proofs.AskedTotals.{asked_as, totals_with}
use Rattle.tomex_choices.proofs.asking.ask_list.Goals as goal

pub loop-fewer-init : goal.loop-fewer-init
loop-fewer-init g c =
    let same = c.most-most.ensures.value ∙ ap most_of c.part-part.ensures in
    record {
      programs = c.in_ok-with_most.ensures.programs;
      totals = asked_as c.args.knowledge.now.programs c.args.knowledge.now.programs c.args.config.now
          c.part-part.result (part_at c.args.entries.now.place) c.most-most.result
          (most_of (part_at c.args.entries.now.place) - 0) c.in_ok-with_most.with_most refl c.part-part.ensures
          (omega (arith, same)) c.in_ok-with_most.ensures.totals;
      asked = none_asked c.args.study.now (part_at c.args.entries.now.place) c.args.config.now
          (most_of (part_at c.args.entries.now.place) - 0 + 1) c.args.found.now;
    }

pub next_totals-requires-clause-before : goal.next_totals-requires-clause-before
next_totals-requires-clause-before g c =
    let same = c.most-most.ensures.value ∙ ap most_of c.part-part.ensures in
    asked_as c.loop-fewer.knowledge.programs c.args.knowledge.now.programs c.args.config.now
    (part_at c.args.entries.now.place) c.part-part.result
    (most_of (part_at c.args.entries.now.place) - c.loop-fewer.fewer) (c.most-most.result - c.loop-fewer.fewer)
    c.loop-fewer.asked (sym c.loop-fewer.invariant.programs) (sym c.part-part.ensures) (omega (arith, same))
    c.loop-fewer.invariant.totals

pub next_totals-requires-clause-number : goal.next_totals-requires-clause-number
next_totals-requires-clause-number g c =
    let low : c.loop-fewer.fewer < c.most-most.result = c.loop-fewer-test.true in
    let some : 1 ≤ c.most-most.result - c.loop-fewer.fewer = omega (arith, low) in
    let few : c.most-most.result - c.loop-fewer.fewer ≤ most_of c.part-part.result =
    omega (arith, c.most-most.ensures.value) in
    grind (arith, nat_tests)

pub ask_number-requires-clause-number : goal.ask_number-requires-clause-number
ask_number-requires-clause-number g c =
    let same = c.most-most.ensures.value ∙ ap most_of c.part-part.ensures in
    let low : c.loop-fewer.fewer < c.most-most.result = c.loop-fewer-test.true in
    let some : 1 ≤ c.most-most.result - c.loop-fewer.fewer = omega (arith, low) in
    let few : c.most-most.result - c.loop-fewer.fewer ≤ most_of (part_at c.args.entries.now.place) =
    omega (arith, same) in
    grind (arith, nat_tests)

pub ask_number-requires-clause-totals : goal.ask_number-requires-clause-totals
ask_number-requires-clause-totals g c =
    let low : c.loop-fewer.fewer < c.most-most.result = c.loop-fewer-test.true in
    ap (λ (n : ℕ). take n c.in_ok-asked.asked.totals)
    (ap (λ (ps : List Workload). length ps) c.programs-in-loop-fewer.ensures.value)
    ∙ totals_with c.args.study.now.programs c.loop-fewer.knowledge.programs c.args.config.now c.part-part.result
    (part_at c.args.entries.now.place) (c.most-most.result - c.loop-fewer.fewer) c.in_ok-asked.asked
    (c.loop-fewer.invariant.programs ∙ c.requires.programs) c.part-part.ensures (omega (arith, low))
    c.in_ok-asked.ensures.low c.in_ok-asked.ensures.totals

pub ask_number-requires-clause-most : goal.ask_number-requires-clause-most
ask_number-requires-clause-most g c =
    let same = c.most-most.ensures.value ∙ ap most_of c.part-part.ensures in
    ap (λ (n : ℕ). take n c.in_ok-with_most.with_most.totals)
    (ap (λ (ps : List Workload). length ps) c.programs.ensures.value)
    ∙ totals_with c.args.study.now.programs c.args.knowledge.now.programs c.args.config.now c.part-part.result
    (part_at c.args.entries.now.place) c.most-most.result c.in_ok-with_most.with_most c.requires.programs
    c.part-part.ensures (omega (arith, c.most-most.ensures.range.0)) c.in_ok-with_most.ensures.low
    c.in_ok-with_most.ensures.totals
    ∙ ap (λ (n : ℕ).
    totals_on c.args.study.now.programs (with_count c.args.config.now (part_at c.args.entries.now.place) n)) same

pub loop-fewer-preserved : goal.loop-fewer-preserved
loop-fewer-preserved g c =
    let s = c.args.study.now in
    let part = part_at c.args.entries.now.place in
    let config = c.args.config.now in
    let fewer = c.loop-fewer.fewer in
    let old = c.args.found.now in
    let new = c.ask_number.new.found in
    let same : c.most-most.result ≡ most_of part = c.most-most.ensures.value ∙ ap most_of c.part-part.ensures in
    let low : fewer < most_of part = omega (arith, same, c.loop-fewer-test.true) in
    let asked : IsNumberAsked s part config (most_of part - fewer) c.loop-fewer.found new =
    subst (λ (k : ℕ). IsNumberAsked s part config (k - fewer) c.loop-fewer.found new) same
    c.in_ok-ask_number.ensures.asked in
    let more : AreNumbersAsked s part config (most_of part - fewer) (suc fewer) old new =
    number_asked s part config (most_of part - fewer) fewer old c.loop-fewer.found new c.loop-fewer.invariant.asked
    asked in
    let from : most_of part - fewer ≡ most_of part - (fewer + 1) + 1 = omega (arith, low) in
    let many : suc fewer ≡ fewer + 1 = omega arith in
    record {
      programs = c.in_ok-asked.ensures.programs ∙ c.loop-fewer.invariant.programs;
      totals = asked_as c.args.knowledge.now.programs c.loop-fewer.knowledge.programs config c.part-part.result part
          (c.most-most.result - fewer) (most_of part - (fewer + 1)) c.in_ok-asked.asked
          c.loop-fewer.invariant.programs c.part-part.ensures (omega (arith, same)) c.in_ok-asked.ensures.totals;
      asked = subst (λ (n : ℕ). AreNumbersAsked s part config (most_of part - (fewer + 1) + 1) n old new) many
          (subst (λ (n : ℕ). AreNumbersAsked s part config n (suc fewer) old new) from more);
    }

pub returns-clause-asked : goal.returns-clause-asked
returns-clause-asked g c =
    let s = c.args.study.now in
    let part = part_at c.args.entries.now.place in
    let config = c.args.config.now in
    let fewer = c.loop-fewer.fewer in
    let old = c.args.found.now in
    let new = c.loop-fewer.found in
    let same : c.most-most.result ≡ most_of part = c.most-most.ensures.value ∙ ap most_of c.part-part.ensures in
    let last : fewer ≡ most_of part = omega (arith, same, c.loop-fewer-test.false, c.loop-fewer.auto.fewer-end) in
    let from : most_of part - fewer + 1 ≡ 1 = omega (arith, last) in
    all_asked s part config old new
    (subst (λ (n : ℕ). AreNumbersAsked s part config 1 n old new) last
    (subst (λ (n : ℕ). AreNumbersAsked s part config n fewer old new) from c.loop-fewer.invariant.asked))
