-- The width of a turn is passed.
use Rattle.std.proofs.Common.{◌≡◌, ◌<◌, ◌∙◌, arith, length, []}
use Rattle.std.specs.Prelude.{slice_index_or}
use Rattle.std.proofs.lemmas.Grind.{get_or_default_zero}
use Rattle.std.proofs.lemmas.List.{get_or-set_other, length-set}
use Rattle.tomex_floor.specs.declared.latest.Latest.{Latest}
use Rattle.tomex_config.specs.Configuration.{latency_of}
use Rattle.tomex_floor.specs.Kept.{IsLatest, finish_of, history_after}
use Rattle.tomex_floor.proofs.Turns.{set_up_to}
use Rattle.tomex_floor.proofs.evaluate.pass_all.Goals as goal

pub loop-n-preserved : goal.loop-n-preserved
loop-n-preserved c =
    let within : c.loop-n.n < length c.loop-n.latest = omega arith in
    let within_finishes : c.loop-n.n < length c.loop-n.finishes = omega arith in
    let none : Latest = record { ends = []; issues = []; branch = 0; address = 0; end = 0 } in
    let was : slice_index_or c.loop-n.latest c.loop-n.n none ≡ slice_index_or c.args.latest.now c.loop-n.n none =
    c.loop-n.invariant.rest c.loop-n.n none (omega arith) in
    record {
      count = length-set c.loop-n.latest c.loop-n.n _ ∙ c.loop-n.invariant.count;
      finish_count = length-set c.loop-n.finishes c.loop-n.n _ ∙ c.loop-n.invariant.finish_count;
      passed = λ s h i d facts are conflicts l.
          set_up_to (λ i x. IsLatest (history_after (latency_of c.args.config.now) s h i) x) c.loop-n.latest
          c.loop-n.n _
          within
          (c.pass.ensures.latest (h c.loop-n.n) s facts (rw was (are c.loop-n.n none c.loop-n-test.true))
          (conflicts c.loop-n.n c.loop-n-test.true))
          (λ i d k. c.loop-n.invariant.passed s h i d facts are conflicts k) i d l;
      finishes = λ s h i facts are conflicts l.
          set_up_to (λ i x. x ≡ finish_of (latency_of c.args.config.now) s h i) c.loop-n.finishes c.loop-n.n _
          within_finishes
          (c.pass.ensures.finish (h c.loop-n.n) s facts (rw was (are c.loop-n.n none c.loop-n-test.true))
          (conflicts c.loop-n.n c.loop-n-test.true))
          (λ i d k. get_or_default_zero c.loop-n.finishes i d (omega arith)
          ∙ c.loop-n.invariant.finishes s h i facts are conflicts k) i 0 l;
      rest = λ i d l.
          get_or-set_other c.loop-n.latest c.loop-n.n i _ d (λ (e : i ≡ c.loop-n.n). absurd (omega arith))
          ∙ c.loop-n.invariant.rest i d (omega arith);
    }

pub returns-clause-latest : goal.returns-clause-latest
returns-clause-latest c = λ s h facts are conflicts n d l.
    c.loop-n.invariant.passed s h n d facts are conflicts (omega arith)
