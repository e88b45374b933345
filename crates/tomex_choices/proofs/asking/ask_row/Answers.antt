-- One more list, and all of them.
use Rattle.std.proofs.Common.{◌<◌, ◌∙◌, ap, arith, length, refl, subst, ℕ}
use Rattle.std.proofs.lemmas.Option.{slice_get_read}
use Rattle.tomex_choices.specs.Asking.{IsAskedOnce, ListOf}
use Rattle.tomex_choices.proofs.AskedRows.{all_are_asked, list_at, lists_long, one_is_asked}
use Rattle.tomex_choices.proofs.asking.ask_row.Goals as goal

pub loop-place-preserved : goal.loop-place-preserved
loop-place-preserved g c =
    let s = c.args.study.now in
    let place = c.loop-place.place in
    let long = lists_long s.rows c.args.lists.now c.requires.lists in
    let count = c.loop-place.invariant.asked.count in
    let here : place < length c.loop-place.found.items =
    omega (arith, long, count, c.requires.found, c.loop-place-test.true) in
    let at = ap (λ (e : ListOf). e.place) (list_at s.rows c.args.lists.now place c.index-lists-place.result
    c.requires.lists c.loop-place-test.true c.index-lists-place.is) in
    record {
      programs = c.in_ok-ask_if_new.ensures.programs ∙ c.loop-place.invariant.programs;
      asked = one_is_asked s c.args.row place c.args.found.now.items c.loop-place.found.items _ c.index_mut.result.now
          c.ask_if_new.new.found
          (slice_get_read c.loop-place.found.items _ place c.index_mut.result.now refl here c.index_mut.ensures.value)
          (subst (λ (n : ℕ). IsAskedOnce s n c.args.row c.index_mut.result.now c.ask_if_new.new.found) at
          c.in_ok-ask_if_new.ensures.asked)
          refl c.loop-place.invariant.asked;
    }

pub returns-clause-asked : goal.returns-clause-asked
returns-clause-asked g c =
    let long = lists_long c.args.study.now.rows c.args.lists.now c.requires.lists in
    all_are_asked c.args.study.now c.args.row c.loop-place.place c.args.found.now.items c.loop-place.found.items
    (omega (arith, long, c.requires.found, c.loop-place-test.false)) c.loop-place.invariant.asked
