-- One more list; after the last one all are joined.
use Rattle.std.proofs.Common.{◌≡◌, ◌<◌, ◌≤◌, ◌∙◌, length, refl, rules, subst, sym, ℕ}
use Rattle.std.proofs.lemmas.Option.{slice_get_read}
use Rattle.std.specs.Vec.Iter.{into_iter_items}
use Rattle.tomex_choices.proofs.RowLimits.{next_place}
use Rattle.tomex_choices.proofs.Joining.{all_joined, left_first, left_within, none_joined, none_left}
use Rattle.tomex_choices.proofs.Joining.{one_joined}
use Rattle.tomex_choices.proofs.found.append_lists.Goals as goal

pub loop-list-preserved : goal.loop-list-preserved
loop-list-preserved g c =
    let is = c.loop-list.invariant.left ∙ c.in-Some.ensures.steps.0 in
    let low = left_within c.args.others.items _ c.loop-list.place c.in-Some.list is in
    let first = left_first c.args.others.items _ c.loop-list.place c.in-Some.list is in
    let count = c.loop-list.invariant.joined.count in
    let here = subst (λ (n : ℕ). c.loop-list.place < n) (sym (count ∙ c.requires)) low in
    record {
      left = first.1;
      joined = one_joined c.loop-list.place c.args.lists.now.items c.args.others.items c.loop-list.lists.items _
          c.index_mut.result.now c.in-Some.list c.append.new.self
          (slice_get_read c.loop-list.lists.items _ c.loop-list.place c.index_mut.result.now refl here
          c.index_mut.ensures.value)
          first.0 c.in_ok-append.ensures refl c.loop-list.invariant.joined;
    }

pub returns : goal.returns
returns g c =
    let none : length (into_iter_items c.loop-list.list-iterator) ≡ 0 = let s = c.in-None.ensures.steps in
    search rules in
    let past = none_left c.args.others.items (into_iter_items c.loop-list.list-iterator) c.loop-list.place
    c.loop-list.invariant.left none in
    all_joined c.loop-list.place c.args.lists.now.items c.args.others.items c.loop-list.lists.items
    (subst (λ (n : ℕ). n ≤ c.loop-list.place) (sym c.requires) past) c.loop-list.invariant.joined

pub overflow_add-place : goal.overflow_add-place
overflow_add-place g c =
    let is = c.loop-list.invariant.left ∙ c.in-Some.ensures.steps.0 in
    let low = left_within c.args.others.items _ c.loop-list.place c.in-Some.list is in
    let others = c.args.others in
    record { fits = next_place _ _ _ _ low others.ok.0 others.ok.1 others.small }

pub index_mut-requires : goal.index_mut-requires
index_mut-requires g c =
    let is = c.loop-list.invariant.left ∙ c.in-Some.ensures.steps.0 in
    let low = left_within c.args.others.items _ c.loop-list.place c.in-Some.list is in
    let many = c.loop-list.lists.ok.0 ∙ (c.loop-list.invariant.joined.count ∙ c.requires) in
    subst (λ (n : ℕ). c.loop-list.place < n) (sym many) low

pub loop-list-init : goal.loop-list-init
loop-list-init g c = record {
  left = sym c.into_iter-list-iterator.ensures.into_iter_gives.0;
  joined = none_joined _ _;
}
