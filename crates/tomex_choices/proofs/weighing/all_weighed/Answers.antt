-- No list yet, one more, and all of them.
use Rattle.std.proofs.Common.{◌≡◌, ◌<◌, ◌≤◌, ◌∙◌, All, ap, arith, drop, length, rules, subst, sym, ℕ}
use Rattle.std.specs.Vec.Iter.{into_iter_items}
use Rattle.std.proofs.lemmas.List.{length_push}
use Rattle.std.proofs.lemmas.List.Elements.{All-head, All-tail}
use Rattle.tomex_choices.specs.declared.found.ListFound.{ListFound}
use Rattle.tomex_choices.proofs.AllWeighed.{all_are_weighed, none_weighed, one_weighed}
use Rattle.tomex_choices.proofs.Joining.{left_first, left_within, none_left}
use Rattle.tomex_choices.proofs.weighing.all_weighed.Goals as goal

pub loop-list-init : goal.loop-list-init
loop-list-init g c =
    let all : into_iter_items c.into_iter-list-iterator.result ≡ c.args.lists.items =
    c.into_iter-list-iterator.ensures.into_iter_gives.0 in
    let none : length c.in_ok-all.all.items ≡ 0 = ap length c.in_ok-all.ensures.items in
    record {
      few = subst (All (λ f. f.last_change ≤ 16)) (sym all) c.requires;
      within = omega (arith, none);
      left = ap (λ (n : ℕ). drop n c.args.lists.items) none ∙ sym all;
      weighed = λ s is rows found. none_weighed s c.in_ok-all.all.items c.in_ok-all.ensures.items;
    }

pub weighed_list-requires : goal.weighed_list-requires
weighed_list-requires g c =
    All-head (λ (f : ListFound _). f.last_change ≤ 16) c.in-Some.list (into_iter_items c.next.new.self)
    (subst (All (λ f. f.last_change ≤ 16)) c.in-Some.ensures.steps.0 c.loop-list.invariant.few)

pub loop-list-preserved : goal.loop-list-preserved
loop-list-preserved g c =
    let steps = c.in-Some.ensures.steps.0 in
    let rest = into_iter_items c.next.new.self in
    let before = c.loop-list.all.items in
    let is = c.loop-list.invariant.left ∙ steps in
    let low = left_within c.args.lists.items rest (length before) c.in-Some.list is in
    let first = left_first c.args.lists.items rest (length before) c.in-Some.list is in
    let long = ap length c.in_ok-push.ensures.items ∙ length_push before c.in_ok-weighed_list.field-0 in
    record {
      few = All-tail (λ (f : ListFound _). f.last_change ≤ 16) c.in-Some.list rest
          (subst (All (λ f. f.last_change ≤ 16)) steps c.loop-list.invariant.few);
      within = omega (arith, long, low);
      left = ap (λ (n : ℕ). drop n c.args.lists.items) long ∙ first.1;
      weighed = λ s is_study rows found.
          let place : length before < 13 = (let many = found.count in omega (arith, many, low)) in
          one_weighed s before c.push.new.self.items c.in_ok-weighed_list.field-0 c.in_ok-push.ensures.items
          (c.in_ok-weighed_list.ensures s (length before) is_study place rows
          (found.each (length before) c.in-Some.list first.0))
          (c.loop-list.invariant.weighed s is_study rows found);
    }

pub returns : goal.returns
returns g c = λ s is rows found.
    let none : length (into_iter_items c.loop-list.list-iterator) ≡ 0 = let s = c.in-None.ensures.steps in
    search rules in
    let past = none_left c.args.lists.items (into_iter_items c.loop-list.list-iterator) (length c.loop-list.all.items)
    c.loop-list.invariant.left none in
    let within = c.loop-list.invariant.within in
    all_are_weighed s c.loop-list.all.items (length c.args.lists.items) found.count (omega (arith, past, within))
    (c.loop-list.invariant.weighed s is rows found)
