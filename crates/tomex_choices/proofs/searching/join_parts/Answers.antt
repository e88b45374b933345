-- No part yet, one more, and all of them.
use Rattle.std.proofs.Common.{arith, ◌≡◌, ◌∙◌, ◌++◌, All, List, ap, append_assoc, length, rules, subst, sym, ℕ}
use Rattle.std.proofs.lemmas.Grind.{common_steps}
use Rattle.std.specs.List.{flat_map}
use Rattle.std.specs.Vec.Iter.{into_iter_items}
use Rattle.std.proofs.lemmas.List.{nil_from_length}
use Rattle.std.proofs.lemmas.List.Elements.{All-head, All-tail}
use Rattle.tomex_choices.specs.declared.found.Found.{Found}
use Rattle.tomex_choices.proofs.Joining.{IsFoundSoFar, all_so_far, none_so_far, one_so_far}
use Rattle.tomex_choices.proofs.searching.join_parts.Goals as goal

pub loop-part-init : goal.loop-part-init
loop-part-init g c =
    let all : into_iter_items c.into_iter-part-iterator.result ≡ c.args.parts.items =
    c.into_iter-part-iterator.ensures.into_iter_gives.0 in
    record {
      count = c.in_ok-all.ensures.count;
      counts = subst (All (λ p. length p.lists.items ≡ 13)) (sym all) c.requires;
      totals = ap (λ (ts : List (List ℕ)). ts ++ flat_map (λ (p : Found _). p.totals.items)
          (into_iter_items c.into_iter-part-iterator.result)) c.in_ok-all.ensures.totals
          ∙ ap (flat_map (λ (p : Found _). p.totals.items)) all;
      lists = subst (λ (ps : List (Found _)). IsFoundSoFar c.args.parts.items ps c.in_ok-all.all.lists.items) (sym all)
          (none_so_far c.args.parts.items c.in_ok-all.all.lists.items c.in_ok-all.ensures.lists);
    }

pub append-requires : goal.append-requires
append-requires g c =
    c.loop-part.invariant.count
    ∙ sym (All-head (λ (p : Found _). length p.lists.items ≡ 13) c.in-Some.part (into_iter_items c.next.new.self)
    (subst (All (λ p. length p.lists.items ≡ 13)) c.in-Some.ensures.steps.0 c.loop-part.invariant.counts))

pub loop-part-preserved : goal.loop-part-preserved
loop-part-preserved g c =
    let rest = into_iter_items c.next.new.self in
    let steps = c.in-Some.ensures.steps.0 in
    record {
      count = c.in_ok-append.ensures.lists.count ∙ c.loop-part.invariant.count;
      counts = All-tail (λ (p : Found _). length p.lists.items ≡ 13) c.in-Some.part rest
          (subst (All (λ p. length p.lists.items ≡ 13)) steps c.loop-part.invariant.counts);
      totals = ap (λ (ts : List (List ℕ)). ts ++ flat_map (λ (p : Found _). p.totals.items) rest)
          c.in_ok-append.ensures.totals
          ∙ (append_assoc c.loop-part.all.totals.items c.in-Some.part.totals.items
          (flat_map (λ (p : Found _). p.totals.items) rest)
          ∙ (ap (λ (ps : List (Found _)). c.loop-part.all.totals.items
          ++ flat_map (λ (p : Found _). p.totals.items) ps) (sym steps)
          ∙ c.loop-part.invariant.totals));
      lists = one_so_far c.args.parts.items rest c.in-Some.part c.loop-part.all.lists.items
          c.append.new.self.lists.items c.in_ok-append.ensures.lists
          (subst (λ (ps : List (Found _)). IsFoundSoFar c.args.parts.items ps c.loop-part.all.lists.items) steps
          c.loop-part.invariant.lists);
    }

pub returns-clause-lists : goal.returns-clause-lists
returns-clause-lists g c =
    let none : length (into_iter_items c.loop-part.part-iterator) ≡ 0 = let s = c.in-None.ensures.steps in
    search rules in
    all_so_far c.args.parts.items (into_iter_items c.loop-part.part-iterator) c.loop-part.all.lists.items
    (nil_from_length (into_iter_items c.loop-part.part-iterator) none) c.loop-part.invariant.lists

pub returns-clause-totals : goal.returns-clause-totals
returns-clause-totals = grind (arith, common_steps)
