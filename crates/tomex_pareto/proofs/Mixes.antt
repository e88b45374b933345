-- Which rows are mixed: it is enough to look at two others, the flattest step to it and the steepest from it.
use Rattle.std.proofs.Common.{◌≡◌, ◌<◌, arith, sym, inl, inr, List, Bool, true, false, Some, None}
use Rattle.std.specs.List.{list_any}
use Rattle.std.proofs.lemmas.Bool.{both_ways, cases_Bool, false_from_ne_true}
use Rattle.std.proofs.lemmas.Bool.Decides.{nat_tests}
use Rattle.std.proofs.lemmas.List.Folds.{Any-from_list_any, list_any-from_Any}
use Rattle.tomex_pareto.specs.declared.front_row.FrontRow.{FrontRow}
use Rattle.tomex_pareto.proofs.Pareto.{Has, contains_has, has_contains}
use Rattle.tomex_pareto.specs.Hull.{is_flatter, lies_above}
use Rattle.tomex_pareto.specs.Steps.{best_of, follows_steeper, is_cheaper, is_costlier, leads_flatter}
use Rattle.tomex_pareto.proofs.Best.{IsOrder, best_found, none_found}
use Rattle.tomex_pareto.proofs.Rates.{below_flat, flat_below, not_both}

-- two of the rows that a row is above the line of
pub record Mix (front : List FrontRow) (r : FrontRow) : Type 0 where
  pub a : FrontRow
  pub b : FrontRow
  pub has_a : Has front a
  pub has_b : Has front b
  pub above : lies_above a b r ≡ true

some_row : (p : FrontRow → Bool) (rows : List FrontRow) (q : FrontRow) → Has rows q → p q ≡ true
    → list_any p rows ≡ true
some_row p rows q h e = let c = has_contains rows q h in list_any-from_Any p rows (c.0, q, c.1, c.2, e)

-- a comparison with all of them, as one with two
abbrev pub is_mixed : List FrontRow → FrontRow → Bool
is_mixed front r = list_any (λ a. list_any (λ b. lies_above a b r) front) front

pub mixed : (front : List FrontRow) (r : FrontRow) → Mix front r → is_mixed front r ≡ true
mixed front r m = some_row (λ a. list_any (λ b. lies_above a b r) front) front m.a m.has_a
    (some_row (λ b. lies_above m.a b r) front m.b m.has_b m.above)

pub mix_of : (front : List FrontRow) (r : FrontRow) → is_mixed front r ≡ true → Mix front r
mix_of front r e =
    let v = Any-from_list_any (λ a. list_any (λ b. lies_above a b r) front) front e in
    let w = Any-from_list_any (λ b. lies_above v.1 b r) front v.4 in
    record {
      a = v.1;
      b = w.1;
      has_a = contains_has front v.0 v.1 v.2 v.3;
      has_b = contains_has front w.0 w.1 w.2 w.3;
      above = w.4;
    }

pub flatter_order : (r : FrontRow) → IsOrder (is_cheaper r) (leads_flatter r)
flatter_order r = record {
  itself = λ x. grind (arith, nat_tests);
  over = λ x y a px py pa e f. not_both y r x r (below_flat y r a r x r (grind (arith, nat_tests)) e f);
}

pub steeper_order : (r : FrontRow) → IsOrder (is_costlier r) (follows_steeper r)
steeper_order r = record {
  itself = λ x. grind (arith, nat_tests);
  over = λ x y a px py pa e f. not_both r x r y (flat_below r x r a r y (grind (arith, nat_tests)) f e);
}

-- the parts of a mix
module _ (front : List FrontRow) (r : FrontRow) (m : Mix front r) where
  pub cheaper : is_cheaper r m.a ≡ true
  cheaper = let e = m.above in grind (arith, nat_tests)

  pub costlier : is_costlier r m.b ≡ true
  costlier = let e = m.above in grind (arith, nat_tests)

  pub flatter : is_flatter m.a r r m.b ≡ true
  flatter = let e = m.above in grind (arith, nat_tests)

pub mixed_by_two : (front : List FrontRow) (r a b : FrontRow)
    → best_of (is_cheaper r) (leads_flatter r) None front ≡ Some a
    → best_of (is_costlier r) (follows_steeper r) None front ≡ Some b → is_flatter a r r b ≡ is_mixed front r
mixed_by_two front r a b e f =
    let v = best_found (is_cheaper r) (leads_flatter r) (flatter_order r) front a e in
    let w = best_found (is_costlier r) (follows_steeper r) (steeper_order r) front b f in
    let up : a.cost < r.cost = (let t = v.passes_too in grind (arith, nat_tests)) in
    let on : r.cost < b.cost = (let t = w.passes_too in grind (arith, nat_tests)) in
    elim (cases_Bool (is_mixed front r)) [
      | inl t ↦
          let m = mix_of front r t in
          let near = flat_below a r m.a r r m.b up (v.best m.a m.has_a (cheaper front r m)) (flatter front r m) in
          let far = below_flat a r r m.b r b on near (w.best m.b m.has_b (costlier front r m)) in
          rw t far
      | inr t ↦ rw t (false_from_ne_true _ (λ s. both_ways _ t (mixed front r (record {
        a = a;
        b = b;
        has_a = v.one;
        has_b = w.one;
        above = grind (arith, nat_tests);
      }))))
    ]

pub unmixed_cheapest : (front : List FrontRow) (r : FrontRow)
    → best_of (is_cheaper r) (leads_flatter r) None front ≡ None → false ≡ is_mixed front r
unmixed_cheapest front r e = sym (false_from_ne_true _ (λ t. let m = mix_of front r t in both_ways _
    (none_found (is_cheaper r) (leads_flatter r) (flatter_order r) front e m.a m.has_a) (cheaper front r m)))

pub unmixed_costliest : (front : List FrontRow) (r : FrontRow)
    → best_of (is_costlier r) (follows_steeper r) None front ≡ None → false ≡ is_mixed front r
unmixed_costliest front r e = sym (false_from_ne_true _ (λ t. let m = mix_of front r t in both_ways _
    (none_found (is_costlier r) (follows_steeper r) (steeper_order r) front e m.b m.has_b) (costlier front r m)))
