-- The ends of a sorted front, and equal rows, on the hull.
use Rattle.std.proofs.Common.{◌≡◌, ◌≤◌, ◌++◌, arith, inl, inr, refl, subst, List, [], ◌∷◌}
use Rattle.std.proofs.lemmas.Bool.Decides.{nat_tests}
use Rattle.tomex_pareto.specs.declared.front_row.FrontRow.{FrontRow}
use Rattle.tomex_pareto.specs.Hull.{hull_of}
use Rattle.tomex_pareto.specs.Pareto.{ComesBefore}
use Rattle.tomex_pareto.proofs.Mixes.{Mix}
use Rattle.tomex_pareto.proofs.OnHull.{hull_unmixed, on_hull}
use Rattle.tomex_pareto.proofs.Pareto.{Has, Rises, all_has}

-- nothing is cheaper than the first row
first_cheapest : (r q : FrontRow) (rest : List FrontRow) → Rises ComesBefore (r ∷ rest) → Has (r ∷ rest) q
    → r.cost ≤ q.cost
first_cheapest r q rest up (inl e) = rw e (omega arith)
first_cheapest r q rest up (inr h) = grind (arith, nat_tests, all_has (ComesBefore r) rest q up.0 h)

pub has_last : (rest : List FrontRow) (r : FrontRow) → Has (rest ++ r ∷ []) r
has_last [] r = inl refl
has_last (x ∷ rest) r = inr (has_last rest r)

-- nor costlier than the last
last_costliest : (r q : FrontRow) (rest : List FrontRow) → Rises ComesBefore (rest ++ r ∷ [])
    → Has (rest ++ r ∷ []) q → q.cost ≤ r.cost
last_costliest r q [] up (inl e) = rw e (omega arith)
last_costliest r q [] up (inr h) = absurd h
last_costliest r q (x ∷ rest) up (inl e) =
    let w = all_has (ComesBefore x) (rest ++ r ∷ []) r up.0 (has_last rest r) in
    let l : x.cost ≤ r.cost = grind (arith, nat_tests) in
    subst (λ (y : FrontRow). y.cost ≤ r.cost) e l
last_costliest r q (x ∷ rest) up (inr h) = last_costliest r q rest up.1 h

pub first_on_hull : (r : FrontRow) (rest : List FrontRow) → Rises ComesBefore (r ∷ rest)
    → Has (hull_of (r ∷ rest)) r
first_on_hull r rest up = on_hull (r ∷ rest) r (inl refl) (λ m.
    let l = first_cheapest r m.a rest up m.has_a in
    let e = m.above in
    absurd (grind (arith, nat_tests)))

pub last_on_hull : (r : FrontRow) (rest : List FrontRow) → Rises ComesBefore (rest ++ r ∷ [])
    → Has (hull_of (rest ++ r ∷ [])) r
last_on_hull r rest up = on_hull (rest ++ r ∷ []) r (has_last rest r) (λ m.
    let l = last_costliest r m.b rest up m.has_b in
    let e = m.above in
    absurd (grind (arith, nat_tests)))

-- what is above a line is above it under any number
same_mix : (front : List FrontRow) (a b : FrontRow) → a.cost ≡ b.cost → a.cycles ≡ b.cycles → Mix front b
    → Mix front a
same_mix front a b c y m =
    record { a = m.a; b = m.b; has_a = m.has_a; has_b = m.has_b; above = rw (c, y) m.above }

pub equal_on_hull : (front : List FrontRow) (a b : FrontRow) → Has (hull_of front) a → Has front b → a.cost ≡ b.cost
    → a.cycles ≡ b.cycles → Has (hull_of front) b
equal_on_hull front a b on h c y = on_hull front b h (λ m. hull_unmixed front a on (same_mix front a b c y m))
