-- Rows as lines of the table, and their order, as a sort leaves them.
use Rattle.std.proofs.Common.{◌≡◌, ◌∙◌, ◌+◌, ◌<◌, ◌++◌, ℕ, ap, arith, false, ◌&&◌, ◌||◌, nat_lt, ◌==◌}
use Rattle.std.proofs.Common.{List, [], ◌∷◌, length}
use Rattle.std.proofs.Common.{get_or, map, refl}
use Rattle.std.specs.List.{flat_map}
use Rattle.std.specs.Ordering.{is_lt, nat_cmp, ordering_then}
use Rattle.std.proofs.lemmas.Bool.Decides.{nat_tests}
use Rattle.std.proofs.lemmas.List.{get_or-map, length-map}
use Rattle.tomex_loop_views.specs.declared.row.LoopRow.{LoopRow}
use Rattle.tomex_loop_views.specs.Table.{InOrder, Line, goes_before, line_of}

-- by the cycles of the loops themselves, and their heads
pub in_order : (p q m n : ℕ) → is_lt (ordering_then (nat_cmp p q) (nat_cmp m n)) ≡ false
    → (nat_lt p q || p == q && nat_lt m n) ≡ false
in_order p q m n e = grind (arith, nat_tests)

pub lines_in_order : (rows : List LoopRow)
    → ((k : ℕ) (z : LoopRow) → k + 1 < length rows
    → goes_before (get_or rows (k + 1) z).sums (get_or rows k z).sums ≡ false)
    → InOrder (map line_of rows)
lines_in_order [] are = λ k d l. absurd (omega (arith, l))
lines_in_order (r ∷ rows) are = λ k d l.
    let few : k + 1 < length (r ∷ rows) = omega (arith, l, length-map (r ∷ rows) line_of) in
    ap (λ (x : Line). goes_before x.sums (get_or (map line_of (r ∷ rows)) k d).sums)
    (get_or-map line_of (r ∷ rows) (k + 1) r d few)
    ∙ ap (λ (x : Line). goes_before (get_or (r ∷ rows) (k + 1) r).sums x.sums)
    (get_or-map line_of (r ∷ rows) k r d (omega (arith, few)))
    ∙ are k r few

-- pieces of what is made of each row
pub through : {X Y A : Type 0} (f : X → Y) (g : Y → List A) (xs : List X)
    → flat_map (λ x. g (f x)) xs ≡ flat_map g (map f xs)
through f g [] = refl
through f g (x ∷ xs) = ap (λ (ys : List _). g (f x) ++ ys) (through f g xs)
