-- Rows with cost and cycles in each other's place: the same ones dominate.
use Rattle.std.proofs.Common.{◌≡◌, ap, inl, inr, refl, Bool, true, false, not, nat_le, nat_lt, ◌&&◌, ◌||◌}
use Rattle.std.proofs.Common.{List, [], ◌∷◌}
use Rattle.std.specs.Prelude.{map}
use Rattle.std.specs.List.{list_any}
use Rattle.tomex_pareto.specs.Front.{dominates, is_undominated}
use Rattle.tomex_pareto.specs.declared.front_row.FrontRow.{FrontRow}
use Rattle.tomex_pareto.proofs.Pareto.{Has, IsFree}
use Rattle.tomex_pareto.specs.Spans.{swapped}

exchanged : (a b c d : Bool) → (a && b && (c || d)) ≡ (b && a && (d || c))
exchanged true true true true = refl
exchanged true true true false = refl
exchanged true true false true = refl
exchanged true true false false = refl
exchanged true false c d = refl
exchanged false true c d = refl
exchanged false false c d = refl

one_swapped : (a b : FrontRow) → dominates (swapped a) (swapped b) ≡ dominates a b
one_swapped a b =
    exchanged (nat_le a.cycles b.cycles) (nat_le a.cost b.cost) (nat_lt a.cycles b.cycles) (nat_lt a.cost b.cost)

any_swapped : (r : FrontRow) (rows : List FrontRow)
    → list_any (λ x. dominates x (swapped r)) (map swapped rows) ≡ list_any (λ x. dominates x r) rows
any_swapped r [] = refl
any_swapped r (x ∷ xs) = rw (one_swapped x r, any_swapped r xs) refl

pub undominated_swapped : (rows : List FrontRow) (r : FrontRow)
    → is_undominated (map swapped rows) (swapped r) ≡ is_undominated rows r
undominated_swapped rows r = ap not (any_swapped r rows)

pub has_swapped : (rows : List FrontRow) (r : FrontRow) → Has rows r → Has (map swapped rows) (swapped r)
has_swapped [] r one = absurd one
has_swapped (x ∷ xs) r (inl is) = inl (ap swapped is)
has_swapped (x ∷ xs) r (inr there) = inr (has_swapped xs r there)

pub swapped_back : (rows : List FrontRow) (r : FrontRow) → Has (map swapped rows) r → Has rows (swapped r)
swapped_back [] r one = absurd one
swapped_back (x ∷ xs) r (inl is) = inl (ap swapped is)
swapped_back (x ∷ xs) r (inr there) = inr (swapped_back xs r there)

pub free_swapped : (rows : List FrontRow) (r : FrontRow) → IsFree rows r → IsFree (map swapped rows) (swapped r)
free_swapped rows r free q there w = free (swapped q) (swapped_back rows q there) (record {
  cost = w.cycles;
  cycles = w.cost;
  less = elim w.less [ inl l ↦ inr l | inr l ↦ inl l ];
})
