-- No key is less than one before it.
use Rattle.std.proofs.Common.{rules, arith, ℕ, ◌≡◌, false}
use Rattle.std.specs.Cmp.{IsTotalOrder}
use Rattle.std.specs.Ordering.{is_lt, nat_cmp, ordering_then}
use Rattle.std.specs.declared.cmp.Ordering.{Ordering}
use Rattle.std.proofs.lemmas.Bool.Decides.{nat_tests}
use Rattle.std.proofs.lemmas.Cmp.{nat_cmp_total, on_total, then_total}
use Rattle.std.proofs.lemmas.List.Sorted.{answers_always, ranks_by, sorted_far}
use Rattle.tomex_pareto.specs.declared.front_row.FrontRow.{FrontRow}
use Rattle.tomex_pareto.specs.Passing.{IsUpTo}
use Rattle.tomex_pareto.proofs.fronts.sort_rows.Goals as goal

abbrev compare : ℕ × ℕ × ℕ → ℕ × ℕ × ℕ → Ordering
compare x y = ordering_then (ordering_then (nat_cmp x.0 y.0) (nat_cmp x.1 y.1)) (nat_cmp x.2 y.2)

abbrev key : FrontRow → ℕ × ℕ × ℕ
key r = (r.cost, r.cycles, r.row)

total : IsTotalOrder compare
total = then_total (then_total (on_total (λ x. x.0) nat_cmp_total) (on_total (λ x. x.1) nat_cmp_total))
    (on_total (λ x. x.2) nat_cmp_total)

up_to : (a b : FrontRow) → is_lt (compare (key b) (key a)) ≡ false → IsUpTo a b
up_to a b f = grind (arith, nat_tests)

pub returns-clause-order : goal.returns-clause-order
returns-clause-order g c = λ j k d l m. up_to _ _ (sorted_far _ (ranks_by total key) _
    (c.sort_unstable_by_key.ensures.sorted key (answers_always _ _ _ (λ f a r g h. search rules)))
    j k d (omega arith) m)
