-- No key is less than one before it.
use Rattle.std.proofs.Common.{rules, arith, ℕ, ◌≡◌, false, List, get_or}
use Rattle.std.specs.List.{AllPairs}
use Rattle.std.specs.Cmp.{IsTotalOrder}
use Rattle.std.specs.Ordering.{is_lt, nat_cmp, ordering_then}
use Rattle.std.specs.declared.cmp.Ordering.{Ordering}
use Rattle.std.proofs.lemmas.Bool.Decides.{nat_tests}
use Rattle.std.proofs.lemmas.Cmp.{nat_cmp_total, on_total, then_total}
use Rattle.std.proofs.lemmas.List.Sorted.{answers_always, ranks_by, sorted_far}
use Rattle.tomex_pareto.specs.declared.front_row.FrontRow.{FrontRow}
use Rattle.tomex_pareto.proofs.SortedRows.{IsNoLater, sorted_is}
use Rattle.tomex_pareto.proofs.fronts.sort_by_cost.Goals as goal

abbrev compare : ℕ × ℕ → ℕ × ℕ → Ordering
compare x y = ordering_then (nat_cmp x.0 y.0) (nat_cmp x.1 y.1)

abbrev key : FrontRow → ℕ × ℕ
key r = (r.cost, r.row)

total : IsTotalOrder compare
total = then_total (on_total (λ x. x.0) nat_cmp_total) (on_total (λ x. x.1) nat_cmp_total)

no_later : (a b : FrontRow) → is_lt (compare (key b) (key a)) ≡ false → IsNoLater a b
no_later a b f = grind (arith, nat_tests)

all_no_later : (rows : List FrontRow) → AllPairs (λ a b. is_lt (compare (key b) (key a)) ≡ false) rows
    → AllPairs IsNoLater rows
all_no_later rows far j k d l m = no_later (get_or rows j d) (get_or rows k d) (far j k d l m)

pub returns : goal.returns
returns g c = sorted_is _ _ c.requires c.sort_unstable_by_key.ensures.permutation
    (all_no_later _ (λ j k d l m. sorted_far _ (ranks_by total key) _
    (c.sort_unstable_by_key.ensures.sorted key (answers_always _ _ _ (λ f a r g h. search rules)))
    j k d (omega arith) m))
