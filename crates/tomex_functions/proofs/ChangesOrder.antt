-- The order of names, as a sort leaves them.
use Rattle.std.proofs.Common.{◌≡◌, ℕ, arith, false, ◌&&◌, ◌||◌, nat_lt, ◌==◌}
use Rattle.std.specs.Cmp.{IsStrictWeakOrder, IsTotalOrder}
use Rattle.std.specs.Cmp.Lexicographic.{on_texts}
use Rattle.std.specs.Ordering.{is_lt, nat_cmp, ordering_then}
use Rattle.std.specs.Prelude.{Bool, string_bytes}
use Rattle.std.specs.declared.cmp.Ordering.{Ordering}
use Rattle.std.specs.declared.cmp.Ordering.TheVariants.{Less, Equal, Greater}
use Rattle.std.proofs.lemmas.Bool.Decides.{nat_tests}
use Rattle.std.proofs.lemmas.Cmp.{back_total, nat_cmp_total, on_total, then_total}
use Rattle.std.proofs.lemmas.List.MinMax.{ranks_by}
use Rattle.tomex_functions.specs.declared.named.NamedChange.{NamedChange}
use Rattle.tomex_functions.specs.ChangesKept.{order_of}
use Rattle.tomex_functions.specs.Shares.{distance}

order_total : IsTotalOrder order_of
order_total =
    then_total (on_total (λ (c : NamedChange). distance c.change) (back_total nat_cmp_total))
    (on_texts (λ (c : NamedChange). string_bytes c.name))

abbrev pub precedes : NamedChange → NamedChange → Bool
precedes a b = is_lt (order_of a b)

pub precedes_ranks : IsStrictWeakOrder precedes
precedes_ranks = ranks_by order_total (λ (c : NamedChange). c)

-- by the differences and the names' order
pub in_order : (p q : ℕ) (o : Ordering) → is_lt (ordering_then (nat_cmp p q) o) ≡ false
    → (nat_lt p q || q == p && is_lt o) ≡ false
in_order p q Less e = grind (arith, nat_tests)
in_order p q Equal e = grind (arith, nat_tests)
in_order p q Greater e = grind (arith, nat_tests)
