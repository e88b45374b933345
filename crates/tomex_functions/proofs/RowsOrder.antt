-- The order of rows, as a sort leaves them.
use Rattle.std.proofs.Common.{◌≡◌, ℕ, arith, refl, true, false, ◌&&◌, ◌||◌, nat_lt, ◌==◌, Option, Some, None}
use Rattle.std.specs.Ordering.{is_lt, nat_cmp, ordering_then}
use Rattle.std.proofs.lemmas.Bool.Decides.{nat_tests}
use Rattle.tomex_symbols.specs.declared.symbol.Symbol.{Symbol}
use Rattle.tomex_functions.specs.ByFunction.{goes_before}
use Rattle.tomex_functions.specs.Kept.{key_with}

-- over numbers, for the tactics
in_order : (p q r s m n : ℕ)
    → is_lt (ordering_then (ordering_then (nat_cmp p q) (nat_cmp r s)) (nat_cmp m n)) ≡ false
    → (nat_lt p q || q == p && (nat_lt r s || r == s && nat_lt m n)) ≡ false
in_order p q r s m n e = grind (arith, nat_tests)

-- by the keys of two rows
pub by_key : (a b : Option Symbol) (m n : ℕ)
    → is_lt (ordering_then (ordering_then (ordering_then (nat_cmp (key_with n b).0 (key_with m a).0)
    (nat_cmp (key_with m a).1.0 (key_with n b).1.0)) (nat_cmp (key_with n b).2 (key_with m a).2))
    (nat_cmp (key_with n b).3 (key_with m a).3)) ≡ false
    → goes_before b n a m ≡ false
by_key a None m n e = refl
by_key None (Some g) m n e = let bad : true ≡ false = e in absurd (cc)
by_key (Some f) (Some g) m n e = in_order m n g.address f.address g.number f.number e
