-- Tests and constructors: the laws of them that several files cite.
pub use Rattle.std.proofs.Math.Bool.{and-false as and_false, or-false as or_false}
pub use Rattle.std.proofs.lemmas.Bool.{or_cases}
use Rattle.tomex_cycle.proofs.Words.{Result, Ok, Err, nat_tests, ◌≢◌, ◌⊎◌, if◌then◌else◌, AreFrom, IsWithout, has}
use Rattle.tomex_cycle.proofs.Words.{least_from, least_in, left_from, none_between, PoolId, is_in, is_some, ◌≡◌, Bool}
use Rattle.tomex_cycle.proofs.Words.{true, false, Option, Some, None, arith, refl, inl, inr, ℕ, ◌+◌, ◌<◌, ◌≤◌}
use Rattle.tomex_cycle.proofs.Words.{Activity, Nothing, Starts, More}

pub ok_not_err : {A E : Type 0} (r : Result A E) (x : A) (y : E) → r ≡ Ok x → r ≡ Err y → ⊥
ok_not_err r x y e f = cc

pub ok_same : {A E : Type 0} (r : Result A E) (x y : A) → r ≡ Ok x → r ≡ Ok y → x ≡ y
ok_same r x y e f = cc

pub some_and_none : {A : Type 0} (o : Option A) (x : A) → o ≡ Some x → o ≡ None → ⊥
some_and_none o x e f = cc

pub some_not_none : {A : Type 0} (x : A) → Some x ≡ None → ⊥
some_not_none x e = cc

pub some_of : {A : Type 0} (o : Option A) → is_some o ≡ true → (x : A) × (o ≡ Some x)
some_of None e = absurd (cc)
some_of (Some x) e = (x, refl)

pub pool_in : (pool : Option PoolId) (p : PoolId) → is_in p pool ≡ true → is_some pool ≡ true
pool_in None p e = absurd (cc)
pool_in (Some q) p e = refl

-- What is noted of a cycle as its phases change something.

-- starts, an address, an issue: each is noted on top of those before it
abbrev pub noted : (any addressed made : Bool) → Activity
noted any addressed made = if made then More else (if addressed then More else (if any then Starts else Nothing))

-- if something is noted, ends or starts, something has changed
pub what_moved : (any addressed made ended : Bool) {P Q R S : Type 0} → (any ≡ true → P) → (addressed ≡ true → Q)
    → (made ≡ true → R) → (ended ≡ true → S)
    → (noted any addressed made ≡ More) ⊎ ((ended ≡ true) ⊎ (noted any addressed made ≡ Starts)) → P ⊎ (Q ⊎ (R ⊎ S))
what_moved any addressed true ended p q r s which = inr (inr (inl (r refl)))
what_moved any true false ended p q r s which = inr (inl (q refl))
what_moved true false false ended p q r s which = inl (p refl)
what_moved false false false ended p q r s (inl e) = absurd (cc)
what_moved false false false ended p q r s (inr (inl e)) = inr (inr (inr (s e)))
what_moved false false false ended p q r s (inr (inr e)) = absurd (cc)

-- and if only starts are noted, there was no more
pub none_moved : (any addressed made : Bool) → noted any addressed made ≢ More → (addressed ≡ false) × (made ≡ false)
none_moved any addressed true e = absurd (e refl)
none_moved any true false e = absurd (e refl)
none_moved any false false e = (refl, refl)

-- and if nothing is noted, no starts
pub none_started : (any addressed made : Bool) → noted any addressed made ≡ Nothing → any ≡ false
none_started any addressed made h3 = grind (arith, nat_tests)

-- A turn of a loop over the members of a set, the least first.

-- the least member of what is left is taken out
pub record IsTaken (rest x left : ℕ) : Type 0 where
  pub low : x < 128
  pub member : has rest x ≡ true
  pub least : (i : ℕ) → i < x → has rest i ≡ false
  pub without : IsWithout rest x left

pub taken : {rest x left : ℕ} → x < 128 → has rest x ≡ true → ((i : ℕ) → i < x → has rest i ≡ false)
    → ((y : ℕ) → has rest y ≡ true → ((i : ℕ) → i < y → has rest i ≡ false) → IsWithout rest y left)
    → IsTaken rest x left
taken {x = x} low member least out =
    record { low = low; member = member; least = least; without = out x member least }

-- of a set whose members from k on are left
pub record IsTurn (set left k x : ℕ) : Type 0 where
  pub from : k ≤ x
  pub member : has set x ≡ true
  pub none : (j : ℕ) → k ≤ j → j < x → has set j ≡ false
  pub next : AreFrom set left (x + 1)

pub turn_at : {set rest left k x : ℕ} → AreFrom set rest k → IsTaken rest x left → IsTurn set left k x
turn_at {set} {rest} {left} {k} {x} so out = record {
  from = least_from set rest k x so out.low out.member;
  member = least_in set rest k x so out.low out.member;
  none = none_between set rest k x so out.low out.least;
  next = left_from set rest left k x so out.low out.member out.least out.without;
}
