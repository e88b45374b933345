-- Bytes of a memory, read and written by address.
use Rattle.std.proofs.Common.{◌≡◌, ℕ, zero, suc, ◌+◌, ◌-◌, ◌*◌, ◌/◌, ◌%◌, ◌^◌, ◌<◌, ◌≤◌, ◌⊎◌, List, length, true, false}
use Rattle.std.proofs.Common.{refl, sym, ◌∙◌, arith, inl, inr}
use Rattle.std.specs.Prelude.{slice_index, slice_set, nat_le, nat_lt, ◌&&◌, if◌then◌else◌}
use Rattle.std.proofs.lemmas.Bool.{cases_eq, cases_lt, lt-ltb, le-ltb, le-leb, lt-leb, and_left, and_right, and_from}
use Rattle.std.proofs.lemmas.Grind.{get_or-set_at}
use Rattle.std.proofs.lemmas.List.{get_or-set_other}
use Rattle.std.proofs.Math.ListN.{length-set}
use Rattle.tomex_rvexec.specs.Results.{byte_in}
use Rattle.tomex_rvexec.specs.Memory.{Bytes, half_read, word_read, byte_written, half_written, word_written}

-- the low bytes of v, written from place i on
abbrev pub bytes_written : ℕ → List ℕ → ℕ → ℕ → List ℕ
bytes_written zero m i v = m
bytes_written (suc n) m i v = slice_set (bytes_written n m i v) (i + n) (v / 256 ^ n % 256)

pub length-bytes : (n : ℕ) (m : List ℕ) (i v : ℕ) → length (bytes_written n m i v) ≡ length m
length-bytes zero m i v = refl
length-bytes (suc n) m i v = simp length-set (length-bytes n m i v)

pub bytes_at : (n : ℕ) (m : List ℕ) (i v k : ℕ) → i + n ≤ length m
    → slice_index (bytes_written n m i v) k
    ≡ (if nat_le i k && nat_lt k (i + n) then v / 256 ^ (k - i) % 256 else slice_index m k)
bytes_at zero m i v k h = rw (out (cases_lt k i)) refl
  where
    out : (k < i) ⊎ (i ≤ k) → (nat_le i k && nat_lt k (i + 0)) ≡ false
    out (inl l) = and_left (nat_le i k) (nat_lt k (i + 0)) (lt-leb i k l)
    out (inr g) = and_right (nat_le i k) (nat_lt k (i + 0)) (le-ltb k (i + 0) (omega arith))
bytes_at (suc n) m i v k h = at (cases_eq k (i + n)) (bytes_at n m i v k (omega arith))
  where
    more : (k ≡ i + n → ⊥) → nat_lt k (i + suc n) ≡ nat_lt k (i + n)
    more other = elim (cases_lt k (i + n)) [
      | inl l ↦ lt-ltb k (i + suc n) (omega arith) ∙ sym (lt-ltb k (i + n) l)
      | inr g ↦ le-ltb k (i + suc n) (omega arith) ∙ sym (le-ltb k (i + n) g)
    ]

    at : (k ≡ i + n) ⊎ (k ≡ i + n → ⊥)
        → slice_index (bytes_written n m i v) k
        ≡ (if nat_le i k && nat_lt k (i + n) then v / 256 ^ (k - i) % 256 else slice_index m k)
        → slice_index (slice_set (bytes_written n m i v) (i + n) (v / 256 ^ n % 256)) k
        ≡ (if nat_le i k && nat_lt k (i + suc n) then v / 256 ^ (k - i) % 256 else slice_index m k)
    at (inl e) before =
        let t : (nat_le i k && nat_lt k (i + suc n)) ≡ true =
        and_from (nat_le i k) (nat_lt k (i + suc n)) (le-leb i k (omega arith)) (lt-ltb k (i + suc n) (omega arith))
        in
        let d : k - i ≡ n = omega arith in
        let l : i + n < length (bytes_written n m i v) = omega (arith, length-bytes n m i v) in
        rw (t, d) (get_or-set_at (bytes_written n m i v) (i + n) k (v / 256 ^ n % 256) 0 e l)
    at (inr other) before =
        rw (get_or-set_other (bytes_written n m i v) (i + n) k (v / 256 ^ n % 256) 0 other, more other) before

pub byte_is : (m : List ℕ) (i v : ℕ) → byte_written m i v ≡ bytes_written 1 m i v
byte_is m i v = let e : i + 0 ≡ i = omega arith in let d : v / 1 ≡ v = omega arith in rw (e, d) refl

pub half_is : (m : List ℕ) (i v : ℕ) → half_written m i v ≡ bytes_written 2 m i v
half_is m i v = let e : i + 0 ≡ i = omega arith in let d : v / 1 ≡ v = omega arith in rw (e, d) refl

pub word_is : (m : List ℕ) (i v : ℕ) → word_written m i v ≡ bytes_written 4 m i v
word_is m i v = let e : i + 0 ≡ i = omega arith in let d : v / 1 ≡ v = omega arith in rw (e, d) refl

pub half_loaded : (memory : Bytes) (a : ℕ) → memory.base ≤ a → half_read memory.bytes (a - memory.base)
    ≡ byte_in memory a + 256 * byte_in memory (a + 1)
half_loaded memory a h = let e : a + 1 - memory.base ≡ a - memory.base + 1 = omega arith in rw e refl

pub word_loaded : (memory : Bytes) (a : ℕ) → memory.base ≤ a → word_read memory.bytes (a - memory.base)
    ≡ byte_in memory a + 256 * byte_in memory (a + 1) + 65536 * byte_in memory (a + 2)
    + 16777216 * byte_in memory (a + 3)
word_loaded memory a h =
    let e : a + 1 - memory.base ≡ a - memory.base + 1 = omega arith in
    let f : a + 2 - memory.base ≡ a - memory.base + 2 = omega arith in
    let g : a + 3 - memory.base ≡ a - memory.base + 3 = omega arith in
    rw (e, f, g) refl

pub below_none : (a b : ℕ) → (nat_le a b && nat_lt b (a + 0)) ≡ false
below_none a b = elim (cases_lt b a) [
  | inl l ↦ and_left (nat_le a b) (nat_lt b (a + 0)) (lt-leb a b l)
  | inr g ↦ and_right (nat_le a b) (nat_lt b (a + 0)) (le-ltb b (a + 0) (omega arith))
]

-- the low n bytes of v, stored from an address on
pub bytes_stored : (n : ℕ) (memory : Bytes) (from v a : ℕ) → memory.base ≤ a
    → (0 < n → (memory.base ≤ from) × (from + n ≤ memory.base + length memory.bytes))
    → slice_index (bytes_written n memory.bytes (from - memory.base) v) (a - memory.base)
    ≡ (if nat_le from a && nat_lt a (from + n) then v / 256 ^ (a - from) % 256 else byte_in memory a)
bytes_stored zero memory from v a low room = rw (below_none from a) refl
bytes_stored (suc n) memory from v a low room =
    let two = room (omega arith) in
    let above : memory.base ≤ from = two.0 in
    let within : from + suc n ≤ memory.base + length memory.bytes = two.1 in
    let d : a - memory.base - (from - memory.base) ≡ a - from = omega arith in
    let le : nat_le (from - memory.base) (a - memory.base) ≡ nat_le from a = elim (cases_lt a from) [
      | inl l ↦ lt-leb (from - memory.base) (a - memory.base) (omega arith) ∙ sym (lt-leb from a l)
      | inr g ↦ le-leb (from - memory.base) (a - memory.base) (omega arith) ∙ sym (le-leb from a g)
    ] in
    let lt : nat_lt (a - memory.base) (from - memory.base + suc n) ≡ nat_lt a (from + suc n) = elim
    (cases_lt a (from + suc n)) [
      | inl l ↦ lt-ltb (a - memory.base) (from - memory.base + suc n) (omega arith) ∙ sym (lt-ltb a (from + suc n) l)
      | inr g ↦ le-ltb (a - memory.base) (from - memory.base + suc n) (omega arith) ∙ sym (le-ltb a (from + suc n) g)
    ] in
    rw (← d, ← le, ← lt) (bytes_at (suc n) memory.bytes (from - memory.base) v (a - memory.base) (omega arith))
