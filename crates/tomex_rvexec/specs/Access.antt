-- Accesses by address, on any memory: the value of a load, and the memory after a store.
use Rattle.std.specs.Prelude.{◌≡◌, ℕ, ◌+◌, ◌-◌, ◌/◌, ◌%◌, ◌^◌, ◌≤◌, Bool, true, false, ◌&&◌, nat_le, nat_lt}
use Rattle.std.specs.Prelude.{if◌then◌else◌, IfSome, IsTrue, List, Option, Some, None, length}
use Rattle.tomex_rvexec.specs.declared.step.Step.{Step}
use Rattle.tomex_rvexec.specs.Results.{byte_in, overwrites, stored_byte}
use Rattle.tomex_rvexec.specs.Memory.{Bytes, is_inside}
use Rattle.tomex_rvexec.specs.Steps.{bytes_of}

-- n bytes from an address on lie in a memory
abbrev pub has_bytes : Bytes → ℕ → ℕ → Bool
has_bytes m from n = is_inside m.base (length m.bytes) from n

-- the value of a load of n bytes, by a function of the bytes and the place in them; none if a byte lies outside
abbrev pub IsLoadedFrom : Bytes → ℕ → ℕ → (List ℕ → ℕ → ℕ) → Option ℕ → Type 0
IsLoadedFrom m from n read None = has_bytes m from n ≡ false
IsLoadedFrom m from n read (Some v) = IsTrue (has_bytes m from n) × (v ≡ read m.bytes (from - m.base))

-- the memory after a store of n bytes, likewise; nothing changes if a byte lies outside
abbrev pub HasStoredAt : ℕ → ℕ → (List ℕ → ℕ → List ℕ) → Bytes → Bool → Bytes → Type 0
HasStoredAt from n written old false new = (has_bytes old from n ≡ false) × (new ≡ old)
HasStoredAt from n written old true new =
    IsTrue (has_bytes old from n) × (new ≡ record old { bytes = written old.bytes (from - old.base) })

-- a memory after n bytes of a word are written from an address on, if they are inside
pub record HasWritten (n from v : ℕ) (old new : Bytes) : Type 0 where
  pub base : new.base ≡ old.base
  pub size : length new.bytes ≡ length old.bytes
  pub bytes : old.base ≤ from → from + n ≤ old.base + length old.bytes → (a : ℕ) → old.base ≤ a
      → byte_in new a ≡ (if nat_le from a && nat_lt a (from + n) then v / 256 ^ (a - from) % 256 else byte_in old a)

-- a step's access is inside memory
abbrev pub IsInside : Bytes → Step → Type 0
IsInside m x = IfSome (bytes_of x) (λ b. (m.base ≤ b.from) × (b.to ≤ m.base + length m.bytes))

-- a memory after a step's store: its bytes are written, the others stay
pub record HasStored (x : Step) (old new : Bytes) : Type 0 where
  pub base : new.base ≡ old.base
  pub size : length new.bytes ≡ length old.bytes
  pub bytes : IsInside old x → (a : ℕ) → old.base ≤ a
      → byte_in new a ≡ (if overwrites x a then stored_byte x a else byte_in old a)
