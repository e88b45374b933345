-- What the code writes into a memory, and into a file.
use Rattle.std.specs.Prelude.{◌≡◌, ◌⊎◌, ℕ, ◌+◌, ◌%◌, ◌^◌, ◌<◌, ◌≤◌, length}
use Rattle.tomex_rvexec.specs.Memory.{Bytes}
use Rattle.tomex_rvexec.specs.Results.{byte_in}
use Rattle.tomex_symbols.specs.declared.symbol.Symbol.{Symbol}

-- of a memory only bytes from an address up to another change
pub record Rewrites (from to : ℕ) (old new : Bytes) : Type 0 where
  pub base : new.base ≡ old.base
  pub size : length new.bytes ≡ length old.bytes
  pub below : (b : ℕ) → old.base ≤ b → b < from → byte_in new b ≡ byte_in old b
  pub above : (b : ℕ) → old.base ≤ b → to ≤ b → byte_in new b ≡ byte_in old b

-- n bytes from a word of a memory on are in it
pub record IsRoomFor (n at : ℕ) (m : Bytes) : Type 0 where
  pub word : at % 4 ≡ 0
  pub above : m.base ≤ at
  pub below : at + n ≤ m.base + length m.bytes

-- the hook and the place are in a memory of a window, beside each other, and the hook's branch reaches the pc
pub record FitIn (m : Bytes) (pc hook place : ℕ) : Type 0 where
  pub top : m.base + length m.bytes ≤ 2 ^ 32
  pub window : length m.bytes ≤ 2 ^ 20
  pub on_hook : IsRoomFor 12 hook m
  pub on_place : IsRoomFor 244 place m
  pub beside : (place + 244 ≤ hook) ⊎ (hook + 12 ≤ place)
  pub back : hook + 8 ≤ pc + 4096
  pub forth : pc ≤ hook + 8 + 4094
  pub pc_word : pc % 4 ≡ 0

-- so is the end, beside both
pub record EndFits (m : Bytes) (hook place e : ℕ) : Type 0 where
  pub room : IsRoomFor 4 e m
  pub by_hook : (e + 4 ≤ hook) ⊎ (hook + 12 ≤ e)
  pub by_place : (e + 4 ≤ place) ⊎ (place + 244 ≤ e)

-- a symbol's name is so near to where the names begin that its distance is a word
pub record IsNamedFrom (start : ℕ) (s : Symbol) : Type 0 where
  pub above : start ≤ s.name
  pub near : s.name < start + 2 ^ 32
