-- The free words of a part's window, and where its hook and its place are. A word is four bytes at a multiple of 4.
use Rattle.std.specs.Prelude.{◌≡◌, ◌⊎◌, ℕ, ◌+◌, ◌-◌, ◌*◌, ◌%◌, ◌<◌, ◌≤◌, ◌&&◌, Bool, not, IsTrue}
use Rattle.tomex_cut.specs.Part.{Part, is_used}
use Rattle.tomex_rvexec.specs.Machine.{holds}
use Rattle.tomex_rvexec.specs.Steps.{is_number}

-- a word of the window is free: no step of the part uses it, and it isn't the end's
abbrev pub is_free : Part → ℕ → Bool
is_free p a = holds p.start a 4 && not (is_used p.steps a) && not (is_number p.end a)

-- n words in a row, from an address on, are free
pub record AreFree (p : Part) (n a : ℕ) : Type 0 where
  pub word : a % 4 ≡ 0
  pub each : (k : ℕ) → k < n → IsTrue (is_free p (a + 4 * k))

-- three free words, of which the third reaches the part's first pc by a branch: from -4096 to 4094 bytes
pub record CanHook (p : Part) (h : ℕ) : Type 0 where
  pub free : AreFree p 3 h
  pub back : h + 8 ≤ p.start.pc + 4096
  pub forth : p.start.pc ≤ h + 8 + 4094

-- how far the third word of a hook is from the part's first pc
abbrev pub distance : Part → ℕ → ℕ
distance p h = (p.start.pc - (h + 8)) + (h + 8 - p.start.pc)

-- the hook: those words whose third is nearest to the pc, of two the lower
pub record IsHook (p : Part) (h : ℕ) : Type 0 where
  pub can : CanHook p h
  pub nearest : (other : ℕ) → CanHook p other → distance p h ≤ distance p other
  pub lower : (other : ℕ) → CanHook p other → distance p other ≡ distance p h → h ≤ other

-- the words of the place: a pair for each of x1 to x30, and a jump
abbrev pub place_words : ℕ
place_words = 61

-- this number of free words beside the hook
pub record CanPlace (p : Part) (h a : ℕ) : Type 0 where
  pub free : AreFree p place_words a
  pub beside : (a + 4 * place_words ≤ h) ⊎ (h + 4 * 3 ≤ a)

-- the place: the lowest of these
pub record IsPlace (p : Part) (h a : ℕ) : Type 0 where
  pub can : CanPlace p h a
  pub lowest : (other : ℕ) → CanPlace p h other → a ≤ other

-- there is no hook, or no place beside it
abbrev pub HasNoRoom : Part → Type 0
HasNoRoom p = ((h : ℕ) → CanHook p h → ⊥) ⊎ ((h : ℕ) × IsHook p h × ((a : ℕ) → CanPlace p h a → ⊥))
