-- The function of an address: the innermost symbol that holds it, or the label that reaches to it. The rule is this
-- project's; the words are those of the System V ABI, "Symbol Table".
use Rattle.std.specs.Prelude.{ℕ, ◌+◌, ◌==◌, List, [], ◌∷◌, Option, Some, None}
use Rattle.std.specs.Prelude.{Bool, not, nat_eq, nat_lt, nat_le, ◌&&◌, ◌||◌, if◌then◌else◌}
use Rattle.std.specs.List.{IsDistinct, list_any}
use Rattle.tomex_symbols.specs.declared.symbol.Binding.{Binding}
use Rattle.tomex_symbols.specs.declared.symbol.Binding.TheVariants.{Global, Weak, Other}
use Rattle.tomex_symbols.specs.declared.symbol.Kind.{Kind}
use Rattle.tomex_symbols.specs.declared.symbol.Kind.TheVariants.{Function, Label}
use Rattle.tomex_symbols.specs.declared.symbol.Symbol.{Symbol}

-- of symbols with one address: functions before labels, then global before weak before others
abbrev pub rank : Kind → Binding → ℕ
rank Function Global = 0
rank Function Weak = 1
rank Function Other = 2
rank Label Global = 3
rank Label Weak = 4
rank Label Other = 5

abbrev pub rank_of : Symbol → ℕ
rank_of s = rank s.kind s.binding

-- a is chosen before b: it begins later; or at the same address with a lower rank; or with an equal rank and earlier
-- in the table
abbrev pub goes_before : Symbol → Symbol → Bool
goes_before a b =
    nat_lt b.address a.address
    || a.address == b.address
    && (nat_lt (rank_of a) (rank_of b) || rank_of a == rank_of b && nat_lt a.number b.number)

-- the address is one of the symbol's bytes
abbrev pub holds : ℕ → Symbol → Bool
holds pc s = nat_le s.address pc && nat_lt pc (s.address + s.size)

abbrev pub begins_after : ℕ → ℕ → Symbol → Bool
begins_after address pc s = nat_lt address s.address && nat_le s.address pc

-- a symbol without a size reaches to where the next symbol begins
abbrev pub reaches : List Symbol → ℕ → Symbol → Bool
reaches symbols pc s =
    nat_eq s.size 0 && nat_le s.address pc && not (list_any (λ t. begins_after s.address pc t) symbols)

abbrev pub chosen : Symbol → Option Symbol → Option Symbol
chosen s None = Some s
chosen s (Some t) = if goes_before s t then Some s else Some t

-- of the symbols that pass a test, the one that goes before all others
abbrev pub best : (Symbol → Bool) → List Symbol → Option Symbol
best p [] = None
best p (s ∷ ss) = if p s then chosen s (best p ss) else best p ss

abbrev pub or_else : Option Symbol → Option Symbol → Option Symbol
or_else (Some s) other = Some s
or_else None other = other

-- the innermost symbol that holds the address; if none does, the one that reaches to it
abbrev pub function_at : List Symbol → ℕ → Option Symbol
function_at symbols pc = or_else (best (holds pc) symbols) (best (reaches symbols pc) symbols)

-- no two symbols have one number
abbrev pub AreNumbered : List Symbol → Type 0
AreNumbered symbols = IsDistinct (λ a b. a.number == b.number) symbols
