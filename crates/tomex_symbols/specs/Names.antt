-- The names of symbols: System V ABI, "String Table".
use Rattle.std.specs.Prelude.{ℕ, ◌-◌, List, [], ◌∷◌, take, drop, nat_eq, if◌then◌else◌}
use Rattle.tomex_symbols.specs.declared.symbol.Symbol.{Symbol}

-- a string of the table ends before the first zero byte
abbrev pub until_zero : List ℕ → List ℕ
until_zero [] = []
until_zero (b ∷ bs) = if nat_eq b 0 then [] else b ∷ until_zero bs

-- the name of a symbol of a file; without a zero byte it ends where the names end
abbrev pub name_of : List ℕ → Symbol → List ℕ
name_of bytes s = until_zero (take (s.names_end - s.name) (drop s.name bytes))
