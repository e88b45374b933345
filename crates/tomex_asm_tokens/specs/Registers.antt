-- The names of registers: x0 to x31, the names of the calling convention, and fp (the manual's chapter "RISC-V Assembly
-- Programmer's Handbook", table "Assembler mnemonics for RISC-V integer and floating-point registers").
use Rattle.std.specs.Prelude.{ℕ, List, [], ◌∷◌, ◌++◌, map, codes, Option, Some, None}
use Rattle.std.specs.Prelude.{if◌then◌else◌}
use Rattle.std.specs.List.{range_with_len, zip}
use Rattle.std.specs.Str.{bytes_eq}
use Rattle.tomex_rvdec.specs.Text.{register_text}

-- the value in the first row whose name is the word
abbrev pub named : {A : Type 0} → List (List ℕ × A) → List ℕ → Option A
named [] w = None
named (row ∷ rows) w = if bytes_eq row.0 w then Some row.1 else named rows w

-- the numbers of the registers
abbrev pub numbers : List ℕ
numbers = range_with_len 0 32

-- by number
abbrev pub abi_names : List (List ℕ)
abi_names =
    codes "zero" ∷ codes "ra" ∷ codes "sp" ∷ codes "gp" ∷ codes "tp" ∷ codes "t0" ∷ codes "t1" ∷ codes "t2"
    ∷ codes "s0" ∷ codes "s1" ∷ codes "a0" ∷ codes "a1" ∷ codes "a2" ∷ codes "a3" ∷ codes "a4" ∷ codes "a5"
    ∷ codes "a6" ∷ codes "a7" ∷ codes "s2" ∷ codes "s3" ∷ codes "s4" ∷ codes "s5" ∷ codes "s6" ∷ codes "s7"
    ∷ codes "s8" ∷ codes "s9" ∷ codes "s10" ∷ codes "s11" ∷ codes "t3" ∷ codes "t4" ∷ codes "t5" ∷ codes "t6" ∷ []

-- each name with its register; fp is s0
abbrev pub register_names : List (List ℕ × ℕ)
register_names = zip (map register_text numbers) numbers ++ zip abi_names numbers ++ (codes "fp", 8) ∷ []

unfoldable pub register_named : List ℕ → Option ℕ
register_named w = named register_names w
