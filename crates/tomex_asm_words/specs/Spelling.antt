-- The word that means an instruction, by the decoder's table: no second table of encodings is written here.
use Rattle.std.specs.Prelude.{ℕ, zero, suc, ◌^◌, Bool, nat_eq, ◌&&◌, if◌then◌else◌}
use Rattle.tomex_rvdec.specs.Instruction.{Instruction}
use Rattle.tomex_rvdec.specs.Meaning.{selects, operands_at, form_of}

abbrev pub are_same : Instruction → Instruction → Bool
are_same x y = nat_eq x.rd y.rd && nat_eq x.rs1 y.rs1 && nat_eq x.rs2 y.rs2 && nat_eq x.imm y.imm

-- the word w means x
abbrev pub is_meaning : Instruction → ℕ → Bool
is_meaning x w = selects x.op w && are_same x (operands_at (form_of x.op) w x.op)

-- the greatest number below n that passes the test, else 0
unfoldable pub below : (ℕ → Bool) → ℕ → ℕ
below test zero = 0
below test (suc n) = if test n then n else below test n

-- the word that means x; there are no two
unfoldable pub word_for : Instruction → ℕ
word_for x = below (is_meaning x) (2 ^ 32)
