-- The texts of the tables after some cycles of short runs, computed by the definitions themselves.
use Rattle.std.proofs.Common.{ℕ, ◌≡◌, refl, List}
use Rattle.std.specs.Prelude.{◌++◌, codes}
use Rattle.std.specs.Fmt.{char_count, digits, padded_integral}
use Rattle.tomex_rvdec.specs.declared.pool.UnitId.TheVariants as units
use Rattle.tomex_rvexec.specs.declared.step.Step.{Step}
use Rattle.tomex_config.specs.Configuration.{Configuration, plain}
use Rattle.tomex_timing.specs.Search.{history, times_of}
use Rattle.tomex_timing.specs.Tables.{tables_of}
use Rattle.tomex_timing.proofs.Programs.{product, overwritten, stored_and_loaded, two_alu_stations, with_latency}
use Rattle.tomex_texts.specs.TablesText.{tables_text_of}

-- the text after a cycle of a run's steps on a configuration
abbrev text_after : ℕ → Configuration → List Step → List ℕ
text_after cycle config steps = tables_text_of (tables_of cycle (history config steps))

abbrev product_after : ℕ → List ℕ
product_after cycle = text_after cycle (with_latency units.Mul two_alu_stations 3) product

-- an operand that is there, one that is awaited, and two registers that wait
product_after_3 : product_after 3
    ≡ codes "cycle 3\n"
    ++ codes "alu1 addi Vj=00000000 Vk=- Qj=- Qk=- A=-\n"
    ++ codes "mul0 mul Vj=00000005 Vk=- Qj=- Qk=alu1 A=-\n"
    ++ codes "x2 Qi=alu1\n"
    ++ codes "x3 Qi=mul0\n"
unfolding times_of digits padded_integral char_count
product_after_3 = refl

-- at the end nothing is busy
product_after_8 : product_after 8 ≡ codes "cycle 8\n"
unfolding times_of digits padded_integral char_count
product_after_8 = refl

-- a station is busy whose result no register waits for
overwritten_after_4 : text_after 4 (with_latency units.Mul plain 10) overwritten
    ≡ codes "cycle 4\n"
    ++ codes "mul0 mul Vj=00000000 Vk=00010000 Qj=- Qk=- A=-\n"
unfolding times_of digits padded_integral char_count
overwritten_after_4 = refl

abbrev accesses_after : ℕ → List ℕ
accesses_after cycle = text_after cycle (with_latency units.Mem two_alu_stations 2) (stored_and_loaded 1)

-- loads are listed before stores; A is an address
accesses_after_5 : accesses_after 5
    ≡ codes "cycle 5\n"
    ++ codes "load0 lb Vj=00000100 Vk=- Qj=- Qk=- A=00000101\n"
    ++ codes "store0 sw Vj=00000100 Vk=00000300 Qj=- Qk=- A=00000100\n"
    ++ codes "x2 Qi=load0\n"
unfolding times_of digits padded_integral char_count
accesses_after_5 = refl

-- and before the address cycle the offset
accesses_after_4 : accesses_after 4
    ≡ codes "cycle 4\n"
    ++ codes "load0 lb Vj=00000100 Vk=- Qj=- Qk=- A=00000001\n"
    ++ codes "store0 sw Vj=00000100 Vk=00000300 Qj=- Qk=- A=00000100\n"
    ++ codes "x2 Qi=load0\n"
unfolding times_of digits padded_integral char_count
accesses_after_4 = refl
