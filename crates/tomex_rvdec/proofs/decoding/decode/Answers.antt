-- The table's rows give the same as the table as a function.
use Rattle.std.proofs.Common.{◌≡◌, ℕ, ◌<◌, ◌^◌, Option, Some, None, IfSome, IfNone, sym}
use Rattle.tomex_rvdec.specs.Instruction.{Instruction}
use Rattle.tomex_rvdec.specs.Meaning.{Means, meaning}
use Rattle.tomex_rvdec.proofs.Meaning.{means_meaning, meaning_none}
use Rattle.tomex_rvdec.proofs.decoding.decode.Goals as goal

given : (w : ℕ) (o : Option Instruction) → w < 2 ^ 32 → IfSome o (λ x. Means w x)
    → IfNone o ((x : Instruction) → Means w x → ⊥) → o ≡ meaning w
given w (Some x) short some none = sym (means_meaning w x some)
given w None short some none = sym (meaning_none w short none)

pub returns-clause-exact : goal.returns-clause-exact
returns-clause-exact c =
    given c.args.word c.from_table.result c.ranges.word.fits c.from_table.ensures.some c.from_table.ensures.none
