-- What is noted so far, with the remarks that are left, is what all say.
use Rattle.std.proofs.Common.{◌≡◌, ℕ, List, drop, map}
use Rattle.tomex_asm_words.specs.Outputs.{remark_of}
use Rattle.tomex_asm.specs.File.{attributes_from, attributes_of}
use Rattle.tomex_asm.specs.Named.{attributes_at}
use Rattle.tomex_asm.proofs.attributes.index_of.Given as goal

abbrev pub invariant-loop-remark : goal.invariant-loop-remark
invariant-loop-remark g l =
    (w : List ℕ) → attributes_from w (attributes_at l.index w) (map remark_of (drop l.remark-index l.remarks))
    ≡ attributes_of w (map remark_of l.remarks)
