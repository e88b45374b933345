-- The address, and the bytes so far.
use Rattle.std.proofs.Common.{◌≡◌, ◌++◌, take}
use Rattle.std.specs.Prelude.{string_bytes, codes}
use Rattle.std.specs.List.{flat_map}
use Rattle.tomex_rvdec.specs.Text.{hex8}
use Rattle.tomex_rvexec.specs.Texts.{hex2}
use Rattle.tomex_texts.proofs.end_texts.range_text.Given as goal

abbrev pub invariant-loop-byte : goal.invariant-loop-byte
invariant-loop-byte l = string_bytes l.text ≡ hex8 l.fn.range.address
    ++ (codes ":" ++ flat_map hex2 (take l.byte-index l.bytes))
