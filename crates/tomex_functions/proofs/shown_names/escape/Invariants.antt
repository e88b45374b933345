-- The bytes so far.
use Rattle.std.proofs.Common.{◌≡◌, string_bytes, take}
use Rattle.std.specs.List.{flat_map}
use Rattle.tomex_functions.specs.ShownNames.{shown_byte}
use Rattle.tomex_functions.proofs.shown_names.escape.Given as goal

abbrev pub invariant-loop-byte : goal.invariant-loop-byte
invariant-loop-byte l = string_bytes l.text ≡ flat_map shown_byte (take l.byte-index l.bytes)
