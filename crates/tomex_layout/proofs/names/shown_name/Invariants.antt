-- The characters so far are in the text, as they are shown.
use Rattle.std.proofs.Common.{◌≡◌, string_bytes}
use Rattle.std.specs.List.{flat_map}
use Rattle.tomex_layout.specs.Names.{shown_char}
use Rattle.tomex_layout.proofs.names.shown_name.Given as goal

abbrev pub invariant-loop-letter : goal.invariant-loop-letter
invariant-loop-letter l = string_bytes l.text ≡ flat_map shown_char l.yielded
