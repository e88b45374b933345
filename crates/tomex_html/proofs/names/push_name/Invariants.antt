-- The characters so far are in the text, as they are shown.
use Rattle.std.proofs.Common.{◌≡◌, ◌++◌, string_bytes}
use Rattle.std.specs.List.{flat_map}
use Rattle.tomex_html.specs.Html.{html_char}
use Rattle.tomex_html.proofs.names.push_name.Given as goal

abbrev pub invariant-loop-letter : goal.invariant-loop-letter
invariant-loop-letter g l = string_bytes l.text ≡ string_bytes l.fn.text ++ flat_map html_char l.yielded
