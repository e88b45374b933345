-- The lines so far, and the remaining ones.
use Rattle.std.proofs.Common.{◌≡◌, ◌++◌, drop}
use Rattle.std.specs.Prelude.{string_bytes}
use Rattle.std.specs.List.{flat_map}
use Rattle.tomex_refusals.specs.Refusals.{line_of}
use Rattle.tomex_refusals.proofs.explaining.lines_of.Given as goal

abbrev pub invariant-loop-refusal : goal.invariant-loop-refusal
invariant-loop-refusal g l =
    string_bytes l.text ++ flat_map line_of (drop l.refusal-index l.refusals) ≡ flat_map line_of l.refusals
