-- The text so far, and the rows of the steps to come.
use Rattle.std.proofs.Common.{◌≡◌, ◌++◌, drop}
use Rattle.std.specs.Prelude.{string_bytes}
use Rattle.std.specs.List.{flat_map}
use Rattle.tomex_frames.specs.Blank.{blank_step_if}
use Rattle.tomex_frames.proofs.blank.push_blank_steps.Given as goal

abbrev pub invariant-loop-entry : goal.invariant-loop-entry
invariant-loop-entry g l =
    string_bytes l.text ++ flat_map (blank_step_if l.span) (drop l.entry-index l.entries)
    ≡ string_bytes l.fn.text ++ flat_map (blank_step_if l.span) l.entries
