-- What was found out of the lists so far, and of the remaining ones.
use Rattle.std.proofs.Common.{◌≡◌, map, take}
use Rattle.tomex_config.specs.Parts.{all_parts}
use Rattle.tomex_choices.specs.Reports.{report_of}
use Rattle.tomex_choices.proofs.weighing.WeighedChoices.reports.Given as goal

abbrev pub invariant-loop-place : goal.invariant-loop-place
invariant-loop-place g l = l.reports.items ≡ map (report_of l.self) (take l.place all_parts)
