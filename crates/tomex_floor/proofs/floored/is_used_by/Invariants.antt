-- The remaining steps.
use Rattle.std.proofs.Common.{◌≡◌, drop}
use Rattle.tomex_floor.specs.Flooring.{is_used_by}
use Rattle.tomex_floor.proofs.floored.is_used_by.Given as goal

abbrev pub invariant-loop-step : goal.invariant-loop-step
invariant-loop-step g l = is_used_by (drop l.step-index l.step-items) l.unit ≡ is_used_by l.step-items l.unit
