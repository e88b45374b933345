-- The takers so far, and those of the stations to come.
use Rattle.std.proofs.Common.{◌≡◌, ◌++◌, drop}
use Rattle.std.specs.List.{flat_map}
use Rattle.tomex_snapshots.specs.Takers.{operand_takers}
use Rattle.tomex_snapshots.proofs.takers.push_all_operands.Given as goal

abbrev pub invariant-loop-station : goal.invariant-loop-station
invariant-loop-station l =
    l.takers.items ++ flat_map (operand_takers l.tag) (drop l.station-index l.stations)
    ≡ l.fn.takers.items ++ flat_map (operand_takers l.tag) l.stations
