-- The columns so far, and the remaining ones.
use Rattle.std.proofs.Common.{◌≡◌, ◌++◌, drop, map}
use Rattle.tomex_worth.specs.Worth.{program_column}
use Rattle.tomex_worth.proofs.table.push_each_program.Given as goal

abbrev pub invariant-loop-place : goal.invariant-loop-place
invariant-loop-place g l =
    l.columns.items ++ map (program_column l.surveyed l.machine.own) (drop l.place l.surveyed.programs)
    ≡ l.fn.columns.items ++ map (program_column l.surveyed l.machine.own) l.surveyed.programs
