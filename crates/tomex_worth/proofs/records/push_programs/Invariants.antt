-- The fields so far, and the remaining ones.
use Rattle.std.proofs.Common.{◌≡◌, ◌++◌, drop, map}
use Rattle.tomex_worth.specs.WorthCsv.{program_field}
use Rattle.tomex_worth.proofs.records.push_programs.Given as goal

abbrev pub invariant-loop-place : goal.invariant-loop-place
invariant-loop-place g l =
    l.fields ++ map (program_field l.surveyed l.own l.change) (drop l.place l.program-items)
    ≡ l.fn.fields ++ map (program_field l.surveyed l.own l.change) l.program-items
