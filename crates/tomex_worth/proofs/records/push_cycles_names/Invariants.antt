-- The names so far, and the remaining ones.
use Rattle.std.proofs.Common.{◌≡◌, ◌++◌, drop, map}
use Rattle.tomex_worth.specs.WorthCsv.{cycles_name}
use Rattle.tomex_worth.proofs.records.push_cycles_names.Given as goal

abbrev pub invariant-loop-program : goal.invariant-loop-program
invariant-loop-program g l =
    l.fields ++ map cycles_name (drop l.program-index l.programs) ≡ l.fn.fields ++ map cycles_name l.programs
