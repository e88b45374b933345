-- The names so far, and those to come.
use Rattle.std.proofs.Common.{◌≡◌, ◌++◌, map}
use Rattle.tomex_functions.specs.ChangesKept.{named_change}
use Rattle.tomex_functions.proofs.named.Named.changes.Given as goal

abbrev pub invariant-loop-name : goal.invariant-loop-name
invariant-loop-name l =
    l.changes.items ++ map named_change l.name-iterator ≡ map named_change l.fn.self.by_name.entries
