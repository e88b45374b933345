-- The rows so far, and those of the groups to come.
use Rattle.std.proofs.Common.{◌≡◌, ◌++◌, [], List, map}
use Rattle.std.specs.Prelude.{All}
use Rattle.std.specs.BTreeMap.{values}
use Rattle.tomex_rvexec.specs.declared.step.Step.{Step}
use Rattle.tomex_symbols.specs.declared.symbol.Symbol.{Symbol}
use Rattle.tomex_functions.specs.Kept.{HasAddress, IsIndexOf, row_of_group}
use Rattle.tomex_path_views.proofs.by_function.rows_of.Given as goal

abbrev pub invariant-loop-group : goal.invariant-loop-group
invariant-loop-group g l = record {
  next : (goal.iterator-loop-group g).can_next l.group-iterator;
  finite : (goal.iterator-loop-group g).is_finite l.group-iterator;
  rows : (symbols : List Symbol) (steps : List Step) → IsIndexOf symbols steps l.index
      → All (λ group. HasAddress group.first.pc steps) (values l.tally.groups)
      → All (λ group. HasAddress group.first.pc steps) l.group-iterator
      × (l.rows.items ++ map (row_of_group symbols []) l.group-iterator
      ≡ map (row_of_group symbols []) (values l.tally.groups));
}
