-- The configurations so far are finished.
use Rattle.std.proofs.Common.{◌≡◌, map, take}
use Rattle.tomex_study.specs.Cycles.{cycles_on}
use Rattle.tomex_board.specs.declared.mark.Mark.TheVariants.{Finished}
use Rattle.tomex_sweep.proofs.exhaustive.all_marks.Given as goal

abbrev pub invariant-loop-config : goal.invariant-loop-config
invariant-loop-config g l = l.marks.items
    ≡ map Finished (map (cycles_on l.study.programs) (take l.config-index l.config-items))
