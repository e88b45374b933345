-- The files so far are what their entries ask for.
use Rattle.std.proofs.Common.{take}
use Rattle.std.specs.Prelude.{map}
use Rattle.tomex_document.specs.Study.{AreProgramsOf}
use Rattle.tomex_document.proofs.study.programs_of.Given as goal

abbrev pub invariant-loop-place : goal.invariant-loop-place
invariant-loop-place g l = AreProgramsOf (take l.place l.entries) (take l.place (map (λ f. f.items) l.files))
    l.programs.items
