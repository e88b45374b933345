-- The program's name stands at its place.
use Rattle.std.proofs.Common.{◌∙◌, ap, arith}
use Rattle.std.proofs.lemmas.Grind.{common_steps}
use Rattle.tomex_study.specs.Study.{DesignSpace}
use Rattle.tomex_weights.proofs.TableRows.{program_at}
use Rattle.tomex_weights.proofs.table.name_at.Goals as goal

pub returns : goal.returns
returns g c =
    c.name.ensures.value
    ∙ (program_at c.args.surveyed.now c.args.place c.requires
    (c.programs.ensures.value ∙ ap (λ (s : DesignSpace). s.programs) c.study.ensures) c.index-programs-place.is).name

pub bounds-programs-place : goal.bounds-programs-place
bounds-programs-place = grind (arith, common_steps)

pub offset_bounds-programs-place : goal.offset_bounds-programs-place
offset_bounds-programs-place = grind (arith, common_steps)
