-- The programs with a column are the study's.
use Rattle.std.proofs.Common.{◌≡◌, ◌∙◌, ap, refl, subst, List, Some, slice_get, arith}
use Rattle.std.proofs.lemmas.Grind.{common_steps}
use Rattle.std.proofs.lemmas.Option.{slice_get_read}
use Rattle.tomex_study.specs.Program.{Workload}
use Rattle.tomex_worth.specs.WorthCsv.{shown_programs}
use Rattle.tomex_worth.proofs.Shown.{shown_there}
use Rattle.tomex_worth.proofs.records.push_programs.Goals as goal

pub push_program-requires-clause-program : goal.push_program-requires-clause-program
push_program-requires-clause-program g c =
    let place = c.loop-place.place in
    let p = c.program-item.result in
    shown_there c.args.surveyed.now place p
    (subst (λ (ps : List Workload). slice_get ps place ≡ Some p)
    (c.shown_programs-program-items.ensures ∙ ap shown_programs c.study.ensures)
    (slice_get_read c.shown_programs-program-items.result.now _ place p refl c.loop-place-test.true c.program-item.is))

pub returns : goal.returns
returns = grind (arith, common_steps)

pub loop-place-preserved : goal.loop-place-preserved
loop-place-preserved = grind (arith, common_steps)
