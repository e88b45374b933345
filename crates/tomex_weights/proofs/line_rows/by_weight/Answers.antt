-- The program's part of the cycles is no more than all of them, and those are few.
use Rattle.std.proofs.lemmas.Grind.{common_steps}
use Rattle.std.proofs.Common.{◌∙◌, ap, arith, refl}
use Rattle.tomex_study.specs.Study.{DesignSpace}
use Rattle.tomex_weights.proofs.SmallRows.{part_small, row_of}
use Rattle.tomex_weights.proofs.line_rows.by_weight.Goals as goal

pub own_cycles-times-requires-clause-row : goal.own_cycles-times-requires-clause-row
own_cycles-times-requires-clause-row g c =
    (row_of c.args.surveyed.now c.args.row c.keeps_limits.ensures c.requires.row).within

pub overflow_mul-result : goal.overflow_mul-result
overflow_mul-result g c =
    let part = part_small c.args.surveyed.now c.args.place c.args.row c.keeps_limits.ensures c.requires.place
    c.requires.row (c.programs.ensures.value ∙ ap (λ (s : DesignSpace). s.programs) c.study.ensures)
    c.index-programs-place.is (c.from-weight.ensures ∙ c.weight.ensures.value) c.own_cycles-times.ensures in
    omega (arith, part.within, part.few)

pub overflow_sub-result : goal.overflow_sub-result
overflow_sub-result g c =
    let part = part_small c.args.surveyed.now c.args.place c.args.row c.keeps_limits.ensures c.requires.place
    c.requires.row (c.programs.ensures.value ∙ ap (λ (s : DesignSpace). s.programs) c.study.ensures)
    c.index-programs-place.is (c.from-weight.ensures ∙ c.weight.ensures.value) c.own_cycles-times.ensures in
    part.within

pub overflow_mul-result-2 : goal.overflow_mul-result-2
overflow_mul-result-2 g c =
    let part = part_small c.args.surveyed.now c.args.place c.args.row c.keeps_limits.ensures c.requires.place
    c.requires.row (c.programs.ensures.value ∙ ap (λ (s : DesignSpace). s.programs) c.study.ensures)
    c.index-programs-place.is (c.from-weight.ensures ∙ c.weight.ensures.value) c.own_cycles-times.ensures in
    omega (arith, part.few)

pub returns-clause-line : goal.returns-clause-line
returns-clause-line g c =
    let part = part_small c.args.surveyed.now c.args.place c.args.row c.keeps_limits.ensures c.requires.place
    c.requires.row (c.programs.ensures.value ∙ ap (λ (s : DesignSpace). s.programs) c.study.ensures)
    c.index-programs-place.is (c.from-weight.ensures ∙ c.weight.ensures.value) c.own_cycles-times.ensures in
    rw (part.weight, part.times) refl

pub returns-clause-room : goal.returns-clause-room
returns-clause-room g c =
    let part = part_small c.args.surveyed.now c.args.place c.args.row c.keeps_limits.ensures c.requires.place
    c.requires.row (c.programs.ensures.value ∙ ap (λ (s : DesignSpace). s.programs) c.study.ensures)
    c.index-programs-place.is (c.from-weight.ensures ∙ c.weight.ensures.value) c.own_cycles-times.ensures in
    omega (arith, part.few)

pub offset_bounds-programs-place : goal.offset_bounds-programs-place
offset_bounds-programs-place = grind (arith, common_steps)

pub bounds-programs-place : goal.bounds-programs-place
bounds-programs-place = grind (arith, common_steps)
