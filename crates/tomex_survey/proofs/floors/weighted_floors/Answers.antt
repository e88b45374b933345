-- A floor times a weight is small.
use Rattle.std.proofs.Common.{◌∙◌, List, ap, arith}
use Rattle.tomex_config.specs.Configuration.{latency_of}
use Rattle.tomex_floor.specs.Floor.{floors_by_width}
use Rattle.tomex_rvexec.specs.declared.step.Step.{Step}
use Rattle.tomex_survey.proofs.FloorBounds.{weighed_small}
use Rattle.tomex_survey.proofs.floors.weighted_floors.Goals as goal

pub overflow_mul-result : goal.overflow_mul-result
overflow_mul-result g c =
    let are = c.in_ok-floors.ensures.floors
    ∙ ap (λ (steps : List Step). floors_by_width (latency_of c.args.config.now) steps) c.requires.run in
    let small = weighed_small c.args.program.now c.args.config.now c.from.result c.in_ok-floors.floors
    c.from-weight.result c.keeps_limits-2.ensures c.keeps_limits.ensures (omega arith) (omega arith) are
    (omega arith) in
    omega (arith, small)

pub overflow_mul-result-2 : goal.overflow_mul-result-2
overflow_mul-result-2 g c =
    let are = c.in_ok-floors.ensures.floors
    ∙ ap (λ (steps : List Step). floors_by_width (latency_of c.args.config.now) steps) c.requires.run in
    let small = weighed_small c.args.program.now c.args.config.now 4 c.in_ok-floors.floors c.from-weight.result
    c.keeps_limits-2.ensures c.keeps_limits.ensures (omega arith) (omega arith) are (omega arith) in
    omega (arith, small)

pub returns-clause-range : goal.returns-clause-range
returns-clause-range g c =
    let are = c.in_ok-floors.ensures.floors
    ∙ ap (λ (steps : List Step). floors_by_width (latency_of c.args.config.now) steps) c.requires.run in (
      weighed_small c.args.program.now c.args.config.now c.from.result c.in_ok-floors.floors c.from-weight.result
          c.keeps_limits-2.ensures c.keeps_limits.ensures (omega arith) (omega arith) are (omega arith),
      weighed_small c.args.program.now c.args.config.now 4 c.in_ok-floors.floors c.from-weight.result
          c.keeps_limits-2.ensures c.keeps_limits.ensures (omega arith) (omega arith) are (omega arith),
    )
