-- Each turn goes through one block of the table.
use Rattle.std.proofs.lemmas.Grind.{common_steps}
use Rattle.std.proofs.Common.{◌≡◌, ◌+◌, arith, refl, sym}
use Rattle.std.proofs.lemmas.Option.{slice_get_read}
use Rattle.tomex_evaluation.proofs.Turns.{followed, time_small}
use Rattle.tomex_evaluation.proofs.evaluation.Evaluation.follow.Goals as goal
use Rattle.tomex_evaluation.specs.declared.evaluation.Standing.TheVariants.{Kept}

pub overflow_add-time : goal.overflow_add-time
overflow_add-time g c =
    let here = c.args.self.now in
    let e = record here { standing = Kept c.loop-block.state; time = c.loop-block.time } in
    let lookup = rw c.blocks-row.ensures at c.in-Some-get.ensures.lookup in
    let get = slice_get_read c.args.task.now.blocks.now.blocks _ c.loop-block.next c.in-Some-get.block.now refl
    lookup.3.0 lookup.1 in
    let next = followed c.args.task.now.config.now c.args.task.now.run.now c.args.task.now.blocks.now c.loop-block.next
    c.loop-block.state e c.in-Some-get.block.now c.in-Some-after.then c.loop-block.invariant.before refl get
    (sym c.in-Some-after.ensures) in
    let small = time_small c.args.task.now.config.now c.args.task.now.run.now c.args.task.now.blocks.now
    (c.loop-block.next + 1) _ next in
    omega (arith, small)

pub loop-block-preserved : goal.loop-block-preserved
loop-block-preserved g c =
    let here = c.args.self.now in
    let e = record here { standing = Kept c.loop-block.state; time = c.loop-block.time } in
    let lookup = rw c.blocks-row.ensures at c.in-Some-get.ensures.lookup in
    let get = slice_get_read c.args.task.now.blocks.now.blocks _ c.loop-block.next c.in-Some-get.block.now refl
    lookup.3.0 lookup.1 in
    record {
      on = omega (arith, c.loop-block.invariant.on);
      before = followed c.args.task.now.config.now c.args.task.now.run.now c.args.task.now.blocks.now c.loop-block.next
          c.loop-block.state e c.in-Some-get.block.now c.in-Some-after.then c.loop-block.invariant.before refl get
          (sym c.in-Some-after.ensures);
    }

pub returns-else-first-next-clause-before : goal.returns-else-first-next-clause-before
returns-else-first-next-clause-before g c =
    let e : c.loop-block.next ≡ c.args.first = omega (arith, c.loop-block.invariant.on, c.if-first-next.false) in
    rw e c.requires

pub loop-block-init : goal.loop-block-init
loop-block-init = grind arith

pub returns-then-first-next-clause-before : goal.returns-then-first-next-clause-before
returns-then-first-next-clause-before = grind (arith, common_steps)

pub after-requires : goal.after-requires
after-requires = grind arith

pub loop-block-smaller : goal.loop-block-smaller
loop-block-smaller = grind (arith, common_steps)
