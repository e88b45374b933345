-- One more symbol; those left begin later.
use Rattle.std.proofs.Common.{refl, arith}
use Rattle.std.proofs.lemmas.Grind.{common_steps}
use Rattle.tomex_symbols.proofs.Rising.{rest_begins, rises}
use Rattle.tomex_symbols.proofs.Swept.{swept_next}
use Rattle.tomex_symbols.proofs.sweep.Sweep.begin_up_to.Goals as goal

pub loop-self-preserved : goal.loop-self-preserved
loop-self-preserved g c =
    rw (
      c.in_ok-begin.ensures.begun,
      c.in_ok-begin.ensures.nested,
      c.in_ok-begin.ensures.label,
      c.in_ok-begin.ensures.latest,
    )
    (swept_next c.args.sorted.now c.loop-self.self.begun c.loop-self.self.nested.items c.loop-self.self.label
    c.loop-self.self.latest c.args.pc _ _ c.loop-self.invariant c.loop-self-test.true refl c.if-sorted-self.true)

pub returns-else-sorted-self-clause-rest : goal.returns-else-sorted-self-clause-rest
returns-else-sorted-self-clause-rest g c =
    rest_begins c.args.sorted.now c.loop-self.self.begun c.args.pc _ (rises c.args.sorted.now c.requires.order)
    (λ l. c.if-sorted-self.false)

pub returns-after-loop-self-clause-rest : goal.returns-after-loop-self-clause-rest
returns-after-loop-self-clause-rest = grind (arith, common_steps)
