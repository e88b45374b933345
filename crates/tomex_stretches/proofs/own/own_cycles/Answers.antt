-- A turn takes the youngest step that is left.
use Rattle.std.proofs.Common.{◌∙◌, ◌++◌, ◌∷◌, [], ℕ, ap, refl, arith}
use Rattle.std.proofs.lemmas.Grind.{common_steps}
use Rattle.tomex_stretches.specs.Cycles.{own_cycles}
use Rattle.tomex_stretches.proofs.Ages.{cycles_next, total_of_times}
use Rattle.tomex_stretches.proofs.own.own_cycles.Goals as goal

pub loop-passed-init : goal.loop-passed-init
loop-passed-init g c = λ h are.
    let total = c.total-next.ensures ∙ total_of_times c.args.times.now h are in
    rw (c.new-cycles.ensures.items, total) refl

pub loop-passed-preserved : goal.loop-passed-preserved
loop-passed-preserved g c = λ h are.
    let new = c.in_ok-push.ensures.items ∙ ap (λ (n : ℕ). c.loop-passed.cycles.items ++ (n ∷ []))
    c.saturating_sub.ensures in
    cycles_next h c.loop-passed.passed c.loop-passed.next c.loop-passed.cycles.items _ (own_cycles h) c.args.times.now _
    are c.loop-passed-test.true (c.loop-passed.invariant h are) new

pub returns : goal.returns
returns = grind (arith, common_steps)
