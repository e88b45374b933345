-- A number of rounds is a period if it is repeated and at most half of them.
use Rattle.std.proofs.Common.{ℕ, ◌<◌, ◌≡◌, ◌∙◌, true, false, arith, below_more, sym}
use Rattle.std.specs.Prelude.{IsTrue}
use Rattle.tomex_loops.specs.Pattern.{IsPeriod}
use Rattle.tomex_loops.proofs.pattern.period_of.Goals as goal
use Rattle.tomex_loops.proofs.pattern.period_of.Goals.{else-period-cycles-via-then-period-cycles+else-is_repeated}
use Rattle.tomex_loops.proofs.pattern.period_of.Goals.{else-period-cycles-via-else-period-cycles}

pub loop-period-preserved : goal.loop-period-preserved
loop-period-preserved c =
    below_more (λ q. IsPeriod q c.args.cycles.now → ⊥) c.loop-period.period c.loop-period.invariant
    (λ is. elim c.else-period-cycles.branch [
      | else-period-cycles-via-then-period-cycles+else-is_repeated w ↦
          let yes : IsTrue w.is_repeated.result = w.is_repeated.ensures.1 is.are in
          let clash : true ≡ false = sym yes ∙ w.if-is_repeated.false in
          absurd (cc)
      | else-period-cycles-via-else-period-cycles w ↦ let t = is.twice in absurd (omega arith)
    ])

pub returns : goal.returns
returns c = λ q is. c.loop-period.invariant q (let few = is.few in omega arith) is
