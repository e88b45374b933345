-- A turn that reads less takes the place of the least so far.
use Rattle.std.proofs.Common.{ℕ, ◌+◌, ◌<◌, ◌≤◌, ◌≡◌, ◌∙◌, true, false, arith, sym, below_more}
use Rattle.tomex_loops.specs.Pattern.{reads_less, turn}
use Rattle.tomex_loops.proofs.Reading.{less_self, not_less}
use Rattle.tomex_loops.proofs.pattern.least_turn.Goals as goal
use Rattle.tomex_loops.proofs.pattern.least_turn.Goals.{then-reads_less, else-reads_less}

pub loop-k-preserved : goal.loop-k-preserved
loop-k-preserved c = elim c.if-reads_less.branch [
  | then-reads_less w ↦
      let less = sym c.reads_less.ensures ∙ w.if-reads_less.true in
      record {
        within = omega (arith, w.least-is);
        none = rw w.least-is (below_more
            (λ j. reads_less (turn j c.args.numbers.now) (turn c.loop-k.k c.args.numbers.now) ≡ false) c.loop-k.k
            (λ j l. not_less (turn j c.args.numbers.now) (turn c.loop-k.k c.args.numbers.now)
            (turn c.loop-k.least c.args.numbers.now) (c.loop-k.invariant.none j l) less)
            (less_self (turn c.loop-k.k c.args.numbers.now)));
      }
  | else-reads_less w ↦
      let fine = sym c.reads_less.ensures ∙ w.if-reads_less.false in
      record {
        within = omega (arith, w.least-is, c.loop-k.invariant.within);
        none = rw w.least-is (below_more
            (λ j. reads_less (turn j c.args.numbers.now) (turn c.loop-k.least c.args.numbers.now) ≡ false) c.loop-k.k
            c.loop-k.invariant.none fine);
      }
]
