-- Each turn adds the span of a visit.
use Rattle.std.proofs.Common.{None, arith}
use Rattle.std.proofs.lemmas.Grind.{common_steps}
use Rattle.tomex_loops.specs.declared.visit.Visit.{Visit}
use Rattle.tomex_loop_sums.proofs.SpansBy.{spans_more}
use Rattle.tomex_loop_sums.proofs.visited.spans_of.Goals as goal

abbrev none : Visit
none = record { head = 0; number = 0; around = None; within = None; first = 0 }

pub loop-v-preserved : goal.loop-v-preserved
loop-v-preserved g c = spans_more c.args.count c.args.visits.now c.args.ends.now c.loop-v.v c.unwrap_or.result none
    c.loop-v.spans.items c.push.new.self.items c.requires c.loop-v-test.true c.loop-v.invariant c.unwrap_or.ensures
    c.in_ok-push.ensures.items

pub returns : goal.returns
returns = grind (arith, common_steps)
