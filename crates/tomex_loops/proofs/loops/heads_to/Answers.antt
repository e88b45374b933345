-- One more place, which is a head or not.
use Rattle.tomex_loops.proofs.Whole.{heads_no, heads_yes}
use Rattle.tomex_loops.proofs.loops.heads_to.Goals as goal
use Rattle.tomex_loops.proofs.loops.heads_to.Goals.{then-heads-place+in_ok-push, else-heads-place}

pub loop-place-preserved : goal.loop-place-preserved
loop-place-preserved g c = elim c.if-heads-place.branch [
  | then-heads-place+in_ok-push w ↦ rw w.result-is (heads_yes c.args.heads.now c.loop-place.place
      c.loop-place.result.items w.push.new.self.items c.loop-place.invariant w.if-heads-place.true
      w.in_ok-push.ensures.items)
  | else-heads-place w ↦ rw w.result-is (heads_no c.args.heads.now c.loop-place.place c.loop-place.result.items
      c.loop-place.invariant w.if-heads-place.false)
]
