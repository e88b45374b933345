-- The first link has none before it.
use Rattle.std.proofs.Common.{arith, sym}
use Rattle.tomex_frames.proofs.AtCycle.{linked_after, linked_first, linked_past}
use Rattle.tomex_frames.proofs.on_path.link_at.Goals as goal
use Rattle.tomex_frames.proofs.on_path.link_at.Goals.{else-place-eq0, then-place-eq0}

pub returns-then-path-place : goal.returns-then-path-place
returns-then-path-place c = sym (linked_past c.args.path.now c.args.place (omega (arith, c.if-path-place.true)))

pub returns : goal.returns
returns c = elim c.if-place-eq0.branch [
  | then-place-eq0 w ↦ rw (w.before-is, w.if-place-eq0.true)
      (sym (linked_first c.args.path.now _ (omega (arith, c.if-path-place.false))))
  | else-place-eq0 w ↦ rw w.before-is
      (sym (linked_after c.args.path.now c.args.place _ (omega (arith, w.if-place-eq0.false)) c.if-path-place.false))
]
