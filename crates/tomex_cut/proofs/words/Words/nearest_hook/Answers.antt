use Rattle.std.proofs.Common.{◌≡◌, true, false, length, arith}
use Rattle.tomex_cut.proofs.Rooms.{first_hook, nearer, no_nearer, none_below, passed}
use Rattle.tomex_cut.proofs.words.Words.nearest_hook.Goals as goal
use Rattle.tomex_cut.proofs.words.Words.nearest_hook.Goals.{in-Some, in_default-2, in_default}

pub loop-first-preserved-then-not-can_hook : goal.loop-first-preserved-then-not-can_hook
loop-first-preserved-then-not-can_hook g c =
    passed _ _ _ _ c.loop-first.nearest c.loop-first.invariant
    (λ r. let yes : c.can_hook.result ≡ true = c.can_hook.ensures.1 r in
    let no : c.can_hook.result ≡ false = c.if-not-can_hook.true in cc)

pub loop-first-preserved : goal.loop-first-preserved
loop-first-preserved g c = elim c.match-nearest.branch [
  | in-Some w ↦
      rw (w.nearest-is) (no_nearer _ _ _ _ _ (rw (w.in-Some.is) at c.loop-first.invariant)
      (omega (arith, w.gap_of.ensures, c.gap_of-gap.ensures, w.if-gap_of-gap.true)))
  | in_default-2 w ↦
      rw (w.nearest-is) (nearer _ _ _ _ _ (rw (w.in-Some.is) at c.loop-first.invariant)
      (omega (arith, w.gap_of.ensures, c.gap_of-gap.ensures, w.if-gap_of-gap.false))
      (c.can_hook.ensures.0 c.if-not-can_hook.false))
  | in_default w ↦
      rw (w.nearest-is) (first_hook _ _ _ _ (rw (w.in_default.is) at c.loop-first.invariant)
      (c.can_hook.ensures.0 c.if-not-can_hook.false))
]

pub returns-clause-none : goal.returns-clause-none
returns-clause-none g c =
    let all : c.loop-first.first ≡ length c.args.self.now.marks.items = omega (arith, c.len-first-end.ensures) in
    rw (all) at (none_below _ _ _ c.loop-first.first c.loop-first.nearest c.loop-first.invariant)
