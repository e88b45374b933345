-- The floors from the band at which the look ends on are above the cost.
use Rattle.std.proofs.Common.{subst, sym, refl, ap, ◌∙◌, ◌-◌, ◌≤◌, get_or, arith, ℕ, List, slice_index, length}
use Rattle.tomex_board.specs.declared.bound.Bound.{Bound}
use Rattle.tomex_board.specs.Bands.{floors_of}
use Rattle.tomex_board.specs.Looking.{IsBound, IsLeastSoFar}
use Rattle.tomex_board.proofs.Closes.{grows_on}
use Rattle.tomex_board.proofs.Dear.{AreDear, dear_on, looked_enough, seen_enough}
use Rattle.tomex_board.proofs.board.Board.look.Goals.{else-loop-k-test, then-loop-k-test+then-index-cost}
use Rattle.std.proofs.lemmas.List.{get_or_read}
use Rattle.tomex_board.proofs.Looks.{are_empty, is_least, its_word, none_so_far, sees_none, stays}
use Rattle.tomex_board.proofs.board.Board.look.Goals as goal

pub loop-k-init : goal.loop-k-init
loop-k-init g c = (refl, refl, refl, stays _, sees_none _ _ _, none_so_far)

pub loop-k-preserved : goal.loop-k-preserved
loop-k-preserved g c = let before = c.loop-k.invariant in let now = c.least_with-least.ensures in (
  now.board ∙ before.0,
  now.hand ∙ before.1,
  now.share ∙ before.2,
  grows_on _ _ _ before.3 now.grown,
  now.seen _ before.4,
  now.so_far,
)

pub returns-then-least-clause-seen : goal.returns-then-least-clause-seen
returns-then-least-clause-seen g c =
    let J = g.J.Plan in
    let F = floors_of J.costs in
    let many = ap (λ (l : List ℕ). length l) c.self.invariant.7 in
    let n = ap (λ (l : List ℕ). length l) c.self.invariant.6 in
    let cost = get_or_read c.self.inside.costs.items _ _ (omega arith) c.index-cost.ensures 0
    ∙ ap (λ (l : List ℕ). get_or l c.args.i 0) c.self.invariant.6 in
    let within : c.loop-k.k ≤ length F = omega arith in
    let dear : AreDear F (slice_index J.costs c.args.i) c.loop-k.k (length F - c.loop-k.k) =
    elim c.loop-k-test.branch [
      | else-loop-k-test w ↦ λ j from low. absurd (omega arith)
      | then-loop-k-test+then-index-cost w ↦
          let floor = get_or_read c.self.inside.floors.items _ _ (omega arith) w.index.ensures 0
          ∙ ap (λ (l : List ℕ). get_or l c.loop-k.k 0) c.self.invariant.7 in
          dear_on J.costs (slice_index J.costs c.args.i) c.loop-k.k (length F - c.loop-k.k) (omega arith) (omega arith)
    ] in
    seen_enough J.costs J.cycles F (slice_index J.costs c.args.i) c.loop-k.k c.args.seat.now.view c.loop-k.seat.view
    within dear c.loop-k.invariant.4

pub returns-then-least-clause-none : goal.returns-then-least-clause-none
returns-then-least-clause-none g c =
    let J = g.J.Plan in
    let F = floors_of J.costs in
    let many = ap (λ (l : List ℕ). length l) c.self.invariant.7 in
    let n = ap (λ (l : List ℕ). length l) c.self.invariant.6 in
    let cost = get_or_read c.self.inside.costs.items _ _ (omega arith) c.index-cost.ensures 0
    ∙ ap (λ (l : List ℕ). get_or l c.args.i 0) c.self.invariant.6 in
    let within : c.loop-k.k ≤ length F = omega arith in
    let dear : AreDear F (slice_index J.costs c.args.i) c.loop-k.k (length F - c.loop-k.k) =
    elim c.loop-k-test.branch [
      | else-loop-k-test w ↦ λ j from low. absurd (omega arith)
      | then-loop-k-test+then-index-cost w ↦
          let floor = get_or_read c.self.inside.floors.items _ _ (omega arith) w.index.ensures 0
          ∙ ap (λ (l : List ℕ). get_or l c.loop-k.k 0) c.self.invariant.7 in
          dear_on J.costs (slice_index J.costs c.args.i) c.loop-k.k (length F - c.loop-k.k) (omega arith) (omega arith)
    ] in
    are_empty J.costs J.cycles F (slice_index J.costs c.args.i) c.loop-k.seat.view
    (subst (λ (w : ℕ). IsLeastSoFar J.costs J.cycles F (slice_index J.costs c.args.i) (length F) c.loop-k.seat.view w)
    c.if-least.true
    (looked_enough J.costs J.cycles F (slice_index J.costs c.args.i) c.loop-k.k c.loop-k.seat.view c.loop-k.least
    within dear c.loop-k.invariant.5))

pub returns-else-least-clause-seen : goal.returns-else-least-clause-seen
returns-else-least-clause-seen g c =
    let J = g.J.Plan in
    let F = floors_of J.costs in
    let many = ap (λ (l : List ℕ). length l) c.self.invariant.7 in
    let n = ap (λ (l : List ℕ). length l) c.self.invariant.6 in
    let cost = get_or_read c.self.inside.costs.items _ _ (omega arith) c.index-cost.ensures 0
    ∙ ap (λ (l : List ℕ). get_or l c.args.i 0) c.self.invariant.6 in
    let within : c.loop-k.k ≤ length F = omega arith in
    let dear : AreDear F (slice_index J.costs c.args.i) c.loop-k.k (length F - c.loop-k.k) =
    elim c.loop-k-test.branch [
      | else-loop-k-test w ↦ λ j from low. absurd (omega arith)
      | then-loop-k-test+then-index-cost w ↦
          let floor = get_or_read c.self.inside.floors.items _ _ (omega arith) w.index.ensures 0
          ∙ ap (λ (l : List ℕ). get_or l c.loop-k.k 0) c.self.invariant.7 in
          dear_on J.costs (slice_index J.costs c.args.i) c.loop-k.k (length F - c.loop-k.k) (omega arith) (omega arith)
    ] in
    seen_enough J.costs J.cycles F (slice_index J.costs c.args.i) c.loop-k.k c.args.seat.now.view c.loop-k.seat.view
    within dear c.loop-k.invariant.4

pub returns-else-least-clause-least : goal.returns-else-least-clause-least
returns-else-least-clause-least g c =
    let J = g.J.Plan in
    let F = floors_of J.costs in
    let many = ap (λ (l : List ℕ). length l) c.self.invariant.7 in
    let n = ap (λ (l : List ℕ). length l) c.self.invariant.6 in
    let cost = get_or_read c.self.inside.costs.items _ _ (omega arith) c.index-cost.ensures 0
    ∙ ap (λ (l : List ℕ). get_or l c.args.i 0) c.self.invariant.6 in
    let within : c.loop-k.k ≤ length F = omega arith in
    let dear : AreDear F (slice_index J.costs c.args.i) c.loop-k.k (length F - c.loop-k.k) =
    elim c.loop-k-test.branch [
      | else-loop-k-test w ↦ λ j from low. absurd (omega arith)
      | then-loop-k-test+then-index-cost w ↦
          let floor = get_or_read c.self.inside.floors.items _ _ (omega arith) w.index.ensures 0
          ∙ ap (λ (l : List ℕ). get_or l c.loop-k.k 0) c.self.invariant.7 in
          dear_on J.costs (slice_index J.costs c.args.i) c.loop-k.k (length F - c.loop-k.k) (omega arith) (omega arith)
    ] in
    is_least J.costs J.cycles F (slice_index J.costs c.args.i) c.loop-k.seat.view c.loop-k.least c.bound_of.result
    (looked_enough J.costs J.cycles F (slice_index J.costs c.args.i) c.loop-k.k c.loop-k.seat.view c.loop-k.least
    within dear c.loop-k.invariant.5)
    c.if-least.false (its_word c.loop-k.least c.bound_of.result c.bound_of.ensures)

pub returns-else-least-clause-bound : goal.returns-else-least-clause-bound
returns-else-least-clause-bound g c = let J = g.J.Plan in
    subst (λ (b : Bound). IsBound J.costs J.cycles (slice_index J.costs c.args.i) c.loop-k.seat.view b)
    (sym c.bound_of.ensures) (c.loop-k.invariant.5.bound c.if-least.false)
