-- One more row is noted; at the end all are.
use Rattle.std.proofs.Common.{◌∙◌, ◌≤◌, ℕ, List, length, subst, All, ap, arith, refl}
use Rattle.std.proofs.lemmas.List.{take_all}
use Rattle.tomex_board.specs.Views.{KnowsNotOpen}
use Rattle.tomex_workers.proofs.Closing.{continues_itself, continues_on, one_noted}
use Rattle.tomex_workers.proofs.desk.Desk.try_listed.Goals as goal

pub loop-row-preserved : goal.loop-row-preserved
loop-row-preserved g c = record {
  seat = continues_on _ _ _ c.loop-row.invariant.seat c.try_row.ensures.seat;
  hand = c.in_ok-try_row.ensures.hand;
  noted = one_noted _ _ c.args.lane.now.rows c.rows-row-items.result.now c.loop-row.row-index
      c.rows-row-items.ensures.value c.loop-row-test.true c.loop-row.invariant.noted c.try_row.ensures.seat.grown
      c.in_ok-try_row.ensures.not_open;
  programs = c.try_row.ensures.programs ∙ c.loop-row.invariant.programs;
}

pub returns-clause-not_open : goal.returns-clause-not_open
returns-clause-not_open g c =
    let past : length c.args.lane.now.rows ≤ c.loop-row.row-index =
    subst (λ (rs : List ℕ). length rs ≤ c.loop-row.row-index) c.rows-row-items.ensures.value c.loop-row-test.false
    in
    subst (All (KnowsNotOpen c.loop-row.seat.view)) (take_all c.loop-row.row-index c.args.lane.now.rows past)
    c.loop-row.invariant.noted

pub loop-row-init : goal.loop-row-init
loop-row-init g c = record {
  seat = continues_itself _;
  hand = c.requires.hand;
  noted = λ k d l. absurd (omega arith);
  programs = refl;
}

pub try_row-requires-clause-programs : goal.try_row-requires-clause-programs
try_row-requires-clause-programs g c =
    c.loop-row.invariant.programs ∙ c.requires.programs

pub try_row-requires-clause-board : goal.try_row-requires-clause-board
try_row-requires-clause-board g c = c.loop-row.invariant.seat.board ∙ c.requires.board

pub returns-in_err-try_row-clause-seat : goal.returns-in_err-try_row-clause-seat
returns-in_err-try_row-clause-seat g c = continues_on _ _ _ c.loop-row.invariant.seat c.try_row.ensures.seat

pub returns-in_err-try_row-clause-programs : goal.returns-in_err-try_row-clause-programs
returns-in_err-try_row-clause-programs g c = c.try_row.ensures.programs ∙ c.loop-row.invariant.programs

pub returns-clause-seat : goal.returns-clause-seat
returns-clause-seat g c = c.loop-row.invariant.seat
