-- The rows so far are noted, and the hand is empty.
use Rattle.std.proofs.Common.{◌≡◌, [], All, take}
use Rattle.tomex_board.specs.Views.{KnowsNotOpen}
use Rattle.tomex_workers.specs.Seats.{Continues}
use Rattle.tomex_workers.proofs.desk.Desk.try_listed.Given as goal

abbrev pub invariant-loop-row : goal.invariant-loop-row
invariant-loop-row g l = record {
  seat : Continues l.initial.seat l.seat;
  hand : l.seat.view.hand ≡ [];
  noted : All (KnowsNotOpen l.seat.view) (take l.row-index l.lane.rows);
  programs : l.knowledge.programs ≡ l.initial.knowledge.programs;
}
