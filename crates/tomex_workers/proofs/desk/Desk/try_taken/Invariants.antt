-- After each row the hand is empty.
use Rattle.std.proofs.Common.{◌≡◌, []}
use Rattle.tomex_workers.specs.Seats.{Continues}
use Rattle.tomex_workers.proofs.desk.Desk.try_taken.Given as goal

abbrev pub invariant-loop : goal.invariant-loop
invariant-loop g l = record {
  programs : l.knowledge.programs ≡ l.initial.knowledge.programs;
  lane : l.lane ≡ l.initial.lane;
  seat : Continues l.initial.seat l.seat;
  hand : l.seat.view.hand ≡ [];
}
