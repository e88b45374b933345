use Rattle.std.proofs.Common.{◌≡◌, ◌<◌}
use Rattle.std.specs.Prelude.{◌≢◌}
use Rattle.tomex_bus.proofs.Picking.{AreMade}
use Rattle.tomex_bus.proofs.arbiter.pick_in_order.Given as goal

abbrev pub invariant-loop-turn : goal.invariant-loop-turn
invariant-loop-turn l = record {
  made : AreMade l.ready l.issue_numbers l.turn l.rest l.picked;
  first : l.turn ≡ 0 → l.rest ≡ l.ready;
  some : 0 < l.turn → l.picked ≢ 0;
}
