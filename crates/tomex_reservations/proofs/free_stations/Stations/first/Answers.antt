-- Each station either is free in the first cycle, or will be later.
use Rattle.std.proofs.Common.{◌≡◌, arith}
use Rattle.tomex_reservations.proofs.FreeStations.{soonest_none, soonest_takes, soonest_keeps}
use Rattle.tomex_reservations.proofs.FreeStations.{free_at_once, free_soonest}
use Rattle.tomex_reservations.proofs.free_stations.Stations.first.Goals as goal
use Rattle.tomex_reservations.proofs.free_stations.Stations.first.Goals.{then-cycle-soonest, else-cycle-soonest}

pub returns-then-cycle-from : goal.returns-then-cycle-from
returns-then-cycle-from c =
    let free = rw c.place_of.ensures.place at c.if-cycle-from.true in
    free_at_once c.args.self.now.ends c.args.pool c.args.count c.args.from c.loop-number.number
    c.loop-number.soonest.cycle c.loop-number.soonest.number c.loop-number-test.true free c.loop-number.invariant

pub loop-number-init : goal.loop-number-init
loop-number-init c = soonest_none c.args.self.now.ends c.args.pool c.args.from

pub loop-number-preserved : goal.loop-number-preserved
loop-number-preserved c =
    let busy = rw c.place_of.ensures.place at c.if-cycle-from.false in
    elim c.if-cycle-soonest.branch [
      | then-cycle-soonest w ↦
          let sooner = rw c.place_of.ensures.place at w.if-cycle-soonest.true in
          rw (w.soonest-is, c.place_of.ensures.place)
          (soonest_takes c.args.self.now.ends c.args.pool c.args.from c.loop-number.number
          c.loop-number.soonest.cycle c.loop-number.soonest.number busy sooner c.loop-number.invariant)
      | else-cycle-soonest w ↦
          let later = rw c.place_of.ensures.place at w.if-cycle-soonest.false in
          rw w.soonest-is (soonest_keeps c.args.self.now.ends c.args.pool c.args.from c.loop-number.number
          c.loop-number.soonest.cycle c.loop-number.soonest.number
          (c.requires.small c.loop-number.number (omega arith)) busy later c.loop-number.invariant)
    ]

pub returns : goal.returns
returns c =
    let e : c.loop-number.number ≡ c.args.count = omega arith in
    free_soonest c.args.self.now.ends c.args.pool c.args.count c.args.from c.loop-number.soonest.cycle
    c.loop-number.soonest.number c.requires.some (rw e at c.loop-number.invariant)
