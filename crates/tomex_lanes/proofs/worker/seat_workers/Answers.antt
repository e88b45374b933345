-- One more seat is split off; the last lane gets the current seat.
use Rattle.std.proofs.lemmas.Grind.{common_steps}
use Rattle.std.proofs.Common.{◌≡◌, ◌≤◌, ◌<◌, length, rules, arith}
use Rattle.std.specs.Vec.Iter.{into_iter_items}
use Rattle.tomex_lanes.proofs.Seating.{none_dealt, can_split, next_dealt, all_dealt}
use Rattle.tomex_lanes.proofs.worker.seat_workers.Goals as goal

pub loop-init : goal.loop-init
loop-init g c =
    let all : into_iter_items c.into_iter-lanes.result ≡ c.args.lanes.items = let e = c.into_iter-lanes.ensures in
    search rules in
    none_dealt _ _ _ c.args.seat c.new-workers.result.items c.new-workers.ensures.items all c.requires.few
    c.requires.board c.requires.first

pub split-kept-requires-clause-two : goal.split-kept-requires-clause-two
split-kept-requires-clause-two g c =
    let long : c.len-count.result ≡ length c.args.lanes.items = let e = c.len-count.ensures in search rules in
    let low : c.loop.counter < c.len-count.result = c.loop-test.true in
    can_split c.loop.invariant (omega arith)

pub loop-preserved : goal.loop-preserved
loop-preserved g c =
    let long : c.len-count.result ≡ length c.args.lanes.items = let e = c.len-count.ensures in search rules in
    let low : c.loop.counter < c.len-count.result = c.loop-test.true in
    let below : c.loop.counter < length c.args.lanes.items = omega arith in
    next_dealt c.loop.invariant below c.in-Some.ensures.items c.split-kept.ensures.board.0 c.split-kept.ensures.board.1
    c.split-kept.ensures.views.0 c.split-kept.ensures.views.1 c.in_ok-push.ensures.items

pub returns-clause-seats : goal.returns-clause-seats
returns-clause-seats g c =
    let long : c.len-count.result ≡ length c.args.lanes.items = let e = c.len-count.ensures in search rules in
    let past : c.len-count.result ≤ c.loop.counter = c.loop-test.false in
    let beyond : length c.args.lanes.items ≤ c.loop.counter = omega arith in
    (all_dealt _ _ c.loop.own c.loop.workers.items c.push-2.new.self.items _ _ c.in-Some-next.lane _ c.loop.invariant
    beyond c.in-Some-next.ensures.items c.in_ok-push-2.ensures.items).1

pub returns-clause-lanes : goal.returns-clause-lanes
returns-clause-lanes g c =
    let long : c.len-count.result ≡ length c.args.lanes.items = let e = c.len-count.ensures in search rules in
    let past : c.len-count.result ≤ c.loop.counter = c.loop-test.false in
    let beyond : length c.args.lanes.items ≤ c.loop.counter = omega arith in
    (all_dealt _ _ c.loop.own c.loop.workers.items c.push-2.new.self.items _ _ c.in-Some-next.lane _ c.loop.invariant
    beyond c.in-Some-next.ensures.items c.in_ok-push-2.ensures.items).0

pub split-kept-requires-clause-board : goal.split-kept-requires-clause-board
split-kept-requires-clause-board g c = c.loop.invariant.board_of

pub unreachable-requires-in_default-next : goal.unreachable-requires-in_default-next
unreachable-requires-in_default-next = grind (arith, common_steps)
