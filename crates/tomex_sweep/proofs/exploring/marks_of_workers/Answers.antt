-- A board can be made for the study; the workers have all rows and all numbers, and so have their parts.
use Rattle.std.proofs.Common.{◌≡◌, ◌≤◌, length, ap, ◌∙◌, arith}
use Rattle.tomex_lanes.proofs.Dealing.{length-deal}
use Rattle.tomex_sweep.proofs.Crewed.{board_plan, can_run, parts_whole, study_count, study_marks}
use Rattle.tomex_sweep.proofs.exploring.marks_of_workers.Goals as goal

pub new-requires-clause-plan : goal.new-requires-clause-plan
new-requires-clause-plan g c = board_plan c.args.study.now _ _ c.keeps_limits.ensures c.requires.plan

pub seat_workers-requires-clause-some : goal.seat_workers-requires-clause-some
seat_workers-requires-clause-some g c =
    let long : length c.in_ok-lanes.lanes.items ≡ c.args.workers = ap length c.in_ok-lanes.ensures
    ∙ length-deal _ _ _ in
    let some : 1 ≤ c.args.workers = c.requires.some_workers in
    omega arith

pub seat_workers-requires-clause-few : goal.seat_workers-requires-clause-few
seat_workers-requires-clause-few g c =
    let long : length c.in_ok-lanes.lanes.items ≡ c.args.workers = ap length c.in_ok-lanes.ensures
    ∙ length-deal _ _ _ in
    let few : c.args.workers ≤ 32 = c.requires.few_workers in
    omega arith

pub run_workers-requires-after_bounds : goal.run_workers-requires-after_bounds
run_workers-requires-after_bounds g c = λ κs within.
    can_run c.args.study.now _ _ _ _ c.in_ok-lanes.lanes.items (length c.costs-costs.result.now) c.args.workers
    c.requires.plan (ap length c.costs-costs.ensures.value) c.in_ok-lanes.ensures c.in_ok-crew.ensures.lanes
    c.in_ok-crew.ensures.seats

pub settle-requires : goal.settle-requires
settle-requires g c =
    parts_whole _ _ c.in_ok-crew.crew.items c.args.workers c.requires.plan (ap length c.costs-costs.ensures.value)
    c.requires.some_workers c.in_ok-lanes.ensures c.in_ok-crew.ensures.lanes c.in_ok-crew.ensures.seats
    c.in_ok-parts.ensures

pub returns : goal.returns
returns g c = record {
  count = study_count c.args.study.now _ _ _ c.requires.plan c.settle.ensures.count;
  closed = c.settle.ensures.closed;
  lawful = study_marks c.args.study.now _ _ _ c.requires.plan c.settle.ensures.lawful;
}
