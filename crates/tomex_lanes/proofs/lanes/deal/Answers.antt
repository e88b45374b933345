-- One more lane; and each lane is connected to all others, one after another.
use Rattle.std.proofs.Common.{◌≡◌, ◌<◌, ◌+◌, ◌-◌, ◌%◌, ◌++◌, ◌∷◌, [], ℕ, suc, ap, ◌∙◌, sym, subst, length, All, Some}
use Rattle.std.proofs.Common.{arith, refl}
use Rattle.std.specs.Prelude.{slice_get, slice_set}
use Rattle.tomex_lanes.specs.Lanes.{Dealt, lane_of, with_other}
use Rattle.tomex_lanes.proofs.Dealing.{all_connected, connected, lane-at, lanes-counts, lanes_with, length-lanes}
use Rattle.tomex_lanes.proofs.Dealing.{next_connected, none_connected, one_connected, thief-at, dealt_more}
use Rattle.tomex_lanes.proofs.lanes.deal.Goals as goal

pub loop-worker-preserved : goal.loop-worker-preserved
loop-worker-preserved g c =
    let next : suc c.loop-worker.worker ≡ c.loop-worker.worker + 1 = omega arith in
    c.in_ok-push.ensures.items
    ∙ (ap (λ (x : Dealt). c.loop-worker.lanes.items ++ x ∷ []) c.in_ok-new.ensures
    ∙ (ap (λ ls. ls ++ lane_of c.args.workers c.loop-worker.worker c.args.count 0 ∷ []) c.loop-worker.invariant
    ∙ ap (lanes_with c.args.workers c.args.count (λ i. 0)) next))

pub loop-to-init : goal.loop-to-init
loop-to-init g c =
    let all : c.loop-worker.worker ≡ c.args.workers = let a = c.loop-worker.auto.worker-end in
    let b = c.loop-worker-test.false in omega arith in
    c.loop-worker.invariant ∙ (ap (lanes_with c.args.workers c.args.count (λ i. 0)) all
    ∙ none_connected c.args.workers c.args.count c.args.workers)

pub connect-requires-clause-places : goal.connect-requires-clause-places
connect-requires-clause-places g c =
    let long : length c.loop-step.lanes.items ≡ c.args.workers = ap length c.loop-step.invariant
    ∙ length-lanes c.args.workers c.args.count (connected c.args.workers c.loop-to.to (c.loop-step.step - 1))
    c.args.workers in
    let rest : (c.loop-to.to + c.loop-step.step) % c.args.workers < c.args.workers = grind arith in
    let to : c.loop-to.to < c.args.workers = c.loop-to-test.true in
    (omega arith, omega arith)

pub connect-requires-clause-count : goal.connect-requires-clause-count
connect-requires-clause-count g c =
    subst (All (λ (l : Dealt). l.count ≡ c.args.count)) (sym c.loop-step.invariant)
    (lanes-counts c.args.workers c.args.count (connected c.args.workers c.loop-to.to (c.loop-step.step - 1))
    c.args.workers)

pub loop-step-preserved : goal.loop-step-preserved
loop-step-preserved g c =
    let workers : ℕ = c.args.workers in
    let to : ℕ = c.loop-to.to in
    let k : ℕ = c.loop-step.step - 1 in
    let from : ℕ = (to + c.loop-step.step) % workers in
    let known : ℕ → ℕ = connected workers to k in
    let items : c.loop-step.lanes.items ≡ lanes_with workers c.args.count known workers = c.loop-step.invariant in
    let low : to < workers = c.loop-to-test.true in
    let rest : from < workers = let some = c.requires.some in grind arith in
    let mine : slice_get c.loop-step.lanes.items to ≡ Some (lane_of workers to c.args.count k) =
    ap (λ xs. slice_get xs to) items ∙ thief-at workers c.args.count to k low in
    let theirs : slice_get c.loop-step.lanes.items from ≡ Some (lane_of workers from c.args.count (known from)) =
    ap (λ xs. slice_get xs from) items ∙ lane-at workers c.args.count known workers from rest in
    let told : with_other (lane_of workers to c.args.count k) (lane_of workers from c.args.count (known from)).rows
    ≡ lane_of workers to c.args.count c.loop-step.step =
    dealt_more workers c.args.count to c.loop-step.step from (lane_of workers to c.args.count k)
    (lane_of workers from c.args.count (known from)) c.loop-step.auto.step refl refl refl in
    let one : suc k ≡ c.loop-step.step = let some = c.loop-step.auto.step in omega arith in
    let after : suc k ≡ c.loop-step.step + 1 - 1 = omega arith in
    c.in_ok-connect.ensures (lane_of workers to c.args.count k) (lane_of workers from c.args.count (known from)) mine
    theirs
    ∙ (ap (λ xs. slice_set xs to (with_other (lane_of workers to c.args.count k)
    (lane_of workers from c.args.count (known from)).rows)) items
    ∙ (ap (slice_set (lanes_with workers c.args.count known workers) to)
    (told ∙ ap (lane_of workers to c.args.count) (sym one))
    ∙ (one_connected workers c.args.count to k low
    ∙ ap (λ (n : ℕ). lanes_with workers c.args.count (connected workers to n) workers) after)))

pub loop-to-preserved : goal.loop-to-preserved
loop-to-preserved g c =
    let all : c.loop-step.step - 1 ≡ c.args.workers - 1 = let a = c.loop-step.auto.step-end c.requires.some in
    let b = c.loop-step-test.false in omega arith in
    c.loop-step.invariant ∙ (ap (λ (n : ℕ). lanes_with c.args.workers c.args.count
    (connected c.args.workers c.loop-to.to n) c.args.workers) all
    ∙ next_connected c.args.workers c.args.count c.loop-to.to)

pub returns : goal.returns
returns g c =
    let all : c.loop-to.to ≡ c.args.workers = let a = c.loop-to.auto.to-end in let b = c.loop-to-test.false in
    omega arith in
    c.loop-to.invariant ∙ (ap (λ (n : ℕ). lanes_with c.args.workers c.args.count (connected c.args.workers n 0)
    c.args.workers) all ∙ all_connected c.args.workers c.args.count)
