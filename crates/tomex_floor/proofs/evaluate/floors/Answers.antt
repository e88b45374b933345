-- Each turn of the loop adds a step's floors, none of which is above 67 times the steps.
use Rattle.std.proofs.Common.{ℕ, zero, suc, ◌+◌, ◌-◌, ◌≡◌, ◌≤◌, ◌<◌, ◌^◌, ◌∙◌, arith, refl, ap, inl, List, [], ◌∷◌}
use Rattle.std.proofs.Common.{◌++◌, reverse, take, length, get_or, take_all}
use Rattle.std.specs.Prelude.{nat_le, slice_index, slice_index_or}
use Rattle.std.proofs.lemmas.Bool.{and_parts, leb-true}
use Rattle.std.proofs.lemmas.List.{length-take, take_more}
use Rattle.tomex_rvdec.specs.declared.pool.UnitId.{UnitId}
use Rattle.tomex_rvexec.specs.declared.step.Step.{Step}
use Rattle.tomex_config.specs.Configuration.{Configuration, IsWithinLimits}
use Rattle.tomex_timing.specs.declared.times.Done.{Done}
use Rattle.tomex_timing.specs.declared.recent.Facts.{Facts}
use Rattle.tomex_timing.specs.Recent.{AreFacts}
use Rattle.tomex_timing.specs.Recurrence.{conflicts}
use Rattle.tomex_timing.proofs.AfterEnd.{AllBy}
use Rattle.tomex_timing.proofs.Limits.{width_low}
use Rattle.tomex_timing.proofs.Turns.{IsStep, length_facts, step_of}
use Rattle.tomex_floor.specs.declared.latest.Latest.{Latest}
use Rattle.tomex_floor.specs.Floor.{floor_of, floors_by_width, floors_of}
use Rattle.tomex_config.specs.Configuration.{latency_of}
use Rattle.tomex_floor.specs.Kept.{AreConflicts, AreLatest, histories, history_after}
use Rattle.tomex_floor.proofs.Above.{floor_is_bound}
use Rattle.tomex_floor.proofs.Turns.{finish_by, floors_more, latest_by, run_by}
use Rattle.tomex_floor.proofs.evaluate.floors.Goals as goal

-- the floors so far
abbrev so_far : Configuration → List Step → ℕ → ℕ → List Done
so_far config steps i = histories (latency_of config) (reverse (take i steps))

by_so_far : (config : Configuration) (steps : List Step) (i n : ℕ) → IsWithinLimits config → length steps < 2 ^ 56
    → AllBy (2 ^ 63) (so_far config steps i n)
by_so_far config steps i n good few =
    let l = length-take i steps in run_by config (n + 1) (take i steps) (2 ^ 63) good (omega (arith, l, few))

more_so_far : (config : Configuration) (steps : List Step) (i n : ℕ) (x : Step) → i < length steps
    → get_or steps i x ≡ x
    → so_far config steps (i + 1) n ≡ history_after (latency_of config) x (so_far config steps i) n
more_so_far config steps i n x l is =
    ap (λ (xs : List Step). floors_of (latency_of config) (n + 1) (reverse xs))
    (take_more steps i x l ∙ ap (λ (y : Step). take i steps ++ (y ∷ [])) is)
    ∙ floors_more (latency_of config) (n + 1) (take i steps) x

width_high : (config : Configuration) → IsWithinLimits config → config.width ≤ 4
width_high config good = leb-true config.width 4 (and_parts (nat_le 1 config.width)
    (nat_le config.width 4) good.width).1

abbrev none : Latest
none = record { ends = []; issues = []; branch = 0; address = 0; end = 0 }

at_width : (latency : UnitId → ℕ) (steps : List Step) (n : ℕ) → n < 4
    → slice_index (floors_by_width latency steps) n ≡ floor_of latency (n + 1) steps
at_width latency steps zero l = refl
at_width latency steps (suc zero) l = refl
at_width latency steps (suc (suc zero)) l = refl
at_width latency steps (suc (suc (suc zero))) l = refl
at_width latency steps (suc (suc (suc (suc n)))) l = absurd (omega arith)

-- the step whose facts are at a place
here : (config : Configuration) (steps : List Step) (facts : List Facts) (i : ℕ) (d : Facts) → IsWithinLimits config
    → AreFacts steps facts → length steps < 2 ^ 56 → i < length facts
    → (x : Step) × IsStep config steps i x (slice_index_or facts i d)
here config steps facts i d good are few l =
    let same = length_facts steps facts are in step_of config steps facts i d good are l (omega (arith, same, few))

pub pass_all-finishes-requires-clause-small : goal.pass_all-finishes-requires-clause-small
pass_all-finishes-requires-clause-small g c = λ k d l.
    let n : k < 4 = omega arith in
    latest_by (2 ^ 63) (so_far c.args.config.now c.args.run.now c.loop-step.step-index k) _
    (by_so_far c.args.config.now c.args.run.now c.loop-step.step-index k c.keeps_limits.ensures c.requires.few)
    (c.loop-step.invariant.latest k d n)

pub pass_all-finishes-requires-clause-conflict : goal.pass_all-finishes-requires-clause-conflict
pass_all-finishes-requires-clause-conflict g c = λ n l.
    let h = so_far c.args.config.now c.args.run.now c.loop-step.step-index in
    let at = here c.args.config.now c.args.run.now c.facts-facts.result.now c.loop-step.step-index _
    c.keeps_limits.ensures c.facts-facts.ensures c.requires.few c.loop-step-test.true in
    rw (c.conflict-conflict.ensures h at.0 n l at.1.facts c.loop-step.invariant.accesses)
    (finish_by (λ x. conflicts x at.0) (2 ^ 63) (h n)
    (by_so_far c.args.config.now c.args.run.now c.loop-step.step-index n c.keeps_limits.ensures c.requires.few))

pub loop-step-preserved : goal.loop-step-preserved
loop-step-preserved g c =
    let h = so_far c.args.config.now c.args.run.now c.loop-step.step-index in
    let at = here c.args.config.now c.args.run.now c.facts-facts.result.now c.loop-step.step-index _
    c.keeps_limits.ensures c.facts-facts.ensures c.requires.few c.loop-step-test.true in
    let before = c.loop-step.invariant in
    let conflicts : AreConflicts at.0 h c.conflict-conflict.result =
    λ n l. c.conflict-conflict.ensures h at.0 n l at.1.facts before.accesses in
    let more : (n : ℕ) → so_far c.args.config.now c.args.run.now (c.loop-step.step-index + 1) n
    ≡ history_after (latency_of c.args.config.now) at.0 h n =
    λ n. more_so_far c.args.config.now c.args.run.now c.loop-step.step-index n at.0 at.1.place at.1.at in
    record {
      count = c.pass_all-finishes.ensures.count;
      latest = λ n d l. rw (more n)
          (c.pass_all-finishes.ensures.latest at.0 h at.1.facts before.latest conflicts n d l);
      accesses = λ n b l. rw (more n) (c.in_ok-note.ensures (latency_of c.args.config.now) at.0 h at.1.facts
          (λ n l. c.pass_all-finishes.ensures.finishes at.0 h n l at.1.facts before.latest conflicts)
          before.accesses n b l);
    }

-- the latest cycles at the end include the floors
whole : (config : Configuration) (steps : List Step) (i n : ℕ) (latest : List Latest) → length steps ≤ i
    → AreLatest (so_far config steps i) latest → n < 4
    → (slice_index_or latest n none).end ≡ floor_of (latency_of config) (n + 1) steps
whole config steps i n latest past are l =
    let all = take_all i steps past in rw all at (are n none l).end

all_whole : (config : Configuration) (steps : List Step) (i : ℕ) (latest : List Latest) → length steps ≤ i
    → AreLatest (so_far config steps i) latest
    → ((slice_index_or latest 0 none).end ∷ (slice_index_or latest 1 none).end ∷ (slice_index_or latest 2 none).end
    ∷ (slice_index_or latest 3 none).end ∷ []) ≡ floors_by_width (latency_of config) steps
all_whole config steps i latest past are =
    rw (
      whole config steps i 0 latest past are (omega arith),
      whole config steps i 1 latest past are (omega arith),
      whole config steps i 2 latest past are (omega arith),
      whole config steps i 3 latest past are (omega arith),
    ) refl

past : {steps : List Step} {facts : List Facts} {i : ℕ} → AreFacts steps facts → length facts ≤ i → length steps ≤ i
past {steps} {facts} are l = let same = length_facts steps facts are in omega (arith, same, l)

pub returns-clause-exact : goal.returns-clause-exact
returns-clause-exact g c =
    all_whole c.args.config.now c.args.run.now c.loop-step.step-index c.loop-step.latest
    (past c.facts-facts.ensures c.loop-step-test.false) c.loop-step.invariant.latest

pub returns-clause-bound : goal.returns-clause-bound
returns-clause-bound g c =
    let config = c.args.config.now in
    let low = width_low config c.keeps_limits.ensures in
    let high = width_high config c.keeps_limits.ensures in
    let own : config.width - 1 + 1 ≡ config.width = omega (arith, low) in
    let bound = floor_is_bound config (latency_of config) config.width c.args.run.now c.keeps_limits.ensures
    (omega arith) (λ u. inl (omega arith)) in
    rw (
      all_whole config c.args.run.now c.loop-step.step-index c.loop-step.latest
          (past c.facts-facts.ensures c.loop-step-test.false) c.loop-step.invariant.latest,
      at_width (latency_of config) c.args.run.now (config.width - 1) (omega (arith, low, high)),
      own,
    ) bound
