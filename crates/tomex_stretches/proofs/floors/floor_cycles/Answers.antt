-- Each turn adds a step to its stretch, and the cycles that it has there.
use Rattle.std.proofs.lemmas.Grind.{common_steps}
use Rattle.std.proofs.Common.{ℕ, ◌+◌, ◌<◌, ◌≤◌, ◌≡◌, ◌∙◌, ◌∷◌, ◌^◌, List, None, arith, refl, ap, sym}
use Rattle.std.proofs.Common.{reverse, take, take_all, length, get_or}
use Rattle.std.specs.Prelude.{slice_index_or}
use Rattle.std.proofs.lemmas.List.{length-reverse}
use Rattle.tomex_rvexec.specs.declared.step.Step.{Step}
use Rattle.tomex_config.specs.Configuration.{Configuration, IsWithinLimits, latency_of}
use Rattle.tomex_timing.specs.declared.recent.Facts.{Facts}
use Rattle.tomex_timing.specs.Recent.{AreFacts}
use Rattle.tomex_timing.proofs.Turns.{IsStep, length_facts, step_of}
use Rattle.tomex_stretches.proofs.Walking.{cycles_more, ended, next_after, rev_more, stretch_more}
use Rattle.tomex_stretches.proofs.Walking.{turned_by, turned_last, turned_latest, turned_touched}
use Rattle.tomex_stretches.proofs.floors.floor_cycles.Goals as goal

-- the step whose facts are at a place
here : (config : Configuration) (steps : List Step) (facts : List Facts) (i : ℕ) (d : Facts) → IsWithinLimits config
    → AreFacts steps facts → length steps < 2 ^ 56 → i < length facts
    → (x : Step) × IsStep config steps i x (slice_index_or facts i d)
here config steps facts i d good are few l =
    let same = length_facts steps facts are in step_of config steps facts i d good are l (omega (arith, same, few))

run_more : (steps : List Step) (k : ℕ) (x : Step) → k < length steps → slice_index_or steps k x ≡ x
    → reverse (take (k + 1) steps) ≡ x ∷ reverse (take k steps)
run_more steps k x l is = rev_more steps k x l ∙ ap (λ (y : Step). y ∷ reverse (take k steps)) is

head_is : {X : Type 0} {xs ys zs : List X} {x y : X} → xs ≡ x ∷ ys → xs ≡ y ∷ zs → x ≡ y
head_is a b = cc

pub pass-requires-clause-by : goal.pass-requires-clause-by
pass-requires-clause-by g c = turned_by c.loop-k.before (get_or c.args.keys.now c.loop-k.k None) c.loop-k.latest
    c.turn.new.latest c.loop-k.invariant.by c.turn.ensures

pub overflow_sub-issue_of : goal.overflow_sub-issue_of
overflow_sub-issue_of g c =
    let at = here c.args.config.now c.args.run.now c.facts-facts.result.now c.loop-k.k _
    c.keeps_limits.ensures c.facts-facts.ensures c.requires.few c.loop-k-test.true in
    let width : c.from-width.result ≡ c.args.config.now.width = c.from-width.ensures ∙ c.width.ensures.count in
    let before = c.loop-k.invariant in
    let shows = turned_latest (latency_of c.args.config.now) c.args.config.now.width c.loop-k.before
    (get_or c.args.keys.now c.loop-k.k None) (reverse (take c.loop-k.k c.args.run.now))
    (reverse (take c.loop-k.k c.args.keys.now)) c.loop-k.latest c.turn.new.latest before.before before.by before.latest
    c.turn.ensures in
    let touched = turned_touched (latency_of c.args.config.now) c.args.config.now.width c.loop-k.before
    (get_or c.args.keys.now c.loop-k.k None) (reverse (take c.loop-k.k c.args.run.now))
    (reverse (take c.loop-k.k c.args.keys.now)) c.loop-k.latest c.turn.new.latest c.loop-k.accesses.by_byte
    before.before before.touched before.accesses c.turn.ensures in
    let after = rw width at (c.in_ok-pass.ensures.latest _ at.0 at.1.facts shows touched) in
    (next_after (latency_of c.args.config.now) c.args.config.now.width at.0 _ c.pass.new.latest c.issue_of.result after
    (rw width at (c.issue_of.ensures.issue _ after))).0

pub loop-k-preserved : goal.loop-k-preserved
loop-k-preserved g c =
    let at = here c.args.config.now c.args.run.now c.facts-facts.result.now c.loop-k.k _
    c.keeps_limits.ensures c.facts-facts.ensures c.requires.few c.loop-k-test.true in
    let width : c.from-width.result ≡ c.args.config.now.width = c.from-width.ensures ∙ c.width.ensures.count in
    let before = c.loop-k.invariant in
    let shows = turned_latest (latency_of c.args.config.now) c.args.config.now.width c.loop-k.before
    (get_or c.args.keys.now c.loop-k.k None) (reverse (take c.loop-k.k c.args.run.now))
    (reverse (take c.loop-k.k c.args.keys.now)) c.loop-k.latest c.turn.new.latest before.before before.by before.latest
    c.turn.ensures in
    let touched = turned_touched (latency_of c.args.config.now) c.args.config.now.width c.loop-k.before
    (get_or c.args.keys.now c.loop-k.k None) (reverse (take c.loop-k.k c.args.run.now))
    (reverse (take c.loop-k.k c.args.keys.now)) c.loop-k.latest c.turn.new.latest c.loop-k.accesses.by_byte
    before.before before.touched before.accesses c.turn.ensures in
    let after = rw width at (c.in_ok-pass.ensures.latest _ at.0 at.1.facts shows touched) in
    let accesses = rw width at (c.in_ok-pass.ensures.accesses _ at.0 at.1.facts shows touched) in
    let cycles = (next_after (latency_of c.args.config.now) c.args.config.now.width at.0 _ c.pass.new.latest
    c.issue_of.result after (rw width at (c.issue_of.ensures.issue _ after))).1 in
    let last = turned_last c.loop-k.before (get_or c.args.keys.now c.loop-k.k None) c.loop-k.latest c.turn.new.latest
    c.turn.ensures in
    let steps = run_more c.args.run.now c.loop-k.k at.0 at.1.place at.1.at in
    let keys = rev_more c.args.keys.now c.loop-k.k None (omega (arith, at.1.place, c.requires.keys)) in
    let stretch = stretch_more (get_or c.args.keys.now c.loop-k.k None) at.0 (reverse (take c.loop-k.k c.args.run.now))
    (reverse (take c.loop-k.k c.args.keys.now)) in
    record {
      before = λ key older is. head_is keys is;
      latest = rw (steps, keys, stretch) after;
      accesses = rw (steps, keys, stretch) accesses;
      by = c.in_ok-pass.ensures.by;
      touched = c.in_ok-pass.ensures.touched;
      last = omega (arith, c.in_ok-pass.ensures.last, last, before.last);
      issue = c.in_ok-pass.ensures.issue;
      cycles = rw (steps, keys) (cycles_more (latency_of c.args.config.now) c.args.config.now.width
          (get_or c.args.keys.now c.loop-k.k None) at.0 (reverse (take c.loop-k.k c.args.run.now))
          (reverse (take c.loop-k.k c.args.keys.now)) c.loop-k.cycles.items _ _ before.cycles
          c.in_ok-push.ensures.items cycles);
    }

pub returns : goal.returns
returns g c =
    let same = length_facts c.args.run.now c.facts-facts.result.now c.facts-facts.ensures in
    let all : length c.args.run.now ≤ c.loop-k.k = omega (arith, same, c.loop-k-test.false) in
    let steps = take_all c.loop-k.k c.args.run.now all in
    let keys = take_all c.loop-k.k c.args.keys.now (omega (arith, all, c.requires.keys)) in
    let count : length (reverse c.args.run.now) ≡ length (reverse c.args.keys.now) =
    length-reverse c.args.run.now ∙ (sym c.requires.keys ∙ sym (length-reverse c.args.keys.now)) in
    let latest = rw (steps, keys) at c.loop-k.invariant.latest in
    let before = rw keys at c.loop-k.invariant.before in
    let cycles = rw (steps, keys) at c.loop-k.invariant.cycles in
    c.end_last.ensures ∙ ended (latency_of c.args.config.now) c.args.config.now.width c.loop-k.before
    (reverse c.args.run.now) (reverse c.args.keys.now) c.loop-k.latest c.loop-k.cycles.items _ count before latest
    c.loop-k.invariant.issue refl cycles

pub pass-requires-clause-touched : goal.pass-requires-clause-touched
pass-requires-clause-touched = grind arith

pub bounds-keys-k : goal.bounds-keys-k
bounds-keys-k = grind (arith, common_steps)

pub issue_of-requires-clause-by : goal.issue_of-requires-clause-by
issue_of-requires-clause-by = grind (arith, common_steps)

pub bounds-keys-k-in-loop-k : goal.bounds-keys-k-in-loop-k
bounds-keys-k-in-loop-k = grind (arith, common_steps)

pub turn-requires : goal.turn-requires
turn-requires = grind (arith, common_steps)
