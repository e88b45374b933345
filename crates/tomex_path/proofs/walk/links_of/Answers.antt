-- Each turn of the walk takes a link, or passes a step.
use Rattle.std.proofs.Common.{ℕ, ◌+◌, ◌-◌, ◌<◌, ◌≡◌, ◌∙◌, arith, ap, subst, List, ◌∷◌, ◌++◌, length, take, take_all}
use Rattle.std.proofs.Common.{refl}
use Rattle.tomex_timing.specs.declared.times.Done.{Done}
use Rattle.tomex_timing.specs.Search.{history}
use Rattle.std.proofs.lemmas.List.{length-take-le}
use Rattle.tomex_timing.proofs.Histories.{length-history}
use Rattle.tomex_path.specs.declared.event.Holder.TheVariants.{Last}
use Rattle.tomex_path.specs.Holds.{passes}
use Rattle.tomex_path.specs.Path.{links}
use Rattle.tomex_path.specs.Seen.{done_at}
use Rattle.tomex_path.proofs.Places.{history_at, step_there}
use Rattle.tomex_path.proofs.WalkSteps.{lengths, skipped, taken}
use Rattle.tomex_path.proofs.walk.links_of.Goals as goal
use Rattle.tomex_path.proofs.walk.links_of.Goals.{then-is+in_ok-push, else-is}

pub loop-passed-init : goal.loop-passed-init
loop-passed-init g c = λ config steps ev.
    let many = lengths config steps c.args.facts.now c.args.times.now c.args.notes.now ev in
    let all : take (length c.args.times.now - 0) steps ≡ steps =
    take_all (length c.args.times.now - 0) steps (omega (arith, many.many_times)) in
    rw (c.new-result.ensures.items, all) refl

pub loop-passed-preserved : goal.loop-passed-preserved
loop-passed-preserved g c = λ config steps ev.
    let n : ℕ = length c.args.times.now in
    let place : ℕ = length c.args.times.now - 1 - c.loop-passed.passed in
    let many = lengths config steps c.args.facts.now c.args.times.now c.args.notes.now ev in
    let l : length c.args.times.now - 1 - c.loop-passed.passed < length steps =
    omega (arith, many.many_times, c.loop-passed-test.true) in
    let x = step_there steps (length c.args.times.now - 1 - c.loop-passed.passed) l in
    let older = history config (take (length c.args.times.now - 1 - c.loop-passed.passed) steps) in
    let d = done_at config steps (length c.args.times.now - 1 - c.loop-passed.passed) x.0 in
    let up : length c.args.times.now - c.loop-passed.passed ≡ length c.args.times.now - 1 - c.loop-passed.passed + 1 =
    omega (arith, c.loop-passed-test.true) in
    let down : length c.args.times.now - (c.loop-passed.passed + 1)
    ≡ length c.args.times.now - 1 - c.loop-passed.passed =
    omega arith in
    let here : history config (take (length c.args.times.now - c.loop-passed.passed) steps) ≡ d ∷ older =
    ap (λ i. history config (take i steps)) up
    ∙ history_at config steps (length c.args.times.now - 1 - c.loop-passed.passed) x.0 l x.1 in
    let before : links config Last (history config steps) ≡ c.loop-passed.result.items
    ++ links config c.loop-passed.by (d ∷ older) =
    subst (λ (h : List Done). links config Last (history config steps)
    ≡ c.loop-passed.result.items ++ links config c.loop-passed.by h) here (c.loop-passed.invariant config steps ev) in
    let seen = c.seen_at-seen.ensures.seen config steps x.0 ev x.1 in
    let test : c.is.result ≡ passes c.loop-passed.by older d = c.is.ensures config older d seen in
    let many_older : length older ≡ length c.args.times.now - 1 - c.loop-passed.passed =
    length-history config (take (length c.args.times.now - 1 - c.loop-passed.passed) steps)
    ∙ length-take-le (length c.args.times.now - 1 - c.loop-passed.passed) steps (omega arith) in
    let count : length c.args.times.now - 1 - c.loop-passed.passed + 1 ≡ length older + 1 = omega arith in
    rw down (elim c.if-is.branch [
      | then-is+in_ok-push w ↦ rw (w.result-is, w.by-is)
          (taken config c.loop-passed.by w.link_of-held.result.by older d (links config Last (history config steps))
          c.loop-passed.result.items w.push.new.self.items w.link_of-held.result.link c.is.result test w.if-is.true
          (w.link_of-held.ensures.link config older d seen count)
          (w.link_of-held.ensures.by config older d seen) before w.in_ok-push.ensures.items)
      | else-is w ↦ rw (w.result-is, w.by-is)
          (skipped config c.loop-passed.by older d (links config Last (history config steps)) c.loop-passed.result.items
          c.is.result test w.if-is.false before)
    ])
