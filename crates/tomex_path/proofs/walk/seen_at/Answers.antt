-- What stands at the place is the step's.
use Rattle.std.proofs.Common.{◌<◌, ◌≡◌, ◌∙◌, arith, length, take}
use Rattle.tomex_timing.specs.History.{last_issue}
use Rattle.tomex_timing.specs.Search.{history}
use Rattle.tomex_path.proofs.Places.{issue_small, step_there}
use Rattle.tomex_path.proofs.WalkSteps.{first_previous, lengths, previous_there, seen_there, times_there}
use Rattle.tomex_path.proofs.walk.seen_at.Goals as goal
use Rattle.tomex_path.proofs.walk.seen_at.Goals.{then-place-eq0, else-place-eq0}

pub bounds-facts-place : goal.bounds-facts-place
bounds-facts-place c =
    let many = lengths c.requires.run.0 c.requires.run.1 c.args.facts.now c.args.times.now c.args.notes.now
    c.requires.run.2 in
    omega (arith, many.many_facts, many.many_times, c.requires.place)

pub bounds-notes-place : goal.bounds-notes-place
bounds-notes-place c =
    let many = lengths c.requires.run.0 c.requires.run.1 c.args.facts.now c.args.times.now c.args.notes.now
    c.requires.run.2 in
    omega (arith, many.many_notes, many.many_times, c.requires.place)

pub returns-clause-seen : goal.returns-clause-seen
returns-clause-seen c = λ config steps x ev e.
    let many = lengths config steps c.args.facts.now c.args.times.now c.args.notes.now ev in
    let l : c.args.place < length steps = omega (arith, many.many_times, c.requires.place) in
    let before : c.if-place-eq0.result ≡ last_issue (history config (take c.args.place steps)) =
    elim c.if-place-eq0.branch [
      | then-place-eq0 w ↦ w.result-is ∙ first_previous config steps c.args.place w.if-place-eq0.true
      | else-place-eq0 w ↦ w.result-is
          ∙ previous_there config steps c.args.times.now c.args.place _ ev.of_times
          (omega (arith, w.if-place-eq0.false)) l
    ] in
    seen_there config steps c.args.place x l e c.args.facts.now c.args.times.now c.args.notes.now
    _ _ c.if-place-eq0.result _ ev before

pub returns-clause-small : goal.returns-clause-small
returns-clause-small c =
    let config = c.requires.run.0 in
    let steps = c.requires.run.1 in
    let ev = c.requires.run.2 in
    let many = lengths c.requires.run.0 c.requires.run.1 c.args.facts.now c.args.times.now c.args.notes.now
    c.requires.run.2 in
    let l : c.args.place < length c.requires.run.1 = omega (arith, many.many_times, c.requires.place) in
    let x = step_there c.requires.run.1 c.args.place l in
    rw (times_there c.requires.run.0 c.requires.run.1 c.args.place x.0 l x.1 c.args.times.now _ ev.of_times)
    (issue_small c.requires.run.0 c.requires.run.1 c.args.place x.0 l x.1 ev.good ev.few)
