-- A copy of the kept state is moved to this place.
use Rattle.std.proofs.lemmas.Grind.{common_steps}
use Rattle.std.proofs.Common.{◌-◌, arith, refl}
use Rattle.tomex_alike.specs.Laws.{history_to}
use Rattle.std.specs.Prelude.{slice_index}
use Rattle.tomex_evaluation.specs.Known.{IsInKept}
use Rattle.tomex_evaluation.proofs.Arrivals.{comes, ends_small, first_passed, kept_of, moves}
use Rattle.tomex_evaluation.proofs.Shown.{history_is}
use Rattle.tomex_evaluation.proofs.evaluation.Evaluation.come_to.Goals as goal

pub first_issue-requires : goal.first_issue-requires
first_issue-requires g c =
    let config = c.args.task.now.config.now in
    let steps = c.args.task.now.run.now in
    let run = c.args.task.now.blocks.now in
    let at = c.requires.at in
    let in_kept : IsInKept config steps at.places c.args.place c.in-Kept.number = rw c.in-Kept.is at at.stands in
    let p = slice_index at.places c.in-Kept.number in
    let kept = kept_of config steps run c.requires.cut c.args.place c.in-Kept.number at.places _
    c.index-kept.result.now at.known in_kept.number c.index-kept.ensures in
    let small = ends_small config steps run c.requires.cut c.args.place p c.index-kept.result.now c.requires.within kept
    in_kept.back in
    record { shown = (history_to config steps p, kept.shows, omega (arith, small)) }

pub overflow_sub-by : goal.overflow_sub-by
overflow_sub-by g c =
    let config = c.args.task.now.config.now in
    let steps = c.args.task.now.run.now in
    let run = c.args.task.now.blocks.now in
    let at = c.requires.at in
    let in_kept : IsInKept config steps at.places c.args.place c.in-Kept.number = rw c.in-Kept.is at at.stands in
    let p = slice_index at.places c.in-Kept.number in
    let kept = kept_of config steps run c.requires.cut c.args.place c.in-Kept.number at.places _
    c.index-kept.result.now at.known in_kept.number c.index-kept.ensures in
    let passed = first_passed config steps run c.requires.cut c.args.place p c.index-kept.result.now c.requires.within
    kept in_kept.back in
    let first = c.first_issue.ensures (history_to config steps p) kept.shows in
    omega (arith, first, passed, at.time)

pub move_by-requires-clause-shows : goal.move_by-requires-clause-shows
move_by-requires-clause-shows g c =
    let config = c.args.task.now.config.now in
    let steps = c.args.task.now.run.now in
    let run = c.args.task.now.blocks.now in
    let at = c.requires.at in
    let in_kept : IsInKept config steps at.places c.args.place c.in-Kept.number = rw c.in-Kept.is at at.stands in
    let p = slice_index at.places c.in-Kept.number in
    let kept = kept_of config steps run c.requires.cut c.args.place c.in-Kept.number at.places _
    c.index-kept.result.now at.known in_kept.number c.index-kept.ensures in (
      history_to config steps p,
      history_is config steps run c.requires.cut p,
      c.in_ok-copy_from.ensures.shows config (history_to config steps p) kept.shows,
    )

pub move_by-requires-clause-small : goal.move_by-requires-clause-small
move_by-requires-clause-small g c =
    let config = c.args.task.now.config.now in
    let steps = c.args.task.now.run.now in
    let run = c.args.task.now.blocks.now in
    let at = c.requires.at in
    let in_kept : IsInKept config steps at.places c.args.place c.in-Kept.number = rw c.in-Kept.is at at.stands in
    let p = slice_index at.places c.in-Kept.number in
    let kept = kept_of config steps run c.requires.cut c.args.place c.in-Kept.number at.places _
    c.index-kept.result.now at.known in_kept.number c.index-kept.ensures in
    let first = c.first_issue.ensures (history_to config steps p) kept.shows in
    rw (at.time, first) (moves config steps run c.requires.cut c.args.place p c.index-kept.result.now c.requires.within
    kept in_kept.back c.copy_from.new.self c.in_ok-copy_from.ensures.copied)

pub returns-clause-here : goal.returns-clause-here
returns-clause-here g c =
    let config = c.args.task.now.config.now in
    let steps = c.args.task.now.run.now in
    let run = c.args.task.now.blocks.now in
    let at = c.requires.at in
    let in_kept : IsInKept config steps at.places c.args.place c.in-Kept.number = rw c.in-Kept.is at at.stands in
    let p = slice_index at.places c.in-Kept.number in
    let kept = kept_of config steps run c.requires.cut c.args.place c.in-Kept.number at.places _
    c.index-kept.result.now at.known in_kept.number c.index-kept.ensures in
    let first = c.first_issue.ensures (history_to config steps p) kept.shows in
    comes config steps run c.requires.cut c.args.place p c.index-kept.result.now c.requires.within kept in_kept.back
    (c.args.self.now.time - c.first_issue.result) c.facts.result.now c.copy_from.new.self c.move_by.new.self
    c.facts.ensures (rw (at.time, first) refl) c.in_ok-copy_from.ensures.shows c.in_ok-move_by.ensures.shows

pub returns-clause-at : goal.returns-clause-at
returns-clause-at g c =
    let config = c.args.task.now.config.now in
    let steps = c.args.task.now.run.now in
    let at = c.requires.at in
    let in_kept : IsInKept config steps at.places c.args.place c.in-Kept.number = rw c.in-Kept.is at at.stands in
    record {
      places = at.places;
      known = at.known;
      stands = (returns-clause-here g c, in_kept);
      time = at.time;
      noted = at.noted;
    }

pub slice_bounds-move_by-end : goal.slice_bounds-move_by-end
slice_bounds-move_by-end = grind (arith, common_steps)

pub returns-in_default-clause-here : goal.returns-in_default-clause-here
returns-in_default-clause-here = grind (arith, common_steps)
