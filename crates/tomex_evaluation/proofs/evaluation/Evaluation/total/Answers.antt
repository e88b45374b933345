-- The kept state's greatest end is as far after its first cycle.
use Rattle.std.proofs.lemmas.Grind.{common_steps}
use Rattle.std.proofs.Common.{◌≡◌, arith, length, sym}
use Rattle.std.specs.Prelude.{slice_index}
use Rattle.tomex_alike.specs.Laws.{history_to}
use Rattle.tomex_evaluation.specs.Known.{IsInKept}
use Rattle.tomex_evaluation.proofs.Arrivals.{ends_back, ends_small, ends_there, first_passed, kept_of}
use Rattle.tomex_evaluation.proofs.Turns.{place_within, time_small}
use Rattle.tomex_evaluation.proofs.evaluation.Evaluation.total.Goals as goal

pub overflow_add-result : goal.overflow_add-result
overflow_add-result g c =
    let config = c.args.task.now.config.now in
    let steps = c.args.task.now.run.now in
    let run = c.args.task.now.blocks.now in
    let before = c.requires in
    let at = before.at in
    let i = before.place in
    let in_kept : IsInKept config steps at.places i c.in-Kept.number = rw c.in-Kept.is at at.stands in
    let p = slice_index at.places c.in-Kept.number in
    let kept = kept_of config steps run before.cut i c.in-Kept.number at.places _ c.index-kept.result.now at.known
    in_kept.number c.index-kept.ensures in
    let end = c.end-in-Kept.ensures config (history_to config steps p) kept.shows in
    let small = ends_small config steps run before.cut i p c.index-kept.result.now
    (place_within config steps run _ c.args.self.now before) kept in_kept.back in
    let time = time_small config steps run _ c.args.self.now before in
    omega (arith, end, small, time)

pub first_issue-requires : goal.first_issue-requires
first_issue-requires g c =
    let config = c.args.task.now.config.now in
    let steps = c.args.task.now.run.now in
    let run = c.args.task.now.blocks.now in
    let before = c.requires in
    let at = before.at in
    let i = before.place in
    let in_kept : IsInKept config steps at.places i c.in-Kept.number = rw c.in-Kept.is at at.stands in
    let p = slice_index at.places c.in-Kept.number in
    let kept = kept_of config steps run before.cut i c.in-Kept.number at.places _ c.index-kept.result.now at.known
    in_kept.number c.index-kept.ensures in
    let small = ends_small config steps run before.cut i p c.index-kept.result.now
    (place_within config steps run _ c.args.self.now before) kept in_kept.back in
    record { shown = (history_to config steps p, kept.shows, omega (arith, small)) }

pub overflow_sub-result : goal.overflow_sub-result
overflow_sub-result g c =
    let config = c.args.task.now.config.now in
    let steps = c.args.task.now.run.now in
    let run = c.args.task.now.blocks.now in
    let before = c.requires in
    let at = before.at in
    let i = before.place in
    let in_kept : IsInKept config steps at.places i c.in-Kept.number = rw c.in-Kept.is at at.stands in
    let p = slice_index at.places c.in-Kept.number in
    let kept = kept_of config steps run before.cut i c.in-Kept.number at.places _ c.index-kept.result.now at.known
    in_kept.number c.index-kept.ensures in
    let first = c.first_issue.ensures (history_to config steps p) kept.shows in
    let passed = first_passed config steps run before.cut i p c.index-kept.result.now
    (place_within config steps run _ c.args.self.now before) kept in_kept.back in
    omega (arith, first, passed, at.time)

pub returns-in-Kept : goal.returns-in-Kept
returns-in-Kept g c =
    let config = c.args.task.now.config.now in
    let steps = c.args.task.now.run.now in
    let run = c.args.task.now.blocks.now in
    let before = c.requires in
    let at = before.at in
    let i = before.place in
    let in_kept : IsInKept config steps at.places i c.in-Kept.number = rw c.in-Kept.is at at.stands in
    let p = slice_index at.places c.in-Kept.number in
    let kept = kept_of config steps run before.cut i c.in-Kept.number at.places _ c.index-kept.result.now at.known
    in_kept.number c.index-kept.ensures in
    let first = c.first_issue.ensures (history_to config steps p) kept.shows in
    let end = c.end-in-Kept.ensures config (history_to config steps p) kept.shows in
    let there : i ≡ length steps = ends_there config steps run before.cut c.args.self.now before in
    let back = ends_back config steps run before.cut i p c.index-kept.result.now
    (place_within config steps run _ c.args.self.now before) kept in_kept.back in
    rw (at.time, first, end, sym there) back

pub returns-in-Evaluated : goal.returns-in-Evaluated
returns-in-Evaluated = grind (arith, common_steps)
