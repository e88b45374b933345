use Rattle.std.proofs.Common.{◌-◌, ◌∙◌, length}
use Rattle.tomex_samples.proofs.Ending.{all_end, before_end, ends_as, fewer_kept, last_begun, last_inside, last_place}
use Rattle.tomex_samples.proofs.Ending.{none_ended, none_left, read_last, some_left, stops, within_parts}
use Rattle.tomex_samples.proofs.Limits.{no_more}
use Rattle.tomex_samples.proofs.ends.Ends.end_since.Goals as goal

pub returns-then-stretch-steps : goal.returns-then-stretch-steps
returns-then-stretch-steps g c =
    let kept = length c.args.self.now.waiting.items - c.loop-ended._ended in
    let some = some_left _ _ _ c.loop-ended-test.true (c.len-ended-end.ensures ∙ c.args.self.now.waiting.ok.0) in
    let place = c.len-place.ensures ∙ c.loop-ended.self.waiting.ok.0 in
    let is = read_last _ _ _ kept _ _ _ _ _ _ c.loop-ended.invariant some place c.index-stretch.ensures in
    stops _ _ _ kept _ _ _ _ _ c.loop-ended.invariant c.requires.rising is c.if-stretch-steps.true

pub length_at-requires : goal.length_at-requires
length_at-requires g c =
    let kept = length c.args.self.now.waiting.items - c.loop-ended._ended in
    let some = some_left _ _ _ c.loop-ended-test.true (c.len-ended-end.ensures ∙ c.args.self.now.waiting.ok.0) in
    let place = c.len-place.ensures ∙ c.loop-ended.self.waiting.ok.0 in
    let is = read_last _ _ _ kept _ _ _ _ _ _ c.loop-ended.invariant some place c.index-stretch.ensures in
    last_begun kept _ _ _ _ c.requires.begun some c.loop-ended.invariant.few is

pub index_mut-requires : goal.index_mut-requires
index_mut-requires g c =
    let kept = length c.args.self.now.waiting.items - c.loop-ended._ended in
    let some = some_left _ _ _ c.loop-ended-test.true (c.len-ended-end.ensures ∙ c.args.self.now.waiting.ok.0) in
    let place = c.len-place.ensures ∙ c.loop-ended.self.waiting.ok.0 in
    let is = read_last _ _ _ kept _ _ _ _ _ _ c.loop-ended.invariant some place c.index-stretch.ensures in
    let inside = last_inside kept _ _ _ c.requires.inside some c.loop-ended.invariant.few is in
    within_parts _ _ _ inside (c.loop-ended.self.parts.ok.0 ∙ c.loop-ended.invariant.size)

pub loop-ended-preserved : goal.loop-ended-preserved
loop-ended-preserved g c =
    let kept = length c.args.self.now.waiting.items - c.loop-ended._ended in
    let some = some_left _ _ _ c.loop-ended-test.true (c.len-ended-end.ensures ∙ c.args.self.now.waiting.ok.0) in
    let place = c.len-place.ensures ∙ c.loop-ended.self.waiting.ok.0 in
    let is = read_last _ _ _ kept _ _ _ _ _ _ c.loop-ended.invariant some place c.index-stretch.ensures in
    let inside = last_inside kept _ _ _ c.requires.inside some c.loop-ended.invariant.few is in
    ends_as _ _ _ kept _ _ _ _ _ _ _ _ _ c.loop-ended.invariant some c.requires.rising is
    c.if-stretch-steps.false inside (fewer_kept _ c.loop-ended._ended) c.length_at.ensures place
    c.truncate.ensures.items

pub overflow_mul-stretch : goal.overflow_mul-stretch
overflow_mul-stretch g c =
    let kept = length c.args.self.now.waiting.items - c.loop-ended._ended in
    let some = some_left _ _ _ c.loop-ended-test.true (c.len-ended-end.ensures ∙ c.args.self.now.waiting.ok.0) in
    let place = c.len-place.ensures ∙ c.loop-ended.self.waiting.ok.0 in
    let is = read_last _ _ _ kept _ _ _ _ _ _ c.loop-ended.invariant some place c.index-stretch.ensures in
    let begun = last_begun kept _ _ _ _ c.requires.begun some c.loop-ended.invariant.few is in
    record { fits = no_more _ _ begun c.ranges.done.fits }

pub returns : goal.returns
returns g c =
    all_end _ _ _ _ _ _ _ _ c.loop-ended.invariant (none_left _ _ _ c.loop-ended-test.false
    (c.len-ended-end.ensures ∙ c.args.self.now.waiting.ok.0))

pub loop-ended-init : goal.loop-ended-init
loop-ended-init g c = none_ended _ _ _ _ _

pub index-stretch-requires : goal.index-stretch-requires
index-stretch-requires g c =
    let some = some_left _ _ _ c.loop-ended-test.true (c.len-ended-end.ensures ∙ c.args.self.now.waiting.ok.0) in
    let place = c.len-place.ensures ∙ c.loop-ended.self.waiting.ok.0 in
    before_end _ _ (last_place _ _ _ _ _ _ _ _ _ c.loop-ended.invariant some place) c.len-place.ensures

pub overflow_sub-place : goal.overflow_sub-place
overflow_sub-place g c =
    let some = some_left _ _ _ c.loop-ended-test.true (c.len-ended-end.ensures ∙ c.args.self.now.waiting.ok.0) in
    last_place _ _ _ _ _ _ _ _ _ c.loop-ended.invariant some (c.len-place.ensures ∙ c.loop-ended.self.waiting.ok.0)
