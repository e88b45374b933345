use Rattle.tomex_cycle.proofs.Words.{IfSome_then, inside_left, no_option, ◌∙◌, refl, sym}
use Rattle.tomex_cycle.proofs.Truth.{taken}
use Rattle.tomex_cycle.proofs.StartsBegun.{all_begun, first_begun, left_in, member_begun, no_fault_at, some_not}
use Rattle.tomex_cycle.proofs.starts.begin.Goals as goal

pub members-init : goal.members-init
members-init g c = record {
  begun = λ e low can.
      first_begun c.args.config.now c.args.cycle c.args.memory.now c.args.picked c.args.pools.now e low can;
  known = c.requires.timetable;
  kept = λ x l h. refl;
  inside = λ x l h. h;
}

pub returns-then-is_some-clause-begins : goal.returns-then-is_some-clause-begins
returns-then-is_some-clause-begins g c = λ e low can. absurd (some_not c.begin_at-fault.result
    (sym c.if-is_some.true ∙ c.is_some.ensures) (no_fault_at c.begin_at-fault.result
    (taken c.lowest-place.ensures.below c.lowest-place.ensures.member c.lowest-place.ensures.least
    c.without_lowest-rest.ensures.others) c.begin_at-fault.ensures.good (c.members.invariant.begun e low can)))

pub returns-then-is_some-clause-good : goal.returns-then-is_some-clause-good
returns-then-is_some-clause-good g c = λ e low can. no_fault_at c.begin_at-fault.result
    (taken c.lowest-place.ensures.below c.lowest-place.ensures.member c.lowest-place.ensures.least
    c.without_lowest-rest.ensures.others) c.begin_at-fault.ensures.good (c.members.invariant.begun e low can)

pub members-preserved : goal.members-preserved
members-preserved g c =
    let out = taken c.lowest-place.ensures.below c.lowest-place.ensures.member c.lowest-place.ensures.least
    c.without_lowest-rest.ensures.others in
    record {
      begun = λ e low can. member_begun c.begin_at-fault.new.pools out c.begin_at-fault.ensures.slots
          c.begin_at-fault.ensures.issue_numbers (c.members.invariant.begun e low can);
      known = c.begin_at-fault.ensures.timetable
          (no_option c.begin_at-fault.result (sym c.is_some.ensures ∙ c.if-is_some.false));
      kept = λ x l h. let two = left_in x out.without l h in
          c.begin_at-fault.ensures.others x two.0 ∙ c.members.invariant.kept x l two.1;
      inside = inside_left c.args.picked c.members.rest c.without_lowest-rest.result c.lowest-place.result
          c.members.invariant.inside out.without;
    }

pub returns-then-is_some-clause-fault : goal.returns-then-is_some-clause-fault
returns-then-is_some-clause-fault g c =
    let kept = c.members.invariant.kept c.lowest-place.result c.lowest-place.ensures.below c.lowest-place.ensures.member
    in
    let inside = c.members.invariant.inside c.lowest-place.result c.lowest-place.ensures.below
    c.lowest-place.ensures.member in
    IfSome_then c.begin_at-fault.result c.begin_at-fault.ensures.only
    (λ f only. (c.lowest-place.result, inside, (only.0, sym kept ∙ only.1, only.2, only.3)))

pub returns-clause-begins : goal.returns-clause-begins
returns-clause-begins g c = λ e low can. all_begun c.members-test.false (c.members.invariant.begun e low can)

pub returns-then-is_some-clause-timetable : goal.returns-then-is_some-clause-timetable
returns-then-is_some-clause-timetable g c =
    λ none. absurd (some_not c.begin_at-fault.result (sym c.if-is_some.true ∙ c.is_some.ensures) none)
