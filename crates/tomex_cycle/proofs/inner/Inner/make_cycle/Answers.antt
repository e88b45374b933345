-- The phases make a cycle, and what is left when it is made says whether the run is over.
use Rattle.std.proofs.Common.{arith}
use Rattle.std.proofs.lemmas.Grind.{common_steps}
use Rattle.tomex_cycle.proofs.Words.{core, core_of, front, Bool, ◌≤◌, ◌<◌, ◌≡◌, ◌∙◌, ap, arith, inl, inr, Ok, nat_lt}
use Rattle.tomex_cycle.proofs.Words.{ltb-true, ltb-false}
use Rattle.tomex_cycle.proofs.Cycles.{cycle_made, cycle_answer, AreMade, under_way, cycle_happens}
use Rattle.tomex_cycle.proofs.SettledStations.{cycle_settles, none_finishes}
use Rattle.tomex_cycle.proofs.Truth.{none_moved, none_started, what_moved, ok_not_err, ok_same, some_and_none}
use Rattle.tomex_cycle.proofs.Runs.{issued_up_to}
use Rattle.tomex_cycle.proofs.inner.Inner.make_cycle.Goals as goal

pub returns-in-Some-clause-makes : goal.returns-in-Some-clause-makes
returns-in-Some-clause-makes g c = λ how n t at before. absurd (some_and_none c.start-starts.result.fault
    c.in-Some.fault c.in-Some.is (c.start-starts.ensures.starts _ _ t at.next (issued_up_to at.run before.issue)
    before.issue.shown.slots before.bytes).0)

pub returns-in-Err-clause-makes : goal.returns-in-Err-clause-makes
returns-in-Err-clause-makes g c = λ how n t at before.
    let made : AreMade c.args.fetcher.now c.args.config.now c.args.cycle (core_of c.args.self.now)
    c.start-starts.result.fault c.issue.result (core c.issue.new.count
    (front c.issue.new.pools c.issue.new.registers c.issue.new.fetch) c.start-starts.new.memory) = record {
      started = c.start-starts.new.pools;
      placed = c.address-addressed.new.pools;
      starts = c.start-starts.ensures.starts;
      addresses = c.address-addressed.ensures.addresses;
      issues = c.issue.ensures.issues c.args.cycle;
    } in
    absurd (ok_not_err c.issue.result _ c.in-Err.fault (under_way made at before).some c.in-Err.is)

pub returns-clause-makes : goal.returns-clause-makes
returns-clause-makes g c = λ how n t at before.
    let made : AreMade c.args.fetcher.now c.args.config.now c.args.cycle (core_of c.args.self.now)
    c.start-starts.result.fault c.issue.result (core c.issue.new.count
    (front c.issue.new.pools c.issue.new.registers c.issue.new.fetch) c.start-starts.new.memory) = record {
      started = c.start-starts.new.pools;
      placed = c.address-addressed.new.pools;
      starts = c.start-starts.ensures.starts;
      addresses = c.address-addressed.ensures.addresses;
      issues = c.issue.ensures.issues c.args.cycle;
    } in
    let on = under_way made at before in
    let low : c.args.self.now.issued ≤ c.issue.new.count = on.low in
    let some : nat_lt c.args.self.now.issued c.issue.new.count ≡ c.in-Ok.made = ok_same c.issue.result _ _ on.some
    c.in-Ok.is in
    let after = cycle_made at on c.end-ended.ensures.ends in (
      after,
      cycle_answer at.run after c.keeps_places.ensures.busy c.is_over.ensures c.after.ensures.progress,
      (λ active. cycle_happens made at before (what_moved c.start-starts.result.any c.address-addressed.result
          c.in-Ok.made c.end-ended.result c.start-starts.ensures.any c.address-addressed.ensures.any (λ one same. let
          later : c.args.self.now.issued < c.issue.new.count = ltb-true _ _ (some ∙ one) in
          absurd (omega (arith, later, same))) c.end-ended.ensures.any (rw (
            c.raise_to-in-Ok.ensures,
            c.raise_to-2.ensures,
            c.raise_to.ensures,
          ) at c.is_settled_after-settled.ensures.active
          (c.after.ensures.active active)))),
      (λ settled.
          let facts = rw (c.raise_to-in-Ok.ensures, c.raise_to-2.ensures, c.raise_to.ensures) at
          c.is_settled_after-settled.ensures.settled (c.after.ensures.settled settled) in
          let none = none_moved c.start-starts.result.any c.address-addressed.result c.in-Ok.made facts.0 in
          let no_later : c.issue.new.count ≤ c.args.self.now.issued = ltb-false _ _ (some ∙ none.1) in
          cycle_settles at before after (omega (arith, low, no_later))
          (c.start-starts.ensures.starts _ _ t at.next (issued_up_to at.run before.issue) before.issue.shown.slots
          before.bytes).1 (record {
            same = c.end-ended.ensures.none facts.1 ∙ (c.issue.ensures.none
                (c.in-Ok.is ∙ ap (λ (b : Bool). Ok b) none.1) ∙ c.address-addressed.ensures.none none.0);
            none = elim facts.2 [
              | inl e ↦ inl (c.start-starts.ensures.none (none_started c.start-starts.result.any
                  c.address-addressed.result c.in-Ok.made e))
              | inr e ↦ inr e
            ];
            free = none_finishes c.args.cycle c.end-ended.ensures.timetable (c.end-ended.ensures.none_unsent facts.1);
          })),
    )

pub end-ended-requires : goal.end-ended-requires
end-ended-requires g c = record {
  timetable = c.issue.ensures.timetable c.args.cycle c.start-starts.new.finishes (c.address-addressed.ensures.timetable
      c.start-starts.new.finishes (c.start-starts.ensures.timetable c.in_default-fault.is));
}

pub returns-clause-none_unsent : goal.returns-clause-none_unsent
returns-clause-none_unsent g c = λ how settled. c.end-ended.ensures.none_unsent
    (c.is_settled_after-settled.ensures.settled (c.after.ensures.settled settled)).1

pub returns-in-Err-clause-none_unsent : goal.returns-in-Err-clause-none_unsent
returns-in-Err-clause-none_unsent = grind (arith, common_steps)

pub returns-in-CountOnly-clause-makes : goal.returns-in-CountOnly-clause-makes
returns-in-CountOnly-clause-makes = grind (arith, common_steps)
