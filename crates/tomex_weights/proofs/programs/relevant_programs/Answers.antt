-- A place is added if its program is relevant.
use Rattle.std.proofs.Common.{◌<◌, ◌∙◌, length, sym, arith}
use Rattle.std.proofs.lemmas.Grind.{common_steps}
use Rattle.tomex_weights.specs.Programs.{is_relevant, relevant_programs_of}
use Rattle.tomex_weights.proofs.Places.{place_added, place_left, place_within, places_found}
use Rattle.tomex_weights.proofs.programs.relevant_programs.Goals as goal
use Rattle.tomex_weights.proofs.programs.relevant_programs.Goals.{then-is_relevant+in_ok-push, else-is_relevant}

pub loop-place-preserved : goal.loop-place-preserved
loop-place-preserved g c =
    let s = c.args.surveyed.now in
    let k = c.loop-place.place in
    let before = c.loop-place.relevant.items in
    let low : k < length s.programs =
    rw c.study.ensures at (rw c.programs-place-end.ensures.value at c.loop-place-test.true) in
    elim c.if-is_relevant.branch [
      | then-is_relevant+in_ok-push w ↦ rw w.relevant-is (record {
        places = place_added (is_relevant s) (length s.programs) k before low
            (sym c.is_relevant.ensures ∙ w.if-is_relevant.true) w.in_ok-push.ensures.items
            c.loop-place.invariant.places;
        within = place_within (is_relevant s) (length s.programs) k before low w.in_ok-push.ensures.items
            c.loop-place.invariant.within;
      })
      | else-is_relevant w ↦ rw w.relevant-is (record {
        places = place_left (is_relevant s) (length s.programs) k before low
            (sym c.is_relevant.ensures ∙ w.if-is_relevant.false) c.loop-place.invariant.places;
        within = c.loop-place.invariant.within;
      })
    ]

pub returns-clause-places : goal.returns-clause-places
unfolding relevant_programs_of
returns-clause-places g c =
    let s = c.args.surveyed.now in
    places_found (is_relevant s) (length s.programs) c.loop-place.place
    (rw c.study.ensures at (rw c.programs-place-end.ensures.value at c.loop-place-test.false))
    c.loop-place.invariant.places

pub returns-clause-within : goal.returns-clause-within
returns-clause-within = grind (arith, common_steps)

pub is_relevant-requires : goal.is_relevant-requires
is_relevant-requires = grind (arith, common_steps)
