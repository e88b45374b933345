-- What is written, and the records of the places to come.
use Rattle.std.proofs.Common.{◌≡◌, ◌++◌, ℕ, List}
use Rattle.std.specs.Prelude.{All}
use Rattle.std.specs.BTreeMap.{values}
use Rattle.std.specs.List.{flat_map}
use Rattle.tomex_rvexec.specs.declared.step.Step.{Step}
use Rattle.tomex_layout.specs.Csv.{IsReady, record_text, text_written}
use Rattle.tomex_run_views.specs.Tally.{place_fields}
use Rattle.tomex_run_views.proofs.places.put_places.Given as goal

abbrev pub invariant-loop-place : goal.invariant-loop-place
invariant-loop-place g l = record {
  next : (goal.iterator-loop-place g).can_next l.place-iterator;
  finite : (goal.iterator-loop-place g).is_finite l.place-iterator;
  ready : IsReady l.writer;
  text : (own : Step → List (List ℕ))
      → All (λ place. g.C.StepColumns.shows l.columns place.first (own place.first)) (values l.tally.groups)
      → All (λ place. g.C.StepColumns.shows l.columns place.first (own place.first)) l.place-iterator
      × (text_written (λ v. v.items) l.writer
      ++ flat_map (λ place. record_text (place_fields own g.S.SumColumns.shown place)) l.place-iterator
      ≡ text_written (λ v. v.items) l.fn.writer
      ++ flat_map (λ place. record_text (place_fields own g.S.SumColumns.shown place)) (values l.tally.groups));
}
