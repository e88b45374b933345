-- The record of one address more.
use Rattle.std.proofs.Common.{◌≡◌, [], refl, rules}
use Rattle.std.specs.BTreeMap.{values}
use Rattle.tomex_layout.specs.Csv.{record_text}
use Rattle.tomex_run_views.specs.Tally.{place_fields}
use Rattle.tomex_run_views.proofs.Written.{first_of, last_put, next_put}
use Rattle.tomex_run_views.proofs.places.put_places.Goals as goal

pub loop-place-init : goal.loop-place-init
loop-place-init g c =
    let all : c.into_iter-place-iterator.result ≡ values c.args.tally.now.groups = search rules in
    record {
      next = tt;
      finite = tt;
      ready = c.requires.ready;
      text = λ own shows. rw all (shows, refl);
    }

pub loop-place-preserved : goal.loop-place-preserved
loop-place-preserved g c = record {
  next = tt;
  finite = tt;
  ready = c.in_ok-put_place.ensures.ready;
  text = λ own shows.
      let before = c.loop-place.invariant.text own shows in
      let its = first_of (λ place. g.C.StepColumns.shows c.args.columns.now place.first (own place.first))
      c.in-Some.place.now _ _ c.in-Some.ensures.steps before.0 in
      next_put (λ place. record_text (place_fields own g.S.SumColumns.shown place))
      (λ place. g.C.StepColumns.shows c.args.columns.now place.first (own place.first)) _ c.in-Some.ensures.steps
      before.0 before.1 (c.in_ok-put_place.ensures.text own its);
}

pub returns-clause-text : goal.returns-clause-text
returns-clause-text g c = λ own shows.
    let none : c.loop-place.place-iterator ≡ [] = c.in-None.ensures.steps.0 in
    last_put (λ place. record_text (place_fields own g.S.SumColumns.shown place)) _ _ _ none (c.loop-place.invariant.text own shows).1
