-- The steps' places and ends are within bounds, and their events are written as the log.
use Rattle.std.proofs.Common.{◌+◌, ◌<◌, arith}
use Rattle.std.specs.Prelude.{length}
use Rattle.std.proofs.lemmas.List.Elements.{All-weaker}
use Rattle.tomex_konata.proofs.Bounds.{all_placed, ended, log_is, low, made_of, written_is}
use Rattle.tomex_konata.proofs.writing.log_of.Goals as goal

pub ordered_events-requires : goal.ordered_events-requires
ordered_events-requires g c = record {
  bound = rw (c.as_slice.ensures.value, c.in_ok-entries.ensures)
      (ended 9223372036854775808 _ c.args.steps.now c.args.times.now (omega (arith, c.requires.bound)));
}

pub text_of-requires-clause-there : goal.text_of-requires-clause-there
text_of-requires-clause-there g c =
    all_placed _ c.args.steps.now c.args.times.now _ _ _ _ c.requires.pairs c.in_ok-entries.ensures
    c.as_slice-2.ensures.value c.as_slice-3.ensures.value
    (rw c.as_slice.ensures.value at c.in_ok-events.ensures)

pub text_of-requires-clause-few : goal.text_of-requires-clause-few
text_of-requires-clause-few g c =
    rw (c.as_slice-2.ensures.value, c.in_ok-entries.ensures)
    (All-weaker (λ e. e.id < length c.args.steps.now) (λ e. c.args.number + e.id < 18446744073709551616)
    (λ e less. omega (arith, less, c.requires.few)) _
    (low (length c.args.steps.now) _ c.args.steps.now c.args.times.now (omega arith)))

pub returns : goal.returns
returns g c =
    made_of c.text_of.result _ _
    (log_is c.args.number _ c.args.steps.now c.args.times.now _ c.first_issue-first.ensures
    (written_is c.args.number _ _ c.args.steps.now c.args.times.now _ _ _ _ c.in_ok-entries.ensures
    c.as_slice-2.ensures.value
    (omega (arith, c.total.ensures)) c.as_slice-3.ensures.value
    (rw c.as_slice.ensures.value at c.in_ok-events.ensures)))
    c.text_of.ensures
