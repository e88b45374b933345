-- The text so far, and that of the remaining steps.
use Rattle.std.proofs.Common.{◌≡◌, ◌+◌, ◌++◌, drop}
use Rattle.tomex_texts.specs.Places.{AreKept}
use Rattle.tomex_texts.specs.TimesReport.{step_records}
use Rattle.tomex_texts.proofs.times.push_steps.Given as goal

abbrev pub invariant-loop-index : goal.invariant-loop-index
invariant-loop-index g l = record {
  kept : AreKept l.places.items;
  text : l.text.items ++ step_records (l.index + 1) (drop l.index l.steps) (drop l.index l.times)
      ≡ l.fn.text.items ++ step_records 1 l.steps l.times;
}
