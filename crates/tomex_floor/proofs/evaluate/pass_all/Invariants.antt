-- The widths so far are passed, and the rest are as they were.
use Rattle.std.proofs.Common.{◌≡◌, ◌<◌, ◌≤◌, ℕ, List, length}
use Rattle.std.specs.Prelude.{slice_index, slice_index_or}
use Rattle.tomex_rvexec.specs.declared.step.Step.{Step}
use Rattle.tomex_timing.specs.declared.times.Done.{Done}
use Rattle.tomex_floor.specs.declared.latest.Latest.{Latest}
use Rattle.tomex_config.specs.Configuration.{latency_of}
use Rattle.tomex_timing.specs.Recent.{facts_of}
use Rattle.tomex_floor.specs.Kept.{AreConflicts, AreLatest, IsLatest, finish_of, history_after}
use Rattle.tomex_floor.proofs.evaluate.pass_all.Given as goal

abbrev pub invariant-loop-n : goal.invariant-loop-n
invariant-loop-n l = record {
  count : length l.latest ≡ 4;
  finish_count : length l.finishes ≡ 4;
  passed : (s : Step) (h : ℕ → List Done) (i : ℕ) (d : Latest) → l.facts ≡ facts_of s → AreLatest h l.fn.latest
      → AreConflicts s h l.conflict → i < l.n
      → IsLatest (history_after (latency_of l.config) s h i) (slice_index_or l.latest i d);
  finishes : (s : Step) (h : ℕ → List Done) (i : ℕ) → l.facts ≡ facts_of s → AreLatest h l.fn.latest
      → AreConflicts s h l.conflict → i < l.n → slice_index l.finishes i ≡ finish_of (latency_of l.config) s h i;
  rest : (i : ℕ) (d : Latest) → l.n ≤ i → slice_index_or l.latest i d ≡ slice_index_or l.fn.latest i d;
}
