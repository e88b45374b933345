-- The texts so far, and those of the remaining ranges, whose bytes are left.
use Rattle.std.proofs.Common.{◌≡◌, ◌++◌, drop, length, map}
use Rattle.std.specs.Prelude.{string_bytes}
use Rattle.tomex_study.specs.Watch.{watched_bytes}
use Rattle.tomex_texts.specs.FrontReport.{watch_texts}
use Rattle.tomex_texts.proofs.end_texts.range_texts.Given as goal

abbrev pub invariant-loop-range : goal.invariant-loop-range
invariant-loop-range l = record {
  text : map string_bytes l.texts.items ++ watch_texts (drop l.range-index l.ranges) l.rest ≡ watch_texts l.ranges
      l.bytes;
  left : length l.rest ≡ watched_bytes (drop l.range-index l.ranges);
}
