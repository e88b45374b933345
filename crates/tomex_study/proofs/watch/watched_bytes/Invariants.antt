-- The bytes of the ranges so far are in the sum.
use Rattle.std.proofs.Common.{◌≡◌, ◌≤◌, ◌*◌, take}
use Rattle.tomex_study.specs.Watch.{watched_bytes}
use Rattle.tomex_study.proofs.watch.watched_bytes.Given as goal

abbrev pub invariant-loop-range : goal.invariant-loop-range
invariant-loop-range l = record {
  sum : l.bytes ≡ watched_bytes (take l.range-index l.ranges);
  bound : l.bytes ≤ l.range-index * 4294967295;
}
