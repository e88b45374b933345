-- The bytes so far have been read.
use Rattle.std.proofs.Common.{◌≡◌, ◌≤◌, ◌-◌, ℕ, List}
use Rattle.tomex_timing.specs.declared.times.Done.{Done}
use Rattle.tomex_floor.specs.Floor.{last_finish}
use Rattle.tomex_floor.specs.Kept.{shares_some}
use Rattle.tomex_stretches.specs.Kept.{AreTouched, AreTouchedBy, no_finishes}
use Rattle.tomex_stretches.proofs.accesses.Accesses.latest.Given as goal

abbrev pub invariant-loop-byte : goal.invariant-loop-byte
invariant-loop-byte g l = record {
  low : l.fn.bytes.from ≤ l.byte-counter;
  none : l.none ≡ no_finishes;
  latest : (base : ℕ) (h : List Done) → AreTouched base h l.self.by_byte
      → l.latest - base ≡ last_finish (shares_some l.fn.bytes.from l.byte-counter l.is_store) h;
  by : (g : ℕ) → AreTouchedBy g l.self.by_byte → l.latest ≤ g;
}
