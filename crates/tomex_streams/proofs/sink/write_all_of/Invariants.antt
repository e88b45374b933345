-- The loop of `write_all_of`: the bytes that were written so far.
use Rattle.std.proofs.Common.{length, ◌-◌, ◌≡◌, ◌≤◌, take, ℕ, List, Option}
use Rattle.std.specs.Io.KnownBytes.{Appends}
use Rattle.tomex_streams.proofs.sink.write_all_of.Given as goal

-- the sink took the first `written` bytes, and no put was a fault
pub record HasWritten (written : ℕ) (bytes : List ℕ) (taken-before taken : Option (List ℕ)) (faults-before faults : ℕ)
    : Type 0 where
  pub within : written ≤ length bytes
  pub took : Appends taken-before taken (take written bytes)
  pub fine : faults ≡ faults-before

abbrev pub invariant-loop-written : goal.invariant-loop-written
invariant-loop-written g l = HasWritten l.written l.bytes (g.W.Sink.seen l.fn.sink).taken (g.W.Sink.seen l.sink).taken
    (g.W.Sink.seen l.fn.sink).faults (g.W.Sink.seen l.sink).faults

abbrev pub decreases-loop-written : goal.decreases-loop-written
decreases-loop-written g l = length l.bytes - l.written
