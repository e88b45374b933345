use Rattle.std.proofs.Common.{◌-◌, length}
use Rattle.tomex_samples.specs.Ends.{AreEnding}
use Rattle.tomex_samples.proofs.ends.Ends.end_since.Given as goal

abbrev pub invariant-loop-ended : goal.invariant-loop-ended
invariant-loop-ended g l =
    AreEnding l.steps l.done l.last_use (length l.fn.self.waiting.items - l._ended) l.fn.self.parts.items
    l.fn.self.waiting.items l.self.parts.items l.self.waiting.items
