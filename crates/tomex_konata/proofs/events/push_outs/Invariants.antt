-- The steps so far go out.
use Rattle.std.proofs.Common.{◌≡◌, ◌++◌, map, take}
use Rattle.tomex_konata.specs.Kept.{out_of}
use Rattle.tomex_konata.proofs.events.push_outs.Given as goal

abbrev pub invariant-loop-entry : goal.invariant-loop-entry
invariant-loop-entry g l = l.events.items ≡ l.fn.events.items ++ map out_of (take l.entry-index l.entries)
