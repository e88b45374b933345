-- The cycles so far are those of the youngest steps, the youngest first.
use Rattle.std.proofs.Common.{◌≡◌, ◌++◌, List, map, reverse, drop}
use Rattle.tomex_timing.specs.declared.times.Done.{Done}
use Rattle.tomex_stretches.specs.Cycles.{cycles_before, own_cycles}
use Rattle.tomex_stretches.proofs.own.own_cycles.Given as goal

abbrev pub invariant-loop-passed : goal.invariant-loop-passed
invariant-loop-passed g l = (h : List Done) → l.times ≡ map (λ d. d.at) (reverse h)
    → l.cycles.items ++ cycles_before l.next (drop l.passed h) ≡ own_cycles h
