-- The bits of the accesses so far.
use Rattle.std.proofs.Common.{◌≡◌, reverse, take}
use Rattle.tomex_timing.specs.declared.recent.Facts.{Facts}
use Rattle.tomex_repeats.specs.Masks.{facts_at, mask_of}
use Rattle.tomex_repeats.proofs.conflicts.mask_of.Given as goal

abbrev pub invariant-loop-place : goal.invariant-loop-place
invariant-loop-place l =
    (z : Facts) → l.mask ≡ mask_of (reverse (facts_at l.facts (take l.place-index l.accesses) z)) l.step
