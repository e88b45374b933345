-- The relevant ones of the programs so far, and the remaining ones.
use Rattle.std.proofs.Common.{◌≡◌, ◌++◌, ◌-◌, ◌<◌, length, All}
use Rattle.std.specs.List.{filter, range_with_len}
use Rattle.tomex_weights.specs.Programs.{is_relevant}
use Rattle.tomex_weights.proofs.programs.relevant_programs.Given as goal

abbrev pub invariant-loop-place : goal.invariant-loop-place
invariant-loop-place g l = record {
  places : l.relevant.items
      ++ filter (is_relevant l.surveyed) (range_with_len l.place (length l.surveyed.programs - l.place))
      ≡ filter (is_relevant l.surveyed) (range_with_len 0 (length l.surveyed.programs));
  within : All (λ place. place < length l.surveyed.programs) l.relevant.items;
}
