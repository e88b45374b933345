-- The rows found so far, and the remaining ones.
use Rattle.std.proofs.Common.{◌≡◌, ◌-◌, ◌<◌, ◌++◌, All, length, map}
use Rattle.std.specs.List.{filter, range_with_len}
use Rattle.std.specs.Prelude.{string_bytes}
use Rattle.tomex_find.specs.Find.{found_in, has_all}
use Rattle.tomex_find.proofs.finding.found_in.Given as goal

abbrev pub invariant-loop-row : goal.invariant-loop-row
invariant-loop-row g l = record {
  found : l.rows.items ++ filter (has_all l.study (map string_bytes l.words))
      (range_with_len l.row (length l.study.rows - l.row)) ≡ found_in l.study (map string_bytes l.words);
  within : All (λ k. k < length l.study.rows) l.rows.items;
}
