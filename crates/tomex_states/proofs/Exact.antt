-- The latest cycles of a history, exactly.
use Rattle.std.proofs.Common.{◌==◌, arith, refl, List, map, count_by}
use Rattle.std.specs.List.{range_with_len}
use Rattle.std.proofs.lemmas.List.FromFn.{get_or-map-range_with_len, length-map-range_with_len}
use Rattle.tomex_timing.specs.declared.recent.Latest.{Latest}
use Rattle.tomex_timing.specs.declared.times.Done.{Done}
use Rattle.tomex_timing.specs.History.{greatest_end, last_address, last_issue, writer_end}
use Rattle.tomex_timing.specs.Issue.{branch_finish}
use Rattle.tomex_timing.specs.Summary.{IsKept}

abbrev pub exact_of : List Done → Latest
exact_of h = record {
  ends = map (writer_end h) (range_with_len 0 32);
  issue = last_issue h;
  issued = count_by (λ d. d.at.issue == last_issue h) h;
  branch = branch_finish h;
  address = last_address h;
  end = greatest_end h;
}

pub exact_kept : (h : List Done) → IsKept h (exact_of h)
exact_kept h = record {
  ends = λ r l. get_or-map-range_with_len (writer_end h) 0 32 r r 0 l (omega arith);
  count = length-map-range_with_len (writer_end h) 0 32;
  issue = refl;
  issued = refl;
  branch = refl;
  address = refl;
  end = refl;
}
