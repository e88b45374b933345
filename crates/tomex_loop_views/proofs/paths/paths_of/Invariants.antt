-- The cycles for the reasons so far.
use Rattle.std.proofs.Common.{ℕ, ◌≡◌, ◌<◌, [], length, map, slice_index_or, take}
use Rattle.std.specs.Prelude.{is_none}
use Rattle.tomex_path.specs.Laws.{all_reasons}
use Rattle.tomex_path_views.specs.ByReason.{links_with}
use Rattle.tomex_path_views.specs.Shares.{share_of}
use Rattle.tomex_stretches.specs.Cycles.{is_key}
use Rattle.tomex_loop_views.specs.Charges.{with_reasons}
use Rattle.tomex_loop_views.specs.PathCycles.{sum_for}
use Rattle.tomex_loop_views.proofs.paths.paths_of.Given as goal

abbrev pub invariant-loop-reason : goal.invariant-loop-reason
invariant-loop-reason g l = record {
  count : length l.paths.by_loop.items ≡ l.count;
  by_loop : (n : ℕ) → n < l.count → slice_index_or (map (λ charges. charges.items) l.paths.by_loop.items) n []
      ≡ with_reasons (λ reason. sum_for reason (is_key n) l.fn.keys l.links) (take l.reason-index all_reasons) [];
  outside : l.paths.outside.items
      ≡ with_reasons (λ reason. sum_for reason is_none l.fn.keys l.links) (take l.reason-index all_reasons) [];
  total : l.paths.total.items
      ≡ with_reasons (λ reason. (share_of (links_with reason l.links)).cycles) (take l.reason-index all_reasons) [];
}
