-- A sort by the order of pairs.
use Rattle.std.proofs.Common.{rules}
use Rattle.std.proofs.lemmas.List.Sorted.{answers_always}
use Rattle.tomex_compare.proofs.ByRatio.{sorted_is}
use Rattle.tomex_compare.proofs.Ratios.{precedes, precedes_ranks}
use Rattle.tomex_compare.proofs.pairs.sort_by_ratio.Goals as goal

pub returns : goal.returns
returns c = sorted_is _ _ c.requires c.sort_unstable_by.ensures.permutation
    (c.sort_unstable_by.ensures.sorted precedes precedes_ranks (answers_always _ _ _ (λ f a r g h. search rules)))
