-- None goes before the one that stands before it.
use Rattle.std.proofs.Common.{rules, arith, ◌+◌, slice_index_or, string_bytes}
use Rattle.std.specs.Cmp.Lexicographic.{slice_cmp}
use Rattle.std.specs.Ordering.{nat_cmp}
use Rattle.std.proofs.lemmas.List.Sorted.{answers_always}
use Rattle.tomex_functions.specs.Shares.{distance}
use Rattle.tomex_functions.proofs.ChangesOrder.{in_order, precedes, precedes_ranks}
use Rattle.tomex_functions.proofs.named.sort_changes.Goals as goal

pub returns-clause-order : goal.returns-clause-order
returns-clause-order c = λ k d l.
    let a = slice_index_or c.sort_unstable_by.new.self.items k d in
    let b = slice_index_or c.sort_unstable_by.new.self.items (k + 1) d in
    in_order (distance a.change) (distance b.change) (slice_cmp nat_cmp (string_bytes b.name) (string_bytes a.name))
    (c.sort_unstable_by.ensures.sorted precedes precedes_ranks (answers_always _ _ _ (λ f a r g h. search rules)) k d
    (omega arith) l)
