-- No key is less than the one before it.
use Rattle.std.proofs.Common.{rules, arith, ◌+◌, slice_index_or}
use Rattle.std.proofs.lemmas.List.Sorted.{answers_always}
use Rattle.tomex_functions.specs.Kept.{sort_key}
use Rattle.tomex_functions.proofs.RowsOrder.{by_key}
use Rattle.tomex_functions.proofs.rows.sort_rows.Goals as goal

pub returns-clause-order : goal.returns-clause-order
returns-clause-order g c = λ k d l.
    let a = slice_index_or c.sort_unstable_by_key.new.self.items k d in
    let b = slice_index_or c.sort_unstable_by_key.new.self.items (k + 1) d in
    by_key a.function b.function a.sum.cycles b.sum.cycles
    (c.sort_unstable_by_key.ensures.sorted sort_key (answers_always _ _ _ (λ f a r g h. search rules)) k d (omega arith)
    l)
