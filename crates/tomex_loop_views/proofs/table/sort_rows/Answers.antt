-- No key is less than the one before it.
use Rattle.std.proofs.Common.{rules, arith, ◌+◌, get_or}
use Rattle.std.proofs.lemmas.List.Sorted.{answers_always}
use Rattle.tomex_loop_views.specs.declared.row.LoopRow.{LoopRow}
use Rattle.tomex_loop_views.specs.Table.{key_of}
use Rattle.tomex_loop_views.proofs.RowsOrder.{in_order, lines_in_order}
use Rattle.tomex_loop_views.proofs.table.sort_rows.Goals as goal

pub returns-clause-order : goal.returns-clause-order
returns-clause-order g c = lines_in_order c.sort_unstable_by_key.new.self.items (λ k d l.
    let a : LoopRow = get_or c.sort_unstable_by_key.new.self.items k d in
    let b : LoopRow = get_or c.sort_unstable_by_key.new.self.items (k + 1) d in
    in_order a.sums.own b.sums.own b.sums.head a.sums.head
    (c.sort_unstable_by_key.ensures.sorted key_of (answers_always _ _ _ (λ f a r g h. search rules)) k d (omega arith)
    l))
