-- The row of one more loop.
use Rattle.std.proofs.Common.{◌∙◌, ◌++◌, ◌∷◌, [], List, ap, map, sym}
use Rattle.std.proofs.lemmas.List.{map_push}
use Rattle.tomex_loop_views.specs.declared.row.LoopRow.{LoopRow}
use Rattle.tomex_loop_views.specs.Lines.{line_at, lines_to}
use Rattle.tomex_loop_views.specs.Table.{Line, line_of}
use Rattle.tomex_loop_views.proofs.OneMore.{one_more}
use Rattle.tomex_loop_views.proofs.lines.rows_of.Goals as goal

pub loop-n-preserved : goal.loop-n-preserved
loop-n-preserved g c =
    ap (λ (rows : List LoopRow). map line_of rows) c.in_ok-push.ensures.items
    ∙ map_push line_of c.loop-n.rows.items c.row_of.result
    ∙ ap (λ (lines : List Line). lines ++ line_of c.row_of.result ∷ []) c.loop-n.invariant
    ∙ ap (λ (line : Line). lines_to c.args.columns.now c.loop-n.n ++ line ∷ []) c.row_of.ensures
    ∙ sym (one_more (line_at c.args.columns.now) c.loop-n.n)
