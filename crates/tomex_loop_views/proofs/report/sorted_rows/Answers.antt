-- The rows are moved, and so are their lines.
use Rattle.std.proofs.Common.{List, map, subst}
use Rattle.std.specs.Prelude.{IsPermutation}
use Rattle.std.proofs.lemmas.List.Sorted.{IsPermutation-map}
use Rattle.tomex_loop_views.specs.Table.{Line, line_of}
use Rattle.tomex_loop_views.proofs.report.sorted_rows.Goals as goal

pub returns-clause-those : goal.returns-clause-those
returns-clause-those g c =
    subst (λ (lines : List Line). IsPermutation lines (map line_of c.sort_rows.new.rows.items)) c.in_ok-rows.ensures
    (IsPermutation-map line_of c.in_ok-rows.rows.items c.sort_rows.new.rows.items c.sort_rows.ensures.moved)
