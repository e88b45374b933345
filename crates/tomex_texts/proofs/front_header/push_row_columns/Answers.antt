-- The names are in their order, with that of widths if these are shown.
use Rattle.std.proofs.Common.{[], ◌∷◌, ◌++◌}
use Rattle.std.specs.Prelude.{codes}
use Rattle.std.proofs.lemmas.Result.{on_ok_weaker}
use Rattle.tomex_layout.proofs.Pieces.{joined}
use Rattle.tomex_texts.specs.FrontReport.{if_wide, station_columns, unit_columns}
use Rattle.tomex_texts.proofs.front_header.push_row_columns.Goals as goal

pub returns-clause-fields : goal.returns-clause-fields
returns-clause-fields c =
    on_ok_weaker c.push_if_wide.result
    (λ h. joined _ _ _ (station_columns ++ (unit_columns ++ codes "buses" ∷ [])) (if_wide c.args.wide (codes "width"))
    (rw c.as_slice.ensures at c.in_ok-push_names.ensures.fields) h)
    c.push_if_wide.ensures.fields
