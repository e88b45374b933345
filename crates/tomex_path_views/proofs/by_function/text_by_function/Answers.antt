-- The rows in their order are the report.
use Rattle.std.proofs.Common.{◌∙◌, ap, List}
use Rattle.std.proofs.lemmas.Result.{IfOk-weaker}
use Rattle.tomex_timing.specs.Search.{history}
use Rattle.tomex_functions.specs.Functions.{function_key}
use Rattle.tomex_functions.specs.declared.rows.Row.{Row}
use Rattle.tomex_path.specs.Path.{path_of}
use Rattle.tomex_path_views.specs.ByFunction.{report_of_sums}
use Rattle.tomex_path_views.proofs.Reports.{groups_have, rows_of_file}
use Rattle.tomex_symbols.specs.Symbols.{symbols_of}
use Rattle.tomex_path_views.proofs.by_function.text_by_function.Goals as goal

pub count_by_function-requires-clause-index : goal.count_by_function-requires-clause-index
count_by_function-requires-clause-index g c = (symbols_of c.args.file.now, c.in_ok-index.ensures)

pub returns : goal.returns
returns g c =
    let file = c.args.file.now in
    let config = c.args.config.now in
    let steps = c.args.run.now in
    let tally = c.in_ok-tally.tally in
    let counted = c.in_ok-tally.ensures (symbols_of file) c.in_ok-index.ensures in
    let ordered = c.in_ok-rows.ensures.order in
    let have = groups_have (function_key (symbols_of file)) steps (path_of config (history config steps)) tally counted
    ordered in
    let made = c.in_ok-rows.ensures.rows (symbols_of file) steps c.in_ok-index.ensures have in
    IfOk-weaker c.text_of_rows.result _ _ (λ text written. rows_of_file file config steps tally _ _ text.items counted
    ordered made c.sort_rows.ensures.moved c.sort_rows.ensures.order
    (written ∙ ap (λ (rows : List Row). report_of_sums file rows tally.all) c.as_slice.ensures.value))
    c.text_of_rows.ensures
