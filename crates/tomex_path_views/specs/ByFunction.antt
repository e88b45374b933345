-- A run's path with the functions of its steps: by function, those with the most cycles first, and the functions of
-- links and places.
use Rattle.std.specs.Prelude.{◌≡◌, ℕ, List, [], ◌∷◌, ◌++◌, codes}
use Rattle.std.specs.List.{flat_map}
use Rattle.tomex_rvexec.specs.declared.step.Step.{Step}
use Rattle.tomex_config.specs.Configuration.{Configuration}
use Rattle.tomex_layout.specs.Csv.{record_text}
use Rattle.tomex_functions.specs.declared.rows.Row.{Row}
use Rattle.tomex_functions.specs.ByFunction.{AreRows, address_field}
use Rattle.tomex_functions.specs.ByPlace.{function_columns, function_fields}
use Rattle.tomex_functions.specs.ShownNames.{name_field}
use Rattle.tomex_path_views.specs.ByLink.{IsLinksWith}
use Rattle.tomex_path_views.specs.ByPlace.{IsPlacesWith}
use Rattle.tomex_path_views.specs.Charges.{charge_columns, charge_fields, path_visits}
use Rattle.tomex_run_views.specs.Tally.{sum_of}
use Rattle.tomex_run_views.specs.declared.tally.Sum.{Sum}
use Rattle.tomex_symbols.specs.Symbols.{symbols_of}

abbrev pub row_fields : List ℕ → Row → List (List ℕ)
row_fields file row = address_field row.function ∷ name_field file row.function ∷ charge_fields row.sum

-- the report of these rows, and of what all links have
abbrev pub report_of_sums : List ℕ → List Row → Sum → List ℕ
report_of_sums file rows all =
    record_text (codes "pc" ∷ codes "function" ∷ charge_columns)
    ++ (flat_map (λ row. record_text (row_fields file row)) rows
    ++ record_text (codes "total" ∷ codes "-" ∷ charge_fields all))

-- the text is the report of a run's path by function; a call is no link, so none is counted
abbrev pub IsPathByFunction : List ℕ → Configuration → List Step → List ℕ → Type 0
IsPathByFunction file config steps text =
    let visits = path_visits config steps in
    (rows : List Row) × AreRows (symbols_of file) [] visits rows × (text ≡ report_of_sums file rows (sum_of visits))

-- the text is the report by place with the function of each
abbrev pub IsPathByPlace : List ℕ → Configuration → List Step → List ℕ → Type 0
IsPathByPlace file config steps text =
    IsPlacesWith function_columns (function_fields file (symbols_of file)) config steps text

-- the text has the links with the function of each
abbrev pub IsPathLinks : List ℕ → Configuration → List Step → List ℕ → Type 0
IsPathLinks file config steps text =
    IsLinksWith function_columns (function_fields file (symbols_of file)) config steps text
