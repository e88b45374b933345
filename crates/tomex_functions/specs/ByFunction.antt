-- The stalls report by function: a record for each function that is that of a step, those with the most cycles first.
use Rattle.std.specs.Prelude.{◌≡◌, ℕ, ◌+◌, ◌<◌, ◌==◌, nat_lt, Bool, true, false, ◌&&◌, ◌||◌, List, [], ◌∷◌, ◌++◌, codes}
use Rattle.std.specs.Prelude.{Option, Some, None, IsPermutation, length, slice_index_or}
use Rattle.std.specs.List.{flat_map}
use Rattle.std.specs.Fmt.{decimal}
use Rattle.tomex_rvdec.specs.Text.{hex8}
use Rattle.tomex_rvexec.specs.declared.step.Step.{Step}
use Rattle.tomex_config.specs.Configuration.{Configuration}
use Rattle.tomex_timing.specs.Needs.{drain}
use Rattle.tomex_timing.specs.Search.{history}
use Rattle.tomex_layout.specs.Csv.{record_text}
use Rattle.tomex_run_views.specs.ByPlace.{AreKeys, Visit, drain_fields, sum_columns, total_fields, visits_in, visits_of}
use Rattle.tomex_run_views.specs.Tally.{fields_of_sum, sum_of}
use Rattle.tomex_symbols.specs.declared.symbol.Symbol.{Symbol}
use Rattle.tomex_symbols.specs.Symbols.{symbols_of}
use Rattle.tomex_functions.specs.declared.rows.Row.{Row}
use Rattle.tomex_functions.specs.Calls.{calls_in, calls_of}
use Rattle.tomex_functions.specs.Functions.{function_key, function_of}
use Rattle.tomex_functions.specs.ShownNames.{name_field}

-- the row of the steps of one function, of which there may be none
abbrev pub rows_of_visits : List Symbol → List Step → List Visit → List Row
rows_of_visits symbols calls [] = []
rows_of_visits symbols calls (v ∷ visits) = record {
  function = function_of symbols v.step;
  calls = calls_of symbols (function_key symbols v.step) calls;
  sum = sum_of (v ∷ visits);
} ∷ []

-- the rows of the functions of these keys
abbrev pub rows_at : List Symbol → List Step → List Visit → List ℕ → List Row
rows_at symbols calls visits keys =
    flat_map (λ k. rows_of_visits symbols calls (visits_of (function_key symbols) k visits)) keys

-- a row goes before another if it has more cycles, or as many and a lower address, or there a lower number in the
-- table; that of steps without a function goes before none
abbrev pub goes_before : Option Symbol → ℕ → Option Symbol → ℕ → Bool
goes_before None _ _ _ = false
goes_before (Some f) cycles None others = true
goes_before (Some f) cycles (Some g) others =
    nat_lt others cycles
    || cycles == others && (nat_lt f.address g.address || f.address == g.address && nat_lt f.number g.number)

abbrev pub row_goes_before : Row → Row → Bool
row_goes_before a b = goes_before a.function a.sum.cycles b.function b.sum.cycles

abbrev pub InOrder : List Row → Type 0
InOrder rows = (k : ℕ) (d : Row) → k + 1 < length rows
    → row_goes_before (slice_index_or rows (k + 1) d) (slice_index_or rows k d) ≡ false

-- the rows of a run's functions, in the order of the report
abbrev pub AreRows : List Symbol → List Step → List Visit → List Row → Type 0
AreRows symbols calls visits rows =
    (keys : List ℕ) × AreKeys (function_key symbols) visits keys
    × IsPermutation (rows_at symbols calls visits keys) rows × InOrder rows

abbrev pub address_field : Option Symbol → List ℕ
address_field None = codes "-"
address_field (Some f) = hex8 f.address

abbrev pub call_fields : Row → List (List ℕ)
call_fields row = decimal row.calls ∷ fields_of_sum row.sum

abbrev pub row_fields : List ℕ → Row → List (List ℕ)
row_fields file row = address_field row.function ∷ name_field file row.function ∷ call_fields row

abbrev pub report_at : List ℕ → List Row → List Step → ℕ → List Visit → List ℕ
report_at file rows calls drain visits =
    record_text (codes "pc" ∷ codes "function" ∷ codes "calls" ∷ sum_columns)
    ++ (flat_map (λ row. record_text (row_fields file row)) rows
    ++ (record_text (codes "drain" ∷ codes "-" ∷ codes "0" ∷ drain_fields drain)
    ++ record_text (codes "total" ∷ codes "-" ∷ decimal (length calls) ∷ total_fields drain visits)))

abbrev pub IsReport : List ℕ → List Symbol → List Step → ℕ → List Visit → List ℕ → Type 0
IsReport file symbols calls drain visits text =
    (rows : List Row) × AreRows symbols calls visits rows × (text ≡ report_at file rows calls drain visits)

-- the text is the report of a run's steps on a configuration, by the symbols of a file
abbrev pub IsReportByFunction : List ℕ → Configuration → List Step → List ℕ → Type 0
IsReportByFunction file config steps text =
    IsReport file (symbols_of file) (calls_in (symbols_of file) steps) (drain (history config steps))
    (visits_in config steps) text
