-- What is kept of a run's functions while its steps are counted.
use Rattle.std.specs.Prelude.{◌≡◌, ℕ, zero, suc, ◌<◌, List, [], ◌∷◌, ◌++◌, Option, Some, None, codes, length, map}
use Rattle.std.specs.Prelude.{slice_index_or, IsPermutation, unwrap_or}
use Rattle.std.specs.List.{flat_map}
use Rattle.std.specs.List.Sorted.{IsNonDecreasing}
use Rattle.std.specs.BTreeMap.{get}
use Rattle.std.specs.Fmt.{decimal}
use Rattle.std.specs.declared.cmp.Reverse.{Reverse}
use Rattle.std.specs.Ordering.{nat_cmp}
use Rattle.tomex_rvexec.specs.declared.step.Step.{Step}
use Rattle.tomex_symbols.specs.Functions.{function_at}
use Rattle.tomex_symbols.specs.declared.symbol.Symbol.{Symbol}
use Rattle.tomex_config.specs.Configuration.{Configuration}
use Rattle.tomex_timing.specs.Needs.{drain}
use Rattle.tomex_timing.specs.Search.{history}
use Rattle.tomex_layout.specs.Csv.{record_text}
use Rattle.tomex_run_views.specs.declared.tally.Group.{Group}
use Rattle.tomex_run_views.specs.ByPlace.{pc_of, sum_columns, visits_in}
use Rattle.tomex_run_views.specs.Tally.{fields_of_sum, only_drain, sum_of, with_drain}
use Rattle.tomex_functions.specs.declared.index.Index.{Index}
use Rattle.tomex_functions.specs.declared.calls.Calls.{Calls}
use Rattle.tomex_functions.specs.declared.rows.Listing.{Listing}
use Rattle.tomex_functions.specs.declared.rows.Row.{Row}
use Rattle.tomex_functions.specs.ByFunction.{AreRows, address_field, row_fields}
use Rattle.tomex_functions.specs.ByPlace.{function_fields}
use Rattle.tomex_functions.specs.Calls.{calls_in, calls_of}
use Rattle.tomex_functions.specs.Functions.{function_key, function_of}
use Rattle.tomex_functions.specs.ShownNames.{name_field}

-- the addresses of a run's steps, in order, and their functions
pub record IsIndexOf {A : Type 0} (symbols : List Symbol) (steps : List Step) (index : Index A) : Type 0 where
  pub order : IsNonDecreasing index.addresses.items
  pub those : IsPermutation (map pc_of steps) index.addresses.items
  pub functions : index.functions.items ≡ map (function_at symbols) index.addresses.items

-- a step of the run is at the address
abbrev pub HasAddress : ℕ → List Step → Type 0
HasAddress pc steps = (i : ℕ) × (i < length steps) × (slice_index_or (map pc_of steps) i 0 ≡ pc)

-- the step before the one at an index, the first one coming after a given one, if any
abbrev pub before_at : Option Step → ℕ → List Step → Option Step
before_at before zero steps = before
before_at before (suc i) [] = before
before_at before (suc i) (s ∷ steps) = before_at (Some s) i steps

-- how often each function is called, by its key, and how often any is
pub record AreCalls {A : Type 0} (symbols : List Symbol) (steps : List Step) (calls : Calls A) : Type 0 where
  pub by_key : (k : ℕ) → unwrap_or (get nat_cmp calls.by_key k) 0 ≡ calls_of symbols k (calls_in symbols steps)
  pub all : calls.all ≡ length (calls_in symbols steps)

-- the row of what was counted of a function's steps
abbrev pub row_of_group : List Symbol → List Step → Group → Row
row_of_group symbols calls group = record {
  function = function_of symbols group.first;
  calls = calls_of symbols (function_key symbols group.first) calls;
  sum = group.sum;
}

-- the functions of a run on a configuration
pub record IsListing {A : Type 0} (symbols : List Symbol) (config : Configuration) (steps : List Step)
    (listing : Listing A) : Type 0 where
  pub rows : AreRows symbols (calls_in symbols steps) (visits_in config steps) listing.rows.items
  pub last : listing.drain ≡ only_drain (drain (history config steps))
  pub all : listing.total ≡ with_drain (drain (history config steps)) (sum_of (visits_in config steps))
  pub calls : listing.calls ≡ length (calls_in symbols steps)

-- the fields of a row, the last ones by what shows it
abbrev pub fields_by : (Row → List (List ℕ)) → List ℕ → Row → List (List ℕ)
fields_by shown file row = address_field row.function ∷ name_field file row.function ∷ shown row

-- the fields of all steps
abbrev pub total_fields : {A : Type 0} → Listing A → List (List ℕ)
total_fields listing = codes "total" ∷ codes "-" ∷ decimal listing.calls ∷ fields_of_sum listing.total

-- their report
abbrev pub report_of_listing : {A : Type 0} → List ℕ → Listing A → List ℕ
report_of_listing file listing =
    record_text (codes "pc" ∷ codes "function" ∷ codes "calls" ∷ sum_columns)
    ++ (flat_map (λ row. record_text (row_fields file row)) listing.rows.items
    ++ (record_text (codes "drain" ∷ codes "-" ∷ codes "0" ∷ fields_of_sum listing.drain)
    ++ record_text (total_fields listing)))

-- these are the fields of a step's function, if the step is one of the run's
pub record IsFunctionField {A : Type 0} (file : List ℕ) (index : Index A) (step : Step) (own : List (List ℕ))
    : Type 0 where
  pub symbols : List Symbol
  pub steps : List Step
  pub index_is : IsIndexOf symbols steps index
  pub has : HasAddress step.pc steps
  pub own_is : own ≡ function_fields file symbols step

-- what rows are ordered by: is there no function, the cycles, the greatest first, the address, and the number
abbrev pub key_with : ℕ → Option Symbol → ℕ × Reverse ℕ × ℕ × ℕ
key_with cycles (Some f) = (0, record { 0 = cycles }, f.address, f.number)
key_with cycles None = (1, record { 0 = cycles }, 0, 0)

abbrev pub sort_key : Row → ℕ × Reverse ℕ × ℕ × ℕ
sort_key row = key_with row.sum.cycles row.function
