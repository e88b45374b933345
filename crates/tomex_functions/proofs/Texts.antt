-- The texts of what was counted are the reports.
use Rattle.std.proofs.Common.{◌≡◌, ◌∙◌, arith, ap, ap₂, refl, subst, ℕ, suc, false, List, [], ◌∷◌}
use Rattle.std.proofs.Common.{◌++◌, codes, length}
use Rattle.std.specs.Prelude.{nat_lt}
use Rattle.std.proofs.lemmas.Bool.{ltb-false}
use Rattle.std.specs.BTreeMap.{IsOrdered}
use Rattle.std.specs.Fmt.{decimal}
use Rattle.std.specs.List.{flat_map}
use Rattle.std.specs.Ordering.{nat_cmp}
use Rattle.tomex_rvexec.specs.declared.step.Step.{Step}
use Rattle.tomex_config.specs.Configuration.{Configuration}
use Rattle.tomex_layout.specs.Csv.{record_text}
use Rattle.tomex_symbols.specs.declared.symbol.Symbol.{Symbol}
use Rattle.tomex_symbols.specs.Symbols.{has_symbols, symbols_of}
use Rattle.tomex_run_views.specs.ByPlace.{pc_of, sum_columns}
use Rattle.tomex_run_views.specs.Tally.{IsCounted, fields_of_sum, report_of_counted}
use Rattle.tomex_run_views.specs.declared.counted.Counted.{Counted}
use Rattle.tomex_run_views.specs.declared.tally.Sum.{Sum}
use Rattle.tomex_run_views.proofs.Reports.{report_of}
use Rattle.tomex_functions.specs.ByFunction.{IsReportByFunction, row_fields}
use Rattle.tomex_functions.specs.Calls.{calls_in}
use Rattle.tomex_functions.specs.ByPlace.{IsReportByPlace, function_columns, function_fields}
use Rattle.tomex_functions.specs.Kept.{IsListing, report_of_listing}
use Rattle.tomex_functions.specs.declared.rows.Listing.{Listing}

by_symbols : {A : Type 0} (file : List ℕ) (config : Configuration) (steps : List Step) (listing : Listing A)
    (text : List ℕ) → IsListing (symbols_of file) config steps listing → text ≡ report_of_listing file listing
    → IsReportByFunction file config steps text
by_symbols file config steps listing text is written =
    let rows = flat_map (λ row. record_text (row_fields file row)) listing.rows.items in (
      listing.rows.items,
      is.rows,
      written
          ∙ (ap (λ (n : ℕ). record_text (codes "pc" ∷ codes "function" ∷ codes "calls" ∷ sum_columns) ++ (rows
          ++ (record_text (codes "drain" ∷ codes "-" ∷ codes "0" ∷ fields_of_sum listing.drain)
          ++ record_text (codes "total" ∷ codes "-" ∷ decimal n ∷ fields_of_sum listing.total)))) is.calls
          ∙ ap₂ (λ (d t : Sum). record_text (codes "pc" ∷ codes "function" ∷ codes "calls" ∷ sum_columns) ++ (rows
          ++ (record_text (codes "drain" ∷ codes "-" ∷ codes "0" ∷ fields_of_sum d)
          ++ record_text (codes "total" ∷ codes "-" ∷ decimal (length (calls_in (symbols_of file) steps))
          ∷ fields_of_sum t)))) is.last is.all),
    )

pub report_by_function : {A : Type 0} (file : List ℕ) (symbols : List Symbol) (config : Configuration)
    (made steps : List Step) (listing : Listing A) (text : List ℕ) → symbols ≡ symbols_of file → made ≡ steps
    → IsListing symbols config made listing → text ≡ report_of_listing file listing
    → IsReportByFunction file config steps text
report_by_function file symbols config made steps listing text are same is written =
    by_symbols file config steps listing text
    (subst (λ (ss : List Symbol). IsListing ss config steps listing) are
    (subst (λ (xs : List Step). IsListing symbols config xs listing) same is)) written

pub report_by_place : {A : Type 0} (file : List ℕ) (symbols : List Symbol) (config : Configuration)
    (made steps : List Step) (counted : Counted A) (text : List ℕ) → symbols ≡ symbols_of file → made ≡ steps
    → IsCounted pc_of config made counted → IsOrdered nat_cmp counted.tally.groups
    → text ≡ report_of_counted function_columns (function_fields file symbols) counted
    → IsReportByPlace file config steps text
report_by_place file symbols config made steps counted text are same is ordered written =
    subst (λ (ss : List Step). IsReportByPlace file config ss text) same
    (report_of function_columns (function_fields file (symbols_of file)) config made counted is ordered text
    (subst (λ (ss : List Symbol). text ≡ report_of_counted function_columns (function_fields file ss) counted) are
    written))

-- a file without symbols
pub no_symbols : (file : List ℕ) → has_symbols file ≡ false → symbols_of file ≡ []
no_symbols file has = empty (symbols_of file) has
  where
    empty : (ss : List Symbol) → nat_lt 0 (length ss) ≡ false → ss ≡ []
    empty [] e = refl
    empty (s ∷ ss) e = let few = ltb-false 0 (suc (length ss)) e in absurd (omega (arith, few))
