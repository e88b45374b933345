-- What the rows of a listing have together fits, as the listing's own sums do.
use Rattle.std.proofs.Common.{◌≡◌, ◌∙◌, arith, refl, sym, ap, ℕ, List, [], ◌∷◌, length, map}
use Rattle.std.specs.Prelude.{sum_by}
use Rattle.std.proofs.lemmas.List.Sums.{sum_by-cons}
use Rattle.tomex_rvexec.specs.declared.step.Step.{Step}
use Rattle.tomex_config.specs.Configuration.{Configuration}
use Rattle.tomex_symbols.specs.declared.symbol.Symbol.{Symbol}
use Rattle.tomex_run_views.specs.ByPlace.{cycles_of, visits_in}
use Rattle.tomex_run_views.specs.declared.tally.Sum.{Sum}
use Rattle.tomex_run_views.proofs.SumsOfPlaces.{ones}
use Rattle.tomex_functions.specs.ByFunction.{AreRows}
use Rattle.tomex_functions.specs.Calls.{calls_in}
use Rattle.tomex_functions.specs.Kept.{IsListing}
use Rattle.tomex_functions.specs.declared.rows.Listing.{Listing}
use Rattle.tomex_functions.specs.declared.rows.Row.{Row}
use Rattle.tomex_functions.proofs.CallSums.{calls_add_up}
use Rattle.tomex_functions.proofs.RowSums.{rows_add_up}
use Rattle.tomex_functions.specs.declared.shares.Share.{Share}
use Rattle.tomex_functions.specs.Changes.{entries_of, entry_of}
use Rattle.tomex_functions.specs.ChangesKept.{listing_share}
use Rattle.tomex_functions.specs.Shares.{Entry, Fits, share_of}

pub sum_of_map : {X Y : Type 0} (f : Y → ℕ) (g : X → Y) (xs : List X) → sum_by f (map g xs) ≡ sum_by (λ x. f (g x)) xs
sum_of_map f g [] = refl
sum_of_map f g (x ∷ xs) =
    omega (arith, sum_by-cons f (g x) (map g xs), sum_by-cons (λ x. f (g x)) x xs, sum_of_map f g xs)

-- a number of the entries of rows is one of the rows
pub sum_of_entries : (f : Entry → ℕ) (file : List ℕ) (rows : List Row)
    → sum_by f (entries_of file rows) ≡ sum_by (λ row. f (entry_of file row)) rows
sum_of_entries f file rows = sum_of_map f (entry_of file) rows

module _ (file : List ℕ) (symbols : List Symbol) (config : Configuration) (steps : List Step) (rows : List Row)
    (are : AreRows symbols (calls_in symbols steps) (visits_in config steps) rows) where
  pub calls_are : sum_by (λ e. e.share.calls) (entries_of file rows) ≡ length (calls_in symbols steps)
  calls_are = sum_of_entries (λ e. e.share.calls) file rows ∙ calls_add_up symbols config steps rows are

  pub steps_are : sum_by (λ e. e.share.steps) (entries_of file rows) ≡ length (visits_in config steps)
  steps_are =
      sum_of_entries (λ e. e.share.steps) file rows
      ∙ (rows_add_up (λ (sum : Sum). sum.steps) (λ v. 1) symbols (calls_in symbols steps) (visits_in config steps) rows
      (λ visits. ones visits) are
      ∙ sym (ones (visits_in config steps)))

  pub cycles_are : sum_by (λ e. e.share.cycles) (entries_of file rows) ≡ cycles_of (visits_in config steps)
  cycles_are =
      sum_of_entries (λ e. e.share.cycles) file rows
      ∙ rows_add_up (λ (sum : Sum). sum.cycles) (λ v. v.cycles) symbols (calls_in symbols steps)
      (visits_in config steps) rows (λ visits. refl) are

pub listing_fits : {A : Type 0} (file : List ℕ) (symbols : List Symbol) (config : Configuration) (steps : List Step)
    (listing : Listing A) (total : Share) → IsListing symbols config steps listing → total ≡ listing_share listing
    → Fits total → Fits (share_of (entries_of file listing.rows.items))
listing_fits file symbols config steps listing total is sums fits = record {
  calls = omega (
    arith,
    fits.calls,
    ap (λ (s : Share). s.calls) sums,
    is.calls,
    calls_are file symbols config steps listing.rows.items is.rows,
  );
  steps = omega (
    arith,
    fits.steps,
    ap (λ (s : Share). s.steps) sums,
    ap (λ (sum : Sum). sum.steps) is.all,
    steps_are file symbols config steps listing.rows.items is.rows,
  );
  cycles = omega (
    arith,
    fits.cycles,
    ap (λ (s : Share). s.cycles) sums,
    ap (λ (sum : Sum). sum.cycles) is.all,
    cycles_are file symbols config steps listing.rows.items is.rows,
  );
}
