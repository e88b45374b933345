-- What is added up under a name is what the steps of that name take.
use Rattle.std.proofs.Common.{◌≡◌, ◌∙◌, refl, sym, ℕ, List, Option, cond}
use Rattle.std.specs.Prelude.{filter, sum_by}
use Rattle.tomex_symbols.specs.Symbols.{symbols_of}
use Rattle.tomex_symbols.proofs.Entries.{symbols_numbered}
use Rattle.tomex_run_views.specs.ByPlace.{visits_in}
use Rattle.tomex_run_views.specs.declared.tally.Sum.{Sum}
use Rattle.tomex_run_views.proofs.SumsOfPlaces.{ones}
use Rattle.tomex_functions.specs.Calls.{calls_in}
use Rattle.tomex_functions.specs.declared.rows.Row.{Row}
use Rattle.tomex_functions.specs.declared.shares.Share.{Share}
use Rattle.tomex_functions.specs.Changes.{entries_of, entry_of}
use Rattle.tomex_functions.specs.ChangeLaws.{NamesHaveTheirSteps}
use Rattle.tomex_functions.specs.Shares.{Entry, entries_named, same_name}
use Rattle.tomex_functions.proofs.CallsOf.{rows_have_calls}
use Rattle.tomex_functions.proofs.Listed.{sum_of_entries}
use Rattle.tomex_functions.proofs.OfSteps.{has_step, kept_sum, rows_have_steps}

abbrev share : ℕ → ℕ → ℕ → Share
share calls steps cycles = record { calls = calls; steps = steps; cycles = cycles }

same_share : {a b c d e f : ℕ} → a ≡ d → b ≡ e → c ≡ f → share a b c ≡ share d e f
same_share p q r = rw (p, q, r) refl

-- a number of a name's entries is one of the rows of that name
of_rows : (f : Entry → ℕ) (file : List ℕ) (name : Option (List ℕ)) (rows : List Row)
    → sum_by f (entries_named name (entries_of file rows))
    ≡ sum_by (λ row. cond (same_name name (entry_of file row).name) (f (entry_of file row)) 0) rows
of_rows f file name rows =
    kept_sum f (λ e. same_name name e.name) (entries_of file rows)
    ∙ sum_of_entries (λ e. cond (same_name name e.name) (f e) 0) file rows

pub names_have_their_steps : NamesHaveTheirSteps
names_have_their_steps config b rows name are =
    let file = b.file in
    let symbols = symbols_of b.file in
    let numbered = symbols_numbered b.file in
    let calls = of_rows (λ e. e.share.calls) file name rows
    ∙ rows_have_calls file symbols numbered name config b.steps rows are in
    let steps = of_rows (λ e. e.share.steps) file name rows
    ∙ (rows_have_steps file symbols numbered name (λ (sum : Sum). sum.steps) (λ v. 1) (λ visits. ones visits)
    (calls_in symbols b.steps) (visits_in config b.steps) rows are
    ∙ sym (ones (filter (λ v. has_step file symbols numbered name v.step) (visits_in config b.steps)))) in
    let cycles = of_rows (λ e. e.share.cycles) file name rows
    ∙ rows_have_steps file symbols numbered name (λ (sum : Sum). sum.cycles) (λ v. v.cycles) (λ visits. refl)
    (calls_in symbols b.steps) (visits_in config b.steps) rows are in
    same_share calls steps cycles
