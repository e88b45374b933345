-- Laws of the report of two builds, function by function.
use Rattle.std.specs.Prelude.{◌≡◌, ℕ, ◌+◌, ◌-◌, List, [], ◌∷◌, ◌++◌, Option, Some, None, count_by, filter, length}
use Rattle.std.specs.Prelude.{map, option_map, sum_by}
use Rattle.std.specs.List.{Contains}
use Rattle.std.specs.Str.{bytes_eq}
use Rattle.tomex_rvexec.specs.declared.step.Step.{Step}
use Rattle.tomex_config.specs.Configuration.{Configuration, IsWithinLimits}
use Rattle.tomex_timing.specs.Search.{times_in, total_of}
use Rattle.tomex_symbols.specs.Symbols.{symbols_of}
use Rattle.tomex_symbols.specs.declared.symbol.Symbol.{Symbol}
use Rattle.tomex_run_views.specs.ByPlace.{cycles_of, visits_in}
use Rattle.tomex_functions.specs.Calls.{calls_in}
use Rattle.tomex_functions.specs.Functions.{function_of}
use Rattle.tomex_functions.specs.ShownNames.{shown_function}
use Rattle.tomex_functions.specs.declared.rows.Row.{Row}
use Rattle.tomex_functions.specs.Changes.{AreRowsOf, Build, both_of, drain_share, entries_of, nameless}
use Rattle.tomex_functions.specs.Changes.{total_share}
use Rattle.tomex_functions.specs.Shares.{AreNames, Both, change_named, entries_named, same_name, share_of}
use Rattle.tomex_functions.specs.declared.shares.Share.{Share}
use Rattle.tomex_functions.specs.declared.shares.Change.{Change}

-- the name under which the function of a step is shown, if it has one
abbrev pub name_of_step : List ℕ → Step → Option (List ℕ)
name_of_step file step = option_map (shown_function file) (function_of (symbols_of file) step)

-- what the steps of a name take of a build's run: the calls among them, how many they are, and their cycles
abbrev pub share_of_steps : Configuration → Build → Option (List ℕ) → Share
share_of_steps config b name =
    let visits = filter (λ v. same_name name (name_of_step b.file v.step)) (visits_in config b.steps) in
    record {
      calls = count_by (λ s. same_name name (name_of_step b.file s)) (calls_in (symbols_of b.file) b.steps);
      steps = length visits;
      cycles = cycles_of visits;
    }

-- a name has what its steps take: static functions of two files are one record if they share a name
abbrev pub NamesHaveTheirSteps : Type 0
NamesHaveTheirSteps = (config : Configuration) (b : Build) (rows : List Row) (name : Option (List ℕ))
    → AreRowsOf config b rows
    → share_of (entries_named name (entries_of b.file rows)) ≡ share_of_steps config b name

-- what the records of a report say, all above that of the sums
abbrev pub one_or_none : Option Change → List Change
one_or_none None = []
one_or_none (Some change) = change ∷ []

abbrev pub records_of : Both → Change → List (List ℕ) → List Change
records_of both drain names =
    map (λ name. change_named both (Some name)) names ++ (one_or_none (nameless both) ++ drain ∷ [])

-- the sum of each column
abbrev pub sum_of_changes : List Change → Change
sum_of_changes changes = record {
  old = record {
    calls = sum_by (λ c. c.old.calls) changes;
    steps = sum_by (λ c. c.old.steps) changes;
    cycles = sum_by (λ c. c.old.cycles) changes;
  };
  new = record {
    calls = sum_by (λ c. c.new.calls) changes;
    steps = sum_by (λ c. c.new.steps) changes;
    cycles = sum_by (λ c. c.new.cycles) changes;
  };
}

abbrev pub total_change : Configuration → Build → Build → Change
total_change config old new = record { old = total_share config old; new = total_share config new }

abbrev pub drain_change : Configuration → Build → Build → Change
drain_change config old new = record { old = drain_share config old; new = drain_share config new }

-- what a report of two builds says, of their rows by function
pub record AreChanges (config : Configuration) (old new : Build) (both : Both) (names : List (List ℕ)) : Type 0 where
  pub old_rows : List Row
  pub new_rows : List Row
  pub of_old : AreRowsOf config old old_rows
  pub of_new : AreRowsOf config new new_rows
  pub both_is : both ≡ both_of old.file old_rows new.file new_rows
  pub are_names : AreNames both names

-- each column adds up to the record of the sums
abbrev pub ColumnsAddUp : Type 0
ColumnsAddUp = (config : Configuration) (old new : Build) (both : Both) (names : List (List ℕ))
    → AreChanges config old new both names
    → sum_of_changes (records_of both (drain_change config old new) names) ≡ total_change config old new

-- so do the differences: the cycles more, less the cycles fewer, are by how many the totals differ
abbrev pub DifferencesAddUp : Type 0
DifferencesAddUp = (config : Configuration) (old new : Build) (both : Both) (names : List (List ℕ))
    → AreChanges config old new both names
    → let records = records_of both (drain_change config old new) names in
    (total_share config old).cycles + sum_by (λ c. c.new.cycles - c.old.cycles) records
    ≡ (total_share config new).cycles + sum_by (λ c. c.old.cycles - c.new.cycles) records

-- the totals are the cycles of the runs, as times reports have them
abbrev pub TotalsAreCycles : Type 0
TotalsAreCycles = (config : Configuration) (b : Build) → IsWithinLimits config
    → (total_share config b).cycles ≡ total_of (times_in config b.steps)

-- each name of either build's report by function stands once: of its rows, each with a function
abbrev pub NamesStandOnce : Type 0
NamesStandOnce = (config : Configuration) (old new : Build) (both : Both) (names : List (List ℕ))
    → (is : AreChanges config old new both names) → record {
      old : (row : Row) (f : Symbol) → Contains is.old_rows row → row.function ≡ Some f
          → count_by (λ name. bytes_eq name (shown_function old.file f)) names ≡ 1;
      new : (row : Row) (f : Symbol) → Contains is.new_rows row → row.function ≡ Some f
          → count_by (λ name. bytes_eq name (shown_function new.file f)) names ≡ 1;
    }
