-- Two builds of a program on a configuration, function by function.
use Rattle.std.specs.Prelude.{◌≡◌, ℕ, ◌+◌, List, [], ◌∷◌, ◌++◌, Option, Some, None, codes, if◌then◌else◌, length}
use Rattle.std.specs.Prelude.{map, option_map}
use Rattle.std.specs.Fmt.{decimal}
use Rattle.std.specs.List.{flat_map}
use Rattle.tomex_rvexec.specs.declared.step.Step.{Step}
use Rattle.tomex_config.specs.Configuration.{Configuration}
use Rattle.tomex_timing.specs.Needs.{drain}
use Rattle.tomex_timing.specs.Search.{history}
use Rattle.tomex_layout.specs.Csv.{record_text}
use Rattle.tomex_run_views.specs.ByPlace.{cycles_of, visits_in}
use Rattle.tomex_symbols.specs.Symbols.{symbols_of}
use Rattle.tomex_functions.specs.ByFunction.{AreRows}
use Rattle.tomex_functions.specs.Calls.{calls_in}
use Rattle.tomex_functions.specs.ShownNames.{shown_function}
use Rattle.tomex_functions.specs.declared.builds.BuildRun.{BuildRun}
use Rattle.tomex_functions.specs.declared.rows.Row.{Row}
use Rattle.tomex_layout.specs.Differences.{signed_difference}
use Rattle.tomex_functions.specs.Shares.{AreNames, Both, Entry, change_named, has_name}
use Rattle.tomex_functions.specs.declared.shares.Share.{Share}
use Rattle.tomex_functions.specs.declared.shares.Change.{Change}

-- what a row of the stalls report by function has, under the name that is shown there
abbrev pub entry_of : List ℕ → Row → Entry
entry_of file row = record {
  name = option_map (shown_function file) row.function;
  share = record { calls = row.calls; steps = row.sum.steps; cycles = row.sum.cycles };
}

abbrev pub entries_of : List ℕ → List Row → List Entry
entries_of file rows = map (entry_of file) rows

abbrev pub both_of : List ℕ → List Row → List ℕ → List Row → Both
both_of old_file old_rows new_file new_rows =
    record { old = entries_of old_file old_rows; new = entries_of new_file new_rows }

-- a build: its file, and the steps of its run
pub record Build : Type 0 where
  pub file : List ℕ
  pub steps : List Step

-- that which the code is given
abbrev pub build_of : {A : Type 0} → BuildRun A → Build
build_of build = record { file = build.file.now; steps = build.run.now }

-- the rows of its stalls report by function
abbrev pub AreRowsOf : Configuration → Build → List Row → Type 0
AreRowsOf config b rows =
    AreRows (symbols_of b.file) (calls_in (symbols_of b.file) b.steps) (visits_in config b.steps) rows

abbrev pub cycles_share : ℕ → Share
cycles_share cycles = record { calls = 0; steps = 0; cycles = cycles }

-- the cycles after the last issue, which are no step's
abbrev pub drain_share : Configuration → Build → Share
drain_share config b = cycles_share (drain (history config b.steps))

-- all calls and steps of a run, and their cycles with the drain
abbrev pub total_share : Configuration → Build → Share
total_share config b = record {
  calls = length (calls_in (symbols_of b.file) b.steps);
  steps = length (visits_in config b.steps);
  cycles = cycles_of (visits_in config b.steps) + drain (history config b.steps);
}

abbrev pub header : List (List ℕ)
header =
    codes "function" ∷ codes "old_calls" ∷ codes "new_calls" ∷ codes "old_steps" ∷ codes "new_steps"
    ∷ codes "old_cycles" ∷ codes "new_cycles" ∷ codes "difference" ∷ []

-- what is taken of both runs, and by how many cycles the new one takes more or fewer
abbrev pub change_numbers : Change → List (List ℕ)
change_numbers change =
    decimal change.old.calls ∷ decimal change.new.calls ∷ decimal change.old.steps ∷ decimal change.new.steps
    ∷ decimal change.old.cycles ∷ decimal change.new.cycles
    ∷ signed_difference change.old.cycles change.new.cycles ∷ []

abbrev pub change_fields : List ℕ → Change → List (List ℕ)
change_fields name change = name ∷ change_numbers change

-- what steps without a function take, if one of the runs has any
abbrev pub nameless : Both → Option Change
nameless both = if has_name both None then Some (change_named both None) else None

abbrev pub nameless_record : Option Change → List ℕ
nameless_record None = []
nameless_record (Some change) = record_text (change_fields (codes "-") change)

abbrev pub report_at : Both → Change → Change → List (List ℕ) → List ℕ
report_at both drain total names =
    record_text header
    ++ (flat_map (λ name. record_text (change_fields name (change_named both (Some name)))) names
    ++ (nameless_record (nameless both)
    ++ (record_text (change_fields (codes "drain") drain)
    ++ record_text (change_fields (codes "total") total))))

abbrev pub IsReport : Both → Change → Change → List ℕ → Type 0
IsReport both drain total text =
    (names : List (List ℕ)) × AreNames both names × (text ≡ report_at both drain total names)

-- the text is the report of two builds on a configuration
pub record IsFunctionChanges (config : Configuration) (old new : Build) (text : List ℕ) : Type 0 where
  pub old_rows : List Row
  pub new_rows : List Row
  pub of_old : AreRowsOf config old old_rows
  pub of_new : AreRowsOf config new new_rows
  pub report : IsReport (both_of old.file old_rows new.file new_rows)
      (record { old = drain_share config old; new = drain_share config new })
      (record { old = total_share config old; new = total_share config new }) text
