-- The links of a run's path, one a record, from the run's first cycle on.
use Rattle.std.specs.Prelude.{ℕ, ◌+◌, ◌-◌, ◌≡◌, List, [], ◌∷◌, ◌++◌, codes, sum_by, Option, Some, slice_get}
use Rattle.std.specs.List.{flat_map, range_with_len}
use Rattle.std.specs.Fmt.{decimal}
use Rattle.tomex_rvdec.specs.Text.{hex8, instr_text}
use Rattle.tomex_rvexec.specs.declared.step.Step.{Step}
use Rattle.tomex_config.specs.Configuration.{Configuration}
use Rattle.tomex_timing.specs.Search.{history, times_in}
use Rattle.tomex_timing.specs.declared.times.Times.{Times}
use Rattle.tomex_layout.specs.Csv.{record_text}
use Rattle.tomex_path.specs.declared.link.Link.{Link}
use Rattle.tomex_path.specs.Laws.{cycles_of}
use Rattle.tomex_path.specs.Path.{path_of}
use Rattle.tomex_path_views.specs.ByReason.{name_of_reason}
use Rattle.tomex_run_views.specs.ByPlace.{dashes}
use Rattle.tomex_run_views.specs.Chart.{sign_in}

-- what a step does in the cycles of its link, a sign a cycle
abbrev pub signs : Times → Link → List ℕ
signs at l = flat_map (sign_in at) (range_with_len l.from (l.to + 1 - l.from))

-- why a link begins no earlier, how long its step had waited for that, its cycles, and what the step does in them
abbrev pub cycle_fields : Link → Times → List (List ℕ)
cycle_fields l at =
    name_of_reason l.reason ∷ decimal l.waits ∷ decimal l.from ∷ decimal l.to ∷ decimal (cycles_of l) ∷ signs at l ∷ []

-- the fields of a link, and those of more columns that say something of its step
abbrev pub link_fields : (Step → List (List ℕ)) → Link → Step → Times → List (List ℕ)
link_fields own l step at =
    decimal l.step ∷ hex8 step.pc ∷ instr_text step.instr ∷ own step ++ cycle_fields l at

-- the record of a link, whose step is one of the run's
abbrev pub record_of : (Step → List (List ℕ)) → Link → Option Step → Option Times → List ℕ
record_of own l (Some step) (Some at) = record_text (link_fields own l step at)
record_of own l _ _ = []

unfoldable pub link_record : (Step → List (List ℕ)) → List Step → List Times → Link → List ℕ
link_record own steps times l = record_of own l (slice_get steps (l.step - 1)) (slice_get times (l.step - 1))

-- the names of the columns before those of more columns, and after them
abbrev pub first_columns : List (List ℕ)
first_columns = codes "step" ∷ codes "pc" ∷ codes "instr" ∷ []

abbrev pub last_columns : List (List ℕ)
last_columns = codes "reason" ∷ codes "waits" ∷ codes "from" ∷ codes "to" ∷ codes "cycles" ∷ codes "signs" ∷ []

-- how long the links' steps had waited, and how many cycles are theirs
abbrev pub total_fields : List (List ℕ) → List Link → List (List ℕ)
total_fields names path =
    codes "total" ∷ codes "-" ∷ codes "-" ∷ dashes names
    ++ codes "-" ∷ decimal (sum_by (λ l. l.waits) path) ∷ codes "-" ∷ codes "-" ∷ decimal (sum_by cycles_of path)
    ∷ codes "-" ∷ []

-- with more columns of these names
abbrev pub report_by_link : List (List ℕ) → (Step → List (List ℕ)) → List Step → List Times → List Link → List ℕ
report_by_link names own steps times path =
    record_text (first_columns ++ (names ++ last_columns))
    ++ (flat_map (link_record own steps times) path ++ record_text (total_fields names path))

-- the text has the links of a run's path on a configuration, with more columns
abbrev pub IsLinksWith : List (List ℕ) → (Step → List (List ℕ)) → Configuration → List Step → List ℕ → Type 0
IsLinksWith names own config steps text =
    text ≡ report_by_link names own steps (times_in config steps) (path_of config (history config steps))

-- and with none
abbrev pub IsPathLinks : Configuration → List Step → List ℕ → Type 0
IsPathLinks config steps text = IsLinksWith [] (λ step. []) config steps text
