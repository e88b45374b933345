-- The stalls report by place in the program: a record for each address at which the run has a step, in ascending
-- order, with how many steps it has there, how many cycles they take, and how long they wait for what. A report may
-- have more columns that say something of a place, such as its function.
use Rattle.std.specs.Prelude.{◌≡◌, ℕ, ◌+◌, ◌-◌, ◌==◌, List, [], ◌∷◌, ◌++◌, codes, filter, length, map, sum_by}
use Rattle.std.specs.List.{flat_map, list_any}
use Rattle.std.specs.List.Sorted.{IsStrictlySortedBy}
use Rattle.std.specs.Ordering.{nat_cmp}
use Rattle.std.specs.Fmt.{decimal}
use Rattle.tomex_rvdec.specs.Text.{hex8, instr_text}
use Rattle.tomex_rvexec.specs.declared.step.Step.{Step}
use Rattle.tomex_config.specs.Configuration.{Configuration}
use Rattle.tomex_timing.specs.Needs.{drain, waits_in}
use Rattle.tomex_timing.specs.Search.{history, times_in}
use Rattle.tomex_timing.specs.declared.need.Waits.{Waits}
use Rattle.tomex_timing.specs.declared.times.Times.{Times}
use Rattle.tomex_layout.specs.Csv.{record_text}

-- a step, how many cycles it issues after the step before it, and how long it waits
pub record Visit : Type 0 where
  pub step : Step
  pub cycles : ℕ
  pub waits : Waits

-- of steps with their times and waits, the step before them having issued in a given cycle
abbrev pub visits_after : ℕ → List Step → List Times → List Waits → List Visit
visits_after issue (s ∷ steps) (at ∷ times) (w ∷ waits) =
    record { step = s; cycles = at.issue - issue; waits = w } ∷ visits_after at.issue steps times waits
visits_after issue _ _ _ = []

-- before the first step is cycle 0
abbrev pub visits_in : Configuration → List Step → List Visit
visits_in config steps = visits_after 0 steps (times_in config steps) (waits_in config steps)

-- those of the steps with a key, as those at an address
abbrev pub visits_of : (Step → ℕ) → ℕ → List Visit → List Visit
visits_of key k visits = filter (λ v. key v.step == k) visits

abbrev pub pc_of : Step → ℕ
pc_of step = step.pc

abbrev pub visits_at : ℕ → List Visit → List Visit
visits_at pc visits = visits_of pc_of pc visits

-- the keys of the steps in ascending order, each once
pub record AreKeys (key : Step → ℕ) (visits : List Visit) (keys : List ℕ) : Type 0 where
  pub ascending : IsStrictlySortedBy nat_cmp keys
  pub those : (k : ℕ) → list_any (λ p. p == k) keys ≡ list_any (λ v. key v.step == k) visits

-- and so their addresses
abbrev pub ArePlaces : List Visit → List ℕ → Type 0
ArePlaces visits pcs = AreKeys pc_of visits pcs

-- how many cycles some steps take, and how long they wait, all together
abbrev pub cycles_of : List Visit → ℕ
cycles_of visits = sum_by (λ v. v.cycles) visits

abbrev pub waits_of_all : List Visit → Waits
waits_of_all visits = record {
  branch = sum_by (λ v. v.waits.branch) visits;
  width = sum_by (λ v. v.waits.width) visits;
  station = sum_by (λ v. v.waits.station) visits;
  operand = sum_by (λ v. v.waits.operand) visits;
  address = sum_by (λ v. v.waits.address) visits;
  memory = sum_by (λ v. v.waits.memory) visits;
  unit = sum_by (λ v. v.waits.unit) visits;
  bus = sum_by (λ v. v.waits.bus) visits;
}

-- the names of the columns of sums
abbrev pub sum_columns : List (List ℕ)
sum_columns =
    codes "steps" ∷ codes "cycles" ∷ codes "branch" ∷ codes "width" ∷ codes "station" ∷ codes "operand"
    ∷ codes "address" ∷ codes "memory" ∷ codes "unit" ∷ codes "bus" ∷ []

-- how many steps there are, how many cycles they take, and how long they wait
abbrev pub sum_fields : ℕ → ℕ → Waits → List (List ℕ)
sum_fields steps cycles waits =
    decimal steps ∷ decimal cycles ∷ decimal waits.branch ∷ decimal waits.width ∷ decimal waits.station
    ∷ decimal waits.operand ∷ decimal waits.address ∷ decimal waits.memory ∷ decimal waits.unit
    ∷ decimal waits.bus ∷ []

abbrev pub fields_of_visits : List Visit → List (List ℕ)
fields_of_visits visits = sum_fields (length visits) (cycles_of visits) (waits_of_all visits)

-- the cycles after the last issue, which are no step's
abbrev pub drain_fields : ℕ → List (List ℕ)
drain_fields drain = sum_fields 0 drain (waits_of_all [])

-- all steps, and the drain
abbrev pub total_fields : ℕ → List Visit → List (List ℕ)
total_fields drain visits = sum_fields (length visits) (cycles_of visits + drain) (waits_of_all visits)

-- the record of the steps at one address, which all have one instruction; `own` gives the fields of more columns
abbrev pub place_record : (Step → List (List ℕ)) → List Visit → List ℕ
place_record own [] = []
place_record own (v ∷ visits) =
    record_text (hex8 v.step.pc ∷ instr_text v.step.instr ∷ own v.step ++ fields_of_visits (v ∷ visits))

-- a dash in each of these columns
abbrev pub dashes : List (List ℕ) → List (List ℕ)
dashes names = map (λ name. codes "-") names

-- with more columns of these names
abbrev pub report_at : List (List ℕ) → (Step → List (List ℕ)) → List ℕ → ℕ → List Visit → List ℕ
report_at names own pcs drain visits =
    record_text (codes "pc" ∷ codes "instr" ∷ names ++ sum_columns)
    ++ (flat_map (λ pc. place_record own (visits_at pc visits)) pcs
    ++ (record_text (codes "drain" ∷ codes "-" ∷ dashes names ++ drain_fields drain)
    ++ record_text (codes "total" ∷ codes "-" ∷ dashes names ++ total_fields drain visits)))

-- the text is the report of a run's steps on a configuration, with more columns
abbrev pub IsReportWith : List (List ℕ) → (Step → List (List ℕ)) → Configuration → List Step → List ℕ → Type 0
IsReportWith names own config steps text =
    let visits = visits_in config steps in
    (pcs : List ℕ) × ArePlaces visits pcs × (text ≡ report_at names own pcs (drain (history config steps)) visits)

-- and with none
abbrev pub IsReportByPlace : Configuration → List Step → List ℕ → Type 0
IsReportByPlace config steps text = IsReportWith [] (λ step. []) config steps text
