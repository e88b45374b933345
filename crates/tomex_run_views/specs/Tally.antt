-- What is kept of the steps with each key while they are counted.
use Rattle.std.specs.Prelude.{◌≡◌, ℕ, zero, suc, ◌+◌, ◌^◌, ◌<◌, ◌≤◌, All, List, [], ◌∷◌, ◌++◌, Option, Some, None}
use Rattle.std.specs.Prelude.{codes, length}
use Rattle.std.specs.List.{flat_map}
use Rattle.std.specs.BTreeMap.{get, values}
use Rattle.std.specs.Ordering.{nat_cmp}
use Rattle.tomex_rvdec.specs.Text.{hex8, instr_text}
use Rattle.tomex_rvexec.specs.Run.{most_steps}
use Rattle.tomex_rvexec.specs.declared.step.Step.{Step}
use Rattle.tomex_timing.specs.declared.need.Waits.{Waits}
use Rattle.tomex_config.specs.Configuration.{Configuration}
use Rattle.tomex_timing.specs.Needs.{drain}
use Rattle.tomex_timing.specs.Search.{history}
use Rattle.tomex_timing.specs.Waiting.{AreWithin}
use Rattle.tomex_layout.specs.Csv.{record_text}
use Rattle.tomex_run_views.specs.declared.counted.Counted.{Counted}
use Rattle.tomex_run_views.specs.declared.tally.Group.{Group}
use Rattle.tomex_run_views.specs.declared.tally.Sum.{Sum}
use Rattle.tomex_run_views.specs.declared.tally.Tally.{Tally}
use Rattle.tomex_run_views.specs.ByPlace.{Visit, cycles_of, dashes, sum_columns, sum_fields, visits_in, visits_of}
use Rattle.tomex_run_views.specs.ByPlace.{waits_of_all}

-- The cycles of a step, by its waits: it issues after the step before it by the cycles in which it waits to issue. The
-- first step issues by these after cycle 1, and one more after cycle 0.
abbrev pub cycles_by : ℕ → Waits → ℕ
cycles_by first waits = waits.branch + waits.width + waits.station + first

-- the cycle more that the first step takes
abbrev pub more_at : ℕ → ℕ
more_at zero = 1
more_at (suc index) = 0

abbrev pub visit : Step → ℕ → Waits → Visit
visit step cycles waits = record { step = step; cycles = cycles; waits = waits }

-- the visits of steps with these waits, the first of which takes `first` cycles more
abbrev pub visits_by : ℕ → List Step → List Waits → List Visit
visits_by first (s ∷ steps) (w ∷ waits) = visit s (cycles_by first w) w ∷ visits_by 0 steps waits
visits_by first _ _ = []

abbrev pub sum_of : List Visit → Sum
sum_of visits = record { steps = length visits; cycles = cycles_of visits; waits = waits_of_all visits }

abbrev pub no_sum : Sum
no_sum = sum_of []

-- with one step more
abbrev pub sum_after : Sum → ℕ → Waits → Sum
sum_after sum cycles w = record {
  steps = sum.steps + 1;
  cycles = sum.cycles + cycles;
  waits = record {
    branch = sum.waits.branch + w.branch;
    width = sum.waits.width + w.width;
    station = sum.waits.station + w.station;
    operand = sum.waits.operand + w.operand;
    address = sum.waits.address + w.address;
    memory = sum.waits.memory + w.memory;
    unit = sum.waits.unit + w.unit;
    bus = sum.waits.bus + w.bus;
  };
}

-- the sums over the visits of one key, of which there may be none
abbrev pub group_of : List Visit → Option Group
group_of [] = None
group_of (v ∷ visits) = Some (record { first = v.step; sum = sum_of (v ∷ visits) })

-- the sums over visits
pub record IsTally {A : Type 0} (key : Step → ℕ) (visits : List Visit) (tally : Tally A) : Type 0 where
  pub groups : (k : ℕ) → get nat_cmp tally.groups k ≡ group_of (visits_of key k visits)
  pub all : tally.all ≡ sum_of visits

-- a visit that takes and waits for a small number of cycles
pub record IsSmall (v : Visit) : Type 0 where
  pub cycles : v.cycles ≤ 2 ^ 37
  pub waits : AreWithin (2 ^ 35) v.waits

-- one visit more may be counted: those so far are fewer than the steps of the longest run, and small
pub record HasRoom {A : Type 0} (tally : Tally A) : Type 0 where
  pub key : Step → ℕ
  pub visits : List Visit
  pub counted : IsTally key visits tally
  pub few : length visits < most_steps
  pub small : All IsSmall visits

-- the steps of a run on a configuration are counted
pub record IsCounted {A : Type 0} (key : Step → ℕ) (config : Configuration) (steps : List Step) (counted : Counted A)
    : Type 0 where
  pub tally : IsTally key (visits_in config steps) counted.tally
  pub drain : counted.drain ≡ drain (history config steps)

abbrev pub fields_of_sum : Sum → List (List ℕ)
fields_of_sum sum = sum_fields sum.steps sum.cycles sum.waits

-- and with the drain
abbrev pub with_drain : ℕ → Sum → Sum
with_drain drain sum = record sum { cycles = sum.cycles + drain }

abbrev pub only_drain : ℕ → Sum
only_drain drain = record no_sum { cycles = drain }

-- the fields of an address: those of more columns, and those of its sum
abbrev pub place_fields : (Step → List (List ℕ)) → (Sum → List (List ℕ)) → Group → List (List ℕ)
place_fields own shown place =
    hex8 place.first.pc ∷ instr_text place.first.instr ∷ own place.first ++ shown place.sum

-- the report of what was counted by address
abbrev pub report_of_counted : {A : Type 0} → List (List ℕ) → (Step → List (List ℕ)) → Counted A → List ℕ
report_of_counted names own counted =
    record_text (codes "pc" ∷ codes "instr" ∷ names ++ sum_columns)
    ++ (flat_map (λ place. record_text (place_fields own fields_of_sum place)) (values counted.tally.groups)
    ++ (record_text (codes "drain" ∷ codes "-" ∷ dashes names ++ fields_of_sum (only_drain counted.drain))
    ++ record_text
    (codes "total" ∷ codes "-" ∷ dashes names ++ fields_of_sum (with_drain counted.drain counted.tally.all))))
