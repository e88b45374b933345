-- Laws of what a study's lists lack, and of what may go.
use Rattle.std.specs.Prelude.{ℕ, ◌≡◌, ◌≤◌, ◌⊎◌, Bool, not, List, [], ◌++◌, map, Some}
use Rattle.std.specs.List.{Contains, filter, list_all, list_any}
use Rattle.tomex_rvdec.specs.declared.pool.UnitId.{UnitId}
use Rattle.tomex_config.specs.Configuration.{Configuration, IsWithinLimits, option_of, with_option}
use Rattle.tomex_config.specs.Cost.{PriceList, cost_of}
use Rattle.tomex_config.specs.Configuration.{latency_of}
use Rattle.tomex_pareto.specs.Front.{front_of}
use Rattle.tomex_pareto.specs.Pareto.{Dominates}
use Rattle.tomex_pareto.specs.declared.front_row.FrontRow.{FrontRow}
use Rattle.tomex_study.specs.Cycles.{cycles_on}
use Rattle.tomex_study.specs.Program.{Workload, steps_of}
use Rattle.tomex_study.specs.Study.{DesignSpace, IsStudy, config_at, costs_of, design_space}
use Rattle.tomex_study.specs.StudyFront.{all_rows, front_of_study}
use Rattle.tomex_timing.specs.Needs.{stalls}
use Rattle.tomex_config.specs.Parts.{all_parts, count_of}
use Rattle.tomex_timing.specs.Search.{history}
use Rattle.tomex_config.specs.declared.part.Part.{Part}
use Rattle.tomex_config.specs.declared.part.Part.TheVariants.{Units}
use Rattle.tomex_config.specs.Parts.{same_entry}
use Rattle.tomex_choices.specs.Additions.{additions, has_entry}
use Rattle.tomex_study.specs.Choices.{unused}
use Rattle.tomex_config.specs.Parts.{most_of}
use Rattle.tomex_choices.specs.Ends.{AreReweighted, IsBeyondEnds, IsCoveredAtAnyPrice, IsUnneededAtEnd, repriced}
use Rattle.tomex_choices.specs.Enough.{enough}
use Rattle.tomex_survey.specs.Floors.{any_width, study_floor}
use Rattle.tomex_choices.specs.NewMachines.{grown, new_machines}
use Rattle.tomex_config.specs.Parts.{with_count}
use Rattle.tomex_choices.specs.Points.{IsCovered, IsFrontKept, row_of}
use Rattle.tomex_choices.specs.Savings.{complete, fewest}
use Rattle.tomex_choices.specs.declared.new_machine.NewMachine.{NewMachine}

-- a configuration with this price of its option for a kind of unit
abbrev pub with_price : UnitId → Configuration → ℕ → Configuration
with_price unit c price = with_option unit c
    (record { units = (option_of c unit).units; latency = (option_of c unit).latency; price = price })

-- d is e; in a list of options its option may cost more
abbrev pub IsDearer : Part → Configuration → Configuration → Type 0
IsDearer (Units unit) e d = (price : ℕ) × ((option_of e unit).price ≤ price) × (d ≡ with_price unit e price)
IsDearer part e d = d ≡ e

-- a machine that a study has if this list of it is made longer or finer: a row's with a choice that the list lacks
pub record IsLonger (s : DesignSpace) (part : Part) (d : Configuration) : Type 0 where
  pub row : Configuration
  pub number : ℕ
  pub new : Configuration
  pub is_row : Contains s.rows row
  pub some : 1 ≤ number
  pub few : number ≤ most_of part
  pub is_grown : grown s.rows part row number ≡ Some new
  pub dearer : IsDearer part new d

-- for each such machine there is a new one that costs no more and takes as many cycles
abbrev pub CompleteListsAreComplete : Type 0
CompleteListsAreComplete = (s : DesignSpace) (part : Part) (d : Configuration) → IsWithinLimits d → IsLonger s part d
    → (x : NewMachine) × Contains (new_machines s part) x × (x.cost ≤ cost_of d s.prices)
    × (x.cycles ≡ cycles_on s.programs d)

-- with the new machines each cost buys no more cycles than with any such machines
abbrev pub CompleteListsBuyTheFewest : Type 0
CompleteListsBuyTheFewest = (s : DesignSpace) (part : Part) (ds : List Configuration) (cost n : ℕ)
    → ((d : Configuration) → Contains ds d → IsWithinLimits d × IsLonger s part d)
    → fewest (all_rows s ++ map (row_of s) ds) cost ≡ Some n
    → (m : ℕ) × (fewest (complete (all_rows s) (new_machines s part)) cost ≡ Some m) × (m ≤ n)

-- and none of them dominates a row or a new machine of the front
abbrev pub CompleteFrontsStand : Type 0
CompleteFrontsStand = (s : DesignSpace) (part : Part) (d : Configuration) (r : FrontRow) → IsWithinLimits d
    → IsLonger s part d → Contains (front_of (complete (all_rows s) (new_machines s part))) r
    → Dominates (row_of s d) r → ⊥

-- the new machines with a choice that is worth adding
abbrev pub added_machines : DesignSpace → Part → List NewMachine
added_machines s part = filter (λ x. list_any (λ c. has_entry part c x) (additions s part)) (new_machines s part)

-- with these the front has the points that it has with all new machines; and all its machines stay with those
abbrev pub AdditionsAreAllThatIsNeeded : Type 0
AdditionsAreAllThatIsNeeded = (s : DesignSpace) (part : Part) → IsStudy s
    → IsFrontKept (complete (all_rows s) (added_machines s part)) (complete (all_rows s) (new_machines s part))

-- and each cost buys as few cycles
abbrev pub AdditionsSaveAsMuch : Type 0
AdditionsSaveAsMuch = (s : DesignSpace) (part : Part) (cost : ℕ) → IsStudy s
    → fewest (complete (all_rows s) (added_machines s part)) cost
    ≡ fewest (complete (all_rows s) (new_machines s part)) cost

-- however the list is made longer or finer, no machine has a point that no row covers
abbrev pub AreLongerCovered : DesignSpace → Part → Type 0
AreLongerCovered s part = (d : Configuration) → IsWithinLimits d → IsLonger s part d → IsCovered s d

-- nothing is worth adding exactly if that is so
abbrev pub NothingToAddIsCovered : Type 0
NothingToAddIsCovered = (s : DesignSpace) (part : Part) → IsStudy s → additions s part ≡ [] → AreLongerCovered s part

abbrev pub CoveredIsNothingToAdd : Type 0
CoveredIsNothingToAdd = (s : DesignSpace) (part : Part) → IsStudy s → AreLongerCovered s part → additions s part ≡ []

-- then the complete list buys no fewer cycles at any cost than the rows do
abbrev pub NothingToAddSavesNothing : Type 0
NothingToAddSavesNothing = (s : DesignSpace) (part : Part) (cost : ℕ) → IsStudy s → additions s part ≡ []
    → fewest (complete (all_rows s) (new_machines s part)) cost ≡ fewest (all_rows s) cost

-- machines that rows cover bring the front no point, and all its machines stay
abbrev pub CoveredMachinesAddNoPoints : Type 0
CoveredMachinesAddNoPoints = (s : DesignSpace) (ds : List Configuration)
    → ((d : Configuration) → Contains ds d → IsCovered s d)
    → IsFrontKept (all_rows s) (all_rows s ++ map (row_of s) ds)

-- a configuration has none of these entries in a part's list
abbrev pub has_none : Part → List Configuration → Configuration → Bool
has_none part unwanted c = not (list_any (λ u. same_entry c u part) unwanted)

-- it has in no list an entry that is unwanted there
abbrev pub has_no_unwanted : (Part → List Configuration) → Configuration → Bool
has_no_unwanted unwanted c = list_all (λ part. has_none part (unwanted part) c) all_parts

-- the study of these rows
abbrev pub study_without : DesignSpace → (Part → List Configuration) → DesignSpace
study_without s unwanted = design_space s.programs (filter (has_no_unwanted unwanted) s.rows)
    (costs_of s.prices (filter (has_no_unwanted unwanted) s.rows)) s.prices s.wide

-- a row's machine, its cost and its cycles
abbrev pub machine_at : DesignSpace → FrontRow → Configuration × ℕ × ℕ
machine_at s r = (config_at s r.row, r.cost, r.cycles)

-- the study without some or all of the choices, of any of its lists, that no row of the front has: the same machines
-- are on its front
abbrev pub UnusedChoicesMayGo : Type 0
UnusedChoicesMayGo = (s : DesignSpace) (unwanted : Part → List Configuration) → IsStudy s
    → ((part : Part) (u : Configuration) → Contains (unwanted part) u → Contains (unused s part) u)
    → map (machine_at (study_without s unwanted)) (front_of_study (study_without s unwanted))
    ≡ map (machine_at s) (front_of_study s)

-- from the number that is enough on, up to the most, a row takes the same cycles, whatever the programs' weights are
abbrev pub MoreThanEnoughChangesNothing : Type 0
MoreThanEnoughChangesNothing = (s : DesignSpace) (part : Part) (c : Configuration) (reweighted : List Workload)
    (m n : ℕ) → Contains s.rows c → AreReweighted s reweighted → enough s part ≤ m → m ≤ n → n ≤ most_of part
    → cycles_on reweighted (with_count c part n) ≡ cycles_on reweighted (with_count c part m)

-- d has as many of each part as c, or more of one that no program waits for on c, and the same latencies
pub record HasMoreUnneeded (s : DesignSpace) (c d : Configuration) : Type 0 where
  pub parts : (part : Part) → (count_of d part ≡ count_of c part)
      ⊎ (count_of c part ≤ count_of d part)
      × ((p : Workload) → Contains s.programs p → stalls c part (history c (steps_of p)) ≡ 0)
  pub latencies : (unit : UnitId) → latency_of d unit ≡ latency_of c unit

-- such a machine takes the cycles of the row, whatever the programs' weights are
abbrev pub MoreOfTheUnneededChangesNothing : Type 0
MoreOfTheUnneededChangesNothing = (s : DesignSpace) (c d : Configuration) (reweighted : List Workload) → IsStudy s
    → Contains s.rows c → IsWithinLimits d → AreReweighted s reweighted → HasMoreUnneeded s c d
    → cycles_on reweighted d ≡ cycles_on reweighted c

-- a machine that is a row except that it has more of several parts at once, each of them a part that no program waits
-- for on any row at the end of its list: whatever the prices and the weights are, a row covers it
abbrev pub LongerListsAtOnce : Type 0
LongerListsAtOnce = (s : DesignSpace) (parts : List Part) (d : Configuration) → IsStudy s
    → ((part : Part) → Contains parts part → IsUnneededAtEnd s part) → IsWithinLimits d → IsBeyondEnds s parts d
    → IsCoveredAtAnyPrice s d

-- so any such machines bring the front no point, and all its machines stay
abbrev pub LongerListsAtOnceAddNoPoints : Type 0
LongerListsAtOnceAddNoPoints = (s : DesignSpace) (parts : List Part) (ds : List Configuration)
    (reweighted : List Workload) (prices : PriceList) → IsStudy s
    → ((part : Part) → Contains parts part → IsUnneededAtEnd s part)
    → ((d : Configuration) → Contains ds d → IsWithinLimits d × IsBeyondEnds s parts d) → AreReweighted s reweighted
    → IsFrontKept (all_rows (repriced s reweighted prices))
    (all_rows (repriced s reweighted prices) ++ map (row_of (repriced s reweighted prices)) ds)

-- a machine has no smaller latency than another
abbrev pub IsNoFaster : Configuration → Configuration → Type 0
IsNoFaster d c = (unit : UnitId) → latency_of c unit ≤ latency_of d unit

-- a machine with a row's latencies or greater ones takes no fewer cycles than the floor, if it is no wider; and no
-- machine of any width takes fewer than the floor at any width
abbrev pub FloorBoundsAllSizes : Type 0
FloorBoundsAllSizes = (s : DesignSpace) (c d : Configuration) → IsStudy s → Contains s.rows c → IsWithinLimits d
    → IsNoFaster d c → d.width ≤ c.width → study_floor s ≤ cycles_on s.programs d

abbrev pub FloorBoundsAllWidths : Type 0
FloorBoundsAllWidths = (s : DesignSpace) (c d : Configuration) → IsStudy s → Contains s.rows c → IsWithinLimits d
    → IsNoFaster d c → any_width s ≤ cycles_on s.programs d
