-- The code's own words: what it has read of a list, which rows it asks, and what workers have found.
use Rattle.std.specs.Prelude.{ℕ, ◌≡◌, ◌==◌, ◌||◌, ◌<◌, ◌≤◌, ◌⊎◌, Bool, true, false, not, if◌then◌else◌, List, [], ◌∷◌}
use Rattle.std.specs.Prelude.{◌++◌, length, map}
use Rattle.std.specs.Prelude.{max, slice_get, take, Some, All}
use Rattle.std.specs.List.{filter, list_all, list_any, range_with_len}
use Rattle.tomex_rvdec.specs.declared.pool.UnitId.{UnitId}
use Rattle.tomex_config.specs.Configuration.{Configuration}
use Rattle.tomex_study.specs.Program.{Workload}
use Rattle.tomex_study.specs.Study.{DesignSpace, config_at}
use Rattle.tomex_survey.specs.Stretches.{AreTotalsIn}
use Rattle.tomex_survey.specs.declared.stretch.Stretch.{Stretch}
use Rattle.tomex_config.specs.Parts.{count_of}
use Rattle.tomex_config.specs.declared.part.Part.{Part}
use Rattle.tomex_config.specs.declared.part.Part.TheVariants.{Units}
use Rattle.tomex_config.specs.Parts.{part_at, same_entry}
use Rattle.tomex_config.specs.Parts.{most_of, same_latency, with_count}
use Rattle.tomex_choices.specs.Enough.{total_with}
use Rattle.tomex_survey.specs.Extremes.{greatest}
use Rattle.tomex_choices.specs.NewMachines.{brought_by, greatest_units, grown, least_price, machine_if}
use Rattle.tomex_choices.specs.NewMachines.{new_machines}
use Rattle.tomex_choices.specs.Passing.{Has}
use Rattle.tomex_study.specs.Cycles.{totals_on}
use Rattle.tomex_choices.specs.declared.asking.AskedTotals.{AskedTotals}
use Rattle.tomex_choices.specs.declared.entries.MostUnits.{MostUnits}
use Rattle.tomex_choices.specs.declared.found.Found.{Found}
use Rattle.tomex_choices.specs.declared.found.ListFound.{ListFound}
use Rattle.tomex_choices.specs.declared.new_machine.NewMachine.{NewMachine}

-- What is read of a list.

-- the list at a place, of these configurations
pub record ListOf : Type 0 where
  pub rows : List Configuration
  pub place : ℕ

-- some row has this number of a part
abbrev pub has_number : List Configuration → Part → ℕ → Bool
has_number rows part n = list_any (λ c. count_of c part == n) rows

-- of the options of a latency the most units, and the price of the cheapest that has as many
abbrev pub most_at : List Configuration → UnitId → ℕ → MostUnits
most_at rows unit latency =
    record { units = greatest_units rows unit latency; price = least_price rows unit latency }

-- of each latency, if the list is of options
abbrev pub AreMostUnits : List Configuration → Part → List MostUnits → Type 0
AreMostUnits rows (Units unit) options = options ≡ map (most_at rows unit) (range_with_len 0 65)
AreMostUnits rows part options = Unit {0}

-- what is kept of a list is as its rows have it
pub record IsRead (l : ListOf) (numbers : List Bool) (options : List MostUnits) : Type 0 where
  pub low : l.place < 13
  pub numbers_are : numbers ≡ map (has_number l.rows (part_at l.place)) (range_with_len 0 17)
  pub options_are : AreMostUnits l.rows (part_at l.place) options
  pub prices : All (λ m. m.price ≤ 1000000) options

-- Which rows are asked: those that no earlier row is like.

-- two configurations have the same entries in all lists, in the one at this place maybe only the same latency
abbrev pub are_alike_in : ℕ → Configuration → Configuration → ℕ → Bool
are_alike_in place a b k =
    if k == place then same_latency (part_at k) a b else same_entry a b (part_at k)

unfoldable pub are_alike : ℕ → Configuration → Configuration → Bool
are_alike place a b = list_all (are_alike_in place a b) (range_with_len 0 13)

pub record HasEarlier (rows : List Configuration) (place row : ℕ) : Type 0 where
  pub earlier : ℕ
  pub one : Configuration
  pub own : Configuration
  pub before : earlier < row
  pub is_one : slice_get rows earlier ≡ Some one
  pub is_own : slice_get rows row ≡ Some own
  pub alike : are_alike place one own ≡ true

-- What is found.

-- two lists differ at some place
abbrev pub differ : List ℕ → List ℕ → Bool
differ (x ∷ xs) (y ∷ ys) = not (x == y) || differ xs ys
differ _ _ = false

-- with n of a part some program takes other cycles on a configuration than with the most
abbrev pub changes_at : List Workload → Part → Configuration → ℕ → Bool
changes_at programs part c n =
    list_any (λ p. not (total_with c part p n == total_with c part p (most_of part))) programs

-- the greatest number with which some does, 0 if there is none
unfoldable pub last_change : List Workload → Part → Configuration → ℕ
last_change programs part c = greatest (filter (changes_at programs part c) (range_with_len 1 (most_of part)))

-- these totals are those of the programs with each of these numbers of a part, up to the one that was asked
abbrev pub AreAskedTotals : List Workload → Configuration → Part → ℕ → AskedTotals → Type 0
AreAskedTotals programs config part number asked = (n : ℕ) → 1 ≤ n → asked.low ≤ n → n ≤ number
    → take (length programs) asked.totals ≡ totals_on programs (with_count config part n)

-- a configuration was asked with n of a part
pub record IsNumberAsked {A : Type 0} (s : DesignSpace) (part : Part) (c : Configuration) (n : ℕ)
    (old new : ListFound A) : Type 0 where
  pub machines : new.machines.items ≡ old.machines.items ++ machine_if s part n (grown s.rows part c n)
  pub change : new.last_change
      ≡ (if changes_at s.programs part c n then max old.last_change n else old.last_change)

-- a configuration was asked with each number: the new machines are the old ones and those that it brings
pub record IsAsked {A : Type 0} (s : DesignSpace) (part : Part) (c : Configuration) (old new : ListFound A)
    : Type 0 where
  pub all : (x : NewMachine) → Has old.machines.items x ⊎ Has (brought_by s part c) x → Has new.machines.items x
  pub only : (x : NewMachine) → Has new.machines.items x → Has old.machines.items x ⊎ Has (brought_by s part c) x
  pub change : new.last_change ≡ max old.last_change (last_change s.programs part c)

-- a row was asked in the list at a place, or an earlier one is like it there
abbrev pub IsAskedOnce : {A : Type 0} → DesignSpace → (place row : ℕ) → (old new : ListFound A) → Type 0
IsAskedOnce s place row old new =
    IsAsked s (part_at place) (config_at s row) old new ⊎ (new ≡ old) × HasEarlier s.rows place row

-- and in each list
pub record AreAsked {A : Type 0} (s : DesignSpace) (row : ℕ) (old new : List (ListFound A)) : Type 0 where
  pub count : length new ≡ length old
  pub each : (place : ℕ) (f g : ListFound A) → slice_get old place ≡ Some f → slice_get new place ≡ Some g
      → IsAskedOnce s place row f g

-- what is read of each list
abbrev pub AreLists : List Configuration → List ListOf → Type 0
AreLists rows lists = lists ≡ map (λ place. record { rows = rows; place = place }) (range_with_len 0 13)

-- what was found of a list has what a row brings, and its last change
pub record HasRow (s : DesignSpace) (place row : ℕ) (machines : List NewMachine) (change : ℕ) : Type 0 where
  pub brought : (x : NewMachine) → Has (brought_by s (part_at place) (config_at s row)) x → Has machines x
  pub changed : last_change s.programs (part_at place) (config_at s row) ≤ change

-- what was found of the list at a place on the rows from one up to another
pub record IsFound (s : DesignSpace) (from to place : ℕ) (machines : List NewMachine) (change : ℕ) : Type 0 where
  pub only : (x : NewMachine) → Has machines x → Has (new_machines s (part_at place)) x
  pub reached : (change ≡ 0)
      ⊎ (row : ℕ) × (row < length s.rows) × (last_change s.programs (part_at place) (config_at s row) ≡ change)
  pub all : (row : ℕ) → from ≤ row → row < to → HasRow s place row machines change ⊎ HasEarlier s.rows place row

-- the same of each list
pub record AreFound {A : Type 0} (s : DesignSpace) (from to : ℕ) (lists : List (ListFound A)) : Type 0 where
  pub count : length lists ≡ 13
  pub each : (place : ℕ) (f : ListFound A) → slice_get lists place ≡ Some f
      → IsFound s from to place f.machines.items f.last_change

-- two findings of a list together
pub record IsJoined {A : Type 0} (a b joined : ListFound A) : Type 0 where
  pub machines : joined.machines.items ≡ a.machines.items ++ b.machines.items
  pub change : joined.last_change ≡ max a.last_change b.last_change

-- the same of each list
pub record AreJoined {A : Type 0} (a b joined : List (ListFound A)) : Type 0 where
  pub count : length joined ≡ length a
  pub each : (place : ℕ) (x y : ListFound A) → slice_get a place ≡ Some x → slice_get b place ≡ Some y
      → (z : ListFound A) × (slice_get joined place ≡ Some z) × IsJoined x y z

-- what a worker found in a stretch of rows
pub record IsFoundIn {A : Type 0} (s : DesignSpace) (stretch : Stretch) (f : Found A) : Type 0 where
  pub totals : AreTotalsIn s stretch f.totals.items
  pub lists : AreFound s stretch.first stretch.end f.lists.items

-- stretches of rows, each from the end of the one before it on
abbrev pub IsChain : (from to : ℕ) → List Stretch → Type 0
IsChain from to [] = from ≡ to
IsChain from to (z ∷ stretches) = (z.first ≡ from) × IsChain z.end to stretches
