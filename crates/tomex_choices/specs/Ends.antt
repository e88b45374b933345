-- The ends of a study's lists, and machines that go beyond the ends of several lists at once.
use Rattle.std.specs.Prelude.{ℕ, ◌≡◌, ◌≤◌, ◌⊎◌, true, List, map}
use Rattle.std.specs.List.{Contains}
use Rattle.tomex_config.specs.Configuration.{Configuration, option_of}
use Rattle.tomex_config.specs.Cost.{PriceList, cost_of}
use Rattle.tomex_study.specs.Cycles.{cycles_on}
use Rattle.tomex_study.specs.Program.{Workload, steps_of}
use Rattle.tomex_study.specs.Study.{DesignSpace, costs_of, design_space}
use Rattle.tomex_timing.specs.Needs.{stalls}
use Rattle.tomex_config.specs.Parts.{count_of}
use Rattle.tomex_timing.specs.Search.{history}
use Rattle.tomex_config.specs.declared.part.Part.{Part}
use Rattle.tomex_config.specs.declared.part.Part.TheVariants.{Units}
use Rattle.tomex_config.specs.Parts.{same_entry}
use Rattle.tomex_config.specs.Parts.{latency_in}

-- no row has more of a part than this one; of units, no row with the same latency
abbrev pub IsAtEnd : DesignSpace → Part → Configuration → Type 0
IsAtEnd s part c = (d : Configuration) → Contains s.rows d → latency_in part d ≡ latency_in part c
    → count_of d part ≤ count_of c part

-- on no row at the end of a part's list a program waits for the part
abbrev pub IsUnneededAtEnd : DesignSpace → Part → Type 0
IsUnneededAtEnd s part = (c : Configuration) (p : Workload) → Contains s.rows c → IsAtEnd s part c
    → Contains s.programs p → stalls c part (history c (steps_of p)) ≡ 0

-- the price of the option for a kind of unit; other parts have none
abbrev pub price_in : Part → Configuration → ℕ
price_in (Units unit) c = (option_of c unit).price
price_in part c = 0

-- d has more of a part than c, which is at the end of the part's list; an option of the same latency, at no lower price
pub record HasMoreAtEnd (s : DesignSpace) (part : Part) (c d : Configuration) : Type 0 where
  pub is_end : IsAtEnd s part c
  pub more : count_of c part ≤ count_of d part
  pub latency : latency_in part d ≡ latency_in part c
  pub price : price_in part c ≤ price_in part d

-- a machine that is a row except that it has more of some of these parts, of which the row is at the end
pub record IsBeyondEnds (s : DesignSpace) (parts : List Part) (d : Configuration) : Type 0 where
  pub row : Configuration
  pub is_row : Contains s.rows row
  pub entries : (part : Part) → (same_entry d row part ≡ true) ⊎ Contains parts part × HasMoreAtEnd s part row d

-- the programs with other weights
abbrev pub AreReweighted : DesignSpace → List Workload → Type 0
AreReweighted s reweighted = map (λ p. p.image) reweighted ≡ map (λ p. p.image) s.programs

-- whatever the prices and the weights are, some row costs no more than a machine and takes as many cycles
pub record IsCoveredAtAnyPrice (s : DesignSpace) (d : Configuration) : Type 0 where
  pub row : Configuration
  pub is_row : Contains s.rows row
  pub cost : (prices : PriceList) → cost_of row prices ≤ cost_of d prices
  pub cycles : (reweighted : List Workload) → AreReweighted s reweighted
      → cycles_on reweighted d ≡ cycles_on reweighted row

-- the study's rows with other prices and weights
abbrev pub repriced : DesignSpace → List Workload → PriceList → DesignSpace
repriced s reweighted prices = design_space reweighted s.rows (costs_of prices s.rows) prices s.wide
