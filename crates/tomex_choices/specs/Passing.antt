-- The code's own words: one pass over sorted new machines, which keeps those that none beats.
use Rattle.std.specs.Prelude.{ℕ, ◌≡◌, ◌≤◌, ◌<◌, ◌==◌, ◌⊎◌, nat_lt, Bool, true, false, not, ◌&&◌, ◌||◌, List, [], ◌∷◌}
use Rattle.std.specs.Prelude.{Option, Some, None, map}
use Rattle.tomex_pareto.specs.declared.front_row.FrontRow.{FrontRow}
use Rattle.tomex_survey.specs.Extremes.{least}
use Rattle.tomex_study.specs.declared.list_report.Saving.{Saving}
use Rattle.tomex_choices.specs.Savings.{beats, saving_at}
use Rattle.tomex_choices.specs.declared.new_machine.NewMachine.{NewMachine}

-- x is one of them
abbrev pub Has : {X : Type 0} → List X → X → Type 0
Has [] x = ⊥
Has (y ∷ ys) x = (y ≡ x) ⊎ Has ys x

-- a may stand before b: by cost, then cycles, then number
abbrev pub IsUpTo : NewMachine → NewMachine → Type 0
IsUpTo a b =
    (a.cost < b.cost)
    ⊎ ((a.cost ≡ b.cost)
    × ((a.cycles < b.cycles) ⊎ ((a.cycles ≡ b.cycles) × (a.number ≤ b.number))))

-- a machine stays, given the last one before it that did: nothing before it beats it, and it isn't that one again
abbrev pub stays_after : Option NewMachine → NewMachine → Bool
stays_after None x = true
stays_after (Some b) x =
    nat_lt x.cycles b.cycles
    || (x.cycles == b.cycles && x.cost == b.cost && x.number == b.number && not (x.latency == b.latency))

-- no new machine beats it
abbrev pub IsUnbeaten : List NewMachine → NewMachine → Type 0
IsUnbeaten new x = (y : NewMachine) → Has new y → beats x y ≡ false

-- exactly the new machines that none beats; and for each new machine one that costs no more and takes no more cycles
pub record AreUnbeaten (new kept : List NewMachine) : Type 0 where
  pub only : (x : NewMachine) → Has kept x → Has new x × IsUnbeaten new x
  pub all : (x : NewMachine) → Has new x → IsUnbeaten new x → Has kept x
  pub covers : (x : NewMachine) → Has new x
      → (y : NewMachine) × Has kept y × (y.cost ≤ x.cost) × (y.cycles ≤ x.cycles)

-- the saving at the cost of the cheapest row
abbrev pub saving_if_at : List FrontRow → List NewMachine → Option ℕ → Option Saving
saving_if_at rows new None = None
saving_if_at rows new (Some cost) = saving_at rows new cost

abbrev pub cheapest_saving : List FrontRow → List NewMachine → Option Saving
cheapest_saving rows new = saving_if_at rows new (least (map (λ r. r.cost) rows))
