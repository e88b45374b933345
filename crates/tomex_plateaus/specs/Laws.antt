-- Laws of plateaus.
use Rattle.std.specs.Prelude.{◌≡◌, ℕ, true, List}
use Rattle.tomex_rvexec.specs.declared.step.Step.{Step}
use Rattle.tomex_config.specs.Configuration.{Configuration, IsWithinLimits}
use Rattle.tomex_timing.specs.declared.demands.Demands.{Demands}
use Rattle.tomex_timing.specs.Demands.{AreDemands}
use Rattle.tomex_timing.specs.Search.{history}
use Rattle.tomex_config.specs.declared.part.Part.{Part}
use Rattle.tomex_config.specs.Parts.{with_count}
use Rattle.tomex_plateaus.specs.Plateaus.{IsPlateauOf, counts_of, is_within, lies_on, plateau_of}
use Rattle.tomex_plateaus.specs.declared.plateau.Plateau.{Plateau}

-- the configuration of a run lies on the plateau that its demands give
abbrev pub OwnConfigurationLiesOn : Type 0
OwnConfigurationLiesOn = (own : Configuration) (steps : List Step) (demands : Demands)
    → IsWithinLimits own → AreDemands own (history own steps) demands
    → lies_on own (plateau_of demands own) ≡ true

-- and on every configuration of it the run takes the same cycles
abbrev pub TotalIsThatOfThePlateau : Type 0
TotalIsThatOfThePlateau = (own : Configuration) (steps : List Step) (demands : Demands)
    → IsWithinLimits own → AreDemands own (history own steps) demands
    → IsPlateauOf steps (plateau_of demands own)

-- a configuration with another number of a part in the plateau's interval lies on it too
abbrev pub OtherNumberLiesOnToo : Type 0
OtherNumberLiesOnToo = (config : Configuration) (p : Plateau) (part : Part) (n : ℕ)
    → IsWithinLimits config → lies_on config p ≡ true → is_within (counts_of p part) n ≡ true
    → lies_on (with_count config part n) p ≡ true
