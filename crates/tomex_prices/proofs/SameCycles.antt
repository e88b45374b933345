-- An option's price changes no cycles.
use Rattle.std.proofs.Common.{◌≡◌, ◌∙◌, ℕ, ◌≤◌, inl, inr, ap, refl, subst}
use Rattle.std.proofs.Common.{All, List, [], ◌∷◌}
use Rattle.std.specs.Prelude.{map}
use Rattle.std.proofs.lemmas.Bool.{cases_Bool}
use Rattle.std.proofs.lemmas.List.Elements.{All-head, All-tail}
use Rattle.tomex_config.specs.declared.config.UnitOption.{UnitOption}
use Rattle.tomex_config.specs.Configuration.{Configuration, IsWithinLimits, option_of, same_option, with_option}
use Rattle.tomex_study.specs.Program.{Workload}
use Rattle.tomex_study.specs.Cycles.{cycles_on}
use Rattle.tomex_study.proofs.SameCycles.{other_cycles}
use Rattle.tomex_prices.specs.declared.price.Price.{Price}
use Rattle.tomex_prices.specs.declared.price.Price.TheVariants.{Station, Choice, Bus, Width as Issues}
use Rattle.tomex_prices.specs.declared.price.TheConstants.{GREATEST_PRICE}
use Rattle.tomex_prices.specs.Repriced.{config_with}
use Rattle.tomex_prices.proofs.Splitting.{same_are_one}

pub cycles_same : (price : Price) (q : ℕ) (programs : List Workload) (config : Configuration) → q ≤ GREATEST_PRICE
    → IsWithinLimits config → cycles_on programs (config_with price q config) ≡ cycles_on programs config
cycles_same (Station pool) q programs config few good = refl
cycles_same (Choice unit o) q programs config few good = elim (cases_Bool (same_option (option_of config unit) o)) [
  | inl holds ↦
      let e = same_are_one (option_of config unit) o holds in
      rw holds (subst (λ (x : UnitOption). cycles_on programs (with_option unit config (record x { price = q }))
      ≡ cycles_on programs config) e (other_cycles unit q programs config few good))
  | inr fails ↦ rw fails refl
]
cycles_same Bus q programs config few good = refl
cycles_same Issues q programs config few good = refl

pub all_cycles_same : (price : Price) (q : ℕ) (programs : List Workload) (configs : List Configuration)
    → q ≤ GREATEST_PRICE → All IsWithinLimits configs
    → map (cycles_on programs) (map (config_with price q) configs) ≡ map (cycles_on programs) configs
all_cycles_same price q programs [] few good = refl
all_cycles_same price q programs (c ∷ cs) few good =
    ap (λ (n : ℕ). n ∷ map (cycles_on programs) (map (config_with price q) cs))
    (cycles_same price q programs c few (All-head IsWithinLimits c cs good))
    ∙ ap (λ (ns : List ℕ). cycles_on programs c ∷ ns)
    (all_cycles_same price q programs cs few (All-tail IsWithinLimits c cs good))
