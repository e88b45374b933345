-- The prices of a study, in their order, and those on which its front may depend.
use Rattle.std.specs.Prelude.{◌==◌, false, not, Bool, List, [], ◌∷◌, ◌++◌, map}
use Rattle.std.specs.List.{filter, flat_map, list_any}
use Rattle.tomex_rvdec.specs.declared.pool.UnitId.{UnitId}
use Rattle.tomex_config.specs.Configuration.{Configuration, option_of}
use Rattle.tomex_config.specs.Cost.{all_pools, all_units}
use Rattle.tomex_config.specs.declared.config.UnitOption.{UnitOption}
use Rattle.tomex_study.specs.Study.{DesignSpace}
use Rattle.tomex_prices.specs.declared.price.Price.{Price}
use Rattle.tomex_prices.specs.declared.price.Price.TheVariants.{Station, Choice, Bus, Width}
use Rattle.tomex_prices.specs.Price.{payments}
use Rattle.tomex_config.specs.Configuration.{same_option}

-- the options for a kind of unit that some row has, each once, in the order of the first rows that have them
abbrev pub options_of : UnitId → List Configuration → List UnitOption
options_of unit [] = []
options_of unit (config ∷ rows) =
    let first = option_of config unit in
    first ∷ filter (λ o. not (same_option first o)) (options_of unit rows)

-- their prices
unfoldable pub choices_of : List Configuration → UnitId → List Price
choices_of rows unit = map (Choice unit) (options_of unit rows)

-- the prices of the pools' stations, of the options for each kind of unit, of a bus, and of the width
unfoldable pub prices_of : DesignSpace → List Price
prices_of s = map Station all_pools ++ (flat_map (choices_of s.rows) all_units ++ Bus ∷ Width ∷ [])

-- two of the rows pay a price differently often: some row and the first one
unfoldable pub is_relevant : List Configuration → Price → Bool
is_relevant [] price = false
is_relevant (first ∷ rows) price = list_any (λ config. not (payments price config == payments price first)) rows

-- the prices that some rows pay more often than others: all others move every cost by the same amount
unfoldable pub relevant_prices_of : DesignSpace → List Price
relevant_prices_of s = filter (is_relevant s.rows) (prices_of s)
