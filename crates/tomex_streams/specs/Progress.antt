-- What a person at a terminal reads while a command works.
use Rattle.std.specs.Prelude.{ℕ, List, ◌++◌, codes}
use Rattle.std.specs.Fmt.{decimal}
use Rattle.tomex_streams.specs.declared.meter.Counted.{Counted}
use Rattle.tomex_streams.specs.declared.meter.Counted.TheVariants.{Configurations, Steps, AtMostSteps}
use Rattle.tomex_streams.specs.declared.meter.Progress.{Progress}

-- of how much, and of what
abbrev pub whole_of : Counted → ℕ → List ℕ
whole_of Configurations of = codes " of " ++ (decimal of ++ codes " configurations")
whole_of Steps of = codes " of " ++ (decimal of ++ codes " steps")
whole_of AtMostSteps of = codes " of at most " ++ (decimal of ++ codes " steps")

abbrev pub text_of : Progress → List ℕ
text_of p = decimal p.done ++ whole_of p.counted p.of
