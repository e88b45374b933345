-- What the rounds of a visit repeat, in a list of some type or other.
use Rattle.std.proofs.Common.{ℕ, List, Option, Some, None}
use Rattle.std.specs.Prelude.{MatchOption}
use Rattle.std.specs.Option.{option_map}
use Rattle.tomex_loop_sums.specs.OfLoop.{PatternIs}
use Rattle.tomex_loops.specs.Pattern.{HasNoPattern, IsPattern}

pub pattern_found : {C : Type 0} (f : C → List ℕ) (cycles : List ℕ) (found : Option C)
    → MatchOption found (HasNoPattern cycles) (λ c. IsPattern cycles (f c)) → PatternIs cycles (option_map f found)
pattern_found f cycles None is = is
pattern_found f cycles (Some c) is = is
