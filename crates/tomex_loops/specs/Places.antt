-- The code's own words: what is known of places after some steps.
use Rattle.std.specs.Prelude.{ℕ, nat_lt, if◌then◌else◌, List, Option, Some, None}
use Rattle.tomex_rvexec.specs.declared.step.Step.{Step}
use Rattle.tomex_loops.specs.Calls.{place_of}

-- the place of an address, if one of the first k steps is there
abbrev pub known_place : List Step → ℕ → ℕ → Option ℕ
known_place steps k a = if nat_lt (place_of steps a) k then Some (place_of steps a) else None
