-- The loops of a run's steps.
use Rattle.std.specs.Prelude.{ℕ, zero, suc, ◌++◌, Bool, if◌then◌else◌, List, [], ◌∷◌, Option, length, map}
use Rattle.tomex_rvexec.specs.declared.step.Step.{Step}
use Rattle.tomex_loops.specs.declared.visit.Round.{Round}
use Rattle.tomex_loops.specs.declared.visit.Visit.{Visit}
use Rattle.tomex_loops.specs.Calls.{comings_of}
use Rattle.tomex_loops.specs.Loops.{Found, found_in}
use Rattle.tomex_loops.specs.Visits.{innermost, innermost_here, setting_out, walk_after, walks_after}

abbrev pub found_of : List Step → Found
found_of steps = found_in (comings_of steps)

-- those of the first n places that are heads
abbrev pub heads_to : (ℕ → Bool) → ℕ → List ℕ
heads_to heads zero = []
heads_to heads (suc n) = heads_to heads n ++ (if heads n then n ∷ [] else [])

-- the heads of all loops, in the order in which the run first reaches them: that of the loop with number n stands at n
abbrev pub heads_of : List Step → List ℕ
heads_of steps = heads_to (found_of steps).heads (length steps)

-- all visits, in the order in which they begin
abbrev pub visits_of : List Step → List Visit
visits_of steps = (walk_after (found_of steps) setting_out (comings_of steps)).visits

-- the step before which each of them ends, if the run goes on after it
abbrev pub ends_of : List Step → List (Option ℕ)
ends_of steps = (walk_after (found_of steps) setting_out (comings_of steps)).ends

-- all rounds, in the order in which they end: a round is an iteration that another one follows in the same visit
abbrev pub rounds_of : List Step → List Round
rounds_of steps = (walk_after (found_of steps) setting_out (comings_of steps)).rounds

-- the number of the innermost visit of each step, in its own call or else in the latest of the calls around that has
-- one
abbrev pub innermost_of : List Step → List (Option ℕ)
innermost_of steps = map (λ w. innermost w.under_way) (walks_after (found_of steps) setting_out (comings_of steps))

-- and of its own call only
abbrev pub here_of : List Step → List (Option ℕ)
here_of steps = map (λ w. innermost_here w.under_way) (walks_after (found_of steps) setting_out (comings_of steps))

-- what is known of a run's loops: their heads, the head of each place's loop, visits and rounds
pub record Known : Type 0 where
  pub heads : List ℕ
  pub loops : List (Option ℕ)
  pub visits : List Visit
  pub ends : List (Option ℕ)
  pub innermost : List (Option ℕ)
  pub here : List (Option ℕ)
  pub rounds : List Round
