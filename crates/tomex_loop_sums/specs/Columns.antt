-- What is known of each loop of a run, in lists by its number.
use Rattle.std.specs.Prelude.{ℕ, ◌≡◌, ◌<◌, [], List, Option, None, is_none, length, map, slice_index, slice_index_or}
use Rattle.std.specs.Prelude.{MatchOption}
use Rattle.std.specs.Option.{option_map}
use Rattle.tomex_rvexec.specs.declared.step.Step.{Step}
use Rattle.tomex_config.specs.Configuration.{Configuration}
use Rattle.tomex_stretches.specs.Accounts.{floors_in, own_in}
use Rattle.tomex_stretches.specs.Cycles.{sum_where}
use Rattle.tomex_loops.specs.declared.visit.Round.{Round}
use Rattle.tomex_loops.specs.declared.visit.Visit.{Visit}
use Rattle.tomex_loops.specs.declared.counts.Counts.{Counts}
use Rattle.tomex_loop_sums.specs.declared.spans.Span.{Span}
use Rattle.tomex_loop_sums.specs.declared.spent.Spent.{Spent}
use Rattle.tomex_loop_sums.specs.declared.turns.Turns.{Turns}
use Rattle.tomex_loop_sums.specs.Groups.{groups_by}
use Rattle.tomex_loop_sums.specs.Longest.{IsLongest}
use Rattle.tomex_loop_sums.specs.OfLoop.{IsSpentOf, IsTurnOf, PatternIs}
use Rattle.tomex_loops.specs.Rounds.{AreCounts}

-- what is counted of rounds that take these cycles
abbrev pub CountsAre : List ℕ → Option Counts → Type 0
CountsAre cycles counts = MatchOption counts (length cycles ≡ 0) (AreCounts cycles)

-- what the rounds of a visit repeat, if there is one, given the cycles of the rounds of each
abbrev pub RepeatsOf : List (List ℕ) → Option ℕ → Option (List ℕ) → Type 0
RepeatsOf groups visit pattern =
    MatchOption visit (pattern ≡ None) (λ v. PatternIs (slice_index_or groups v []) pattern)

-- What the rounds of the longest visit of loop n repeat, given the loop of each visit, and each round's visit and
-- cycles.
pub record LongestRepeats (n : ℕ) (loops visits cycles : List ℕ) (pattern : Option (List ℕ)) : Type 0 where
  pub longest : Option ℕ
  pub longest_is : IsLongest n loops (map length (groups_by (length loops) visits cycles)) longest
  pub pattern_is : RepeatsOf (groups_by (length loops) visits cycles) longest pattern

-- the rounds of each loop
pub record AreTurns {A : Type 0} (issues : List ℕ) (visits : List Visit) (rounds : List Round) (count : ℕ)
    (t : Turns A) : Type 0 where
  pub rounds_of_all : length t.rounds.items ≡ count
  pub counts_of_all : length t.counts.items ≡ count
  pub patterns_of_all : length t.patterns.items ≡ count
  pub each : (n : ℕ) → n < count → IsTurnOf issues visits rounds n (slice_index t.rounds.items n)
      (slice_index_or t.counts.items n None) (option_map (λ c. c.items) (slice_index_or t.patterns.items n None))

-- What the steps of each loop take, given the steps in each visit, and for each step of the run its innermost visit and
-- the loop of that one. Steps outside of all loops have none.
pub record AreSpent {A : Type 0} (config : Configuration) (steps : List Step) (spans : List Span)
    (innermost keys : List (Option ℕ)) (count : ℕ) (s : Spent A) : Type 0 where
  pub steps_of_all : length s.steps.items ≡ count
  pub cycles_of_all : length s.cycles.items ≡ count
  pub own_of_all : length s.accounts.own.by_key.items ≡ count
  pub floor_of_all : length s.accounts.floor.by_key.items ≡ count
  pub each : (n : ℕ) → n < count → IsSpentOf spans keys (map (λ x. 1) steps) (own_in config steps)
      (floors_in config steps innermost) n (slice_index s.steps.items n) (slice_index s.cycles.items n)
      (slice_index s.accounts.own.by_key.items n) (slice_index s.accounts.floor.by_key.items n)
  pub own_without : s.accounts.own.without ≡ sum_where is_none keys (own_in config steps)
  pub floor_without : s.accounts.floor.without ≡ sum_where is_none keys (floors_in config steps innermost)
