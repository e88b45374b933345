-- What is known of the rounds of one loop of a run, and what its steps take.
use Rattle.std.specs.Prelude.{ℕ, ◌≡◌, List, Option, None, length, MatchOption}
use Rattle.tomex_stretches.specs.Cycles.{is_key, sum_where}
use Rattle.tomex_loops.specs.declared.visit.Round.{Round}
use Rattle.tomex_loops.specs.declared.visit.Visit.{Visit}
use Rattle.tomex_loops.specs.declared.counts.Counts.{Counts}
use Rattle.tomex_loop_sums.specs.declared.spans.Span.{Span}
use Rattle.tomex_loop_sums.specs.ByLoop.{loops_of, many_rounds, rounds_of_loop, rounds_of_visit}
use Rattle.tomex_loop_sums.specs.Longest.{IsLongest}
use Rattle.tomex_loops.specs.Pattern.{HasNoPattern, IsPattern}
use Rattle.tomex_loops.specs.Rounds.{AreCounts}
use Rattle.tomex_loop_sums.specs.Spans.{sum_in}

-- what the rounds of a visit repeat
abbrev pub PatternIs : List ℕ → Option (List ℕ) → Type 0
PatternIs cycles pattern = MatchOption pattern (HasNoPattern cycles) (IsPattern cycles)

-- how many rounds it has, what is counted of them, and what those of its longest visit repeat
pub record IsTurnOf (issues : List ℕ) (visits : List Visit) (rounds : List Round) (n many : ℕ) (counts : Option Counts)
    (pattern : Option (List ℕ)) : Type 0 where
  pub many_are : many ≡ length (rounds_of_loop issues visits rounds n)
  pub counts_are : MatchOption counts (length (rounds_of_loop issues visits rounds n) ≡ 0)
      (AreCounts (rounds_of_loop issues visits rounds n))
  pub longest : Option ℕ
  pub longest_is : IsLongest n (loops_of visits) (many_rounds issues visits rounds) longest
  pub pattern_is : MatchOption longest (pattern ≡ None) (λ v. PatternIs (rounds_of_visit issues rounds v) pattern)

-- how many steps are in a visit of it, and their cycles; the cycles of those whose innermost loop it is, and on the
-- floor
pub record IsSpentOf (spans : List Span) (keys : List (Option ℕ)) (ones cycles floors : List ℕ)
    (n many in_all own floor : ℕ) : Type 0 where
  pub many_is : many ≡ sum_in n spans ones
  pub in_all_is : in_all ≡ sum_in n spans cycles
  pub own_is : own ≡ sum_where (is_key n) keys cycles
  pub floor_is : floor ≡ sum_where (is_key n) keys floors
