-- What is known of the rounds of a loop, from the groups of all loops and visits.
use Rattle.std.proofs.Common.{ℕ, ◌<◌, ◌≡◌, ◌∙◌, ap}
use Rattle.std.proofs.Common.{List, [], Option, Some, None, length, get_or, map}
use Rattle.std.specs.Prelude.{MatchOption}
use Rattle.std.specs.List.{range_with_len}
use Rattle.std.proofs.lemmas.List.{length-map}
use Rattle.std.proofs.lemmas.Simd.{map-map}
use Rattle.tomex_loops.specs.declared.visit.Round.{Round}
use Rattle.tomex_loops.specs.declared.visit.Visit.{Visit}
use Rattle.tomex_loops.specs.declared.counts.Counts.{Counts}
use Rattle.tomex_loop_sums.specs.ByLoop.{loops_of, many_rounds, round_cycles}
use Rattle.tomex_loop_sums.specs.Columns.{CountsAre, LongestRepeats, RepeatsOf}
use Rattle.tomex_loop_sums.specs.Groups.{groups_by, with_key}
use Rattle.tomex_loop_sums.specs.Longest.{IsLongest}
use Rattle.tomex_loop_sums.specs.OfLoop.{IsTurnOf, PatternIs}
use Rattle.tomex_loop_sums.proofs.GroupsBy.{group_at}

-- the length of each group
lengths_are : {X : Type 0} (count many : ℕ) (keys : List ℕ) (items : List X) → count ≡ many
    → map length (groups_by count keys items) ≡ map (λ n. length (with_key n keys items)) (range_with_len 0 many)
lengths_are count many keys items same =
    map-map length (λ n. with_key n keys items) (range_with_len 0 count)
    ∙ ap (λ (m : ℕ). map (λ n. length (with_key n keys items)) (range_with_len 0 m)) same

-- the loop of each round
abbrev pub keys : List Visit → List Round → List ℕ
keys visits rounds = map (λ r. get_or (loops_of visits) r.visit 0) rounds

-- what those of the longest visit repeat
longest_repeats : (n : ℕ) (loops lengths keys cycles : List ℕ) (longest : Option ℕ) (pattern : Option (List ℕ))
    → IsLongest n loops lengths longest → RepeatsOf (groups_by (length loops) keys cycles) longest pattern
    → MatchOption longest (pattern ≡ None) (λ v. PatternIs (with_key v keys cycles) pattern)
longest_repeats n loops lengths keys cycles None pattern is repeats = repeats
longest_repeats n loops lengths keys cycles (Some v) pattern is repeats =
    rw (group_at (length loops) keys cycles v [] is.before) at repeats

module _ (issues : List ℕ) (visits : List Visit) (rounds : List Round) where
  -- the cycles of the rounds of each visit
  abbrev by_visit : List (List ℕ)
  by_visit = groups_by (length (loops_of visits)) (map (λ r. r.visit) rounds) (round_cycles issues rounds)

  rounds_many : map length by_visit ≡ many_rounds issues visits rounds
  rounds_many = lengths_are (length (loops_of visits)) (length visits) (map (λ r. r.visit) rounds)
      (round_cycles issues rounds) (length-map visits (λ v. v.number))

  pub turn_is : (count n many : ℕ) (counts : Option Counts) (pattern : Option (List ℕ)) → n < count
      → many ≡ length (get_or (groups_by count (keys visits rounds) (round_cycles issues rounds)) n [])
      → CountsAre (get_or (groups_by count (keys visits rounds) (round_cycles issues rounds)) n []) counts
      → LongestRepeats n (loops_of visits) (map (λ r. r.visit) rounds) (round_cycles issues rounds) pattern
      → IsTurnOf issues visits rounds n many counts pattern
  turn_is count n many counts pattern l many_are counts_are repeats =
      let at = group_at count (keys visits rounds) (round_cycles issues rounds) n [] l in
      record {
        many_are = rw at at many_are;
        counts_are = rw at at counts_are;
        longest = repeats.longest;
        longest_is = rw rounds_many at repeats.longest_is;
        pattern_is = longest_repeats n (loops_of visits) (map length by_visit) (map (λ r. r.visit) rounds)
            (round_cycles issues rounds) repeats.longest pattern repeats.longest_is repeats.pattern_is;
      }
