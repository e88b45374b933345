-- By which loop the visits, steps and rounds of a run are counted.
use Rattle.std.specs.Prelude.{ℕ, ◌-◌, List, [], ◌∷◌, Option, length, map, slice_index, unwrap_or}
use Rattle.std.specs.List.{range_with_len}
use Rattle.std.specs.Option.{option_map}
use Rattle.tomex_loops.specs.declared.visit.Round.{Round}
use Rattle.tomex_loops.specs.declared.visit.Visit.{Visit}
use Rattle.tomex_loop_sums.specs.declared.spans.Span.{Span}
use Rattle.tomex_loop_sums.specs.Groups.{with_key}

-- the number of each visit's loop
abbrev pub loops_of : List Visit → List ℕ
loops_of visits = map (λ v. v.number) visits

-- the number of the loop of each step's innermost visit
abbrev pub keys_of : List Visit → List (Option ℕ) → List (Option ℕ)
keys_of visits innermost = map (option_map (slice_index (loops_of visits))) innermost

-- the address of the head of loop n, and of the loop that a visit is of
abbrev pub head_at : (addresses heads : List ℕ) → ℕ → ℕ
head_at addresses heads n = slice_index addresses (slice_index heads n)

abbrev pub head_of_visit : (addresses heads : List ℕ) → List Visit → ℕ → ℕ
head_of_visit addresses heads visits v = head_at addresses heads (slice_index (loops_of visits) v)

-- the loop around each visit, by its head
abbrev pub heads_around : (addresses heads : List ℕ) → List Visit → List (Option ℕ)
heads_around addresses heads visits = map (λ v. option_map (head_of_visit addresses heads visits) v.around) visits

-- the steps that are in each visit, by its loop; the last one ends with the run, if it hasn't ended before
abbrev pub spans_by : ℕ → List Visit → List (Option ℕ) → List Span
spans_by count [] ends = []
spans_by count (v ∷ visits) [] = []
spans_by count (v ∷ visits) (e ∷ ends) =
    record { key = v.number; from = v.first; to = unwrap_or e count } ∷ spans_by count visits ends

-- A round takes the cycles from its issue at the head to the next one. Given are the cycles in which steps issue.
abbrev pub round_cycles : (issues : List ℕ) → List Round → List ℕ
round_cycles issues rounds = map (λ r. slice_index issues r.to - slice_index issues r.from) rounds

-- those of the rounds of one visit, and of one loop
abbrev pub rounds_of_visit : (issues : List ℕ) → List Round → ℕ → List ℕ
rounds_of_visit issues rounds v = with_key v (map (λ r. r.visit) rounds) (round_cycles issues rounds)

abbrev pub rounds_of_loop : (issues : List ℕ) → List Visit → List Round → ℕ → List ℕ
rounds_of_loop issues visits rounds n =
    with_key n (map (λ r. slice_index (loops_of visits) r.visit) rounds) (round_cycles issues rounds)

-- how many rounds each visit has
abbrev pub many_rounds : (issues : List ℕ) → List Visit → List Round → List ℕ
many_rounds issues visits rounds =
    map (λ v. length (rounds_of_visit issues rounds v)) (range_with_len 0 (length visits))
