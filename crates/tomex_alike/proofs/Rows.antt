-- Rounds of two loops, computed by the definitions: they leave histories that look alike, and the second loop repeats
-- itself.
use Rattle.std.proofs.Common.{ℕ, zero, suc, ◌+◌, ◌-◌, ◌<◌, ◌≡◌, arith, refl, true, List, [], ◌∷◌, ◌++◌, count_by, map}
use Rattle.std.specs.Prelude.{slice_index_or}
use Rattle.std.proofs.lemmas.List.Elements.{All-from_recursion}
use Rattle.tomex_rvdec.specs.declared.op.Op.TheVariants.{Lw, Sw, Bne}
use Rattle.tomex_rvdec.specs.declared.pool.PoolId.TheVariants as pools
use Rattle.tomex_rvdec.specs.declared.pool.UnitId.TheVariants as units
use Rattle.tomex_rvexec.specs.declared.step.Step.{Step}
use Rattle.tomex_config.specs.Configuration.{Configuration, IsWithinLimits, is_between, is_option}
use Rattle.tomex_timing.specs.declared.times.Done.{Done}
use Rattle.tomex_timing.specs.Issue.{first_issue}
use Rattle.tomex_timing.specs.Search.{history, times_of}
use Rattle.tomex_timing.specs.Station.{is_held}
use Rattle.tomex_timing.proofs.Histories.{are_timed}
use Rattle.tomex_timing.proofs.Programs.{addi, step, instr, two_alu_stations, with_latency}
use Rattle.tomex_alike.specs.Alike.{IsSameStep, LooksLike, address_ahead, ahead, end_ahead, issued_now, lateness}
use Rattle.tomex_alike.specs.Alike.{results_ahead, starts_ahead, width_wait}
use Rattle.tomex_alike.specs.Laws.{ComesBack, RepeatsItself, first_issue_at, history_to, window_to}
use Rattle.tomex_alike.proofs.Runs.{runs_repeat}
use Rattle.tomex_alike.proofs.UpToEnd.{idle_alike}

-- memory takes six cycles
abbrev machine : Configuration
machine = with_latency units.Mem two_alu_stations 6

within : IsWithinLimits machine
within = record {
  pools = refl;
  stations = All-from_recursion (λ n. is_between 1 16 n ≡ true) machine.stations
      (refl, (refl, (refl, (refl, (refl, (refl, tt))))));
  kinds = refl;
  units = All-from_recursion (λ o. is_option 8 o ≡ true) machine.units (refl, (refl, (refl, (refl, (refl, tt)))));
  branch_unit = refl;
  buses = refl;
  width = refl;
}

-- lw x2,0(x8); addi x2,x2,1; sw x2,0(x8); addi x9,x9,-1; bne x9,x0 to the load, with x8 = 256: a round of a loop
abbrev round : ℕ → ℕ → List Step
round x2 x9 =
    step 0 (instr Lw 2 8 0 0) 256 0 ∷ addi 4 2 2 1 x2 ∷ step 8 (instr Sw 0 8 2 0) 256 (x2 + 1)
    ∷ addi 12 9 9 4294967295 x9 ∷ step 16 (instr Bne 0 9 0 4294967280) (x9 - 1) 0 ∷ []

abbrev one_round : List Done
one_round = history machine (round 0 3)

abbrev two_rounds : List Done
two_rounds = history machine (round 0 3 ++ round 1 2)

abbrev three_rounds : List Done
three_rounds = history machine ((round 0 3 ++ round 1 2) ++ round 2 1)

-- a round takes 15 cycles, after the first one
first_issues : map (first_issue machine) (one_round ∷ two_rounds ∷ three_rounds ∷ []) ≡ 8 ∷ 23 ∷ 38 ∷ []
unfolding times_of
first_issues = refl

-- what the next step sees of a history
abbrev scalars : List Done → List ℕ
scalars h = issued_now machine h ∷ width_wait machine h ∷ ahead machine h ∷ address_ahead machine h ∷ []

abbrev stores_held : List Done → ℕ → ℕ
stores_held h t = count_by (is_held pools.Store (first_issue machine h + t)) h

abbrev seen : List Done → List (List ℕ)
seen h =
    scalars h ∷ map (end_ahead machine h) (2 ∷ 8 ∷ 9 ∷ [])
    ∷ map (stores_held h) (0 ∷ 1 ∷ 2 ∷ 3 ∷ 4 ∷ 5 ∷ 6 ∷ 7 ∷ 8 ∷ [])
    ∷ map (starts_ahead machine units.Mem h) (1 ∷ 2 ∷ 3 ∷ 4 ∷ 5 ∷ 6 ∷ 7 ∷ 8 ∷ [])
    ∷ map (results_ahead machine h) (1 ∷ 2 ∷ 3 ∷ 4 ∷ 5 ∷ 6 ∷ 7 ∷ 8 ∷ [])
    ∷ map (lateness machine h) (0 ∷ 1 ∷ 2 ∷ 3 ∷ []) ∷ []

-- one round leaves its store under way, and two and three rounds leave the same
round_again : (scalars one_round ≡ 0 ∷ 0 ∷ 10 ∷ 0 ∷ []) × (seen two_rounds ≡ seen one_round)
    × (seen three_rounds ≡ seen two_rounds)
unfolding times_of
round_again = (refl, refl, refl)

-- only the store can meet a later access, for 8 more cycles
late_again : (map (lateness machine one_round) (0 ∷ 1 ∷ 2 ∷ []) ≡ 8 ∷ 0 ∷ 0 ∷ [])
    × (map (lateness machine three_rounds) (0 ∷ 1 ∷ 2 ∷ []) ≡ 8 ∷ 0 ∷ 0 ∷ [])
unfolding times_of
late_again = (refl, refl)

-- addi x9,x9,-1; bne x9,x0 to it: a round after which all is over
abbrev count_down : ℕ → List Step
count_down x9 = addi 0 9 9 4294967295 x9 ∷ step 4 (instr Bne 0 9 0 4294967292) (x9 - 1) 0 ∷ []

abbrev run : List Step
run = count_down 3 ++ (count_down 2 ++ count_down 1)

-- before the second round the run is in the state of its beginning
state_again : LooksLike machine 0 (history_to machine run 0) (history_to machine run 2)
unfolding times_of
state_again =
    idle_alike machine 0 (history_to machine run 0) (history_to machine run 2) within (are_timed machine [] within)
    (are_timed machine (count_down 3) within) refl refl refl refl

-- with the same four steps ahead
steps_again : (k : ℕ) (z : Step) → k < 4
    → IsSameStep (window_to 0 run 0 k) (history_to machine run (0 + k)) (history_to machine run (2 + k))
    (slice_index_or run (0 + k) z) (slice_index_or run (2 + k) z)
steps_again zero z l =
    record { pool = refl; dest = refl; j = refl; k = refl; conflicts = λ i none. absurd (omega arith) }
steps_again (suc zero) z l =
    record { pool = refl; dest = refl; j = refl; k = refl; conflicts = λ i none. absurd (omega arith) }
steps_again (suc (suc zero)) z l =
    record { pool = refl; dest = refl; j = refl; k = refl; conflicts = λ i none. absurd (omega arith) }
steps_again (suc (suc (suc zero))) z l =
    record { pool = refl; dest = refl; j = refl; k = refl; conflicts = λ i none. absurd (omega arith) }
steps_again (suc (suc (suc (suc k)))) z l = absurd (omega arith)

comes_back : ComesBack machine 0 run 0 2 4
comes_back = record { earlier = omega arith; there = omega arith; state = state_again; same = steps_again }

-- so the second and the third round are each the one before, 4 cycles later
repeats_itself : RepeatsItself machine 0 run 0 2 4 (first_issue_at machine run 2 - first_issue_at machine run 0)
repeats_itself = runs_repeat machine 0 run 0 2 4 within comes_back

cycles_of_round : first_issue_at machine run 2 - first_issue_at machine run 0 ≡ 4
unfolding times_of
cycles_of_round = refl
