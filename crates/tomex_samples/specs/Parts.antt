-- The parts that stand for a run, with their weights.
use Rattle.std.specs.Prelude.{ℕ, ◌+◌, ◌*◌, ◌/◌, max, nat_lt, if◌then◌else◌, List, [], ◌∷◌, fold, map, position}
use Rattle.std.specs.Prelude.{slice_index_or, Option, Some, None, is_some, unwrap_or, Result, Ok, Err}
use Rattle.tomex_image.specs.Image.{Loaded}
use Rattle.tomex_samples.specs.declared.chosen.Chosen.{Chosen}
use Rattle.tomex_samples.specs.declared.error.PartsError.{PartsError}
use Rattle.tomex_samples.specs.declared.error.PartsError.TheVariants as errors
use Rattle.tomex_samples.specs.declared.weights.Share.{Share}
use Rattle.tomex_samples.specs.Groups.{groups_of, leaders_after, members}
use Rattle.tomex_samples.specs.Leaders.{first_leaders}
use Rattle.tomex_samples.specs.Stretches.{Run, most_stretches, run_length, run_of}
use Rattle.tomex_rvexec.specs.Run.{start_of}

-- of two parts the one that stands for more stretches by its steps; of equals the first
abbrev pub heavier : Share → Share → Share
heavier a b = if nat_lt (a.stretches * b.steps) (b.stretches * a.steps) then b else a

-- the part with the most
abbrev pub heaviest : List Share → Share → Share
heaviest shares first = fold heavier first shares

-- a part's stretches by its steps, in thousandths of those of the part with the most: the nearest whole number, halves
-- up, and at least 1
abbrev pub weight : Share → Share → ℕ
weight most a =
    max ((2000 * (a.stretches * most.steps) + a.steps * most.stretches) / (2 * (a.steps * most.stretches))) 1

abbrev pub weighed : Share → Share → Chosen
weighed most a = record { from = a.from; steps = a.steps; stretches = a.stretches; weight = weight most a }

abbrev pub all_weighed : List Share → List Chosen
all_weighed [] = []
all_weighed (a ∷ others) = map (weighed (heaviest others a)) (a ∷ others)

-- the part that begins with the stretch of a leader, for its group
abbrev pub share_of : Run → List ℕ → ℕ → ℕ → Share
share_of run groups steps l = record {
  from = l * steps + 1;
  steps = unwrap_or (slice_index_or run.parts l None) 0;
  stretches = members groups l;
}

abbrev pub shares_of : Run → ℕ → List ℕ → List Share
shares_of run steps leaders = map (share_of run (groups_of run leaders) steps) leaders

-- ten rounds from the first stretch that can, if there is one
abbrev pub leaders_from : Run → ℕ → List ℕ
leaders_from run first = leaders_after run 10 (first_leaders run first)

abbrev pub chosen_from : Run → ℕ → Option ℕ → Result (List Chosen) PartsError
chosen_from run steps None = Err errors.NoEnd
chosen_from run steps (Some first) = Ok (all_weighed (shares_of run steps (leaders_from run first)))

abbrev pub chosen : Run → ℕ → Result (List Chosen) PartsError
chosen run steps = chosen_from run steps (position is_some run.parts)

-- the parts of a run of this length
abbrev pub parts_within : Loaded → ℕ → Result ℕ PartsError → Result (List Chosen) PartsError
parts_within i steps (Err e) = Err e
parts_within i steps (Ok n) =
    if nat_lt n steps then Err errors.NoSuchStep else chosen (run_of i steps (n / steps)) steps

-- the parts that stand for the run of an image, by stretches of this number of steps
abbrev pub parts_of : Loaded → ℕ → Result (List Chosen) PartsError
parts_of i steps = parts_within i steps (run_length (most_stretches * steps) (start_of i))
