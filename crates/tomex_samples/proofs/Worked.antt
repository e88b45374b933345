-- Worked rows.
use Rattle.std.proofs.Common.{ℕ, ◌≡◌, ◌-◌, ◌++◌, refl, List, [], ◌∷◌, Some, None, length, Ok, Err}
use Rattle.std.specs.Prelude.{replicate}
use Rattle.tomex_elf.specs.File.{words}
use Rattle.tomex_image.specs.Image.{Loaded}
use Rattle.tomex_samples.specs.declared.error.PartsError.TheVariants as errors
use Rattle.tomex_samples.specs.Groups.{groups_of, next_leaders, sums_of}
use Rattle.tomex_samples.specs.Leaders.{and_farthest, apart, farthest, first_leaders, in_order}
use Rattle.tomex_samples.specs.Parts.{all_weighed, chosen, shares_of}
use Rattle.tomex_samples.specs.Stretches.{Run, counts_of, run_length, stretch}
use Rattle.tomex_rvdec.specs.Meaning.{selection}
use Rattle.tomex_rvexec.specs.declared.outcome.FaultKind.TheVariants as faults
use Rattle.tomex_rvexec.specs.Machine.{step_of}
use Rattle.tomex_rvexec.specs.Run.{start_of}

-- a program in a window of 32 bytes from 0
abbrev pub image_of : List ℕ → Loaded
image_of ws = record {
  window = record { base = 0; size = 32 };
  memory = words ws ++ replicate (32 - length (words ws)) 0;
  entry = 0;
}

-- `addi x5,x0,3`, then three times `mul x6,x6,x5; addi x5,x5,-1; bne x5,x0,-8`, and `ebreak`: eleven steps
abbrev pub rounds : Loaded
rounds = image_of (0x00300293 ∷ 0x02530333 ∷ 0xfff28293 ∷ 0xfe029ce3 ∷ 0x00100073 ∷ [])

-- `lw x3,64(x0)` faults
abbrev pub faulty : Loaded
faulty = image_of (0x04002183 ∷ [])

pub eleven_steps : run_length 12 (start_of rounds) ≡ Ok 11
unfolding step_of selection
eleven_steps = refl

pub eleven_are_enough : run_length 11 (start_of rounds) ≡ Ok 11
unfolding step_of selection
eleven_are_enough = refl

pub ten_are_too_few : run_length 10 (start_of rounds) ≡ Err errors.TooLong
unfolding step_of selection
ten_are_too_few = refl

pub it_faults : run_length 10 (start_of faulty)
    ≡ Err (errors.Fault (record { kind = faults.Access; pc = 0 }))
unfolding step_of selection
it_faults = refl

-- the steps of two stretches of three, at each word
pub first_counts : counts_of rounds.window (stretch rounds 3 0) ≡ 1 ∷ 1 ∷ 1 ∷ 0 ∷ 0 ∷ 0 ∷ 0 ∷ 0 ∷ []
unfolding step_of selection
first_counts = refl

pub second_counts : counts_of rounds.window (stretch rounds 3 1) ≡ 0 ∷ 1 ∷ 1 ∷ 1 ∷ 0 ∷ 0 ∷ 0 ∷ 0 ∷ []
unfolding step_of selection
second_counts = refl

-- stretches of the worked example: rounds of `mul`, `addi` and `bne` after one `addi`, in a window of five
-- words
abbrev pub first_row : List ℕ
first_row = 1 ∷ 1 ∷ 1 ∷ 0 ∷ 0 ∷ []

abbrev pub other_row : List ℕ
other_row = 0 ∷ 1 ∷ 1 ∷ 1 ∷ 0 ∷ []

abbrev pub example : Run
example = record {
  counts = first_row ∷ other_row ∷ other_row ∷ other_row ∷ [];
  parts = Some 3 ∷ Some 10 ∷ Some 7 ∷ Some 4 ∷ [];
}

pub they_differ_twice : apart example 0 1 ≡ 2
they_differ_twice = refl

pub alike : apart example 1 2 ≡ 0
alike = refl

pub the_second_is_farthest : farthest example (0 ∷ []) ≡ Some 1
the_second_is_farthest = refl

pub none_is_farther : farthest example (0 ∷ 1 ∷ []) ≡ None
none_is_farther = refl

pub two_leaders : first_leaders example 0 ≡ 0 ∷ 1 ∷ []
unfolding and_farthest
two_leaders = refl

pub two_groups : groups_of example (0 ∷ 1 ∷ []) ≡ 0 ∷ 1 ∷ 1 ∷ 1 ∷ []
two_groups = refl

pub sums_of_three : sums_of example (0 ∷ 1 ∷ 1 ∷ 1 ∷ []) 1 ≡ 0 ∷ 3 ∷ 3 ∷ 3 ∷ 0 ∷ []
sums_of_three = refl

pub they_stay : next_leaders example (0 ∷ 1 ∷ []) ≡ 0 ∷ 1 ∷ []
they_stay = refl

-- of equals the first: between two leaders, the one that is earlier in the run
abbrev pub between : Run
between = record {
  counts = (2 ∷ 0 ∷ []) ∷ (0 ∷ 2 ∷ []) ∷ (1 ∷ 1 ∷ []) ∷ [];
  parts = Some 2 ∷ Some 2 ∷ Some 2 ∷ [];
}

pub first_of_equals : groups_of between (in_order 3 (1 ∷ 0 ∷ [])) ≡ 0 ∷ 1 ∷ 0 ∷ []
first_of_equals = refl

-- the worked example's weights: one stretch by three steps, and nine by 28
pub shares_of_example : shares_of example 3 (0 ∷ 1 ∷ [])
    ≡ record { from = 1; steps = 3; stretches = 1 } ∷ record { from = 4; steps = 10; stretches = 3 } ∷ []
shares_of_example = refl

pub weights : all_weighed (record { from = 1; steps = 3; stretches = 1 } ∷ record {
  from = 4;
  steps = 28;
  stretches =
      9;
} ∷ [])
    ≡ record { from = 1; steps = 3; stretches = 1; weight = 1000 }
    ∷ record { from = 4; steps = 28; stretches = 9; weight = 964 } ∷ []
weights = refl

-- halves up, and at least 1
pub half_up : all_weighed (record { from = 1; steps = 1; stretches = 2000 } ∷ record {
  from = 2;
  steps = 1;
  stretches
      = 3;
} ∷ [])
    ≡ record { from = 1; steps = 1; stretches = 2000; weight = 1000 }
    ∷ record { from = 2; steps = 1; stretches = 3; weight = 2 } ∷ []
half_up = refl

pub at_least_one : all_weighed (record { from = 1; steps = 1; stretches = 9000 } ∷ record {
  from = 2;
  steps = 9;
  stretches = 1;
} ∷ [])
    ≡ record { from = 1; steps = 1; stretches = 9000; weight = 1000 }
    ∷ record { from = 2; steps = 9; stretches = 1; weight = 1 } ∷ []
at_least_one = refl

pub none_can : chosen (record { counts = first_row ∷ []; parts = None ∷ [] }) 3 ≡ Err errors.NoEnd
none_can = refl
