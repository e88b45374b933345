-- The picture of some steps of a run: a line a step, with a column for each cycle after its instruction.
use Rattle.std.specs.Prelude.{◌≡◌, ℕ, ◌+◌, ◌-◌, ◌*◌, ◌<◌, ◌≤◌, ◌==◌, nat_le, nat_lt, ◌&&◌, if◌then◌else◌}
use Rattle.std.specs.Prelude.{max, List, [], ◌∷◌, ◌++◌, codes, length, Option, Some, None}
use Rattle.std.specs.List.{flat_map, range_with_len}
use Rattle.std.specs.Fmt.{decimal}
use Rattle.tomex_rvdec.specs.Text.{hex8, instr_text}
use Rattle.tomex_rvexec.specs.Steps.{is_number}
use Rattle.tomex_rvexec.specs.declared.step.Step.{Step}
use Rattle.tomex_config.specs.Configuration.{Configuration}
use Rattle.tomex_timing.specs.Search.{times_in, total_of}
use Rattle.tomex_timing.specs.declared.times.Times.{Times}
use Rattle.tomex_layout.specs.Aligned.{left_aligned, right_aligned}
use Rattle.tomex_run_views.specs.Excerpt.{excerpt}
use Rattle.tomex_run_views.specs.declared.excerpt_error.ExcerptError.{ExcerptError}
use Rattle.tomex_run_views.specs.declared.excerpt_error.ExcerptError.TheVariants as excerpts
use Rattle.tomex_run_views.specs.declared.lines.Frame.{Frame}
use Rattle.tomex_run_views.specs.declared.picture_error.PictureError.{PictureError}
use Rattle.tomex_run_views.specs.declared.picture_error.PictureError.TheVariants.{NoSuchStep, TooLarge, Memory}
use Rattle.tomex_run_views.specs.declared.stage.Stage.{Stage}
use Rattle.tomex_run_views.specs.declared.stage.Stage.TheVariants.{Issue, Address, Execute, Write, BusWait, Wait}

-- the activity of a step in a cycle, if any: the first row that fits. A step without a destination ends as it finishes,
-- in its unit; those without a unit start as they issue.
abbrev pub stage_in : Times → ℕ → Option Stage
stage_in at t =
    if nat_lt t at.issue then None
    else (if nat_lt at.end t then None
    else (if t == at.issue then Some Issue
    else (if is_number at.address t then Some Address
    else (if nat_le at.start t && nat_le t at.finish then Some Execute
    else (if t == at.end then Some Write
    else (if nat_lt at.finish t then Some BusWait
    else Some Wait))))))

abbrev pub sign_of : Stage → List ℕ
sign_of Issue = codes "I"
sign_of Address = codes "A"
sign_of Execute = codes "E"
sign_of Write = codes "W"
sign_of BusWait = codes "-"
sign_of Wait = codes "="

abbrev pub sign_at : Option Stage → List ℕ
sign_at None = codes " "
sign_at (Some stage) = sign_of stage

-- a step's sign in a cycle
unfoldable pub sign_in : Times → ℕ → List ℕ
sign_in at t = sign_at (stage_in at t)

-- a step's chart: its signs from a cycle on, up to its end
abbrev pub chart : Times → ℕ → List ℕ
chart at from = flat_map (sign_in at) (range_with_len from (at.end + 1 - from))

-- a step's line: its number, its address, its instruction and its chart
unfoldable pub line_of : Frame → ℕ → Step → Times → List ℕ
line_of frame number step at =
    right_aligned frame.digits (decimal number) ++ (codes " " ++ (hex8 step.pc
    ++ (codes " " ++ (left_aligned frame.letters (instr_text step.instr)
    ++ (codes " " ++ (chart at frame.first ++ codes "\n"))))))

-- the lines of the steps from a number on
abbrev pub lines_of : Frame → ℕ → List Step → List Times → List ℕ
lines_of frame number (step ∷ steps) (at ∷ times) =
    line_of frame number step at ++ lines_of frame (number + 1) steps times
lines_of frame number _ _ = []

-- the issue of the first of them
abbrev pub first_issue : List Times → ℕ
first_issue [] = 0
first_issue (at ∷ times) = at.issue

-- the length of the longest of their instructions
abbrev pub longest_instruction : List Step → ℕ
longest_instruction [] = 0
longest_instruction (step ∷ steps) = max (length (instr_text step.instr)) (longest_instruction steps)

-- the columns of steps with these times from a number on: as wide as the greatest number and the longest instruction,
-- and from the first issue on
abbrev pub frame_of : ℕ → List Step → List Times → Frame
frame_of number steps times = record {
  digits = length (decimal (number + length steps - 1));
  letters = longest_instruction steps;
  first = first_issue times;
}

-- the picture of steps with these times from a number on
abbrev pub picture_of : ℕ → List Step → List Times → List ℕ
picture_of number steps times =
    codes "cycles " ++ (decimal (first_issue times) ++ (codes " to " ++ (decimal (total_of times)
    ++ (codes "\n" ++ lines_of (frame_of number steps times) number steps times))))

-- the number of its signs
abbrev pub signs_of : List Times → ℕ
signs_of times = length times * (total_of times + 1 - first_issue times)

-- the most signs that are drawn: 2^24
abbrev pub most_signs : ℕ
most_signs = 16777216

-- the signs of what is shown of a run on a configuration
abbrev pub signs_shown : Configuration → List Step → ℕ → ℕ → ℕ
signs_shown config steps number count = signs_of (excerpt number count (times_in config steps))

-- the text is the picture of the steps that are asked for
pub record IsPictureOf (config : Configuration) (steps : List Step) (number count : ℕ) (text : List ℕ) : Type 0 where
  pub there : number ≤ length steps
  pub drawn : signs_shown config steps number count ≤ most_signs
  pub is : text ≡ picture_of number (excerpt number count steps) (excerpt number count (times_in config steps))

-- why there is no picture: the step is looked up first, and the size of the picture is tested last
abbrev pub IsUnpictured : Configuration → List Step → ℕ → ℕ → PictureError → Type 0
IsUnpictured config steps number count NoSuchStep = length steps < number
IsUnpictured config steps number count TooLarge =
    (number ≤ length steps) × (most_signs < signs_shown config steps number count)
IsUnpictured config steps number count Memory = Unit {0}

-- without an excerpt there is no picture
abbrev pub error_of_excerpt : ExcerptError → PictureError
error_of_excerpt excerpts.NoSuchStep = NoSuchStep
error_of_excerpt excerpts.Memory = Memory
