-- The result of a line that asks for the parts that stand for a run.
use Rattle.std.specs.Prelude.{◌≡◌, ℕ, List, Ok, Err}
use Rattle.tomex_image.specs.Image.{Loaded}
use Rattle.tomex_command.specs.declared.failure.Failure.{Failure}
use Rattle.tomex_command.specs.declared.failure.Failure.TheVariants.{Run, NoSuchStep, NoEnd, Memory}
use Rattle.tomex_command.specs.declared.run.RunRefusal.TheVariants as refusals
use Rattle.tomex_command.specs.ImageLines.{IsImageFailure, IsImageOf}
use Rattle.tomex_command_line.specs.declared.line.parts.PartsLine.{PartsLine}
use Rattle.tomex_samples.specs.declared.chosen.Chosen.{Chosen}
use Rattle.tomex_samples.specs.declared.error.PartsError.{PartsError}
use Rattle.tomex_samples.specs.declared.error.PartsError.TheVariants as errors
use Rattle.tomex_samples.specs.Parts.{parts_of}
use Rattle.tomex_samples.specs.PartsCsv.{parts_csv}
use Rattle.tomex_streams.specs.Files.{Known}

-- the text is the table of the parts that stand for the image's run
pub record IsPartsOf (file : List ℕ → Known) (line : PartsLine) (text : List ℕ) : Type 0 where
  pub image : Loaded
  pub of_image : IsImageOf file line.image image
  pub parts : List Chosen
  pub are_parts : parts_of image line.steps ≡ Ok parts
  pub is_text : text ≡ parts_csv parts

-- no parts stand for the image's run, for this reason
pub record AreNoParts (file : List ℕ → Known) (line : PartsLine) (error : PartsError) : Type 0 where
  pub image : Loaded
  pub of_image : IsImageOf file line.image image
  pub is_refused : parts_of image line.steps ≡ Err error

-- when each failure comes: those of the image, then those of its run; memory may run out at any time
abbrev pub IsPartsFailure : (List ℕ → Known) → PartsLine → Failure → Type 0
IsPartsFailure file line (Run (refusals.Fault fault)) = AreNoParts file line (errors.Fault fault)
IsPartsFailure file line (Run refusals.TooLong) = AreNoParts file line errors.TooLong
IsPartsFailure file line NoSuchStep = AreNoParts file line errors.NoSuchStep
IsPartsFailure file line NoEnd = AreNoParts file line errors.NoEnd
IsPartsFailure file line Memory = Unit {0}
IsPartsFailure file line failure = IsImageFailure file line.image failure
