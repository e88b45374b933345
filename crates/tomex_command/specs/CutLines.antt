-- The result of a line that asks for a part of a run as an image.
use Rattle.std.specs.Prelude.{◌≡◌, ℕ, List, Bool, false, true}
use Rattle.tomex_image.specs.Image.{Loaded}
use Rattle.tomex_command.specs.declared.failure.Failure.{Failure}
use Rattle.tomex_command.specs.declared.failure.Failure.TheVariants.{Run, NoSymbols, NoSuchStep, NoEnd, CodeOverwritten}
use Rattle.tomex_command.specs.declared.failure.Failure.TheVariants.{NoRoom, Memory}
use Rattle.tomex_command.specs.declared.run.RunRefusal.TheVariants as refusals
use Rattle.tomex_command.specs.ImageLines.{IsImageFailure, IsImageIn}
use Rattle.tomex_command_line.specs.declared.line.cut.CutLine.{CutLine}
use Rattle.tomex_cut.specs.Cut.{IsCut, IsCutWithSymbols, IsRefused}
use Rattle.tomex_cut.specs.declared.error.CutError.{CutError}
use Rattle.tomex_cut.specs.declared.error.CutError.TheVariants as errors
use Rattle.tomex_streams.specs.Files.{Known}
use Rattle.tomex_symbols.specs.Symbols.{has_symbols}

-- the file of the part of an image's run, with the symbols of the image's own file if that is asked for
abbrev pub IsPartFile : Bool → Loaded → List ℕ → ℕ → ℕ → List ℕ → Type 0
IsPartFile false image bytes from least text = IsCut image from least text
IsPartFile true image bytes from least text = IsCutWithSymbols image bytes from least text

-- the text is the file of the part of the image's run
pub record IsCutOf (file : List ℕ → Known) (line : CutLine) (text : List ℕ) : Type 0 where
  pub image : Loaded
  pub bytes : List ℕ
  pub of_image : IsImageIn file line.image bytes image
  pub symbols : line.symbols ≡ true → has_symbols bytes ≡ true
  pub is_cut : IsPartFile line.symbols image bytes line.from line.steps text

-- symbols are asked for, and the image's file has none
pub record HasNoSymbols (file : List ℕ → Known) (line : CutLine) : Type 0 where
  pub image : Loaded
  pub bytes : List ℕ
  pub of_image : IsImageIn file line.image bytes image
  pub asked : line.symbols ≡ true
  pub none : has_symbols bytes ≡ false

-- the image's run has no such part, for this reason
pub record IsUncut (file : List ℕ → Known) (line : CutLine) (error : CutError) : Type 0 where
  pub image : Loaded
  pub bytes : List ℕ
  pub of_image : IsImageIn file line.image bytes image
  pub symbols : line.symbols ≡ true → has_symbols bytes ≡ true
  pub is_refused : IsRefused image line.from line.steps error

-- when each failure comes: those of the image, then that it has no symbols, then those of the part; memory may run out
-- at any time
abbrev pub IsCutFailure : (List ℕ → Known) → CutLine → Failure → Type 0
IsCutFailure file line (Run (refusals.Fault fault)) = IsUncut file line (errors.Fault fault)
IsCutFailure file line NoSymbols = HasNoSymbols file line
IsCutFailure file line NoSuchStep = IsUncut file line errors.NoSuchStep
IsCutFailure file line NoEnd = IsUncut file line errors.NoEnd
IsCutFailure file line CodeOverwritten = IsUncut file line errors.Overwritten
IsCutFailure file line NoRoom = IsUncut file line errors.NoRoom
IsCutFailure file line Memory = Unit {0}
IsCutFailure file line failure = IsImageFailure file line.image failure
