-- The result of a line that asks for a run.
use Rattle.std.specs.Prelude.{List, ℕ}
use Rattle.tomex_image.specs.Window.{IsWindow}
use Rattle.tomex_command.specs.declared.failure.Failure.{Failure}
use Rattle.tomex_command.specs.declared.failure.Failure.TheVariants.{BadWindow, CannotRead, Run, Memory}
use Rattle.tomex_command_line.specs.declared.line.run.RunLine.{RunLine}
use Rattle.tomex_command.specs.declared.run.RunRefusal.{RunRefusal}
use Rattle.tomex_command.specs.Reading.{IsUnread}
use Rattle.tomex_streams.specs.Files.{Known, IsRead}
use Rattle.tomex_command.specs.RunText.{IsRunText, IsRunRefusal}

-- base and size are a window, and the text is that of the run of the image's bytes in it
pub record IsRunOf (file : List ℕ → Known) (line : RunLine) (text : List ℕ) : Type 0 where
  pub window : IsWindow line.image.base line.image.size
  pub bytes : List ℕ
  pub read : IsRead (file line.image.file.now) bytes
  pub is_text : IsRunText bytes (record { base = line.image.base; size = line.image.size }) line.limit text

-- base and size are a window, and the image's bytes or their run have this refusal
pub record IsRefusedRun (file : List ℕ → Known) (line : RunLine) (refusal : RunRefusal) : Type 0 where
  pub window : IsWindow line.image.base line.image.size
  pub bytes : List ℕ
  pub read : IsRead (file line.image.file.now) bytes
  pub is_refusal : IsRunRefusal bytes (record { base = line.image.base; size = line.image.size }) line.limit refusal

-- when each failure comes: the window is tested before the file is read; memory may run out at any time
abbrev pub IsRunFailure : (List ℕ → Known) → RunLine → Failure → Type 0
IsRunFailure file line BadWindow = IsWindow line.image.base line.image.size → ⊥
IsRunFailure file line (CannotRead name) =
    IsWindow line.image.base line.image.size × IsUnread file line.image.file.now (CannotRead name)
IsRunFailure file line (Run refusal) = IsRefusedRun file line refusal
IsRunFailure file line Memory = Unit {0}
IsRunFailure file line _ = ⊥
