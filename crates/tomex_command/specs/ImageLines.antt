-- The image that a line names.
use Rattle.std.specs.Prelude.{◌≡◌, ◌≢◌, ℕ, List, Some, None}
use Rattle.tomex_image.specs.Image.{Loaded}
use Rattle.tomex_image.specs.Loading.{IsPlaced, refused}
use Rattle.tomex_image.specs.Window.{IsWindow, Span}
use Rattle.tomex_image.specs.declared.error.ImageError.{ImageError}
use Rattle.tomex_image.specs.declared.error.ImageError.TheVariants as images
use Rattle.tomex_command.specs.declared.failure.Failure.{Failure}
use Rattle.tomex_command.specs.declared.failure.Failure.TheVariants.{BadWindow, CannotRead, Run, Memory}
use Rattle.tomex_command.specs.declared.run.RunRefusal.TheVariants as refusals
use Rattle.tomex_command.specs.Reading.{IsUnread}
use Rattle.tomex_command_line.specs.declared.line.image.ImageLine.{ImageLine}
use Rattle.tomex_streams.specs.Files.{Known, IsRead}

-- the memory that a line names
abbrev pub window_in : ImageLine → Span
window_in line = record { base = line.base; size = line.size }

-- base and size are a window, and the image is that of the file's bytes in it
pub record IsImageOf (file : List ℕ → Known) (line : ImageLine) (i : Loaded) : Type 0 where
  pub window : IsWindow line.base line.size
  pub bytes : List ℕ
  pub read : IsRead (file line.file.now) bytes
  pub accepted : refused bytes (window_in line) ≡ None
  pub placed : IsPlaced bytes (window_in line) i

-- the same of a file with these bytes
pub record IsImageIn (file : List ℕ → Known) (line : ImageLine) (bytes : List ℕ) (i : Loaded) : Type 0 where
  pub window : IsWindow line.base line.size
  pub read : IsRead (file line.file.now) bytes
  pub accepted : refused bytes (window_in line) ≡ None
  pub placed : IsPlaced bytes (window_in line) i

-- base and size are a window, in which the file's bytes have this refusal
pub record IsNoImageOf (file : List ℕ → Known) (line : ImageLine) (error : ImageError) : Type 0 where
  pub window : IsWindow line.base line.size
  pub bytes : List ℕ
  pub read : IsRead (file line.file.now) bytes
  pub says : error ≢ images.Memory
  pub is_refused : refused bytes (window_in line) ≡ Some error

-- when each failure comes: the window is tested before the file is read; memory may run out at any time
abbrev pub IsImageFailure : (List ℕ → Known) → ImageLine → Failure → Type 0
IsImageFailure file line BadWindow = IsWindow line.base line.size → ⊥
IsImageFailure file line (CannotRead name) =
    IsWindow line.base line.size × IsUnread file line.file.now (CannotRead name)
IsImageFailure file line (Run (refusals.Image error)) = IsNoImageOf file line error
IsImageFailure file line Memory = Unit {0}
IsImageFailure file line _ = ⊥
