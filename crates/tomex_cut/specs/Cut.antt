-- A part of a long run as an image of its own, and why there may be none.
use Rattle.std.specs.Prelude.{◌≡◌, ℕ, List, false, Ok, Err, IsTrue, ⊤}
use Rattle.tomex_image.specs.Image.{Loaded}
use Rattle.tomex_cut.specs.declared.error.CutError.{CutError}
use Rattle.tomex_cut.specs.declared.error.CutError.TheVariants as errors
use Rattle.tomex_elf.specs.File.{file_of}
use Rattle.tomex_cut.specs.Part.{Part, is_overwritten, part_of}
use Rattle.tomex_cut.specs.Prologue.{HasPrologue}
use Rattle.tomex_cut.specs.Room.{HasNoRoom, IsHook, IsPlace}
use Rattle.tomex_cut.specs.SymbolFile.{symbol_file_of}
use Rattle.tomex_rvexec.specs.Flow.{memory_of}
use Rattle.tomex_rvexec.specs.Memory.{Bytes}

-- the file of the part of an image's run that begins with step `from` and has at least `least` steps: its memory is
-- that before the part, with a prologue at the hook and the place, where the file's entry is
pub record IsCut (i : Loaded) (from least : ℕ) (file : List ℕ) : Type 0 where
  pub part : Part
  pub is_part : part_of i from least ≡ Ok part
  pub kept : is_overwritten part ≡ false
  pub hook : ℕ
  pub is_hook : IsHook part hook
  pub place : ℕ
  pub is_place : IsPlace part hook place
  pub memory : Bytes
  pub is_memory :
      HasPrologue (memory_of part.start) part.start.pc part.start.regs part.end hook place memory
  pub is_file : file ≡ file_of i.window place memory.bytes

-- a cut's entry, which is its place, and its memory: its file is made of them
pub record IsCutAt (i : Loaded) (from least entry : ℕ) (memory : Bytes) : Type 0 where
  pub cut : IsCut i from least (file_of i.window entry memory.bytes)
  pub at : cut.place ≡ entry
  pub holds : cut.memory ≡ memory

-- a file of the same memory and the same place that has the symbols of the file `bytes` too
pub record IsCutWithSymbols (i : Loaded) (bytes : List ℕ) (from least : ℕ) (file : List ℕ) : Type 0 where
  pub without : List ℕ
  pub cut : IsCut i from least without
  pub is_file : file ≡ symbol_file_of i.window cut.place cut.memory.bytes bytes

-- why there is no such file: there is no such part; else a store changed its code before it; else there is no room
abbrev pub IsRefused : Loaded → ℕ → ℕ → CutError → Type 0
IsRefused i from least errors.Overwritten = (p : Part) × (part_of i from least ≡ Ok p) × IsTrue (is_overwritten p)
IsRefused i from least errors.NoRoom =
    (p : Part) × (part_of i from least ≡ Ok p) × (is_overwritten p ≡ false) × HasNoRoom p
IsRefused i from least errors.Memory = ⊤
IsRefused i from least e = part_of i from least ≡ Err e
