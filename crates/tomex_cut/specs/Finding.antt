-- A part as the code finds it.
use Rattle.std.specs.Prelude.{◌≡◌, ℕ, ◌%◌, Bool, List, Option, Ok, IfSome, IsTrue}
use Rattle.tomex_cut.specs.Marks.{ShowFree}
use Rattle.tomex_cut.specs.Part.{Part, is_overwritten, part_of}
use Rattle.tomex_image.specs.Image.{Loaded}
use Rattle.tomex_image.specs.Window.{IsWindow}
use Rattle.tomex_rvexec.specs.Flow.{IsState, memory_of}
use Rattle.tomex_rvexec.specs.Machine.{holds}
use Rattle.tomex_rvexec.specs.Memory.{Bytes}

-- the part of an image's run: the state before it, its end, whether its code was overwritten, and its free words
pub record IsPartFound (i : Loaded) (from least pc : ℕ) (regs : List ℕ) (memory : Bytes) (end : Option ℕ)
    (overwritten : Bool) (base : ℕ) (marks : List Bool) : Type 0 where
  pub part : Part
  pub is_part : part_of i from least ≡ Ok part
  pub image : part.start.image ≡ i
  pub window : IsWindow i.window.base i.window.size
  pub state : IsState part.start
  pub at : pc ≡ part.start.pc
  pub registers : regs ≡ part.start.regs
  pub before : memory ≡ memory_of part.start
  pub ends : end ≡ part.end
  pub end_word : IfSome part.end (λ e. (e % 4 ≡ 0) × IsTrue (holds part.start e 4))
  pub changed : overwritten ≡ is_overwritten part
  pub free : ShowFree part base marks
