-- A loaded image, as contracts see it.
use Rattle.std.specs.Prelude.{◌≡◌, ℕ, ◌+◌, ◌%◌, ◌≤◌, List, length}
use Rattle.tomex_image.specs.Window.{Span}

-- byte k of the memory is the one at the address window.base + k
pub record Loaded : Type 0 where
  pub window : Span
  pub memory : List ℕ
  pub entry : ℕ

-- the memory fills the window, and the entry is a word of it
pub record IsLoaded (window : Span) (memory : List ℕ) (entry : ℕ) : Type 0 where
  pub filled : length memory ≡ window.size
  pub aligned : entry % 4 ≡ 0
  pub above : window.base ≤ entry
  pub below : entry + 4 ≤ window.base + window.size
