-- The ranges of memory that a report shows at a program's end, and which of them it may have.
use Rattle.std.specs.Prelude.{◌≡◌, ℕ, ◌≤◌, ◌&&◌, Bool, true, nat_le, List, length, sum_by, All}
use Rattle.tomex_image.specs.Window.{Span}
use Rattle.tomex_rvexec.specs.Memory.{is_inside}
use Rattle.tomex_study.specs.declared.watch.WatchRange.{WatchRange}

-- it has a byte, and all its bytes lie in the window
abbrev pub is_watchable : Span → WatchRange → Bool
is_watchable window range = nat_le 1 range.length && is_inside window.base window.size range.address range.length

-- the bytes of all ranges, one after another
abbrev pub watched_bytes : List WatchRange → ℕ
watched_bytes ranges = sum_by (λ range. range.length) ranges

-- at most 8 ranges, each in the window, with at most 4,096 bytes together
pub record IsWatch (window : Span) (ranges : List WatchRange) : Type 0 where
  pub few : length ranges ≤ 8
  pub inside : All (λ range. is_watchable window range ≡ true) ranges
  pub short : watched_bytes ranges ≤ 4096
