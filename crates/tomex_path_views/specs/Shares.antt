-- What some links of a path have together, and bounds by which no sum overflows.
use Rattle.std.specs.Prelude.{◌+◌, ◌^◌, ◌≤◌, All, List, length, sum_by}
use Rattle.tomex_path.specs.declared.link.Link.{Link}
use Rattle.tomex_path.specs.Laws.{cycles_of}
use Rattle.tomex_path.specs.Within.{IsWithin}
use Rattle.tomex_path_views.specs.declared.shares.Share.{Share}

abbrev pub share_of : List Link → Share
share_of ls = record { links = length ls; waits = sum_by (λ l. l.waits) ls; cycles = sum_by cycles_of ls }

-- with one link more
abbrev pub share_after : Share → Link → Share
share_after share l = record {
  links = share.links + 1;
  waits = share.waits + l.waits;
  cycles = share.cycles + cycles_of l;
}

-- a link of a run of at most 2^18 steps, which takes at most 2^35 cycles
abbrev pub IsShort : Link → Type 0
IsShort l = IsWithin (2 ^ 18) (2 ^ 35) l

-- its links are no more than its steps
pub record AreShort (path : List Link) : Type 0 where
  pub few : length path ≤ 2 ^ 18
  pub all : All IsShort path
