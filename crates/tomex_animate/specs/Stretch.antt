-- The steps of a run that a page shows, with all steps between them.
use Rattle.std.specs.Prelude.{◌≡◌, ℕ, ◌+◌, nat_lt, max, min, Bool, true, ◌&&◌, All, List, ◌++◌, unwrap_or}
use Rattle.tomex_timing.specs.History.{cycle_of}
use Rattle.tomex_timing.specs.declared.times.Times.{Times}
use Rattle.tomex_snapshots.specs.declared.entries.Entry.{Entry}
use Rattle.tomex_snapshots.specs.declared.entries.Span.{Span}

-- the first and the last of a step's cycles
abbrev pub earliest : Times → ℕ
earliest at = min at.issue (min (unwrap_or at.address at.issue) (min at.start (min at.finish at.end)))

abbrev pub latest : Times → ℕ
latest at = max at.issue (max (cycle_of at.address) (max at.start (max at.finish at.end)))

-- a step that is in no view from a cycle on, and one that is in none up to a cycle
abbrev pub is_past : ℕ → Entry → Bool
is_past first e = nat_lt (latest e.at + 2) first

abbrev pub is_later : ℕ → Entry → Bool
is_later last e = nat_lt last e.from && nat_lt last (earliest e.at)

-- a contiguous part of a run's steps, without some that are past and some that are later
pub record IsStretch (page : Span) (all some : List Entry) : Type 0 where
  pub front : List Entry
  pub rest : List Entry
  pub is : all ≡ front ++ (some ++ rest)
  pub past : All (λ e. is_past page.from e ≡ true) front
  pub later : All (λ e. is_later page.to e ≡ true) rest
