-- The cycles in which the operations of the busy stations finish.
use Rattle.std.specs.Prelude.{ℕ, Bool, true, false, not, is_some, ◌≡◌, ◌≤◌, ◌<◌, ◌+◌, ◌&&◌}
use Rattle.std.specs.Prelude.{◌⊎◌, List, Option, Some, None, length, slice_index_or}
use Rattle.tomex_rvdec.specs.Operands.{dest_of}
use Rattle.tomex_bus.specs.Sets.{has}
use Rattle.tomex_bus.specs.Wheel.{is_due}
use Rattle.tomex_tags.specs.WaitSets.{writes}
use Rattle.tomex_tags.specs.declared.station.Station.{Station}
use Rattle.tomex_cycle.specs.declared.finishes.Finishes.{Finishes}
use Rattle.tomex_cycle.specs.Ends.{after_ends, can_send, finishes}
use Rattle.tomex_membuf.specs.Order.{is_finished_before}
use Rattle.tomex_tags.specs.Contents.{slot}

-- none finishes from one cycle to another, both included
abbrev pub IsFree : List (Option Station) → ℕ → ℕ → Type 0
IsFree slots from to = (x v : ℕ) → x < 96 → from ≤ v → v ≤ to → finishes v (slot slots x) ≡ false

-- all that finishes in the cycle has a result to send, and none is a branch
abbrev pub AreResults : List (Option Station) → ℕ → Type 0
AreResults slots v = (x : ℕ) → x < 96 → finishes v (slot slots x) ≡ true → (writes (slot slots x) ≡ true) × (x < 80)

-- a busy station finishes in the cycle after this one
abbrev pub FinishesNext : List (Option Station) → ℕ → Type 0
FinishesNext slots cycle = (x : ℕ) × (x < 96) × (finishes (cycle + 1) (slot slots x) ≡ true)

-- an operation with nothing to send finished before the cycle, and is still in its station
abbrev pub has_stayed : ℕ → Option Station → Bool
has_stayed cycle None = false
has_stayed cycle (Some s) = not (is_some (dest_of s.instr)) && is_finished_before s.finish cycle

-- the finishes of these stations, as known before a cycle ends
pub record IsTimetableOf (slots : List (Option Station)) (cycle : ℕ) (known : Finishes) : Type 0 where
  pub places : length slots ≡ 96
  -- the wheel has at each distance ahead what finishes then
  pub ahead : (a x : ℕ) → a < 64 → x < 96 → is_due known.wheel a x ≡ finishes (cycle + a) (slot slots x)
  -- nothing finishes beyond the wheel
  pub near : (x v : ℕ) → x < 96 → finishes v (slot slots x) ≡ true → v < cycle + 64
  -- the wheel has only places of stations
  pub low : (a x : ℕ) → is_due known.wheel a x ≡ true → x < 96
  -- results that finished before the cycle wait for a bus
  pub unsent : (x : ℕ) → x < 128 → has known.unsent x ≡ can_send cycle (slot slots x)
  -- each operation with nothing to send has ended as it finished
  pub gone : (x : ℕ) → x < 96 → has_stayed cycle (slot slots x) ≡ false

-- each timetable of the old stations is one of the new ones too
abbrev pub KeepsTimetable : ℕ → List (Option Station) → List (Option Station) → Type 0
KeepsTimetable cycle old new = (known : Finishes) → IsTimetableOf old cycle known → IsTimetableOf new cycle known

-- what finishes in the cycle is taken out, and the next cycle becomes the first
pub record HaveTurned (old new : Finishes) (taken : ℕ) : Type 0 where
  pub due : (x : ℕ) → has taken x ≡ is_due old.wheel 0 x
  pub wheel : (a x : ℕ) → is_due new.wheel a x ≡ is_due old.wheel (a + 1) x
  pub unsent : new.unsent ≡ old.unsent

-- the finishes known before a cycle ends, after what finishes in it is taken out
pub record AreTurned (slots : List (Option Station)) (cycle due : ℕ) (now : Finishes) : Type 0 where
  pub before : Finishes
  pub known : IsTimetableOf slots cycle before
  pub turned : HaveTurned before now due

-- after these places have ended and all others have received what was sent, the finishes are known before the next
-- cycle
abbrev pub LeavesTimetable : List (Option Station) → ℕ → ℕ → Finishes → Type 0
LeavesTimetable slots cycle ending known =
    (new : List (Option Station)) (sent : ℕ → Option ℕ) → length new ≡ 96
    → ((x : ℕ) → x < 96 → slice_index_or new x None ≡ after_ends (has ending x) sent (slot slots x))
    → IsTimetableOf new (cycle + 1) known

-- the number of cycles that can be skipped: those before the next finish, if there is one, but at most most
abbrev pub CanSkip : Option ℕ → ℕ → ℕ → Type 0
CanSkip None most n = n ≡ most
CanSkip (Some ahead) most n = (n ≤ ahead) × (n < most → n ≡ ahead)

-- the cycles up to one, at most `to`, in which nothing finishes are skipped
pub record SkipsFree (slots : List (Option Station)) (cycle to reached : ℕ) (now : Finishes) : Type 0 where
  pub least : cycle ≤ reached
  pub most : reached ≤ to
  pub free : IsFree slots cycle reached
  pub stops : reached < to → FinishesNext slots reached
  pub timetable : IsTimetableOf slots (reached + 1) now
  pub none_unsent : now.unsent ≡ 0

-- the cycles before the next finish are skipped, and also that of the finish if only results finish in it: this one is
-- counted
pub record IsSkipped (slots : List (Option Station)) (cycle to now before after : ℕ) : Type 0 where
  pub last_free : ℕ
  pub least : cycle ≤ last_free
  pub free : IsFree slots cycle last_free
  pub stops : last_free < to → FinishesNext slots last_free
  pub last : ((now ≡ last_free) × (after ≡ before))
      ⊎ ((now ≡ last_free + 1) × (last_free < to) × (after ≡ before + 1) × AreResults slots (last_free + 1))
