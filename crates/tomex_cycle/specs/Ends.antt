-- The effect of a cycle's end on stations, registers and the next pc, stated over the state itself.
use Rattle.std.specs.Prelude.{◌≡◌, ◌≤◌, ℕ, ◌<◌, nat_le, nat_lt, Bool, true, false, ◌&&◌, ◌||◌, if◌then◌else◌, not}
use Rattle.std.specs.Prelude.{List, Option, Some, None, is_some, length, slice_index, slice_index_or, option_map}
use Rattle.tomex_rvdec.specs.Operands.{dest_of}
use Rattle.tomex_rvexec.specs.Results.{next_pc_of}
use Rattle.tomex_rvexec.specs.Steps.{is_number}
use Rattle.tomex_timing.specs.Tables.{field_from}
use Rattle.tomex_bus.specs.Sets.{has}
use Rattle.tomex_bus.specs.Picks.{IsPicked}
use Rattle.tomex_membuf.specs.Order.{is_finished_before}
use Rattle.tomex_tags.specs.Contents.{hears, slot, step_in}
use Rattle.tomex_tags.specs.Operands.{field_after}
use Rattle.tomex_tags.specs.Pools.{Pools}
use Rattle.tomex_tags.specs.Registers.{names}
use Rattle.tomex_tags.specs.declared.register_status.RegStatus.{RegStatus}
use Rattle.tomex_tags.specs.declared.station.Station.{Station}
use Rattle.tomex_cycle.specs.declared.fetch.Fetch.{Fetch}
use Rattle.tomex_cycle.specs.declared.fetch.Fetch.TheVariants as from
use Rattle.tomex_cycle.specs.Starts.{AreLow}

-- an operation is finished by the end of the cycle
abbrev pub is_finished_by : Option ℕ → ℕ → Bool
is_finished_by None cycle = false
is_finished_by (Some finish) cycle = nat_le finish cycle

-- an operation with nothing to send ends as it finishes
abbrev pub ends_alone : ℕ → Option Station → Bool
ends_alone cycle None = false
ends_alone cycle (Some s) = not (is_some (dest_of s.instr)) && is_finished_by s.finish cycle

-- a result that finished before the cycle, and may be sent in it
abbrev pub can_send : ℕ → Option Station → Bool
can_send cycle None = false
can_send cycle (Some s) = is_some (dest_of s.instr) && is_finished_before s.finish cycle

-- the oldest unsent results are sent, as many as there are buses; an operation with nothing to send ends as it finishes
pub record AreEnding (st : Pools) (buses cycle ending : ℕ) : Type 0 where
  pub unsent : ℕ
  pub sending : ℕ
  pub are_unsent : (x : ℕ) → x < 128 → has unsent x ≡ (has st.busy x && can_send cycle (slot st.slots x))
  pub sent : IsPicked unsent st.issue_numbers buses sending
  pub all : (x : ℕ) → x < 128 → has ending x ≡ (has sending x || (has st.busy x && ends_alone cycle (slot st.slots x)))

abbrev pub after_ends : Bool → (ℕ → Option ℕ) → Option Station → Option Station
after_ends ended sent s = if ended then None else option_map (hears sent) s

-- the value that a station sends as it ends
abbrev pub sends_of : Option Station → Option ℕ
sends_of None = None
sends_of (Some s) = if is_some (dest_of s.instr) then Some s.value else None

-- the values that the picked places below n send
abbrev pub sent_below : List (Option Station) → ℕ → ℕ → ℕ → Option ℕ
sent_below slots picked n y = if nat_lt y n && has picked y then sends_of (slot slots y) else None

-- stations after the ends of these places, and what is sent
pub record AreEnded (ended : ℕ → Bool) (sent : ℕ → Option ℕ) (old new : Pools) : Type 0 where
  pub places : length new.slots ≡ 96
  pub slots : (x : ℕ) → x < 96 → slot new.slots x ≡ after_ends (ended x) sent (slot old.slots x)
  pub issue_numbers : new.issue_numbers ≡ old.issue_numbers

abbrev pub EndsIn : (ℕ → Bool) → (ℕ → Option ℕ) → Pools → Pools → Type 0
EndsIn ended sent old new = length old.slots ≡ 96 → AreEnded ended sent old new

-- registers after what is sent
pub record HaveReceived (sent : ℕ → Option ℕ) (old new : RegStatus) : Type 0 where
  pub count : length new.values ≡ 32
  pub status : length new.tags ≡ 32
  pub fields : (r : ℕ) → r < 32
      → field_from (slice_index new.values r) (slice_index_or new.tags r None)
      ≡ field_after sent (field_from (slice_index old.values r) (slice_index_or old.tags r None))

abbrev pub Receives : (ℕ → Option ℕ) → RegStatus → RegStatus → Type 0
Receives sent old new = length old.values ≡ 32 → length old.tags ≡ 32 → HaveReceived sent old new

-- the unit is done in the cycle
abbrev pub finishes : ℕ → Option Station → Bool
finishes cycle None = false
finishes cycle (Some s) = is_number s.finish cycle

-- the set is that of the places whose units are done in the cycle
abbrev pub AreDone : List (Option Station) → ℕ → ℕ → Type 0
AreDone slots cycle due = (x : ℕ) → x < 128 → has due x ≡ finishes cycle (slot slots x)

-- the next pc after the instruction in a place
abbrev pub target_in : Option Station → ℕ
target_in None = 0
target_in (Some s) = next_pc_of (step_in s)

abbrev pub after_branch : List (Option Station) → Option ℕ → Fetch
after_branch slots None = from.Waits
after_branch slots (Some x) = from.At (target_in (slot slots x))

-- the place of a branch that is done in the cycle, if any
abbrev pub IsDoneBranch : ℕ → List (Option Station) → Option ℕ → Type 0
IsDoneBranch cycle slots None = (x : ℕ) → 80 ≤ x → x < 96 → finishes cycle (slot slots x) ≡ false
IsDoneBranch cycle slots (Some x) = (80 ≤ x) × (x < 96) × (finishes cycle (slot slots x) ≡ true)

-- a branch that is awaited and done gives the next pc
abbrev pub Follows : ℕ → List (Option Station) → Fetch → Fetch → Type 0
Follows cycle slots (from.At pc) result = result ≡ from.At pc
Follows cycle slots from.Waits result =
    (found : Option ℕ) × IsDoneBranch cycle slots found × (result ≡ after_branch slots found)
Follows cycle slots (from.Stopped kind pc) result = result ≡ from.Stopped kind pc

-- each Qi names a station whose destination is that register
abbrev pub AreNamed : List (Option Station) → RegStatus → Type 0
AreNamed slots registers =
    (r x : ℕ) → r < 32 → names registers r x ≡ true → (s : Station) → slot slots x ≡ Some s → dest_of s.instr ≡ Some r

-- if the picked places are those of stations, these have ended, and the others have received what they send
abbrev pub EndsPicked : ℕ → Pools → Pools → Type 0
EndsPicked picked old new = AreLow picked → EndsIn (λ x. has picked x) (sent_below old.slots picked 96) old new

-- and so have the registers
abbrev pub SendsPicked : ℕ → Pools → RegStatus → RegStatus → Type 0
SendsPicked picked st old new =
    length st.slots ≡ 96 → AreLow picked → AreNamed st.slots old → Receives (sent_below st.slots picked 96) old new
