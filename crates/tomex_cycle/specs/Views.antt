-- The machine's state after a cycle according to a history; a state that agrees shows that history.
use Rattle.std.specs.Prelude.{◌≡◌, ℕ, ◌+◌, ◌≤◌, ◌<◌, nat_le, nat_lt, Bool, ◌&&◌, if◌then◌else◌, List, [], ◌∷◌}
use Rattle.std.specs.Prelude.{◌++◌, Option, Some, None, slice_index, slice_index_or, length, ◌==◌, is_some}
use Rattle.tomex_image.specs.Image.{Loaded}
use Rattle.tomex_rvexec.specs.declared.outcome.EndKind.{EndKind}
use Rattle.tomex_rvexec.specs.declared.outcome.EndKind.TheVariants.{Ebreak}
use Rattle.tomex_rvexec.specs.declared.step.Step.{Step}
use Rattle.tomex_rvexec.specs.Flow.{end_of}
use Rattle.tomex_rvexec.specs.Results.{byte_in, next_pc_of, result_of}
use Rattle.tomex_rvexec.specs.History.{byte_after, register_after}
use Rattle.tomex_rvexec.specs.Memory.{Bytes}
use Rattle.tomex_rvexec.specs.Steps.{address_of, is_branch, is_number, j_of, k_of, step_dest}
use Rattle.tomex_timing.specs.declared.times.Done.{Done}
use Rattle.tomex_timing.specs.History.{cycle_of, is_memory}
use Rattle.tomex_timing.specs.Tables.{field_of, producer, tag_of}
use Rattle.tomex_cycle.specs.declared.fetch.Fetch.{Fetch}
use Rattle.tomex_cycle.specs.declared.fetch.Fetch.TheVariants as from
use Rattle.tomex_cycle.specs.Run.{byte_at, steps_in}
use Rattle.tomex_tags.specs.Places.{place_at}
use Rattle.tomex_tags.specs.Pools.{Pools}
use Rattle.tomex_tags.specs.declared.register_status.RegStatus.{RegStatus}
use Rattle.tomex_tags.specs.declared.station.Station.{Station}
use Rattle.tomex_tags.specs.Contents.{slot}

-- For each kind of event the last cycle whose events have been made. Every step in the history has issued.
pub record Clocks : Type 0 where
  pub start : ℕ
  pub address : ℕ
  pub end : ℕ

abbrev pub clocks : ℕ → ℕ → ℕ → Clocks
clocks start address end = record { start = start; address = address; end = end }

abbrev pub place_of : Done → Option ℕ
place_of d = place_at (tag_of d)

-- a station's content: its instruction, and what has been made of it
abbrev pub station_of : Loaded → Clocks → Done → List Done → Station
station_of i c d older = record {
  instr = d.step.instr;
  pc = d.step.pc;
  j = field_of c.end older (j_of d.step);
  k = field_of c.end older (k_of d.step);
  address = if is_memory d.step && nat_le (cycle_of d.at.address) c.address then Some (address_of d.step) else None;
  finish = if nat_le d.at.start c.start then Some d.at.finish else None;
  value = if nat_le d.at.start c.start then result_of d.step (byte_after i (steps_in older)) else 0;
}

-- the step holds the place: it hasn't ended
abbrev pub holds_place : ℕ → ℕ → Done → Bool
holds_place end x d = is_number (place_of d) x && nat_lt end d.at.end

-- the content of a place: the youngest step that took it, if that one hasn't ended
abbrev pub station_at : Loaded → Clocks → List Done → ℕ → Option Station
station_at i c [] x = None
station_at i c (d ∷ older) x = if holds_place c.end x d then Some (station_of i c d older) else station_at i c older x

abbrev pub onto_end : List ℕ → Option ℕ → List ℕ
onto_end xs None = xs
onto_end xs (Some x) = xs ++ (x ∷ [])

-- the places of the busy stations, the oldest first
abbrev pub order_of : ℕ → List Done → List ℕ
order_of end [] = []
order_of end (d ∷ older) =
    if nat_lt end d.at.end then onto_end (order_of end older) (place_of d) else order_of end older

-- the number of steps older than the youngest that took a place
abbrev pub issue_number_at : List Done → ℕ → ℕ
issue_number_at [] x = 0
issue_number_at (d ∷ older) x = if is_number (place_of d) x then length older else issue_number_at older x

pub record ShowsStations (i : Loaded) (c : Clocks) (h : List Done) (s : Pools) : Type 0 where
  pub places : length s.slots ≡ 96
  pub slots : (x : ℕ) → x < 96 → slot s.slots x ≡ station_at i c h x
  pub order_count : length s.issue_numbers ≡ 128
  pub issue_numbers : (x : ℕ) → x < 96 → slice_index s.issue_numbers x ≡ issue_number_at h x

-- Qi of each register, and the value of each register without one
pub record ShowsRegisters (i : Loaded) (end : ℕ) (h : List Done) (s : RegStatus) : Type 0 where
  pub count : length s.values ≡ 32
  pub status : length s.tags ≡ 32
  pub tags : (r : ℕ) → r < 32 → slice_index_or s.tags r None ≡ producer end h r
  pub values : (r : ℕ) → r < 32 → producer end h r ≡ None → slice_index s.values r ≡ register_after i (steps_in h) r

pub record ShowsMemory (i : Loaded) (start : ℕ) (h : List Done) (m : Bytes) : Type 0 where
  pub base : m.base ≡ i.window.base
  pub size : length m.bytes ≡ i.window.size
  pub bytes : (a : ℕ) → i.window.base ≤ a → a < i.window.base + i.window.size → byte_in m a ≡ byte_at i start h a

abbrev pub fetch_after : Step → Bool → Option EndKind → Fetch
fetch_after x waits (Some kind) = from.Stopped kind x.pc
fetch_after x waits None = if waits then from.Waits else from.At (next_pc_of x)

-- the source of the next instruction: nothing issues while the youngest step is a branch that hasn't finished
abbrev pub fetch_of : Loaded → ℕ → List Done → Fetch
fetch_of i end [] = from.At i.entry
fetch_of i end (d ∷ older) = fetch_after d.step (is_branch d.step && nat_lt end d.at.finish) (end_of d.step)

-- what issues and ends change: stations, registers, and where the next instruction comes from
pub record Front : Type 0 where
  pub pools : Pools
  pub registers : RegStatus
  pub fetch : Fetch

abbrev pub front : Pools → RegStatus → Fetch → Front
front pools registers fetch = record { pools = pools; registers = registers; fetch = fetch }

pub record ShowsFront (i : Loaded) (c : Clocks) (h : List Done) (s : Front) : Type 0 where
  pub slots : ShowsStations i c h s.pools
  pub status : ShowsRegisters i c.end h s.registers
  pub from : s.fetch ≡ fetch_of i c.end h

-- the machine's state between two phases: the number of steps that have issued, what issues change, and memory
pub record Core : Type 0 where
  pub issued : ℕ
  pub front : Front
  pub memory : Bytes

abbrev pub core : ℕ → Front → Bytes → Core
core issued front memory = record { issued = issued; front = front; memory = memory }

-- the kind of the end and its pc, if there is one
abbrev pub stop_of : Fetch → EndKind × ℕ
stop_of (from.At pc) = (Ebreak, 0)
stop_of from.Waits = (Ebreak, 0)
stop_of (from.Stopped kind pc) = (kind, pc)

-- the value sent in a cycle from a place: the result of the step that ends in it, if that has a destination
abbrev pub sent_at : Loaded → ℕ → List Done → ℕ → Option ℕ
sent_at i u [] x = None
sent_at i u (d ∷ older) x =
    if is_number (place_of d) x && (is_some (step_dest d.step) && (d.at.end == u))
    then Some (result_of d.step (byte_after i (steps_in older)))
    else sent_at i u older x
