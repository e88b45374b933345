-- The states that are kept, and the entries of the table.
use Rattle.std.specs.Prelude.{ℕ, ◌+◌, ◌*◌, ◌^◌, ◌<◌, ◌≡◌, ◌⊎◌, [], ◌∷◌, ◌++◌, Option, Some, None, length}
use Rattle.std.specs.Prelude.{replicate, slice_index_or, slice_set, nat_lt, ◌&&◌, Bool, true, false}
use Rattle.tomex_config.specs.Configuration.{Configuration}
use Rattle.tomex_states.specs.Reuse.{CanBeKept, IsCopy, LookAlike, ShowsSome, ShowsTheSame}
use Rattle.tomex_states.specs.declared.state.State.{State}
use Rattle.tomex_evaluation.specs.declared.known.Entry.{Entry}
use Rattle.tomex_evaluation.specs.declared.known.Entry.TheVariants.{Leads, Unknown}
use Rattle.tomex_evaluation.specs.declared.known.Known.{Known}
use Rattle.tomex_evaluation.specs.declared.known.Next.{Next}

-- the place of the entry for a kept state and a block's number: a row of entries a state
abbrev pub entry_place : (different v number : ℕ) → ℕ
entry_place different v number = v * different + number

-- what an entry says
abbrev pub next_of : Entry → Option Next
next_of Unknown = None
next_of (Leads state passed) = Some (record { state = state; passed = passed })

abbrev pub entry_of : {A : Type 0} → Known A → (v number : ℕ) → Option Next
entry_of known v number = next_of (slice_index_or known.next.items (entry_place known.different v number) Unknown)

-- a state that can be kept, and shows some history
pub record IsUsable {A : Type 0} (config : Configuration) (state : State A) : Type 0 where
  pub shows : ShowsSome config state
  pub small : state.recent.latest.end < 2 ^ 63
  pub kept : CanBeKept config state

-- One more state is kept, with nothing known of what follows it.
pub record HasOneMore {A : Type 0} (state : State A) (before after : Known A) : Type 0 where
  pub copy : State A
  pub is : IsCopy state copy
  pub shows : ShowsTheSame state copy
  pub states : after.states.items ≡ before.states.items ++ (copy ∷ [])
  pub next : after.next.items ≡ before.next.items ++ replicate before.different Unknown
  pub different : after.different ≡ before.different

-- No state is kept.
pub record HasForgotten {A : Type 0} (before after : Known A) : Type 0 where
  pub states : after.states.items ≡ []
  pub next : after.next.items ≡ []
  pub different : after.different ≡ before.different

-- a state looks like the kept one with this number, which is there already
pub record IsFound {A : Type 0} (config : Configuration) (state : State A) (before after : Known A) (v : ℕ)
    : Type 0 where
  pub same : after ≡ before
  pub number : v < length before.states.items
  pub alike : LookAlike config (slice_index_or before.states.items v state) state

-- it is kept, with the next number; there is room for at most 32
pub record IsNew {A : Type 0} (config : Configuration) (state : State A) (before after : Known A) (v : ℕ)
    : Type 0 where
  pub more : HasOneMore state before after
  pub room : length before.states.items < 32
  pub number : v ≡ length before.states.items
  pub kept : CanBeKept config state

-- The number of a state among the kept ones. It may be left without one: then nothing changes, or all is forgotten.
abbrev pub IsNumbered : {A : Type 0} → Configuration → State A → (before after : Known A) → Option ℕ → Type 0
IsNumbered config state before after None = (after ≡ before) ⊎ HasForgotten before after
IsNumbered config state before after (Some v) =
    IsFound config state before after v ⊎ IsNew config state before after v

-- The entry for a kept state and a block's number says what follows; all else is as before.
pub record HasEntry {A : Type 0} (before after : Known A) (v number : ℕ) (then : Next) : Type 0 where
  pub states : after.states ≡ before.states
  pub different : after.different ≡ before.different
  pub next : after.next.items
      ≡ slice_set before.next.items (entry_place before.different v number) (Leads then.state then.passed)

-- an entry holds a state's number in one byte, and cycles in four
abbrev pub fits_in_entry : Next → Bool
fits_in_entry next = nat_lt next.state 256 && nat_lt next.passed (2 ^ 32)

-- so it is if an entry holds it, and nothing changes otherwise
abbrev pub HasEntryIf : {A : Type 0} → Bool → (before after : Known A) → (v number : ℕ) → Next → Type 0
HasEntryIf true before after v number then = HasEntry before after v number then
HasEntryIf false before after v number then = after ≡ before

-- and if the states before and after the block have numbers; without them nothing changes
abbrev pub IsNoted : {A : Type 0} → (before after : Known A) → (from : Option ℕ) → (number : ℕ) → (to : Option ℕ)
    → (passed : ℕ) → Type 0
IsNoted before after (Some v) number (Some w) passed =
    HasEntryIf (fits_in_entry (record { state = w; passed = passed })) before after v number
    (record { state = w; passed = passed })
IsNoted before after _ number _ passed = after ≡ before
