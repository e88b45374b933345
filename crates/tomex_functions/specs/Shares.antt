-- What functions take of the runs of two builds, by the names under which they are shown.
use Rattle.std.specs.Prelude.{ℕ, ◌+◌, ◌-◌, ◌^◌, ◌<◌, ◌==◌, nat_lt, Bool, true, false, ◌&&◌, ◌||◌, List, []}
use Rattle.std.specs.Prelude.{◌≡◌, Option, Some, None, filter, length, slice_index_or, sum_by}
use Rattle.std.specs.List.{IsDistinct, list_any}
use Rattle.std.specs.Cmp.Lexicographic.{slice_cmp}
use Rattle.std.specs.Ordering.{is_lt, nat_cmp}
use Rattle.std.specs.Str.{bytes_eq}
use Rattle.tomex_functions.specs.declared.shares.Share.{Share}
use Rattle.tomex_functions.specs.declared.shares.Change.{Change}

abbrev pub no_share : Share
no_share = record { calls = 0; steps = 0; cycles = 0 }

abbrev pub no_change : Change
no_change = record { old = no_share; new = no_share }

abbrev pub plus : Share → Share → Share
plus a b = record { calls = a.calls + b.calls; steps = a.steps + b.steps; cycles = a.cycles + b.cycles }

-- its numbers are those of 64 bits
pub record Fits (share : Share) : Type 0 where
  pub calls : share.calls < 2 ^ 64
  pub steps : share.steps < 2 ^ 64
  pub cycles : share.cycles < 2 ^ 64

-- what a function takes in a run, and the name under which it is shown; steps without a function have none
pub record Entry : Type 0 where
  pub name : Option (List ℕ)
  pub share : Share

-- those of both builds
pub record Both : Type 0 where
  pub old : List Entry
  pub new : List Entry

abbrev pub no_entries : Both
no_entries = record { old = []; new = [] }

abbrev pub same_name : Option (List ℕ) → Option (List ℕ) → Bool
same_name None None = true
same_name (Some a) (Some b) = bytes_eq a b
same_name None (Some b) = false
same_name (Some a) None = false

-- what all of some entries take together
abbrev pub share_of : List Entry → Share
share_of entries = record {
  calls = sum_by (λ e. e.share.calls) entries;
  steps = sum_by (λ e. e.share.steps) entries;
  cycles = sum_by (λ e. e.share.cycles) entries;
}

abbrev pub entries_named : Option (List ℕ) → List Entry → List Entry
entries_named name entries = filter (λ e. same_name name e.name) entries

-- what a name's functions take of both runs
abbrev pub change_named : Both → Option (List ℕ) → Change
change_named both name = record {
  old = share_of (entries_named name both.old);
  new = share_of (entries_named name both.new);
}

-- one of the builds has such a function
abbrev pub has_name : Both → Option (List ℕ) → Bool
has_name both name =
    list_any (λ e. same_name name e.name) both.old || list_any (λ e. same_name name e.name) both.new

-- by how many cycles the runs differ
abbrev pub distance : Change → ℕ
distance change = (change.old.cycles - change.new.cycles) + (change.new.cycles - change.old.cycles)

-- the greater difference goes first, then the lesser name by its bytes
abbrev pub goes_before : Change → List ℕ → Change → List ℕ → Bool
goes_before a name b other =
    nat_lt (distance b) (distance a) || distance a == distance b && is_lt (slice_cmp nat_cmp name other)

-- the names of both builds' functions, each once, in the order of the report
pub record AreNames (both : Both) (names : List (List ℕ)) : Type 0 where
  pub once : IsDistinct bytes_eq names
  pub those : (name : List ℕ) → list_any (bytes_eq name) names ≡ has_name both (Some name)
  pub order : (k : ℕ) (d : List ℕ) → k + 1 < length names
      → goes_before (change_named both (Some (slice_index_or names (k + 1) d))) (slice_index_or names (k + 1) d)
      (change_named both (Some (slice_index_or names k d))) (slice_index_or names k d) ≡ false
