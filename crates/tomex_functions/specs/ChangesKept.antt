-- What is kept of the functions of two runs while they are added up.
use Rattle.std.specs.Prelude.{◌≡◌, ℕ, ◌+◌, ◌<◌, Bool, false, List, ◌++◌, Option, Some, None, String, codes, length}
use Rattle.std.specs.Prelude.{if◌then◌else◌, option_map, slice_index_or, string_bytes, unwrap_or}
use Rattle.std.specs.Global.{Global}
use Rattle.std.specs.BTreeMap.{get_by_text}
use Rattle.std.specs.Cmp.Lexicographic.{slice_cmp}
use Rattle.std.specs.List.{flat_map}
use Rattle.std.specs.Ordering.{nat_cmp, ordering_then}
use Rattle.std.specs.declared.cmp.Ordering.{Ordering}
use Rattle.tomex_layout.specs.Csv.{record_text}
use Rattle.tomex_functions.specs.declared.rows.Listing.{Listing}
use Rattle.tomex_functions.specs.declared.named.Named.{Named}
use Rattle.tomex_functions.specs.declared.named.NamedChange.{NamedChange}
use Rattle.tomex_functions.specs.declared.shares.Share.{Share}
use Rattle.tomex_functions.specs.declared.shares.Change.{Change}
use Rattle.tomex_functions.specs.declared.shares.Side.{Side}
use Rattle.tomex_functions.specs.declared.shares.Side.TheVariants.{Old, New}
use Rattle.tomex_functions.specs.Changes.{change_fields, header, nameless_record}
use Rattle.tomex_functions.specs.Shares.{Both, Entry, Fits, change_named, distance, goes_before, has_name}
use Rattle.tomex_functions.specs.Shares.{no_change, plus, share_of}

-- a change with what one function more takes in a build's run
abbrev pub with_share : Side → Share → Change → Change
with_share Old share change = record { old = plus change.old share; new = change.new }
with_share New share change = record { old = change.old; new = plus change.new share }

-- and one that there may be
abbrev pub after_share : Side → Share → Option Change → Change
after_share side share found = with_share side share (unwrap_or found no_change)

pub record BothFit (change : Change) : Type 0 where
  pub old : Fits change.old
  pub new : Fits change.new

abbrev pub name_of : {A : Type 0} → Option (String A) → Option (List ℕ)
name_of name = option_map string_bytes name

-- what is kept of a name
abbrev pub change_at : Named → Option (List ℕ) → Option Change
change_at named None = named.nameless
change_at named (Some name) = get_by_text named.by_name name

-- it is what the functions of that name take
pub record IsNamed (both : Both) (named : Named) : Type 0 where
  pub changes : (name : Option (List ℕ)) → change_at named name
      ≡ if has_name both name then Some (change_named both name) else None

-- with more entries of one of the builds
abbrev pub both_after : Side → List Entry → Both → Both
both_after Old more both = record { old = both.old ++ more; new = both.new }
both_after New more both = record { old = both.old; new = both.new ++ more }

-- there is room for more entries of one of the builds: their sums fit with what was added up
pub record HasRoom (side : Side) (more : List Entry) (named : Named) : Type 0 where
  pub both : Both
  pub is : IsNamed both named
  pub old : Fits (share_of (both_after side more both).old)
  pub new : Fits (share_of (both_after side more both).new)

-- all that a run takes, as it was listed
abbrev pub listing_share : {A : Type 0} → Listing A → Share
listing_share listing =
    record { calls = listing.calls; steps = listing.total.steps; cycles = listing.total.cycles }

-- an entry of a map
abbrev pub named_change : String Global × Change → NamedChange
named_change e = record { name = e.0; change = e.1 }

abbrev pub change_goes_before : NamedChange → NamedChange → Bool
change_goes_before a b = goes_before a.change (string_bytes a.name) b.change (string_bytes b.name)

abbrev pub AreInOrder : List NamedChange → Type 0
AreInOrder changes = (k : ℕ) (d : NamedChange) → k + 1 < length changes
    → change_goes_before (slice_index_or changes (k + 1) d) (slice_index_or changes k d) ≡ false

-- the same order as a comparison
abbrev pub order_of : NamedChange → NamedChange → Ordering
order_of a b =
    ordering_then (nat_cmp (distance b.change) (distance a.change))
    (slice_cmp nat_cmp (string_bytes a.name) (string_bytes b.name))

-- the report of the names that were kept
abbrev pub report_of : List NamedChange → Option Change → Change → Change → List ℕ
report_of changes nameless drain total =
    record_text header
    ++ (flat_map (λ c. record_text (change_fields (string_bytes c.name) c.change)) changes
    ++ (nameless_record nameless
    ++ (record_text (change_fields (codes "drain") drain)
    ++ record_text (change_fields (codes "total") total))))
