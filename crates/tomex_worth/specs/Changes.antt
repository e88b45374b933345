-- The changes of a machine: the rows of a study whose configurations differ from it in one list. A study's lists are
-- the stations of each pool, the options of each kind of unit, the buses and the widths. The definitions are about
-- configurations, not places in a study's lists, so they hold for any list of configurations.
use Rattle.std.specs.Prelude.{◌≡◌, ℕ, ◌<◌, ◌==◌, Bool, not, if◌then◌else◌, List, length, map}
use Rattle.std.specs.Prelude.{All}
use Rattle.std.specs.List.{filter, flat_map, list_all, range_with_len}
use Rattle.tomex_config.specs.Configuration.{Configuration}
use Rattle.tomex_pareto.specs.declared.front_row.FrontRow.{FrontRow}
use Rattle.tomex_study.specs.Study.{DesignSpace, config_at}
use Rattle.tomex_study.specs.StudyFront.{all_rows}
use Rattle.tomex_config.specs.declared.part.Part.{Part}
use Rattle.tomex_config.specs.Parts.{part_at, same_entry}
use Rattle.tomex_worth.specs.declared.changes.Change.{Change}

-- they differ in the list at this place, and in no other
unfoldable pub differ_at : ℕ → Configuration → Configuration → Bool
differ_at place a b =
    list_all (λ k. if k == place then not (same_entry a b (part_at k)) else same_entry a b (part_at k))
    (range_with_len 0 13)

abbrev pub change : Part → FrontRow → Change
change part row = record { part = part; row = row }

-- the rows that differ from a machine in the list at this place only, by number
unfoldable pub changes_at : DesignSpace → FrontRow → ℕ → List Change
changes_at s own place =
    map (change (part_at place)) (filter (λ r. differ_at place (config_at s own.row) (config_at s r.row)) (all_rows s))

-- and in any one list, list by list
unfoldable pub changes_of : DesignSpace → FrontRow → List Change
changes_of s own = flat_map (changes_at s own) (range_with_len 0 13)

-- a machine of a study with its changes, all of which are rows of the study
pub record IsMachine (s : DesignSpace) (own : FrontRow) (changes : List Change) : Type 0 where
  pub is_row : own.row < length s.rows
  pub are_changes : changes ≡ changes_of s own
  pub within : All (λ c. c.row.row < length s.rows) changes
