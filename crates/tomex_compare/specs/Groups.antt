-- Groups of rows: all, those on the builds' own fronts, and those with each entry of a list.
use Rattle.std.specs.Prelude.{◌≡◌, ℕ, ◌<◌, ◌==◌, nat_lt, Bool, false, not, ◌&&◌, if◌then◌else◌, List, [], ◌∷◌, ◌++◌}
use Rattle.std.specs.Prelude.{codes, length, map, slice_index_or}
use Rattle.std.specs.List.{filter, flat_map}
use Rattle.tomex_config.specs.Configuration.{Configuration, option_of}
use Rattle.tomex_pareto.specs.Front.{front_of, is_on}
use Rattle.tomex_pareto.specs.declared.front_row.FrontRow.{FrontRow}
use Rattle.tomex_study.specs.Cycles.{total_at}
use Rattle.tomex_study.specs.Program.{Workload}
use Rattle.tomex_study.specs.Study.{DesignSpace, config_at}
use Rattle.tomex_study.specs.StudyFront.{all_rows}
use Rattle.tomex_config.specs.Parts.{all_parts, count_of}
use Rattle.tomex_config.specs.declared.part.Part.{Part}
use Rattle.tomex_config.specs.declared.part.Part.TheVariants.{Units}
use Rattle.tomex_layout.specs.Lists.{entry_text, name_of_list}
use Rattle.tomex_compare.specs.Pairs.{pairs_of}
use Rattle.tomex_compare.specs.declared.pairs.Pair.{Pair}

-- some rows, by ratio, and what they have in common: the columns `part` and `value`
pub record RowGroup : Type 0 where
  pub part : List ℕ
  pub value : List ℕ
  pub pairs : List Pair

abbrev pub group : (part value : List ℕ) → List Pair → RowGroup
group part value pairs = record { part = part; value = value; pairs = pairs }

-- a row with its cost and the cycles of one program
abbrev pub row_with : DesignSpace → Workload → FrontRow → FrontRow
row_with s p r = record { row = r.row; cost = r.cost; cycles = total_at s p r.row }

-- a program's own front: that of all rows with their costs and its cycles
unfoldable pub own_front : DesignSpace → Workload → List FrontRow
own_front s p = front_of (map (row_with s p) (all_rows s))

-- for each number below a count, is the row of that number on the front?
pub record AreMarks (front : List FrontRow) (count : ℕ) (marks : List Bool) : Type 0 where
  pub many : length marks ≡ count
  pub are : (k : ℕ) → k < count → slice_index_or marks k false ≡ is_on front k

-- the pairs of the rows on a front
abbrev pub on_front : List FrontRow → List Pair → List Pair
on_front front pairs = filter (λ p. is_on front p.row) pairs

abbrev pub front_group : List ℕ → List Pair → RowGroup
front_group value pairs = group (codes "front") value pairs

-- the groups of the rows on each program's own front, and on both
abbrev pub front_groups : DesignSpace → (old new : Workload) → List Pair → List RowGroup
front_groups s old new pairs =
    front_group old.name (on_front (own_front s old) pairs) ∷ front_group new.name (on_front (own_front s new) pairs)
    ∷ front_group (codes "both") (on_front (own_front s new) (on_front (own_front s old) pairs)) ∷ []

-- two configurations show the same entry in a part's list: a unit option's price isn't shown
abbrev pub shows_same : Part → Configuration → Configuration → Bool
shows_same (Units unit) a b =
    (option_of a unit).units == (option_of b unit).units && (option_of a unit).latency == (option_of b unit).latency
shows_same part a b = count_of a part == count_of b part

-- the entries of a part's list, each by the first configuration that shows it, in their order
abbrev pub entries_of : Part → List Configuration → List Configuration
entries_of part [] = []
entries_of part (c ∷ rows) = c ∷ filter (λ d. not (shows_same part c d)) (entries_of part rows)

-- the rows that show a configuration's entry
abbrev pub with_entry : DesignSpace → List Pair → Part → Configuration → List Pair
with_entry s pairs part c = filter (λ p. shows_same part c (config_at s p.row)) pairs

unfoldable pub entry_group : DesignSpace → List Pair → Part → Configuration → RowGroup
entry_group s pairs part c = group (name_of_list part) (entry_text c part) (with_entry s pairs part c)

-- a group for each of a list's entries, if there are several
abbrev pub if_several : List RowGroup → List RowGroup
if_several groups = if nat_lt 1 (length groups) then groups else []

unfoldable pub list_groups : DesignSpace → List Pair → Part → List RowGroup
list_groups s pairs part = if_several (map (entry_group s pairs part) (entries_of part s.rows))

-- the groups of these rows
unfoldable pub groups_from : DesignSpace → (old new : Workload) → List Pair → List RowGroup
groups_from s old new pairs =
    group (codes "all") (codes "-") pairs ∷ (front_groups s old new pairs ++ flat_map (list_groups s pairs) all_parts)

-- of all rows, by ratio
abbrev pub groups_of : DesignSpace → (old new : Workload) → List RowGroup
groups_of s old new = groups_from s old new (pairs_of s old new)
