-- Laws of two builds on all rows of a study.
use Rattle.std.specs.Prelude.{◌≡◌, ℕ, ◌+◌, ◌*◌, ◌≤◌, Bool, false, true, not, List, count_by, length, sum_by, Some, All}
use Rattle.std.specs.List.{Contains, filter, flat_map}
use Rattle.tomex_config.specs.Configuration.{Configuration}
use Rattle.tomex_study.specs.Program.{Workload}
use Rattle.tomex_study.specs.Study.{DesignSpace, IsStudy}
use Rattle.tomex_config.specs.Parts.{all_parts}
use Rattle.tomex_config.specs.declared.part.Part.{Part}
use Rattle.tomex_compare.specs.Compare.{tables_of}
use Rattle.tomex_compare.specs.GroupCsv.{group_csv_of}
use Rattle.tomex_compare.specs.GroupTable.{best, median, takes_as_many, takes_fewer, takes_more, worst}
use Rattle.tomex_compare.specs.Groups.{entries_of, groups_of, list_groups, with_entry}
use Rattle.tomex_compare.specs.Pairs.{has_less, pairs_of}
use Rattle.tomex_compare.specs.declared.pairs.Pair.{Pair}

-- two programs of a study
pub record AreBuilds (s : DesignSpace) (old new : Workload) : Type 0 where
  pub study : IsStudy s
  pub old_one : Contains s.programs old
  pub new_one : Contains s.programs new

-- some rows, chosen by their numbers: those of a group
abbrev pub chosen : (ℕ → Bool) → DesignSpace → (old new : Workload) → List Pair
chosen keeps s old new = filter (λ p. keeps p.row) (pairs_of s old new)

-- on each row the new build takes fewer cycles, as many or more
abbrev pub EachIsCountedOnce : Type 0
EachIsCountedOnce = (pairs : List Pair)
    → count_by takes_fewer pairs + count_by takes_as_many pairs + count_by takes_more pairs ≡ length pairs

-- what is counted of the groups of a list adds up to what is counted of all rows
abbrev pub CountsAddUp : Type 0
CountsAddUp = (s : DesignSpace) (old new : Workload) (part : Part) (counted : Pair → Bool) → IsStudy s
    → sum_by (λ c. count_by counted (with_entry s (pairs_of s old new) part c)) (entries_of part s.rows)
    ≡ count_by counted (pairs_of s old new)

-- a group of a list whose pairs have something
pub record SomeGroup (s : DesignSpace) (old new : Workload) (part : Part) (Has : List Pair → Type 0) : Type 0 where
  pub entry : Configuration
  pub one : Contains (entries_of part s.rows) entry
  pub has : Has (with_entry s (pairs_of s old new) part entry)

-- the best ratio of all rows is that of one of the groups of a list, and so is the worst
abbrev pub BestIsMet : Type 0
BestIsMet = (s : DesignSpace) (old new : Workload) (part : Part) (b : Pair) → IsStudy s
    → best (pairs_of s old new) ≡ Some b → SomeGroup s old new part (λ pairs. best pairs ≡ Some b)

abbrev pub WorstIsMet : Type 0
WorstIsMet = (s : DesignSpace) (old new : Workload) (part : Part) (w : Pair) → IsStudy s
    → worst (pairs_of s old new) ≡ Some w → SomeGroup s old new part (λ pairs. worst pairs ≡ Some w)

-- no row of a group has a lesser ratio than its best or a greater one than its worst; at least half of them have at
-- most the median's, and at least half at least that
pub record AreBounds (pairs : List Pair) : Type 0 where
  pub least : (b p : Pair) → best pairs ≡ Some b → Contains pairs p → has_less p b ≡ false
  pub greatest : (w p : Pair) → worst pairs ≡ Some w → Contains pairs p → has_less w p ≡ false
  pub at_most : (m : Pair) → median pairs ≡ Some m → length pairs ≤ 2 * count_by (λ p. not (has_less m p)) pairs
  pub at_least : (m : Pair) → median pairs ≡ Some m → length pairs ≤ 2 * count_by (λ p. not (has_less p m)) pairs

abbrev pub BoundRatios : Type 0
BoundRatios = (s : DesignSpace) (old new : Workload) (keeps : ℕ → Bool) → AreBuilds s old new
    → AreBounds (chosen keeps s old new)

-- with the two in each other's place, fewer and more change places
abbrev pub TurnedCountsChangePlaces : Type 0
TurnedCountsChangePlaces = (s : DesignSpace) (old new : Workload) (keeps : ℕ → Bool) → AreBuilds s old new
    → count_by takes_fewer (chosen keeps s new old) ≡ count_by takes_more (chosen keeps s old new)

-- and the ratios of the best and the worst are each other's inverse
abbrev pub TurnedRatiosAreInverse : Type 0
TurnedRatiosAreInverse = (s : DesignSpace) (old new : Workload) (keeps : ℕ → Bool) (b w : Pair) → AreBuilds s old new
    → best (chosen keeps s new old) ≡ Some b → worst (chosen keeps s old new) ≡ Some w
    → b.new * w.new ≡ b.old * w.old

-- and so are the medians of a group with an odd number of rows
abbrev pub TurnedMediansAreInverse : Type 0
TurnedMediansAreInverse = (s : DesignSpace) (old new : Workload) (keeps : ℕ → Bool) (k : ℕ) (m n : Pair)
    → AreBuilds s old new → length (chosen keeps s old new) ≡ 1 + 2 * k
    → median (chosen keeps s new old) ≡ Some m → median (chosen keeps s old new) ≡ Some n
    → m.new * n.new ≡ m.old * n.old

-- a program takes as many cycles as itself
abbrev pub ItselfIsTheSame : Type 0
ItselfIsTheSame = (s : DesignSpace) (p : Workload) → All (λ q. takes_as_many q ≡ true) (pairs_of s p p)

-- the same program in another study, perhaps with another weight
pub record IsSameProgram (p q : Workload) : Type 0 where
  pub name : p.name ≡ q.name
  pub image : p.image ≡ q.image
  pub limit : p.limit ≡ q.limit

-- nothing but the two programs, the configurations and their costs makes a difference
abbrev pub OnlyTheTwoMatter : Type 0
OnlyTheTwoMatter = (s t : DesignSpace) (old new first second : Workload) → IsStudy s → IsStudy t → s.rows ≡ t.rows
    → s.costs ≡ t.costs → IsSameProgram old first → IsSameProgram new second
    → tables_of s old new ≡ tables_of t first second

-- nor does anything else make one in CSV
abbrev pub OnlyTheTwoMatterInCsv : Type 0
OnlyTheTwoMatterInCsv = (s t : DesignSpace) (old new first second : Workload) → IsStudy s → IsStudy t
    → s.rows ≡ t.rows → s.costs ≡ t.costs → IsSameProgram old first → IsSameProgram new second
    → group_csv_of (groups_of s old new) ≡ group_csv_of (groups_of t first second)

-- and the costs make none to the groups of the lists
abbrev pub CostsMatterOnFrontsOnly : Type 0
CostsMatterOnFrontsOnly = (s t : DesignSpace) (old new : Workload) → s.rows ≡ t.rows
    → flat_map (list_groups s (pairs_of s old new)) all_parts ≡ flat_map (list_groups t (pairs_of t old new)) all_parts
