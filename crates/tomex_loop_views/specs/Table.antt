-- The table of a run's loops: a record for each loop, those with the most cycles of their own first, one for the steps
-- outside of all loops, and one for the whole run.
use Rattle.std.specs.Prelude.{ℕ, ◌+◌, ◌<◌, ◌≡◌, ◌==◌, nat_lt, Bool, false, ◌&&◌, ◌||◌, List, [], ◌∷◌, ◌++◌, codes}
use Rattle.std.specs.Prelude.{Option, Some, None, length, replicate, slice_index_or}
use Rattle.std.specs.Option.{option_map}
use Rattle.std.specs.List.{flat_map}
use Rattle.std.specs.Fmt.{decimal}
use Rattle.std.specs.declared.cmp.Reverse.{Reverse}
use Rattle.tomex_rvdec.specs.Text.{hex8}
use Rattle.tomex_layout.specs.Csv.{record_text}
use Rattle.tomex_functions.specs.ShownNames.{name_field}
use Rattle.tomex_path_views.specs.ByReason.{name_of_reason}
use Rattle.tomex_loop_sums.specs.declared.around.Around.{Around}
use Rattle.tomex_loop_sums.specs.declared.around.Around.TheVariants.{Nowhere, Within, Several}
use Rattle.tomex_loop_views.specs.declared.charges.Charge.{Charge}
use Rattle.tomex_loops.specs.declared.counts.Counts.{Counts}
use Rattle.tomex_loop_sums.specs.declared.extents.Extent.{Extent}
use Rattle.tomex_loop_views.specs.declared.row.LoopRow.{LoopRow}
use Rattle.tomex_loop_views.specs.declared.row.LoopSums.{LoopSums}
use Rattle.tomex_loop_views.specs.declared.row.Rest.{Rest}
use Rattle.tomex_loop_views.specs.declared.row.RestSums.{RestSums}

-- the texts of some things with a space between them, and a dash if there is none
abbrev pub spaced : {X : Type 0} → (X → List ℕ) → List X → List ℕ
spaced text [] = codes "-"
spaced text (x ∷ xs) = text x ++ flat_map (λ y. codes " " ++ text y) xs

-- the cycles of a path for a reason
abbrev pub charge_text : Charge → List ℕ
charge_text c = name_of_reason c.reason ++ codes "=" ++ decimal c.cycles

abbrev pub path_text : List Charge → List ℕ
path_text charges = spaced charge_text charges

-- the counts that rounds repeat
abbrev pub pattern_text : Option (List ℕ) → List ℕ
pattern_text None = codes "-"
pattern_text (Some counts) = spaced decimal counts

-- the head of the loop around
abbrev pub around_text : Around → List ℕ
around_text Nowhere = codes "-"
around_text (Within head) = hex8 head
around_text Several = codes "several"

abbrev pub dashes : ℕ → List (List ℕ)
dashes n = replicate n (codes "-")

-- what is counted of rounds
abbrev pub count_fields : Option Counts → List (List ℕ)
count_fields None = dashes 5
count_fields (Some c) =
    decimal c.least ∷ decimal c.median ∷ decimal c.most ∷ decimal c.usual ∷ decimal c.alike ∷ []

-- the least and the greatest address
abbrev pub extent_fields : Option Extent → List (List ℕ)
extent_fields None = dashes 2
extent_fields (Some e) = hex8 e.first ∷ hex8 e.last ∷ []

-- the places of a loop
abbrev pub place_fields : List ℕ → LoopSums → List (List ℕ)
place_fields file s = hex8 s.head ∷ extent_fields s.extent ++ name_field file s.function ∷ around_text s.around ∷ []

-- how often it goes round, and what it takes
abbrev pub sum_fields : LoopSums → List (List ℕ)
sum_fields s =
    decimal s.entered ∷ decimal s.iterations ∷ decimal s.steps ∷ decimal s.cycles ∷ decimal s.own
    ∷ decimal s.floor ∷ []

-- what the table has of a loop
pub record Line : Type 0 where
  pub sums : LoopSums
  pub pattern : Option (List ℕ)
  pub path : List Charge

abbrev pub line_fields : List ℕ → Line → List (List ℕ)
line_fields file line =
    place_fields file line.sums ++ sum_fields line.sums ++ count_fields line.sums.counts ++ pattern_text line.pattern
    ∷ path_text line.path ∷ []

-- and of steps of no loop, or of all steps
pub record RestLine : Type 0 where
  pub sums : RestSums
  pub path : List Charge

-- by the name of their record
abbrev pub rest_fields : List ℕ → RestLine → List (List ℕ)
rest_fields name rest =
    name ∷ dashes 6 ++ decimal rest.sums.steps ∷ decimal rest.sums.cycles ∷ decimal rest.sums.cycles
    ∷ decimal rest.sums.floor ∷ dashes 6 ++ path_text rest.path ∷ []

abbrev pub columns : List (List ℕ)
columns =
    codes "pc" ∷ codes "first" ∷ codes "last" ∷ codes "function" ∷ codes "in" ∷ codes "entered"
    ∷ codes "iterations" ∷ codes "steps" ∷ codes "cycles" ∷ codes "own" ∷ codes "floor" ∷ codes "least"
    ∷ codes "median" ∷ codes "most" ∷ codes "usual" ∷ codes "alike" ∷ codes "pattern" ∷ codes "path" ∷ []

-- the table of these loops, in this order
abbrev pub table_text : List ℕ → List Line → RestLine → RestLine → List ℕ
table_text file lines outside total =
    record_text columns
    ++ (flat_map (λ line. record_text (line_fields file line)) lines
    ++ (record_text (rest_fields (codes "-") outside) ++ record_text (rest_fields (codes "total") total)))

-- a loop goes before another if it has more cycles of its own, or as many and a lower head
abbrev pub goes_before : LoopSums → LoopSums → Bool
goes_before a b = nat_lt b.own a.own || b.own == a.own && nat_lt a.head b.head

abbrev pub InOrder : List Line → Type 0
InOrder lines = (k : ℕ) (d : Line) → k + 1 < length lines
    → goes_before (slice_index_or lines (k + 1) d).sums (slice_index_or lines k d).sums ≡ false

-- what the code has of a loop, and of the rest
abbrev pub line_of : LoopRow → Line
line_of row =
    record { sums = row.sums; pattern = option_map (λ counts. counts.now) row.pattern; path = row.path.now }

abbrev pub rest_of : Rest → RestLine
rest_of rest = record { sums = rest.sums; path = rest.path.now }

-- what rows are ordered by: the cycles of the loop itself, the most first, and its head
abbrev pub key_of : LoopRow → Reverse ℕ × ℕ
key_of row = (record { 0 = row.sums.own }, row.sums.head)
