-- Orders, groups and tables of some pairs, computed by the definitions themselves.
use Rattle.std.proofs.Common.{◌≡◌, refl, ℕ, List, [], ◌∷◌, ◌++◌, codes, map, None, Some}
use Rattle.std.specs.Fmt.{digits}
use Rattle.std.specs.List.{best_of}
use Rattle.tomex_config.specs.Configuration.{Configuration, plain, with_option}
use Rattle.tomex_rvdec.specs.declared.pool.UnitId.TheVariants.{Mul}
use Rattle.tomex_config.specs.declared.part.Part.TheVariants.{Buses, Units}
use Rattle.tomex_layout.specs.Table.{aligned_in, spaced_in, table_line, table_of, width_of}
use Rattle.tomex_layout.specs.Differences.{percent, tenths}
use Rattle.tomex_compare.specs.GroupTable.{all_headings, best, median, text_under}
use Rattle.tomex_compare.specs.Groups.{entries_of, group, if_several}
use Rattle.tomex_compare.specs.Pairs.{by_ratio}
use Rattle.tomex_compare.specs.ProgramTable.{BuildProfile, heading_column, is_better, is_worse, program_table_of}
use Rattle.tomex_compare.specs.declared.extremes.RowCycles.{RowCycles}
use Rattle.tomex_compare.specs.declared.pairs.Pair.{Pair}

abbrev pair : ℕ → ℕ → ℕ → Pair
pair row old new = record { row = row; old = old; new = new }

-- by ratio, and of equal ratios by number
ties : by_ratio (pair 0 10 12 ∷ pair 1 20 16 ∷ pair 2 10 8 ∷ []) ≡ pair 1 20 16 ∷ pair 2 10 8 ∷ pair 0 10 12 ∷ []
ties = refl

-- not by difference
small_gain : by_ratio (pair 0 100 90 ∷ pair 1 10 8 ∷ []) ≡ pair 1 10 8 ∷ pair 0 100 90 ∷ []
small_gain = refl

-- nor by what is shown: both are `-33.3`
shown_alike : by_ratio (pair 0 3000 2000 ∷ pair 1 3000 1999 ∷ []) ≡ pair 1 3000 1999 ∷ pair 0 3000 2000 ∷ []
shown_alike = refl

-- of two in the middle the earlier
middle_of_four : median (pair 3 9 1 ∷ pair 2 9 2 ∷ pair 1 9 3 ∷ pair 0 9 4 ∷ []) ≡ Some (pair 2 9 2)
middle_of_four = refl

middle_of_three : median (pair 3 9 1 ∷ pair 2 9 2 ∷ pair 1 9 3 ∷ []) ≡ Some (pair 2 9 2)
middle_of_three = refl

none : best [] ≡ None
none = refl

-- a group's line
line : map (λ h. text_under h (group (codes "alu") (codes "2") (pair 4 1000 965 ∷ pair 6 35003 35002 ∷ pair 5 7 7
    ∷ pair 0 82 83 ∷ []))) all_headings
    ≡ codes "alu" ∷ codes "2" ∷ codes "4" ∷ codes "2" ∷ codes "1" ∷ codes "1" ∷ codes "-3.5" ∷ codes "4" ∷ codes "-0.0"
    ∷ codes "+1.2" ∷ codes "0" ∷ []
unfolding text_under percent tenths digits
line = refl

empty_line : map (λ h. text_under h (group (codes "front") (codes "both") [])) all_headings
    ≡ codes "front" ∷ codes "both" ∷ codes "0" ∷ codes "0" ∷ codes "0" ∷ codes "0" ∷ codes "-" ∷ codes "-" ∷ codes "-"
    ∷ codes "-" ∷ codes "-" ∷ []
unfolding text_under digits
empty_line = refl

-- options that differ in their price are one entry, and a list in which all rows show one has no groups
abbrev with_mul : ℕ → ℕ → ℕ → Configuration
with_mul units latency price = with_option Mul plain (record { units = units; latency = latency; price = price })

options : entries_of (Units Mul) (with_mul 1 3 30 ∷ with_mul 1 8 12 ∷ with_mul 1 3 25 ∷ with_mul 2 3 60 ∷ [])
    ≡ with_mul 1 3 30 ∷ with_mul 1 8 12 ∷ with_mul 2 3 60 ∷ []
options = refl

one_entry : entries_of Buses (with_mul 1 3 30 ∷ with_mul 1 8 12 ∷ []) ≡ with_mul 1 3 30 ∷ []
one_entry = refl

no_groups : if_several (group (codes "buses") (codes "1") (pair 0 1 1 ∷ []) ∷ []) ≡ []
no_groups = refl

-- the first of the best rows, the last of the worst
abbrev at : ℕ → ℕ → RowCycles
at row cycles = record { row = row; cycles = cycles }

abbrev rows : List RowCycles
rows = at 0 5 ∷ at 1 3 ∷ at 2 3 ∷ at 3 9 ∷ at 4 9 ∷ at 5 8 ∷ []

first_best : best_of is_better (at 0 5) rows ≡ at 1 3
first_best = refl

last_worst : best_of is_worse (at 0 5) rows ≡ at 4 9
last_worst = refl

-- the table of two builds
abbrev o2 : BuildProfile
o2 = record { name = codes "o2"; steps = 13140; best = at 187 18197; worst = at 6 35003 }

abbrev o3 : BuildProfile
o3 = record { name = codes "o3"; steps = 12856; best = at 187 18231; worst = at 6 33965 }

two : program_table_of o2 o3 ≡
    codes "program  steps   best  best_row  worst  worst_row\n"
    ++ (codes "     o2  13140  18197       187  35003          6\n"
    ++ (codes "     o3  12856  18231       187  33965          6\n"
    ++ codes "      %   -2.1   +0.1         -   -2.9          -\n"))
unfolding program_table_of heading_column percent tenths digits table_of table_line spaced_in aligned_in width_of
two = refl
