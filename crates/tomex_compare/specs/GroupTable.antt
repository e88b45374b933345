-- The table of groups: for each, on how many rows the new build takes fewer cycles than the old one, as many, and more,
-- and the least, the median and the greatest ratio.
use Rattle.std.specs.Prelude.{ℕ, ◌-◌, ◌/◌, ◌==◌, nat_lt, Bool, List, [], ◌∷◌, codes, count_by, length, map}
use Rattle.std.specs.Prelude.{Option, Some, None, slice_get}
use Rattle.std.specs.Fmt.{decimal}
use Rattle.tomex_layout.specs.Table.{TableColumn, table_of}
use Rattle.tomex_layout.specs.Differences.{percent}
use Rattle.tomex_compare.specs.Groups.{RowGroup}
use Rattle.tomex_compare.specs.declared.group_table.Heading.{Heading}
use Rattle.tomex_compare.specs.declared.group_table.Heading.TheVariants as headings
use Rattle.tomex_compare.specs.declared.pairs.Pair.{Pair}

-- the new build's cycles compared with the old one's
abbrev pub takes_fewer : Pair → Bool
takes_fewer p = nat_lt p.new p.old

abbrev pub takes_as_many : Pair → Bool
takes_as_many p = p.new == p.old

abbrev pub takes_more : Pair → Bool
takes_more p = nat_lt p.old p.new

-- of pairs in their order the first, the middle one, of two the earlier, and the last
abbrev pub best : List Pair → Option Pair
best pairs = slice_get pairs 0

abbrev pub median : List Pair → Option Pair
median pairs = slice_get pairs ((length pairs - 1) / 2)

abbrev pub worst : List Pair → Option Pair
worst pairs = slice_get pairs (length pairs - 1)

-- a ratio as a difference in percent
abbrev pub ratio_text : Option Pair → List ℕ
ratio_text None = codes "-"
ratio_text (Some p) = percent p.old p.new

abbrev pub row_text : Option Pair → List ℕ
row_text None = codes "-"
row_text (Some p) = decimal p.row

abbrev pub name_under : Heading → List ℕ
name_under headings.Part = codes "part"
name_under headings.Value = codes "value"
name_under headings.Rows = codes "rows"
name_under headings.Fewer = codes "fewer"
name_under headings.Same = codes "same"
name_under headings.More = codes "more"
name_under headings.Best = codes "best"
name_under headings.BestRow = codes "best_row"
name_under headings.Median = codes "median"
name_under headings.Worst = codes "worst"
name_under headings.WorstRow = codes "worst_row"

-- the texts of a group's line
unfoldable pub text_under : Heading → RowGroup → List ℕ
text_under headings.Part g = g.part
text_under headings.Value g = g.value
text_under headings.Rows g = decimal (length g.pairs)
text_under headings.Fewer g = decimal (count_by takes_fewer g.pairs)
text_under headings.Same g = decimal (count_by takes_as_many g.pairs)
text_under headings.More g = decimal (count_by takes_more g.pairs)
text_under headings.Best g = ratio_text (best g.pairs)
text_under headings.BestRow g = row_text (best g.pairs)
text_under headings.Median g = ratio_text (median g.pairs)
text_under headings.Worst g = ratio_text (worst g.pairs)
text_under headings.WorstRow g = row_text (worst g.pairs)

abbrev pub all_headings : List Heading
all_headings =
    headings.Part ∷ headings.Value ∷ headings.Rows ∷ headings.Fewer ∷ headings.Same ∷ headings.More ∷ headings.Best
    ∷ headings.BestRow ∷ headings.Median ∷ headings.Worst ∷ headings.WorstRow ∷ []

unfoldable pub heading_column : List RowGroup → Heading → TableColumn
heading_column groups heading =
    record { name = name_under heading; entries = map (text_under heading) groups }

-- a line for each group
unfoldable pub group_table_of : List RowGroup → List ℕ
group_table_of groups = table_of (length groups) (map (heading_column groups) all_headings)
