-- The parts as CSV: a header, a record for each, and one for all of them.
use Rattle.std.specs.Prelude.{ℕ, List, ◌++◌, codes, sum_by}
use Rattle.std.specs.Fmt.{decimal}
use Rattle.std.specs.List.{flat_map}
use Rattle.tomex_samples.specs.declared.chosen.Chosen.{Chosen}

-- a part, and a line feed
abbrev pub part_line : Chosen → List ℕ
part_line p =
    decimal p.from ++ (codes "," ++ (decimal p.steps ++ (codes "," ++ (decimal p.stretches ++ (codes ","
    ++ (decimal p.weight ++ codes "\n"))))))

-- the steps of all parts, and the stretches for which they stand
abbrev pub total_line : List Chosen → List ℕ
total_line parts =
    codes "total," ++ (decimal (sum_by (λ (p : Chosen). p.steps) parts) ++ (codes ","
    ++ (decimal (sum_by (λ (p : Chosen). p.stretches) parts) ++ codes ",-\n")))

abbrev pub parts_csv : List Chosen → List ℕ
parts_csv parts = codes "from,steps,stretches,weight\n" ++ (flat_map part_line parts ++ total_line parts)
