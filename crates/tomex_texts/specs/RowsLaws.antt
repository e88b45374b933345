-- What the flags of all rows say.
use Rattle.std.specs.Prelude.{◌≡◌, ◌↔◌, ℕ, true}
use Rattle.std.specs.List.{Contains}
use Rattle.tomex_pareto.specs.Front.{is_on}
use Rattle.tomex_pareto.specs.Hull.{hull_of}
use Rattle.tomex_pareto.specs.declared.front_row.FrontRow.{FrontRow}
use Rattle.tomex_study.specs.Study.{DesignSpace}
use Rattle.tomex_study.specs.StudyFront.{all_rows, front_of_study}

-- the rows with the flag of the hull are those on the hull of the front, which `front --hull` prints
abbrev pub FlaggedRowsAreTheHull : Type 0
FlaggedRowsAreTheHull = (s : DesignSpace) (r : FrontRow) → Contains (all_rows s) r
    → (is_on (hull_of (front_of_study s)) r.row ≡ true) ↔ Contains (hull_of (front_of_study s)) r

-- and each of them has the flag of the front too
abbrev pub HullIsOnTheFront : Type 0
HullIsOnTheFront = (s : DesignSpace) (n : ℕ) → is_on (hull_of (front_of_study s)) n ≡ true
    → is_on (front_of_study s) n ≡ true
