-- Rows of a study on the hull of its front, by their numbers.
use Rattle.std.proofs.Common.{◌≡◌, subst, true}
use Rattle.std.specs.List.{Contains, filter}
use Rattle.std.proofs.lemmas.List.Elements.{All-contains, All-contains_itself, All-filter}
use Rattle.tomex_pareto.specs.Front.{is_on}
use Rattle.tomex_pareto.specs.Hull.{hull_of, is_unmixed}
use Rattle.tomex_pareto.specs.declared.front_row.FrontRow.{FrontRow}
use Rattle.tomex_pareto.proofs.OnFront.{has_number, number_has, one_row}
use Rattle.tomex_pareto.proofs.Pareto.{Has, among, front_is, has_contains}
use Rattle.tomex_pareto.proofs.Rows.{rows_apart}
use Rattle.tomex_study.specs.Cycles.{cycles_of}
use Rattle.tomex_study.specs.Study.{DesignSpace}
use Rattle.tomex_study.specs.StudyFront.{all_rows, front_of_study}
use Rattle.tomex_texts.specs.RowsLaws.{FlaggedRowsAreTheHull, HullIsOnTheFront}

-- a row on the hull is one of the front
in_front : (s : DesignSpace) (r : FrontRow) → Contains (hull_of (front_of_study s)) r → Contains (front_of_study s) r
unfolding hull_of
in_front s r there =
    let front = front_of_study s in
    All-contains (Contains front) (filter (is_unmixed front) front) r
    (All-filter (is_unmixed front) (Contains front) front (All-contains_itself front)) there

-- and so of the study
in_study : (s : DesignSpace) (r : FrontRow) → Contains (front_of_study s) r → Has (all_rows s) r
unfolding front_of_study
in_study s r there =
    ((front_is (all_rows s) (rows_apart 0 s.costs (cycles_of s))).only r (among _ r there)).0

pub flagged_rows_are_the_hull : FlaggedRowsAreTheHull
flagged_rows_are_the_hull s r row =
    let hull = hull_of (front_of_study s) in (
      λ flagged. let found = number_has hull r.row flagged in
          let there = has_contains hull found.0 found.1 in
          subst (Contains hull) (one_row (all_rows s) found.0 r (rows_apart 0 s.costs (cycles_of s))
          (in_study s found.0 (in_front s found.0 there)) (among _ r row) found.2) there,
      λ there. has_number hull r (among hull r there),
    )

pub hull_is_on_the_front : HullIsOnTheFront
hull_is_on_the_front s n flagged =
    let hull = hull_of (front_of_study s) in
    let found = number_has hull n flagged in
    let front = front_of_study s in
    subst (λ (k : _). is_on front k ≡ true) found.2
    (has_number front found.0 (among front found.0 (in_front s found.0 (has_contains hull found.0 found.1))))
