-- The rates of the front's table are those of its hull.
use Rattle.std.proofs.Common.{◌≡◌, ◌≢◌, ◌∙◌, ◌==◌, ℕ, ap, ap₂, refl, subst, inl, inr, false, map}
use Rattle.std.proofs.Common.{List, [], ◌∷◌, Option, Some, None}
use Rattle.std.specs.List.{AllPairs, filter, list_any}
use Rattle.std.proofs.lemmas.Bool.{eq-eqb, ne_eqb, or_parts}
use Rattle.std.proofs.lemmas.List.Kept.{AllPairs-filter}
use Rattle.tomex_front_views.specs.FrontTable.{rates_after}
use Rattle.tomex_page_tables.specs.Front.{rate_in}
use Rattle.tomex_pareto.specs.Front.{front_of, is_on}
use Rattle.tomex_pareto.specs.Hull.{hull_of, is_unmixed}
use Rattle.tomex_pareto.specs.Pareto.{ComesBefore}
use Rattle.tomex_pareto.specs.declared.front_row.FrontRow.{FrontRow}
use Rattle.tomex_pareto.proofs.OnFront.{one_row}
use Rattle.tomex_pareto.proofs.Pareto as numbered
use Rattle.tomex_pareto.proofs.Pareto.{AllOf, Has, Rises, all_from, all_has, front_is, pairs_rise, rises_pairs}
use Rattle.tomex_pareto.proofs.Rows.{rows_apart}
use Rattle.tomex_study.specs.Cycles.{cycles_of}
use Rattle.tomex_study.specs.Study.{DesignSpace}
use Rattle.tomex_study.specs.StudyFront.{all_rows, front_of_study}
use Rattle.tomex_page.specs.Laws.{OthersHaveNoRate, RatesAreTheHulls}
use Rattle.tomex_page.proofs.Linked.{never_before}

-- the rates of later rows
passed : (before : Option FrontRow) (r : FrontRow) (rows later : List FrontRow)
    → AllOf (λ q. r.row ≢ q.row) later
    → map (λ (q : FrontRow). rate_in before (r ∷ rows) q.row) later
    ≡ map (λ (q : FrontRow). rate_in (Some r) rows q.row) later
passed before r rows [] far = refl
passed before r rows (q ∷ later) far =
    ap₂ (λ (x : List ℕ) (xs : List (List ℕ)). x ∷ xs) (rw (ne_eqb r.row q.row far.0) refl)
    (passed before r rows later far.1)

-- those of rows with numbers of their own
rates_of : (before : Option FrontRow) (rows : List FrontRow) → numbered.AreApart rows
    → map (λ (r : FrontRow). rate_in before rows r.row) rows ≡ rates_after before rows
rates_of before [] far = refl
rates_of before (r ∷ rows) far =
    ap₂ (λ (x : List ℕ) (xs : List (List ℕ)). x ∷ xs) (rw (eq-eqb r.row r.row refl) refl)
    (passed before r rows rows far.0 ∙ rates_of (Some r) rows far.1)

-- rows that come one after the other, of some with numbers of their own
apart_in : (rows some : List FrontRow) → numbered.AreApart rows → Rises ComesBefore some
    → ((r : FrontRow) → Has some r → Has rows r) → numbered.AreApart some
apart_in rows [] far up there = tt
apart_in rows (r ∷ some) far up there = (
  all_from (λ q. r.row ≢ q.row) some (λ q later same.
      let equal : r ≡ q = one_row rows r q far (there r (inl refl)) (there q (inr later)) same in
      never_before q (subst (λ (z : FrontRow). ComesBefore z q) equal (all_has (ComesBefore r) some q up.0 later))),
  apart_in rows some far up.1 (λ q later. there q (inr later)),
)

hull_apart : (s : DesignSpace) → numbered.AreApart (hull_of (front_of_study s))
unfolding hull_of front_of_study
hull_apart s =
    let far = rows_apart 0 s.costs (cycles_of s) in
    let is = front_is (all_rows s) far in
    let front = front_of (all_rows s) in
    let apart = apart_in (all_rows s) front far is.rises (λ r there. (is.only r there).0) in
    pairs_rise (λ a b. a.row ≢ b.row) (filter (is_unmixed front) front)
    (AllPairs-filter (λ (a b : FrontRow). a.row ≢ b.row) (is_unmixed front) front
    (rises_pairs (λ a b. a.row ≢ b.row) front apart))

pub rates_are_the_hulls : RatesAreTheHulls
rates_are_the_hulls s = rates_of None (hull_of (front_of_study s)) (hull_apart s)

none_in : (before : Option FrontRow) (rows : List FrontRow) (n : ℕ) → is_on rows n ≡ false
    → rate_in before rows n ≡ []
none_in before [] n not = refl
none_in before (r ∷ rows) n not =
    let parts = or_parts (r.row == n) (list_any (λ (q : FrontRow). q.row == n) rows) not in
    rw (parts.0) (none_in (Some r) rows n parts.1)

pub others_have_no_rate : OthersHaveNoRate
others_have_no_rate rows n not = none_in None rows n not
