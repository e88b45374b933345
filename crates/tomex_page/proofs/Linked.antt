-- The links of a page lead to its views, which are of different rows.
use Rattle.std.proofs.Common.{◌≡◌, ◌∙◌, ◌<◌, ◌≤◌, ◌+◌, ◌-◌, ◌*◌, ◌/◌, ℕ, suc, arith, ap, refl, subst, sym, inl, inr}
use Rattle.std.proofs.Common.{append_assoc, true, List, [], ◌∷◌, ◌++◌, length, map, Option, Some, None}
use Rattle.std.specs.Prelude.{◌≢◌, ◌==◌, All, nat_le, option_map, slice_get, slice_index_or}
use Rattle.std.specs.List.{Contains, list_any, range_with_len}
use Rattle.std.proofs.lemmas.Bool.{cases_Bool, eqb-true, leb-false, or_cases}
use Rattle.std.proofs.lemmas.Bool.Decides.{nat_tests}
use Rattle.std.proofs.lemmas.List.Elements.{All-cons, All-nil, Contains-append_right, Contains-get_or}
use Rattle.std.proofs.lemmas.List.FromFn.{get_or-map-range_with_len, length-map-range_with_len}
use Rattle.tomex_pareto.specs.Front.{front_of}
use Rattle.tomex_pareto.specs.Pareto.{ComesBefore}
use Rattle.tomex_pareto.specs.declared.front_row.FrontRow.{FrontRow}
use Rattle.tomex_pareto.proofs.Rows.{rows_apart}
use Rattle.tomex_pareto.proofs.Pareto.{AreApart as AreNumbered, Has, IsSortedFront, all_has, front_is, has_at}
use Rattle.tomex_pareto.proofs.Pareto.{rises_pairs}
use Rattle.tomex_study.specs.Cycles.{cycles_of}
use Rattle.tomex_study.specs.StudyFront.{all_rows, front_of_study}
use Rattle.tomex_study.specs.Study.{DesignSpace}
use Rattle.tomex_pareto.specs.Front.{is_on}
use Rattle.tomex_page_tables.specs.Shown.{chosen_row, chosen_place, no_row, row_of, shown_rows}
use Rattle.tomex_page_tables.specs.declared.shown.ShownRow.{ShownRow}
use Rattle.tomex_page.specs.Laws.{AreApart, IsShownRow, LeadsOn, LinkedRowsAreShown, LinksLeadToViews, SectionsAreViews}
use Rattle.tomex_page.specs.Laws.{ViewsAreApart, ViewsAreOfRows, views_of}
use Rattle.tomex_page.specs.Page.{number_before, number_of, row_section, view_at, view_of}
use Rattle.tomex_page.proofs.ShownRows.{place_within}

pub sections_are_views : SectionsAreViews
sections_are_views s hull shown [] before = refl
sections_are_views s hull shown (r ∷ rows) before =
    ap (λ (z : List ℕ). row_section s hull shown (view_at s before r rows) ++ z)
    (sections_are_views s hull shown rows (Some (row_of s r)))

pub views_are_of_rows : ViewsAreOfRows
views_are_of_rows s before [] = refl
views_are_of_rows s before (r ∷ rows) =
    ap (λ (z : List FrontRow). r ∷ z) (views_are_of_rows s (Some (row_of s r)) rows)

later : (r : FrontRow) (rows : List FrontRow) (q : FrontRow) → Contains rows q → Contains (r ∷ rows) q
later r rows q there = (suc there.0, omega (arith, there.1), there.2)

-- a row that is found is one of those that are shown
row_at : (shown : List FrontRow) (n : ℕ) → list_any (λ r. r.row == n) shown ≡ true → IsShownRow shown n
row_at [] n found = absurd (cc)
row_at (r ∷ shown) n found = elim (or_cases (r.row == n) (list_any (λ r. r.row == n) shown) found) [
  | inl here ↦ (r, (0, omega arith, refl), eqb-true r.row n here)
  | inr behind ↦
      let other = row_at shown n behind in
      (other.0, later r shown other.0 other.1, other.2)
]

pub linked_rows_are_shown : LinkedRowsAreShown
linked_rows_are_shown shown n found = row_at shown n found

-- links to the rows before and after
to_before : (shown : List FrontRow) (before : Option ShownRow)
    → ((x : ShownRow) → before ≡ Some x → Contains shown x.row) → (n : ℕ) → option_map number_before before ≡ Some n
    → IsShownRow shown n
to_before shown None each n is = absurd (cc)
to_before shown (Some x) each n is = let number : x.row.row ≡ n = cc in (x.row, each x refl, number)

to_after : (shown rows : List FrontRow) → ((r : FrontRow) → Contains rows r → Contains shown r) → (n : ℕ)
    → option_map number_of (slice_get rows 0) ≡ Some n → IsShownRow shown n
to_after shown [] each n is = absurd (cc)
to_after shown (r ∷ rows) each n is =
    let number : r.row ≡ n = cc in
    (r, each r (0, omega arith, refl), number)

all_lead : (s : DesignSpace) (shown front rows : List FrontRow) (before : Option ShownRow) → shown ≡ front ++ rows
    → ((x : ShownRow) → before ≡ Some x → Contains shown x.row)
    → All (λ v. LeadsOn shown (view_of shown v)) (views_of s before rows)
all_lead s shown front [] before is each = All-nil (λ v. LeadsOn shown (view_of shown v))
all_lead s shown front (r ∷ rows) before is each =
    let here : Contains shown r = rw is (Contains-append_right front (r ∷ rows) r (0, omega arith, refl)) in
    let some : 0 < length shown = omega (arith, here.1) in
    let own : LeadsOn shown (view_of shown (view_at s before r rows)) = record {
      first = (slice_index_or shown 0 no_row, Contains-get_or shown 0 no_row some, refl);
      before = to_before shown before each;
      after = to_after shown rows
          (λ q there. rw is (Contains-append_right front (r ∷ rows) q (later r rows q there)));
      last = (
        slice_index_or shown (length shown - 1) no_row,
        Contains-get_or shown (length shown - 1) no_row (omega arith),
        refl,
      );
    } in
    All-cons (λ v. LeadsOn shown (view_of shown v)) (view_at s before r rows) (views_of s (Some (row_of s r)) rows) own
    (all_lead s shown (front ++ (r ∷ [])) rows (Some (row_of s r)) (is ∙ sym (append_assoc front (r ∷ []) rows))
    (λ x e. let same : row_of s r ≡ x = cc in
    subst (λ (z : FrontRow). Contains shown z) (ap (λ (y : ShownRow). y.row) same) here))

pub links_lead_to_views : LinksLeadToViews
links_lead_to_views s shown = all_lead s shown [] shown None refl (λ x e. absurd (cc))

-- a row of a study is known by its number
same_row : (rows : List FrontRow) (a b : FrontRow) → AreNumbered rows → Has rows a → Has rows b → a.row ≡ b.row → a ≡ b
same_row [] a b far x y same = absurd x
same_row (q ∷ rows) a b far (inl x) (inl y) same = sym x ∙ y
same_row (q ∷ rows) a b far (inl x) (inr y) same =
    absurd (all_has (λ r. q.row ≢ r.row) rows b far.0 y (ap (λ (r : FrontRow). r.row) x ∙ same))
same_row (q ∷ rows) a b far (inr x) (inl y) same =
    absurd (all_has (λ r. q.row ≢ r.row) rows a far.0 x (ap (λ (r : FrontRow). r.row) y ∙ sym same))
same_row (q ∷ rows) a b far (inr x) (inr y) same = same_row rows a b far.1 x y same

pub never_before : (a : FrontRow) → ComesBefore a a → ⊥
never_before a h = grind (arith, nat_tests)

-- so the rows of its front are apart
front_apart : (rows front : List FrontRow) → AreNumbered rows → IsSortedFront rows front → AreApart front
front_apart rows front far is j k l m same =
    let a : FrontRow = slice_index_or front j no_row in
    let b : FrontRow = slice_index_or front k no_row in
    let one = (is.only a (has_at front j no_row (omega arith))).0 in
    let other = (is.only b (has_at front k no_row m)).0 in
    let equal : a ≡ b = same_row rows a b far one other same in
    let before = rises_pairs ComesBefore front is.rises j k no_row l m in
    never_before b (subst (λ (z : FrontRow). ComesBefore z b) equal before)

-- and those that are shown of it, whose places rise
quotients_rise : (a b : ℕ) → a + 63 ≤ b → a / 63 < b / 63
quotients_rise a b far = omega arith

products_rise : (j k m : ℕ) → j < k → j * m + m ≤ k * m
products_rise j k m l = grind arith

places_rise : (n j k : ℕ) → 64 < n → j < k → chosen_place n j < chosen_place n k
places_rise n j k many l =
    let far = products_rise j k (n - 1) l in
    quotients_rise (j * (n - 1)) (k * (n - 1)) (omega arith)

chosen_apart : (front : List FrontRow) → AreApart front → 64 < length front
    → AreApart (map (chosen_row front) (range_with_len 0 64))
chosen_apart front far many j k l m same =
    let few : k < 64 = omega (arith, m, length-map-range_with_len (chosen_row front) 0 64) in
    let own : slice_index_or (map (chosen_row front) (range_with_len 0 64)) j no_row ≡ chosen_row front j =
    get_or-map-range_with_len (chosen_row front) 0 64 j j no_row (omega arith) (omega arith) in
    let other : slice_index_or (map (chosen_row front) (range_with_len 0 64)) k no_row ≡ chosen_row front k =
    get_or-map-range_with_len (chosen_row front) 0 64 k k no_row few (omega arith) in
    far (chosen_place (length front) j) (chosen_place (length front) k) (places_rise (length front) j k many l)
    (place_within (length front) k (omega arith) few)
    (ap (λ (r : FrontRow). r.row) (sym own) ∙ (same ∙ ap (λ (r : FrontRow). r.row) other))

shown_apart : (front : List FrontRow) → AreApart front → AreApart (shown_rows front)
unfolding shown_rows
shown_apart front far = elim (cases_Bool (nat_le (length front) 64)) [
  | inl few ↦ rw few far
  | inr many ↦ rw many (chosen_apart front far (leb-false (length front) 64 many))
]

pub views_are_apart : ViewsAreApart
unfolding front_of_study
views_are_apart s =
    let far = rows_apart 0 s.costs (cycles_of s) in
    shown_apart (front_of (all_rows s))
    (front_apart (all_rows s) (front_of (all_rows s)) far (front_is (all_rows s) far))
