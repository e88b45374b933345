-- The table of the rows' points, one row later, and its columns.
use Rattle.std.proofs.Common.{◌≡◌, ◌∙◌, ap, refl, sym, arith, ℕ, zero, suc, ◌+◌}
use Rattle.std.proofs.Common.{◌-◌, ◌*◌, ◌/◌, ◌<◌, ◌≤◌, Bool, true, false, inl, inr}
use Rattle.std.proofs.Common.{List, [], ◌∷◌, drop, get_or, get_or-drop, get_or-take, length, map, take, min}
use Rattle.std.proofs.Math.ListN.{replicate, set, length-set}
use Rattle.std.proofs.Math.Nat.{div-le_of_le-mul, mul-le-mul_right}
use Rattle.std.specs.Prelude.{◌||◌, nat_le, if◌then◌else◌}
use Rattle.std.specs.List.{list_any, range_with_len, slice_range}
use Rattle.std.proofs.Math.Bool.{or-false}
use Rattle.std.proofs.lemmas.Bool.{and_left, and_right, cases_eq, eq-eqb, ne_eqb}
use Rattle.std.proofs.lemmas.List.{get_or-replicate, get_or-set_other}
use Rattle.std.proofs.lemmas.List.{get_or-set_same, length-replicate, length-take-le}
use Rattle.std.proofs.lemmas.List.{length-drop}
use Rattle.std.proofs.lemmas.List.Folds.{list_any_more, list_any_none}
use Rattle.std.proofs.lemmas.List.FromFn.{fill_by_all}
use Rattle.tomex_pareto.specs.declared.front_row.FrontRow.{FrontRow}
use Rattle.tomex_front_views.specs.Axes.{along, x_of, y_of}
use Rattle.tomex_front_views.specs.Dots.{IsTable, all_y, has_dot, stands_at}
use Rattle.tomex_front_views.specs.declared.plot.axes.Axes.{Axes}
use Rattle.tomex_front_views.specs.declared.plot.axes.Span.{Span}

-- rows lie in the picture
along_most : (span : Span) (far value : ℕ) → along span far value ≤ far
unfolding along
along_most span far value = most (nat_le span.greatest span.least)
  where
    inner : min value span.greatest - span.least ≤ span.greatest - span.least
    inner = omega arith

    part : ℕ
    part = (min value span.greatest - span.least) * far / (span.greatest - span.least)

    most : (b : Bool) → (if b then far / 2 else part) ≤ far
    most true = omega arith
    most false = div-le_of_le-mul (span.greatest - span.least) (mul-le-mul_right far inner)

pub from_y : (axes : Axes) (cycles : ℕ) → 80 ≤ y_of axes cycles
unfolding y_of
from_y axes cycles = let e = along_most axes.cycles 280 cycles in omega arith

pub from_x : (axes : Axes) (cost : ℕ) → 136 ≤ x_of axes cost
unfolding x_of
from_x axes cost = omega arith

to_y : (axes : Axes) (cycles : ℕ) → y_of axes cycles ≤ 360
unfolding y_of
to_y axes cycles = omega arith

-- before the first row
pub none_marked : (axes : Axes) (marks : List Bool) → marks ≡ replicate (513 * 281) false → IsTable axes [] marks
unfolding has_dot
none_marked axes marks is = record {
  count = ap length is ∙ length-replicate (513 * 281) false;
  each = λ column line low high.
      ap (λ (bs : List Bool). get_or bs (column * 281 + line) false) is
      ∙ get_or-replicate (513 * 281) (column * 281 + line) false false (omega arith);
}

-- the place of a row's point, by column and line
module _ (axes : Axes) (r : FrontRow) (place column line : ℕ)
    (at : place ≡ (x_of axes r.cost - 136) * 281 + (y_of axes r.cycles - 80)) (low : column < 513) (high : line < 281)
  where
    there : column * 281 + line ≡ place → stands_at axes (136 + column) (80 + line) r ≡ true
    there same =
        let right = from_x axes r.cost in
        let below = from_y axes r.cycles in
        let inside = to_y axes r.cycles in
        let e : x_of axes r.cost ≡ 136 + column = omega arith in
        let f : y_of axes r.cycles ≡ 80 + line = omega arith in
        rw (e, f, eq-eqb (136 + column) _ refl, eq-eqb (80 + line) _ refl) refl

    both : x_of axes r.cost ≡ 136 + column → y_of axes r.cycles ≡ 80 + line → column * 281 + line ≡ place
    both e f = omega arith

    elsewhere : (column * 281 + line ≡ place → ⊥) → stands_at axes (136 + column) (80 + line) r ≡ false
    elsewhere apart = elim (cases_eq (x_of axes r.cost) (136 + column)) [
      | inl e ↦ and_right _ _ (ne_eqb _ _ (λ f. apart (both e f)))
      | inr other ↦ and_left _ _ (ne_eqb _ _ other)
    ]

or_true : (b : Bool) → (b || true) ≡ true
or_true true = refl
or_true false = refl

-- one more row
pub one_marked : (axes : Axes) (rows : List FrontRow) (k : ℕ) (d : FrontRow) (marks : List Bool) (place : ℕ)
    → k < length rows
    → place ≡ (x_of axes (get_or rows k d).cost - 136) * 281 + (y_of axes (get_or rows k d).cycles - 80)
    → place < 513 * 281 → IsTable axes (take k rows) marks → IsTable axes (take (k + 1) rows) (set marks place true)
unfolding has_dot
one_marked axes rows k d marks place within at in_table before =
    let r : FrontRow = get_or rows k d in
    record {
      count = length-set marks place true ∙ before.count;
      each = λ column line low high.
          let test : FrontRow → Bool = stands_at axes (136 + column) (80 + line) in
          let more : list_any test (take (k + 1) rows) ≡ (list_any test (take k rows) || test r) =
          list_any_more test rows k d within in
          let long : length marks ≡ 513 * 281 = before.count in
          elim (cases_eq (column * 281 + line) place) [
            | inl same ↦
                ap (λ (n : ℕ). get_or (set marks place true) n false) same
                ∙ (get_or-set_same marks place true false (omega arith)
                ∙ sym (more ∙ (ap (λ (b : Bool). list_any test (take k rows) || b)
                (there axes r place column line at low high same) ∙ or_true _)))
            | inr apart ↦
                get_or-set_other marks place (column * 281 + line) true false apart
                ∙ (before.each column line low high
                ∙ sym (more ∙ (ap (λ (b : Bool). list_any test (take k rows) || b)
                (elsewhere axes r place column line at low high apart) ∙ or-false _)))
          ];
    }

shifted : (f : ℕ → Bool) (a b n : ℕ)
    → map (λ (k : ℕ). f (a + k)) (range_with_len b n) ≡ map f (range_with_len (a + b) n)
shifted f a b zero = refl
shifted f a b (suc n) =
    ap (λ (bs : List Bool). f (a + b) ∷ bs)
    (shifted f a (b + 1) n
    ∙ ap (λ (m : ℕ). map f (range_with_len m n)) (let e : a + (b + 1) ≡ a + b + 1 = omega arith in e))

-- a column of the table
pub column_is : (axes : Axes) (rows : List FrontRow) (marks : List Bool) (column first : ℕ) → IsTable axes rows marks
    → column < 513 → first ≡ column * 281
    → slice_range marks first (first + 281) ≡ map (has_dot axes rows (136 + column)) all_y
unfolding all_y
column_is axes rows marks column first is low at =
    let long : length marks ≡ 513 * 281 = is.count in
    let own : first + 281 - first ≡ 281 = omega arith in
    let rest : length (drop first marks) ≡ length marks - first = length-drop first marks in
    let count : length (take (first + 281 - first) (drop first marks)) ≡ 281 =
    length-take-le (first + 281 - first) (drop first marks) (omega arith) ∙ own in
    fill_by_all (λ (line : ℕ). has_dot axes rows (136 + column) (80 + line)) (slice_range marks first (first + 281)) 281
    false count
    (λ line high. get_or-take (first + 281 - first) (drop first marks) line false (omega arith)
    ∙ (get_or-drop first marks line false
    ∙ (ap (λ (n : ℕ). get_or marks (n + line) false) at ∙ is.each column line low high)))
    ∙ shifted (has_dot axes rows (136 + column)) 80 0 281

-- no row lies above it
pub none_above : (axes : Axes) (rows : List FrontRow) (x : ℕ) → has_dot axes rows x 79 ≡ false
unfolding has_dot
none_above axes rows x = list_any_none (stands_at axes x 79) rows (λ k d low. not_there (get_or rows k d))
  where
    not_there : (r : FrontRow) → stands_at axes x 79 r ≡ false
    not_there r =
        let e = from_y axes r.cycles in
        and_right _ _ (ne_eqb (y_of axes r.cycles) 79 (λ f. omega arith))
