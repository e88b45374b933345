-- The ends of the span of a row that stays at some value: it isn't empty, and the row stays at its first and its last
-- value.
use Rattle.std.proofs.Common.{◌≡◌, ◌∙◌, ℕ, suc, ◌-◌, ◌<◌, ◌≤◌, inl, inr, arith, ap, sym, subst, Bool, true, false}
use Rattle.std.proofs.Common.{nat_le, nat_lt, ◌&&◌, ◌==◌, List, [], ◌∷◌}
use Rattle.std.specs.Prelude.{if◌then◌else◌, min}
use Rattle.std.specs.Int.{div_ceil}
use Rattle.std.specs.List.{fold}
use Rattle.std.proofs.lemmas.Bool.{and_from, and_parts, cases_Bool, le-leb, leb-true, lt-ltb, ltb-true}
use Rattle.std.proofs.lemmas.Bool.Decides.{nat_tests}
use Rattle.tomex_pareto.specs.declared.line_row.LineRow.{LineRow}
use Rattle.tomex_pareto.specs.declared.spans.ValueSpan.{ValueSpan}
use Rattle.tomex_pareto.specs.Spans.{first_left, holds, narrowed, need, span, stays}
use Rattle.tomex_pareto.proofs.AllRivals.{stay_within}

-- within the limits

pub in_range : (least limit q : ℕ) (b : Bool) → least ≤ q → q ≤ limit → (nat_le least q && nat_le q limit && b) ≡ b
in_range least limit q b above below = grind (arith, nat_tests)

pub stays_is : (least limit q : ℕ) (rows : List LineRow) (r : LineRow) → least ≤ q → q ≤ limit
    → holds (span least limit r rows) q ≡ stays q rows r
stays_is least limit q rows r above below =
    stay_within least limit q rows r ∙ in_range least limit q (stays q rows r) above below

stays_held : (least limit q : ℕ) (rows : List LineRow) (r : LineRow) → holds (span least limit r rows) q ≡ true
    → stays q rows r ≡ true
stays_held least limit q rows r held =
    (and_parts (nat_le least q && nat_le q limit) (stays q rows r)
    (sym (stay_within least limit q rows r) ∙ held)).1

-- another limit changes no first value, and no span's being empty

record AreAlike (s t : ValueSpan) : Type 0 where
  first : s.first ≡ t.first
  some : 0 < s.end → 0 < t.end

some_left : (slower parallel : Bool) (d x y : ℕ) → (0 < x → 0 < y)
    → 0 < (if slower then min x d else if parallel then 0 else x)
    → 0 < (if slower then min y d else if parallel then 0 else y)
some_left true parallel d x y f low = let g = f (omega (arith, low)) in omega (arith, low, g)
some_left false true d x y f low = low
some_left false false d x y f low = f low

one_alike : (r j : LineRow) (s t : ValueSpan) → AreAlike s t → AreAlike (narrowed r s j) (narrowed r t j)
one_alike r j s t are = elim (cases_Bool (nat_le j.other r.other)) [
  | inl e ↦ rw e (record {
    first = ap (first_left r j) are.first;
    some = some_left (nat_lt j.times r.times) (r.times == j.times && nat_lt j.rest (need r j))
        (div_ceil (suc j.rest - need r j) (r.times - j.times)) s.end t.end are.some;
  })
  | inr e ↦ rw e are
]

all_alike : (r : LineRow) (rows : List LineRow) (s t : ValueSpan) → AreAlike s t
    → AreAlike (fold (narrowed r) s rows) (fold (narrowed r) t rows)
all_alike r [] s t are = are
all_alike r (j ∷ js) s t are = all_alike r js (narrowed r s j) (narrowed r t j) (one_alike r j s t are)

alike : (least limit other : ℕ) (rows : List LineRow) (r : LineRow)
    → AreAlike (span least limit r rows) (span least other r rows)
alike least limit other rows r =
    all_alike r rows (record { first = least; end = suc limit }) (record { first = least; end = suc other })
    (record { first = (omega arith); some = λ low. omega arith })

-- a row that stays at q

module _ (least limit q : ℕ) (rows : List LineRow) (r : LineRow) (above : least ≤ q)
    (here : stays q rows r ≡ true) where
  abbrev up_to : ℕ → ValueSpan
  up_to n = span least n r rows

  held : holds (up_to q) q ≡ true
  held = stays_is least q q rows r above (omega arith) ∙ here

  pub first_low : (span least limit r rows).first ≤ q
  first_low =
      let two = and_parts (nat_le (up_to q).first q) (nat_lt q (up_to q).end) held in
      subst (λ (n : ℕ). n ≤ q) (sym (alike least limit q rows r).first) (leb-true (up_to q).first q two.0)

  pub some_end : 0 < (span least limit r rows).end
  some_end =
      let two = and_parts (nat_le (up_to q).first q) (nat_lt q (up_to q).end) held in
      let low = ltb-true q (up_to q).end two.1 in
      (alike least q limit rows r).some (omega (arith, low))

  pub stays_at_first : stays (span least limit r rows).first rows r ≡ true
  stays_at_first =
      let two = and_parts (nat_le (up_to q).first q) (nat_lt q (up_to q).end) held in
      let first = (up_to q).first in
      let up = leb-true first q two.0 in
      let low = ltb-true q (up_to q).end two.1 in
      let in_it = and_from (nat_le first first) (nat_lt first (up_to q).end) (le-leb first first (omega arith))
      (lt-ltb first (up_to q).end (omega (arith, up, low))) in
      subst (λ (n : ℕ). stays n rows r ≡ true) (sym (alike least limit q rows r).first)
      (stays_held least q first rows r in_it)

  pub stays_at_last : (last : ℕ) → suc last ≡ (span least limit r rows).end → q ≤ last → stays last rows r ≡ true
  stays_at_last last is later =
      let s = span least limit r rows in
      let low = first_low in
      stays_held least limit last rows r (and_from (nat_le s.first last) (nat_lt last s.end)
      (le-leb s.first last (omega (arith, low, later))) (lt-ltb last s.end (omega (arith, is))))
