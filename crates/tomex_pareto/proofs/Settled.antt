-- A span that has no values gets none from further rivals, and a settled span has the values of the span.
use Rattle.std.proofs.Common.{◌≡◌, ◌-◌, ◌<◌, ◌≤◌, ℕ, suc, arith, inl, inr, refl, Bool, true, false}
use Rattle.std.proofs.Common.{nat_le, nat_lt, ◌&&◌, ◌==◌, List, [], ◌∷◌}
use Rattle.std.specs.Prelude.{if◌then◌else◌, max, min}
use Rattle.std.specs.Int.{div_ceil}
use Rattle.std.specs.List.{fold}
use Rattle.std.proofs.lemmas.Bool.{and_parts, cases_Bool, leb-true, lt-ltb, ltb-true}
use Rattle.std.proofs.lemmas.Bool.Decides.{nat_tests}
use Rattle.tomex_pareto.specs.declared.line_row.LineRow.{LineRow}
use Rattle.tomex_pareto.specs.declared.spans.ValueSpan.{ValueSpan}
use Rattle.tomex_pareto.specs.Spans.{holds, narrowed, need, no_values, settled}

-- a rival raises the first value and lowers the end, if it changes them

first_later : (faster : Bool) (first d : ℕ) → first ≤ (if faster then max first d else first)
first_later true first d = omega arith
first_later false first d = omega arith

end_sooner : (slower parallel : Bool) (end d : ℕ) → (if slower then min end d else if parallel then 0 else end) ≤ end
end_sooner true parallel end d = omega arith
end_sooner false true end d = omega arith
end_sooner false false end d = omega arith

one_leaves_none : (r j : LineRow) (s : ValueSpan) → s.end ≤ s.first → (narrowed r s j).end ≤ (narrowed r s j).first
one_leaves_none r j s none = elim (cases_Bool (nat_le j.other r.other)) [
  | inl e ↦ rw e (
      let later = first_later (nat_lt r.times j.times) s.first (div_ceil (need r j - j.rest) (j.times - r.times)) in
      let sooner = end_sooner (nat_lt j.times r.times) (r.times == j.times && nat_lt j.rest (need r j)) s.end
      (div_ceil (suc j.rest - need r j) (r.times - j.times)) in
      omega (arith, none, later, sooner))
  | inr e ↦ rw e none
]

pub all_leave_none : (r : LineRow) (rows : List LineRow) (s : ValueSpan) → s.end ≤ s.first
    → (fold (narrowed r) s rows).end ≤ (fold (narrowed r) s rows).first
all_leave_none r [] s none = none
all_leave_none r (j ∷ js) s none = all_leave_none r js (narrowed r s j) (one_leaves_none r j s none)

-- settled spans

pub settled_none : (s : ValueSpan) → s.end ≤ s.first → settled s ≡ no_values
settled_none s none = let e : nat_lt s.first s.end ≡ false = grind (arith, nat_tests) in rw e refl

pub settled_holds : (s : ValueSpan) (q : ℕ) → holds (settled s) q ≡ holds s q
settled_holds s q = elim (cases_Bool (nat_lt s.first s.end)) [
  | inl e ↦ rw e refl
  | inr e ↦ rw e (grind (arith, nat_tests))
]

-- one with a value is itself

is_itself : (s : ValueSpan) → s.first < s.end → settled s ≡ s
is_itself s some = let e : nat_lt s.first s.end ≡ true = lt-ltb s.first s.end some in rw e refl

pub settled_some : (s : ValueSpan) (q : ℕ) → holds s q ≡ true → settled s ≡ s
settled_some s q held =
    let two = and_parts (nat_le s.first q) (nat_lt q s.end) held in
    let low = leb-true s.first q two.0 in
    let high = ltb-true q s.end two.1 in
    is_itself s (omega (arith, low, high))

pub settled_if_some : (s : ValueSpan) → 0 < (settled s).end → settled s ≡ s
settled_if_some s some = elim (cases_Bool (nat_lt s.first s.end)) [
  | inl e ↦ is_itself s (ltb-true s.first s.end e)
  | inr e ↦ let none : 0 < 0 = rw e at some in absurd (omega (arith, none))
]

pub held_some : (s : ValueSpan) (q : ℕ) → holds s q ≡ true → 0 < s.end
held_some s q held =
    let two = and_parts (nat_le s.first q) (nat_lt q s.end) held in
    let high = ltb-true q s.end two.1 in
    omega (arith, high)
