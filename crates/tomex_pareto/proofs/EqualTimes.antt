-- If all rows have the value equally often, a span is all values or none.
use Rattle.std.proofs.Common.{◌≡◌, ◌∙◌, ℕ, ◌⊎◌, inl, inr, arith, refl, List, [], ◌∷◌, nat_le, nat_lt}
use Rattle.std.proofs.Common.{◌&&◌, ◌==◌}
use Rattle.std.specs.List.{AllByRecursion, fold}
use Rattle.std.proofs.lemmas.Bool.{cases_Bool, le-ltb}
use Rattle.tomex_pareto.specs.declared.line_row.LineRow.{LineRow}
use Rattle.tomex_pareto.specs.declared.spans.ValueSpan.{ValueSpan}
use Rattle.tomex_pareto.specs.Spans.{end_left, first_left, narrowed, need}

-- it begins as before, and it ends as before or is empty
pub record IsAllOrNone (whole s : ValueSpan) : Type 0 where
  pub first : s.first ≡ whole.first
  pub end : (s.end ≡ whole.end) ⊎ (s.end ≡ 0)

same_first : (r j : LineRow) (n : ℕ) → j.times ≡ r.times → first_left r j n ≡ n
same_first r j n same = rw (le-ltb r.times j.times (omega arith)) refl

same_end : (r j : LineRow) (n : ℕ) → j.times ≡ r.times → (end_left r j n ≡ n) ⊎ (end_left r j n ≡ 0)
same_end r j n same = elim (cases_Bool (r.times == j.times && nat_lt j.rest (need r j))) [
  | inl none ↦ inr (rw (le-ltb j.times r.times (omega arith), none) refl)
  | inr all ↦ inl (rw (le-ltb j.times r.times (omega arith), all) refl)
]

pub all_or_none : (r : LineRow) (rows : List LineRow) (s : ValueSpan) → AllByRecursion (λ j. j.times ≡ r.times) rows
    → IsAllOrNone s (fold (narrowed r) s rows)
all_or_none r [] s same = record { first = refl; end = inl refl }
all_or_none r (j ∷ js) s same = elim (cases_Bool (nat_le j.other r.other)) [
  | inl e ↦
      let rest = all_or_none r js (record { first = first_left r j s.first; end = end_left r j s.end }) same.1 in
      rw e (record {
        first = rest.first ∙ same_first r j s.first same.0;
        end = elim rest.end [
          | inr none ↦ inr none
          | inl kept ↦ elim (same_end r j s.end same.0) [
            | inl all ↦ inl (kept ∙ all)
            | inr none ↦ inr (kept ∙ none)
          ]
        ];
      })
  | inr e ↦ rw e (all_or_none r js s same.1)
]
