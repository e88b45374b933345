-- Which rows are on the front, one row later.
use Rattle.std.proofs.Common.{◌≡◌, ◌∙◌, ap, arith, refl, sym, ℕ, ◌+◌, ◌<◌, ◌≤◌, Bool, true, false, inl, inr, List, []}
use Rattle.std.proofs.Common.{get_or, length, map, take}
use Rattle.std.specs.Prelude.{◌||◌, ◌==◌}
use Rattle.std.specs.List.{list_any, range_with_len}
use Rattle.std.proofs.Math.ListN.{length-set, replicate, set}
use Rattle.std.proofs.Math.Bool.{or-false}
use Rattle.std.proofs.lemmas.Bool.{cases_eq, eq-eqb, ne_eqb}
use Rattle.std.proofs.lemmas.List.{get_or-replicate, get_or-set_other, get_or-set_same, length-replicate, take_all}
use Rattle.std.proofs.lemmas.List.Folds.{list_any_more}
use Rattle.std.proofs.lemmas.List.FromFn.{fill_by_all}
use Rattle.tomex_pareto.specs.declared.front_row.FrontRow.{FrontRow}
use Rattle.tomex_pareto.specs.Front.{is_on}

-- a flag for each row: true if it is among these
pub record AreFlags (rows : ℕ) (front : List FrontRow) (flags : List Bool) : Type 0 where
  pub count : length flags ≡ rows
  pub each : (row : ℕ) → row < rows → get_or flags row false ≡ is_on front row

pub none_flagged : (rows : ℕ) (flags : List Bool) → flags ≡ replicate rows false → AreFlags rows [] flags
none_flagged rows flags is = record {
  count = ap length is ∙ length-replicate rows false;
  each = λ row low. ap (λ (bs : List Bool). get_or bs row false) is ∙ get_or-replicate rows row false false low;
}

or_true : (b : Bool) → (b || true) ≡ true
or_true true = refl
or_true false = refl

pub one_flagged : (rows : ℕ) (front : List FrontRow) (k : ℕ) (d : FrontRow) (flags : List Bool) → k < length front
    → (get_or front k d).row < rows → AreFlags rows (take k front) flags
    → AreFlags rows (take (k + 1) front) (set flags (get_or front k d).row true)
one_flagged rows front k d flags low within before =
    let r : FrontRow = get_or front k d in
    record {
      count = length-set flags r.row true ∙ before.count;
      each = λ row below.
          let test : FrontRow → Bool = λ (q : FrontRow). q.row == row in
          let more : list_any test (take (k + 1) front) ≡ (list_any test (take k front) || test r) =
          list_any_more test front k d low in
          let long : length flags ≡ rows = before.count in
          elim (cases_eq row r.row) [
            | inl same ↦
                ap (λ (n : ℕ). get_or (set flags r.row true) n false) same
                ∙ (get_or-set_same flags r.row true false (omega arith)
                ∙ sym (more ∙ (ap (λ (b : Bool). list_any test (take k front) || b) (eq-eqb r.row row (sym same))
                ∙ or_true _)))
            | inr apart ↦
                get_or-set_other flags r.row row true false apart
                ∙ (before.each row below
                ∙ sym (more ∙ (ap (λ (b : Bool). list_any test (take k front) || b)
                (ne_eqb r.row row (λ e. apart (sym e))) ∙ or-false _)))
          ];
    }

pub all_flagged : (rows : ℕ) (front : List FrontRow) (k : ℕ) (flags : List Bool) → length front ≤ k
    → AreFlags rows (take k front) flags → flags ≡ map (is_on front) (range_with_len 0 rows)
all_flagged rows front k flags past are =
    fill_by_all (is_on front) flags rows false are.count
    (λ row low. are.each row low ∙ ap (λ (rs : List FrontRow). is_on rs row) (take_all k front past))
