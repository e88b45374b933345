-- An open or taken row gets another word: what still holds.
use Rattle.std.proofs.Common.{◌≢◌, ℕ, ◌+◌, ◌<◌, List, length, get_or, set, sym, ap, ◌∙◌, subst, arith}
use Rattle.std.proofs.lemmas.List.{get_or-set_other, get_or-set_same, length-set}
use mathlib.Core.Logic.{dite}
use native.Mathlib.Decide.{ℕ_discrete}
use Rattle.atomic_table.specs.Table.{State}
use Rattle.tomex_board.specs.declared.view.View.{View}
use Rattle.tomex_board.specs.Views.{Has}
use Rattle.tomex_board.specs.Rule.{FitsRow, FitsBand, IsTrueOf, IsLawful}
use Rattle.tomex_board.proofs.Onward.{Onward, still, still_named}

module _ (costs cycles : List ℕ) where
  abbrev St : Type 0
  St = State ℕ View

  abbrev n : ℕ
  n = length costs

  -- an open or taken row gets the word x
  pub onward : (ws : List ℕ) (i x : ℕ) → i < n → i < length ws → get_or ws i 0 < 2 → 0 < x
      → Onward costs cycles ws (set ws i x)
  onward ws i x row near small big = record {
    wide = length-set ws i x;
    closed = λ j h b. get_or-set_other ws i j x 0 (λ e. let f = ap (λ (k : ℕ). get_or ws k 0) e in omega arith);
    shut = λ j h ne. dite (ℕ_discrete j i) (λ e z. let f = ap (λ (k : ℕ). get_or (set ws i x) k 0) e in
        let g = get_or-set_same ws i x 0 near in omega arith)
        (λ ji z. ne (sym (get_or-set_other ws i j x 0 ji) ∙ z));
    falls = λ k h. let e = get_or-set_other ws i (n + k) x 0 (λ e. omega arith) in omega arith;
  }

  pub stood : (s : St) (o : IsLawful costs cycles s) (i x : ℕ) → i < n → get_or s.words i 0 < 2 → 0 < x
      → FitsRow costs cycles s.words i x
      → (j : ℕ) → j < n → FitsRow costs cycles (set s.words i x) j (get_or (set s.words i x) j 0)
  stood s o i x near small big here j h = let words = o.words in
      let on = onward s.words i x near (omega arith) small big in dite (ℕ_discrete j i)
      (λ e. subst (λ (k : ℕ). FitsRow costs cycles (set s.words i x) k (get_or (set s.words i x) k 0)) (sym e)
      (subst (FitsRow costs cycles (set s.words i x) i) (sym (get_or-set_same s.words i x 0 (omega arith)))
      (still costs cycles s.words (set s.words i x) i x on here)))
      (λ ne. subst (FitsRow costs cycles (set s.words i x) j) (sym (get_or-set_other s.words i j x 0 ne))
      (still costs cycles s.words (set s.words i x) j (get_or s.words j 0) on (o.rows j h)))

  pub banded : (s : St) (o : IsLawful costs cycles s) (i x : ℕ) → i < n → Onward costs cycles s.words (set s.words i x)
      → (k : ℕ) → k < 64 → FitsBand costs cycles (set s.words i x) k (get_or (set s.words i x) (n + k) 0)
  banded s o i x near on k h = subst (FitsBand costs cycles (set s.words i x) k)
      (sym (get_or-set_other s.words i (n + k) x 0 (λ e. omega arith)))
      (still_named costs cycles s.words (set s.words i x) k (get_or s.words (n + k) 0) on (o.bands k h))

  -- what another seat or this one knows stays true
  pub stays : (ws : List ℕ) (i x : ℕ) (v : View) → i < n → i < length ws → get_or ws i 0 < 2 → 0 < x
      → IsTrueOf costs ws v → ((j : ℕ) → Has v.hand j → j ≢ i) → IsTrueOf costs (set ws i x) v
  stays ws i x v row near small big t apart = let on = onward ws i x row near small big in record {
    hand = λ j h. let p = t.hand j h in (p.0, get_or-set_other ws i j x 0 (apart j h) ∙ p.1);
    seen = λ j h. let p = t.seen j h in (p.0, on.shut j p.0 p.1);
    marks = λ j m h. let p = t.marks j m h in
        (p.0, p.1, (let far = p.2 in let b = p.1 in on.closed j p.0 (omega arith) ∙ far));
    bests = λ k y h. let p = t.bests k y h in (p.0, (let d = on.falls k p.0 in let e = p.1 in omega arith));
  }
