-- A claim keeps the rule.
use Rattle.std.proofs.Common.{◌≡◌, ◌≢◌, ℕ, ◌+◌, ◌*◌, ◌<◌, ◌≤◌, eqb, List, length, get_or, set, sym, refl, ap, ◌∙◌, inl}
use Rattle.std.proofs.Common.{inr, ⊎_elim, arith}
use Rattle.std.proofs.lemmas.List.{get_or-set_other, get_or-set_same}
use mathlib.Core.Logic.{dite}
use mathlib.Core.Option.{none, some}
use native.Mathlib.Decide.{ℕ_discrete}
use lib.ListN.{get_elem?}
use prog.Atomic.{either}
use Rattle.atomic_table.specs.Table.{State, Act, keeps, Valid, carried_after, step, stepped, Allows}
use Rattle.atomic_table.proofs.Lists.{exchanged}
use Rattle.tomex_board.specs.declared.mark.Mark.{Mark}
use Rattle.tomex_board.specs.declared.mark.Mark.TheVariants.{Open, Taken, Finished, Dropped}
use Rattle.tomex_board.specs.declared.view.View.{View}
use Rattle.tomex_board.specs.Words.{mark_word}
use Rattle.tomex_board.specs.Views.{Has, KnowsNotOpen, after_claim, after_failed_claim}
use Rattle.tomex_board.specs.Rule.{Drops, FitsRow, IsTrueOf, IsLawful}
use Rattle.tomex_board.specs.Steps.{Seated, IsClaim}
use Rattle.tomex_board.proofs.Onward.{moved, looked}
use Rattle.tomex_board.proofs.RowWords.{onward, stood, banded, stays}

module _ (costs cycles : List ℕ) where
  abbrev St : Type 0
  St = State ℕ View

  abbrev n : ℕ
  n = length costs

  seen_at : (ws : List ℕ) (i j w : ℕ) → i < n → get_or ws i 0 ≡ w → 0 < w → i ≡ j → (j < n) × (get_or ws j 0 ≢ 0)
  seen_at ws i j w near is big e = (omega arith, λ z. let f = ap (λ (k : ℕ). get_or ws k 0) e in omega arith)

  pub mark_seen : (ws : List ℕ) (i j : ℕ) (m q : Mark) → i < n → get_or ws i 0 ≡ mark_word m → 2 ≤ mark_word m
      → ◌≡◌ {A = ℕ × Mark} (i, m) (j, q) → (j < n) × (2 ≤ mark_word q) × (get_or ws j 0 ≡ mark_word q)
  mark_seen ws i j m q near is big e = let a : i ≡ j = ap (λ (z : ℕ × Mark). z.0) e in
      let b : mark_word m ≡ mark_word q = ap (λ (z : ℕ × Mark). mark_word z.1) e in
      (omega arith, omega arith, ap (λ (k : ℕ). get_or ws k 0) (sym a) ∙ (is ∙ b))

  abbrev pub Goes : St → ℕ → ℕ → Seated → (ℕ → Seated → Type 0) → ℕ → Type 0
  Goes s i id m then k = (w : View) × (a : Act ℕ) × Valid s.homes m.1 a
      × IsLawful costs cycles (stepped s i k id m.1 w a) × then (get_or s.words i 0) (w, carried_after m.1 a)

  -- the mark of a row that isn't open
  mark_at : (ws : List ℕ) (i w : ℕ) → FitsRow costs cycles ws i w → w ≢ 0 → (m : Mark) × (m ≢ Open) × (w ≡ mark_word m)
  mark_at ws i w s ne = ⊎_elim (λ (a : w ≡ 0). absurd (ne a))
      (⊎_elim (λ (a : w ≡ 1). (Taken, (λ e. let k : 1 ≡ 0 = ap mark_word e in absurd (omega arith)), a))
      (⊎_elim (λ (a : w ≡ 4 * get_or cycles i 0 + 2). (
        Finished (get_or cycles i 0),
        (λ e. let k : 4 * get_or cycles i 0 + 2 ≡ 0 = ap mark_word e in
            absurd (omega arith)),
        a,
      ))
      (λ (d : Drops costs cycles ws i w). (
        Dropped d.0,
        (λ e. let k : 4 * d.0 + 3 ≡ 0 = ap mark_word e in
            absurd (omega arith)),
        d.1,
      )))) s

  misses : (ws : List ℕ) (i : ℕ) (m : Mark) (v : View) → i < n → IsTrueOf costs ws v → get_or ws i 0 ≡ mark_word m
      → m ≢ Open → IsTrueOf costs ws (after_failed_claim i m v)
  misses ws i Open v near t is ne = absurd (ne refl)
  misses ws i Taken v near t is ne = record {
    hand = t.hand;
    seen = λ j h. ⊎_elim (λ (e : i ≡ j). seen_at ws i j 1 near is (omega arith) e) (t.seen j) h;
    marks = t.marks;
    bests = t.bests;
  }
  misses ws i (Finished y) v near t is ne = record {
    hand = t.hand;
    seen = λ j h. ⊎_elim (λ (e : i ≡ j). seen_at ws i j (4 * y + 2) near is (omega arith) e) (t.seen j) h;
    marks = λ j m h. ⊎_elim (λ (e : (i, Finished y) ≡ (j, m)). mark_seen ws i j (Finished y) m near is (omega arith) e)
        (t.marks j m) h;
    bests = t.bests;
  }
  misses ws i (Dropped d) v near t is ne = record {
    hand = t.hand;
    seen = λ j h. ⊎_elim (λ (e : i ≡ j). seen_at ws i j (4 * d + 3) near is (omega arith) e) (t.seen j) h;
    marks = λ j m h. ⊎_elim (λ (e : (i, Dropped d) ≡ (j, m)). mark_seen ws i j (Dropped d) m near is (omega arith) e)
        (t.marks j m) h;
    bests = t.bests;
  }

  -- an open row was noted by no seat
  pub unnoted : (ws : List ℕ) (i : ℕ) (v : View) → IsTrueOf costs ws v → get_or ws i 0 ≡ 0 → ¬ KnowsNotOpen v i
  unnoted ws i v t open-row h = ⊎_elim (λ (a : Has v.hand i). let p : get_or ws i 0 ≡ 1 = (t.hand i a).1 in
      absurd (omega arith))
      (⊎_elim (λ (a : Has v.seen i). (t.seen i a).1 open-row) (λ (a : (m : Mark) × Has v.marks (i, m)). let p =
      t.marks i a.0 a.1 in let b = p.1 in let c = p.2 in absurd (omega arith))) h

  pub claims : (slots id i : ℕ) (m : Seated) → (x : ℕ) × Has m.0.share x → i < n
      → Allows (IsLawful costs cycles) slots id m i (λ k. either (eqb k 0) 1 k)
      (IsClaim costs (step slots i 0 1 none) m)
  claims slots id i m number near s o wide me fits = let then = IsClaim costs (step slots i 0 1 none) m in
      let long = o.words in let mine = o.known id m.0 me in
      exchanged (get_or s.words i 0) 0 1 (Goes s i id m then)
      (λ hit. let apart : (b : ℕ) (u : View) → get_elem? s.views b ≡ some u → (j : ℕ) → Has u.hand j → j ≢ i =
      λ b u e j h ji. let p = ((o.known b u e).hand j h).1 in let f = ap (λ (k : ℕ). get_or s.words k 0) ji in
      absurd (omega arith) in
      let ws : List ℕ = set s.words i 1 in let here = get_or-set_same s.words i 1 0 (omega arith) in
      let on = onward costs cycles s.words i 1 near (omega arith) (omega arith) (omega arith) in
      let kept = stays costs cycles s.words i 1 m.0 near (omega arith) (omega arith) (omega arith) mine
      (apart id m.0 me) in (
        after_claim i m.0,
        keeps,
        tt,
        moved costs cycles s o id m.0 (after_claim i m.0) ws me refl
            (λ j h one. dite (ℕ_discrete j i) (λ e. inl (number.0, inl (sym e), number.1))
            (λ ne. inr (sym (get_or-set_other s.words i j 1 0 ne) ∙ one, λ q. inr q))) on
            (stood costs cycles s o i 1 near (omega arith) (omega arith) (inr (inl refl)))
            (banded costs cycles s o i 1 near on)
            record {
              hand = λ j h. ⊎_elim (λ (e : i ≡ j). (omega arith, ap (λ (k : ℕ). get_or ws k 0) (sym e) ∙ here))
                  (kept.hand j) h;
              seen = kept.seen;
              marks = kept.marks;
              bests = kept.bests;
            }
            (λ b u j ne e h. (
              get_or-set_other s.words i j 1 0 (apart b u e j h)
                  ∙ ((o.known b u e).hand j h).1,
              λ k. ⊎_elim (λ (q : i ≡ j). apart b u e j h (sym q))
                  (λ (q : Has m.0.hand j). ne (o.alone b id u m.0 j e me h q)) k,
            )),
        record {
          row = near;
          from = refl;
          to = refl;
          slots = refl;
          taken = λ z. (refl, unnoted s.words i m.0 mine hit);
          missed = λ ne. absurd (ne hit);
        },
      ))
      (λ miss. let t = mark_at s.words i (get_or s.words i 0) (o.rows i near) miss in let q : Mark = t.0 in (
        after_failed_claim i q m.0,
        keeps,
        tt,
        looked costs cycles s o id i m.0 (after_failed_claim i q m.0) me refl refl
            (misses s.words i q m.0 near mine t.2 t.1),
        record {
          row = near;
          from = refl;
          to = refl;
          slots = refl;
          taken = λ z. absurd (miss z);
          missed = λ ne. (q, t.1, t.2, refl);
        },
      ))
