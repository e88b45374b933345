-- Finishing a row and giving one up keep the rule.
use Rattle.std.proofs.Common.{◌≡◌, ◌≢◌, ℕ, ◌+◌, ◌*◌, ◌<◌, ◌≤◌, eqb, List, length, get_or, set, sym, refl, ap, ◌∙◌}
use Rattle.std.proofs.Common.{subst, inl, inr, ⊎_elim, arith}
use Rattle.std.proofs.lemmas.List.{get_or-set_other, get_or-set_same}
use mathlib.Core.Logic.{dite}
use mathlib.Core.Option.{none}
use native.Mathlib.Decide.{ℕ_discrete}
use prog.Atomic.{either}
use Rattle.atomic_table.specs.Table.{State, keeps, step, Allows}
use Rattle.atomic_table.proofs.Lists.{exchanged}
use Rattle.tomex_board.specs.declared.mark.Mark.{Mark}
use Rattle.tomex_board.specs.declared.mark.Mark.TheVariants.{Finished, Dropped}
use Rattle.tomex_board.specs.declared.view.View.{View}
use Rattle.tomex_board.specs.Words.{mark_word}
use Rattle.tomex_board.specs.Views.{Has, after_closing, Grows}
use Rattle.tomex_board.specs.Rule.{FitsRow, IsTrueOf, IsLawful}
use Rattle.tomex_board.specs.Steps.{Seated, IsFinish, IsGiveUp}
use Rattle.tomex_board.specs.Looking.{IsBound}
use Rattle.tomex_board.specs.declared.bound.Bound.{Bound}
use Rattle.tomex_board.proofs.Lists.{without_has, without_keeps}
use Rattle.tomex_board.proofs.Onward.{moved}
use Rattle.tomex_board.proofs.RowWords.{onward, stood, banded}
use Rattle.tomex_board.proofs.Claims.{Goes, mark_seen}

-- closing a row keeps all notes
pub closing_grows : (i : ℕ) (m : Mark) (v : View) → Grows v (after_closing i m v)
closing_grows i m v = record {
  noted = λ j h. ⊎_elim (λ (a : Has v.hand j). dite (ℕ_discrete j i) (λ e. inr (inl (inl (sym e))))
      (λ ne. inl (without_keeps i v.hand j a ne)))
      (λ r. ⊎_elim (λ (a : Has v.seen j). inr (inl (inr a)))
      (λ (d : (q : Mark) × Has v.marks (j, q)). inr (inr (d.0, inr d.1))) r) h;
  marks = λ j q h. inr h;
  bests = λ k. omega arith;
}

pub grows_on : (u v w : View) → Grows u v → Grows v w → Grows u w
grows_on u v w g h = record {
  noted = λ i t. h.noted i (g.noted i t);
  marks = λ i m t. h.marks i m (g.marks i m t);
  bests = λ k. let a = g.bests k in let b = h.bests k in omega arith;
}

module _ (costs cycles : List ℕ) where
  abbrev St : Type 0
  St = State ℕ View

  abbrev n : ℕ
  n = length costs

  -- a row of the seat's hand is closed with the mark x, whose word is w
  closes : (slots id i w : ℕ) (x : Mark) (m : Seated) (then : ℕ → Seated → Type 0) → Has m.0.hand i → w ≡ mark_word x
      → 2 ≤ w → ((s : St) → IsLawful costs cycles s → IsTrueOf costs s.words m.0 → FitsRow costs cycles s.words i w)
      → ((s : St) → get_or s.words i 0 ≡ 1 → then (get_or s.words i 0) (after_closing i x m.0, m.1))
      → Allows (IsLawful costs cycles) slots id m i (λ k. either (eqb k 1) w k) then
  closes slots id i w x m then held is big may says s o homes me fits = let long = o.words in
      let mine = o.known id m.0 me in let here = mine.hand i held in
      let near = here.0 in let one = here.1 in
      exchanged (get_or s.words i 0) 1 w (Goes costs cycles s i id m then)
      (λ hit. let ws : List ℕ = set s.words i w in let at = get_or-set_same s.words i w 0 (omega arith) in
      let u : View = after_closing i x m.0 in
      let on = onward costs cycles s.words i w near (omega arith) (omega arith) (omega arith) in (
        u,
        keeps,
        tt,
        moved costs cycles s o id m.0 u ws me refl
            (λ j h one. dite (ℕ_discrete j i) (λ e. let f = ap (λ (k : ℕ). get_or ws k 0) e in
            absurd (omega arith)) (λ ne. inr (
              sym (get_or-set_other s.words i j w 0 ne)
                  ∙ one,
              λ q. without_keeps i m.0.hand j q ne,
            ))) on
            (stood costs cycles s o i w near (omega arith) (omega arith) (may s o mine))
            (banded costs cycles s o i w near on)
            record {
              hand = λ j h. let t = without_has i m.0.hand j h in let p = mine.hand j t.1 in
                  (p.0, get_or-set_other s.words i j w 0 t.0 ∙ p.1);
              seen = λ j h. ⊎_elim (λ (e : i ≡ j). (
                omega arith,
                λ z. let f = ap (λ (k : ℕ). get_or ws k 0) e in
                    omega arith,
              )) (λ k. let p = mine.seen j k in (p.0, on.shut j p.0 p.1)) h;
              marks = λ j q h. ⊎_elim (λ (e : (i, x) ≡ (j, q)). mark_seen costs cycles ws i j x q near (at ∙ is)
                  (omega arith) e)
                  (λ k. let p = mine.marks j q k in
                  (p.0, p.1, (let far = p.2 in let b = p.1 in on.closed j p.0 (omega arith) ∙ far))) h;
              bests = λ k y h. let p = mine.bests k y h in
                  (p.0, (let d = on.falls k p.0 in let e = p.1 in omega arith));
            }
            (λ b y j ne e h. let ji : j ≢ i = λ q. ne (o.alone b id y m.0 i e me (subst (Has y.hand) q h) held) in (
              get_or-set_other s.words i j w 0 ji
                  ∙ ((o.known b y e).hand j h).1,
              λ k. ne (o.alone b id y m.0 j e me h (without_has i m.0.hand j k).1),
            )),
        says s one,
      ))
      (λ miss. absurd (miss one))

  pub finishes : (slots id i y w : ℕ) (m : Seated) → Has m.0.hand i → i < n → y ≡ get_or cycles i 0
      → w ≡ mark_word (Finished y)
      → Allows (IsLawful costs cycles) slots id m i (λ k. either (eqb k 1) w k)
      (IsFinish costs cycles (step slots i 1 w none) m)
  finishes slots id i y w m held near its is =
      closes slots id i w (Finished y) m (IsFinish costs cycles (step slots i 1 w none) m) held is (omega arith)
      (λ s o t. inr (inr (inl (is ∙ ap (λ (k : ℕ). 4 * k + 2) its))))
      (λ s one. record {
        row = near;
        hand = held;
        from = refl;
        to = is ∙ ap (λ (k : ℕ). 4 * k + 2) its;
        done = one;
        slots = refl;
        view = ap (λ (k : ℕ). after_closing i (Finished k) m.0) its;
      })

  pub gives_up : (slots id i reached w : ℕ) (b : Bound) (m : Seated) → Has m.0.hand i → i < n
      → IsBound costs cycles (get_or costs i 0) m.0 b → b.cycles < reached → reached ≤ get_or cycles i 0
      → w ≡ mark_word (Dropped b.row)
      → Allows (IsLawful costs cycles) slots id m i (λ k. either (eqb k 1) w k)
      (IsGiveUp costs cycles (step slots i 1 w none) m)
  gives_up slots id i reached w b m held near bound fast slow is = let c = bound.its_cycles in
      let less : get_or cycles b.row 0 < get_or cycles i 0 = omega arith in
      closes slots id i w (Dropped b.row) m (IsGiveUp costs cycles (step slots i 1 w none) m) held is (omega arith)
      (λ s o t. let p = t.marks b.row (Finished b.cycles) bound.noted in
      inr (inr (inr (b.row, is, bound.row, (p.2 ∙ ap (λ (k : ℕ). 4 * k + 2) c), bound.no_dearer, less))))
      (λ s one. record {
        judge = b.row;
        row = near;
        hand = held;
        from = refl;
        to = is;
        noted = subst (λ (y : ℕ). Has m.0.marks (b.row, Finished y)) c bound.noted;
        no_dearer = bound.no_dearer;
        faster = less;
        done = one;
        slots = refl;
        view = refl;
      })
