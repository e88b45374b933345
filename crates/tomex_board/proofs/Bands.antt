-- Publishing a row and looking at bands keep the rule.
use Rattle.std.proofs.Common.{◌≡◌, ℕ, ◌+◌, ◌*◌, min, ◌<◌, ◌≤◌, List, length, get_or, set, sym, refl, ap, ◌∙◌, subst}
use Rattle.std.proofs.Common.{inr, ⊎_elim, arith}
use Rattle.std.proofs.lemmas.List.{get_or-set_other, get_or-set_same, length-set}
use mathlib.Core.Logic.{dite}
use mathlib.Core.Option.{none}
use native.Mathlib.Decide.{ℕ_discrete, dec_le}
use Rattle.atomic_table.specs.Table.{State, keeps, step, Allows}
use Rattle.tomex_board.specs.declared.mark.Mark.TheVariants.{Finished}
use Rattle.tomex_board.specs.declared.view.View.{View}
use Rattle.tomex_board.specs.Words.{mark_word, band_word, nothing_yet}
use Rattle.tomex_board.specs.Bands.{floors_of, IsBandOf}
use Rattle.tomex_board.specs.Views.{Has, after_seeing, after_seeing_row, best}
use Rattle.tomex_board.specs.Rule.{FitsRow, FitsBand, IsLawful, IsFinished}
use Rattle.tomex_board.specs.Steps.{Seated, IsPublish, IsLook}
use Rattle.tomex_board.proofs.Bests.{least_here, least_bound}
use Rattle.tomex_board.proofs.Onward.{Onward, still, still_named, moved, looked}
use Rattle.tomex_board.proofs.Claims.{mark_seen}

module _ (costs cycles : List ℕ) where
  abbrev St : Type 0
  St = State ℕ View

  abbrev n : ℕ
  n = length costs

  -- the band k gets a word that is no greater
  sinks : (ws : List ℕ) (k x : ℕ) → k < 64 → length ws ≡ n + 64 → x ≤ get_or ws (n + k) 0
      → Onward costs cycles ws (set ws (n + k) x)
  sinks ws k x near long low = record {
    wide = length-set ws (n + k) x;
    closed = λ j h b. get_or-set_other ws (n + k) j x 0 (λ e. omega arith);
    shut = λ j h ne z. ne (sym (get_or-set_other ws (n + k) j x 0 (λ e. omega arith)) ∙ z);
    falls = λ j h. dite (ℕ_discrete j k) (λ e. let f = ap (λ (q : ℕ). get_or (set ws (n + k) x) (n + q) 0) e in
        let g = get_or-set_same ws (n + k) x 0 (omega arith) in let p = ap (λ (q : ℕ). get_or ws (n + q) 0) e in
        omega arith)
        (λ ne. let f = get_or-set_other ws (n + k) (n + j) x 0 (λ e. ne (omega arith)) in omega arith);
  }

  pub publishes : (slots id i k x : ℕ) (m : Seated) → k < 64 → i < n → Has m.0.marks (i, Finished (get_or cycles i 0))
      → IsBandOf (floors_of costs) (get_or costs i 0) k → x ≡ band_word (get_or cycles i 0) i
      → Allows (IsLawful costs cycles) slots id m (n + k) (λ y. min y x)
      (IsPublish costs cycles (step slots (n + k) x 0 none) m)
  publishes slots id i k x m low near noted band is s o homes me fits = let long = o.words in
      let mine = o.known id m.0 me in let old : ℕ = get_or s.words (n + k) 0 in let y : ℕ = min old x in
      let cheap = band.1 in
      let ws : List ℕ = set s.words (n + k) y in let on = sinks s.words k y low long (omega arith) in
      let at = get_or-set_same s.words (n + k) y 0 (omega arith) in
      let closed = (mine.marks i (Finished (get_or cycles i 0)) noted).2 in
      let low-best : old ≤ best k m.0 = least_bound k old m.0.bests (λ w h. (mine.bests k w h).1) (omega arith) in
      let here : FitsBand costs cycles s.words k y = dite (dec_le old x)
      (λ le. let e : old ≡ y = omega arith in subst (FitsBand costs cycles s.words k) e (o.bands k low))
      (λ gt. let e : y ≡ get_or cycles i 0 * 16384 + i = omega arith in inr (i, near, e, closed, cheap)) in (
        after_seeing k y m.0,
        keeps,
        tt,
        moved costs cycles s o id m.0 (after_seeing k y m.0) ws me refl
            (λ j h one. inr (sym (get_or-set_other s.words (n + k) j y 0 (λ e. omega arith)) ∙ one, λ q. q)) on
            (λ j h. subst (FitsRow costs cycles ws j) (sym (get_or-set_other s.words (n + k) j y 0 (λ e. omega arith)))
            (still costs cycles s.words ws j (get_or s.words j 0) on (o.rows j h)))
            (λ j h. dite (ℕ_discrete j k) (λ e. subst (λ (q : ℕ). FitsBand costs cycles ws q (get_or ws (n + q) 0))
            (sym e) (subst (FitsBand costs cycles ws k) (sym at) (still_named costs cycles s.words ws k y on here)))
            (λ ne. subst (FitsBand costs cycles ws j)
            (sym (get_or-set_other s.words (n + k) (n + j) y 0 (λ e. ne (omega arith))))
            (still_named costs cycles s.words ws j (get_or s.words (n + j) 0) on (o.bands j h))))
            record {
              hand = λ j h. let p = mine.hand j h in
                  (p.0, get_or-set_other s.words (n + k) j y 0 (λ e. let q = p.0 in omega arith) ∙ p.1);
              seen = λ j h. let p = mine.seen j h in (p.0, on.shut j p.0 p.1);
              marks = λ j q h. let p = mine.marks j q h in
                  (p.0, p.1, (let far = p.2 in let b = p.1 in on.closed j p.0 (omega arith) ∙ far));
              bests = λ j q h. ⊎_elim (λ (e : (k, y) ≡ (j, q)). let c : k ≡ j = ap (λ (z : ℕ × ℕ). z.0) e in
                  let b : y ≡ q = ap (λ (z : ℕ × ℕ). z.1) e in let d = ap (λ (z : ℕ). get_or ws (n + z) 0) c in
                  (omega arith, omega arith))
                  (λ r. let p = mine.bests j q r in (p.0, (let d = on.falls j p.0 in let e = p.1 in omega arith))) h;
            }
            (λ b u j ne e h. let p = (o.known b u e).hand j h in (
              get_or-set_other s.words (n + k) j y 0 (λ q. let r = p.0 in omega arith)
                  ∙ p.1,
              λ r. ne (o.alone b id u m.0 j e me h r),
            )),
        record {
          row = i;
          band = k;
          word = refl;
          its_band = band;
          published = is;
          noted = noted;
          slots = refl;
          view = refl;
          is_best = (let h = least_here k y m.0.bests in omega arith);
        },
      )

  pub looks : (slots id k : ℕ) (m : Seated) → k < 64 → k < length (floors_of costs) → n ≤ 16384
      → Allows (IsLawful costs cycles) slots id m (n + k) (λ y. y) (IsLook costs cycles (step slots (n + k) 0 0 none) m)
  looks slots id k m low real few s o homes me fits = let mine = o.known id m.0 me in
      let r : ℕ = get_or s.words (n + k) 0 in
      let low-best : r ≤ best k m.0 = least_bound k r m.0.bests (λ w h. (mine.bests k w h).1) (omega arith) in
      let here = least_here k r m.0.bests in
      let fits-band : (j q : ℕ) → ◌≡◌ {A = ℕ × ℕ} (k, r) (j, q) → (j < 64) × (get_or s.words (n + j) 0 ≤ q) =
      λ j q e. let c : k ≡ j = ap (λ (z : ℕ × ℕ). z.0) e in let b : r ≡ q = ap (λ (z : ℕ × ℕ). z.1) e in
      let d = ap (λ (z : ℕ). get_or s.words (n + z) 0) c in (omega arith, omega arith) in
      dite (ℕ_discrete r nothing_yet)
      (λ none-yet. (
        after_seeing k r m.0,
        keeps,
        tt,
        looked costs cycles s o id (n + k) m.0 (after_seeing k r m.0) me refl refl record {
          hand = mine.hand;
          seen = mine.seen;
          marks = mine.marks;
          bests = λ j q h. ⊎_elim (fits-band j q) (mine.bests j q) h;
        },
        record {
          band = k;
          word = refl;
          has_floor = real;
          slots = refl;
          is_best = omega arith;
          empty = λ _. refl;
          named = λ ne. absurd (ne none-yet);
        },
      ))
      (λ some-yet. ⊎_elim (λ (e : r ≡ nothing_yet). absurd (some-yet e))
      (λ (d : (j : ℕ) × (j < n) × (r ≡ band_word (get_or cycles j 0) j) × IsFinished cycles s.words j
      × (get_or costs j 0 ≤ get_or (floors_of costs) k 0)).
      let j : ℕ = d.0 in let c : ℕ = get_or cycles j 0 in let near : j < n = d.1 in let is : r ≡ band_word c j = d.2 in
      let closed : get_or s.words j 0 ≡ mark_word (Finished c) = d.3 in
      let far : get_or s.words j 0 ≡ 4 * c + 2 = closed in let here-word = least_here k (band_word c j) m.0.bests in (
        after_seeing_row k j c m.0,
        keeps,
        tt,
        looked costs cycles s o id (n + k) m.0 (after_seeing_row k j c m.0) me refl refl record {
          hand = mine.hand;
          seen = λ q h. ⊎_elim (λ (e : j ≡ q). (
            omega arith,
            λ z. let f = ap (λ (z : ℕ). get_or s.words z 0) e in
                omega arith,
          )) (mine.seen q) h;
          marks = λ q x h. ⊎_elim (λ (e : (j, Finished c) ≡ (q, x)). mark_seen costs cycles s.words j q (Finished c) x
              near closed (omega arith) e) (mine.marks q x) h;
          bests = λ q x h. ⊎_elim (λ (e : (k, band_word c j) ≡ (q, x)). fits-band q x
              (subst (λ (z : ℕ). ◌≡◌ {A = ℕ × ℕ} (k, z) (q, x)) (sym is) e)) (mine.bests q x) h;
        },
        record {
          band = k;
          word = refl;
          has_floor = real;
          slots = refl;
          is_best = omega arith;
          empty = λ e. absurd (some-yet e);
          named = λ _. (j, near, is, d.4, refl);
        },
      )) (o.bands k low))
