-- The changes that a step of one seat may make to the words and to what it knows, after which the rule still holds.
use Rattle.std.proofs.Common.{◌≡◌, ◌≢◌, ℕ, ◌+◌, ◌<◌, ◌≤◌, ◌⊎◌, List, length, get_or, set, sym, refl, ap, ◌∙◌, subst}
use Rattle.std.proofs.Common.{inl, inr, ⊎_elim, arith}
use Rattle.std.proofs.lemmas.List.{set-get_or}
use mathlib.Core.Logic.{dite}
use mathlib.Core.Option.{some, some-injective}
use native.Mathlib.Decide.{ℕ_discrete}
use lib.ListN.{get_elem?}
use Rattle.atomic_table.specs.Table.{State}
use Rattle.atomic_table.proofs.Lists.{at_set, set_else}
use Rattle.tomex_board.specs.declared.view.View.{View}
use Rattle.tomex_board.specs.Views.{Has}
use Rattle.tomex_board.specs.Rule.{Drops, FitsRow, FitsBand, IsTrueOf, IsLawful}
use Rattle.tomex_board.proofs.Lists.{here}

module _ (costs cycles : List ℕ) where
  abbrev St : Type 0
  St = State ℕ View

  abbrev n : ℕ
  n = length costs

  -- rows only go from open to taken to closed
  pub record Onward (ws ws' : List ℕ) : Type 0 where
    pub wide : length ws' ≡ length ws
    pub closed : (i : ℕ) → i < n → 2 ≤ get_or ws i 0 → get_or ws' i 0 ≡ get_or ws i 0
    pub shut : (i : ℕ) → i < n → get_or ws i 0 ≢ 0 → get_or ws' i 0 ≢ 0
    pub falls : (k : ℕ) → k < 64 → get_or ws' (n + k) 0 ≤ get_or ws (n + k) 0

  pub still : (ws ws' : List ℕ) (i w : ℕ) → Onward ws ws' → FitsRow costs cycles ws i w → FitsRow costs cycles ws' i w
  still ws ws' i w on s = ⊎_elim (λ a. inl a) (λ r. inr (⊎_elim (λ b. inl b) (λ q. inr (⊎_elim (λ c. inl c)
      (λ (d : Drops costs cycles ws i w). inr (
        d.0,
        d.1,
        d.2,
        (let far = d.3 in
            on.closed d.0 d.2 (omega arith) ∙ far),
        d.4,
        d.5,
      )) q)) r)) s

  pub still_named : (ws ws' : List ℕ) (k w : ℕ) → Onward ws ws' → FitsBand costs cycles ws k w
      → FitsBand costs cycles ws' k w
  still_named ws ws' k w on t = ⊎_elim (λ a. inl a)
      (λ d. inr (d.0, d.1, d.2, (let far = d.3 in on.closed d.0 d.1 (omega arith) ∙ far), d.4)) t

  -- a row that is taken after the step is in the hand of this seat, or was taken before
  abbrev pub Took : List ℕ → List ℕ → View → View → Type 0
  Took ws ws' v w = (j : ℕ) → j < n → get_or ws' j 0 ≡ 1 → ((x : ℕ) × Has w.hand j × Has w.share x)
      ⊎ ((get_or ws j 0 ≡ 1) × (Has v.hand j → Has w.hand j))

  pub moved : (s : St) (o : IsLawful costs cycles s) (id : ℕ) (v w : View) (ws : List ℕ) → get_elem? s.views id ≡ some v
      → w.share ≡ v.share → Took s.words ws v w → Onward s.words ws
      → ((i : ℕ) → i < n → FitsRow costs cycles ws i (get_or ws i 0))
      → ((k : ℕ) → k < 64 → FitsBand costs cycles ws k (get_or ws (n + k) 0)) → IsTrueOf costs ws w
      → ((b : ℕ) (u : View) (i : ℕ) → b ≢ id → get_elem? s.views b ≡ some u → Has u.hand i → (get_or ws i 0 ≡ 1)
      × ¬ Has w.hand i)
      → IsLawful costs cycles record { words = ws; homes = s.homes; views = set s.views id w }
  moved s o id v w ws me part took on rows bands mine others =
      let before : (a : ℕ) (u : View) → get_elem? (set s.views id w) a ≡ some u → (y : View)
      × (get_elem? s.views a ≡ some y) × (u.share ≡ y.share) = λ a u e.
      ⊎_elim (λ (t : (a ≡ id) × (w ≡ u)). (
        v,
        ap (get_elem? s.views) t.0 ∙ me,
        ap (λ (z : View). z.share) (sym t.1)
            ∙ part,
      )) (λ (t : (a ≢ id) × (get_elem? s.views a ≡ some u)). (u, t.1, refl)) (at_set s.views id a w u e)
      in record {
        few = λ a u x e h. let b = before a u e in o.few a b.0 x b.1 (subst (λ (l : List ℕ). Has l x) b.2 h);
        apart = λ a b x y k ea eb ha hb. let p = before a x ea in let q = before b y eb in
            o.apart a b p.0 q.0 k p.1 q.1 (subst (λ (l : List ℕ). Has l k) p.2 ha)
            (subst (λ (l : List ℕ). Has l k) q.2 hb);
        held = λ i near one. ⊎_elim (λ (t : (x : ℕ) × Has w.hand i × Has w.share x).
            (id, w, t.0, here s.views id v w me, t.1, t.2))
            (λ (t : (get_or s.words i 0 ≡ 1) × (Has v.hand i → Has w.hand i)). let h = o.held i near t.0 in
            dite (ℕ_discrete h.0 id)
            (λ e. let is : h.1 ≡ v = some-injective h.1 v (sym h.3 ∙ (ap (get_elem? s.views) e ∙ me)) in (
              id,
              w,
              h.2,
              here s.views id v w me,
              t.1 (subst (λ (z : View). Has z.hand i) is h.4),
              subst
                  (λ (l : List ℕ). Has l h.2) (ap (λ (z : View). z.share) is ∙ sym part) h.5,
            ))
            (λ ne. (h.0, h.1, h.2, set_else s.views id h.0 w ne ∙ h.3, h.4, h.5))) (took i near one);
        words = on.wide ∙ o.words;
        rows = rows;
        bands = bands;
        known = λ a u e. ⊎_elim (λ (t : (a ≡ id) × (w ≡ u)). subst (IsTrueOf costs ws) t.1 mine)
            (λ (t : (a ≢ id) × (get_elem? s.views a ≡ some u)). let k = o.known a u t.1 in record {
              hand = λ i h. ((k.hand i h).0, (others a u i t.0 t.1 h).0);
              seen = λ i h. let p = k.seen i h in (p.0, on.shut i p.0 p.1);
              marks = λ i m h. let p = k.marks i m h in
                  (p.0, p.1, (let far = p.2 in let big = p.1 in on.closed i p.0 (omega arith) ∙ far));
              bests = λ j x h. let p = k.bests j x h in (p.0, (let d = on.falls j p.0 in let e = p.1 in omega arith));
            }) (at_set s.views id a w u e);
        alone = λ a b x y i ea eb ha hb. ⊎_elim
            (λ (p : (a ≡ id) × (w ≡ x)). ⊎_elim (λ (q : (b ≡ id) × (w ≡ y)). p.0 ∙ sym q.0)
            (λ (q : (b ≢ id) × (get_elem? s.views b ≡ some y)). absurd
            ((others b y i q.0 q.1 hb).1 (subst (λ (z : View). Has z.hand i) (sym p.1) ha)))
            (at_set s.views id b w y eb))
            (λ (p : (a ≢ id) × (get_elem? s.views a ≡ some x)). ⊎_elim
            (λ (q : (b ≡ id) × (w ≡ y)). absurd
            ((others a x i p.0 p.1 ha).1 (subst (λ (z : View). Has z.hand i) (sym q.1) hb)))
            (λ (q : (b ≢ id) × (get_elem? s.views b ≡ some y)). o.alone a b x y i p.1 q.1 ha hb)
            (at_set s.views id b w y eb)) (at_set s.views id a w x ea);
      }

  pub same : (ws : List ℕ) → Onward ws ws
  same ws = record { wide = refl; closed = λ i h b. refl; shut = λ i h ne. ne; falls = λ k h. omega arith }

  -- a step that changes no word
  pub looked : (s : St) (o : IsLawful costs cycles s) (id i : ℕ) (v w : View) → get_elem? s.views id ≡ some v
      → w.hand ≡ v.hand → w.share ≡ v.share → IsTrueOf costs s.words w
      → IsLawful costs cycles record {
        words = set s.words i (get_or s.words i 0);
        homes = s.homes;
        views = set s.views id w;
      }
  looked s o id i v w me hand part mine =
      subst (λ (ws : List ℕ). IsLawful costs cycles record { words = ws; homes = s.homes; views = set s.views id w })
      (sym (set-get_or s.words i 0))
      (moved s o id v w s.words me part (λ j h one. inr (one, λ q. subst (λ (xs : List ℕ). Has xs j) (sym hand) q))
      (same s.words) o.rows o.bands mine
      (λ b u j ne e h. (
        ((o.known b u e).hand j h).1,
        λ (k : Has w.hand j). ne
            (o.alone b id u v j e me h (subst (λ (xs : List ℕ). Has xs j) hand k)),
      )))
