-- Splitting and joining seats keep the rule, and a new board satisfies it.
use Rattle.std.proofs.Common.{◌≡◌, ◌≢◌, ℕ, zero, suc, ◌+◌, ◌<◌, ◌⊎◌, List, [], ◌∷◌, ◌++◌, length, get_or, set, sym}
use Rattle.std.proofs.Common.{refl, ap, ◌∙◌, subst, inl, inr, ⊎_elim, arith}
use mathlib.Core.Logic.{dite}
use mathlib.Core.Option.{some, some-injective, some-ne-none}
use native.Mathlib.Decide.{ℕ_discrete}
use lib.ListN.{get_elem?}
use Rattle.atomic_table.specs.Table.{State, opening, Splits, Joins}
use Rattle.atomic_table.proofs.Lists.{at_set, set_else, at_longer}
use Rattle.tomex_board.specs.declared.view.View.{View}
use Rattle.tomex_board.specs.Words.{nothing_yet}
use Rattle.tomex_board.specs.Views.{Has, given_view, kept_view, joined_view, spent_view, first_view, least_of, HasTwo}
use Rattle.tomex_board.specs.Rule.{IsTrueOf, IsLawful}
use Rattle.tomex_board.proofs.Lists.{without_has, without_keeps, least_has, cut_at, here, range_below, left_of, of_both}

first : (a : ℕ) (v : View) → get_elem? (first_view ∷ []) a ≡ some v → first_view ≡ v
first zero v e = some-injective first_view v e
first (suc a) v e = absurd (some-ne-none v (sym e))

only : (a : ℕ) (v : View) → get_elem? (first_view ∷ []) a ≡ some v → a ≡ 0
only zero v e = refl
only (suc a) v e = absurd (some-ne-none v (sym e))

-- the first seat has two numbers
pub newcomer_two : HasTwo first_view.share
newcomer_two = (0, 1, inl refl, inr (inl refl), λ z. absurd (omega arith))

module _ (costs cycles : List ℕ) where
  abbrev St : Type 0
  St = State ℕ View

  abbrev n : ℕ
  n = length costs

  -- a seat with two numbers gives the least to a new one
  pub splits : (id : ℕ) (v : View) (x y : ℕ) → Has v.share x → Has v.share y → x ≢ y
      → Splits (IsLawful costs cycles) id v (kept_view v) (given_view v)
  splits id v x y hx hy ne s o me = let mine = o.known id v me in let low : ℕ = least_of v.share in
      let has = least_has v.share x hx in let left : View = kept_view v in
      let other : (z : ℕ) × Has left.share z =
      dite (ℕ_discrete x low) (λ e. (y, without_keeps low v.share y hy (λ q. ne (e ∙ sym q))))
      (λ q. (x, without_keeps low v.share x hx q)) in
      let vs : List View = set s.views id left ++ given_view v ∷ [] in
      -- the numbers of a seat were its own before, or are only the new one's
      let at : (a : ℕ) (u : View) → get_elem? vs a ≡ some u
      → ((b : View) × (get_elem? s.views a ≡ some b) × (b.hand ≡ u.hand) × IsTrueOf costs s.words u
      × ((k : ℕ) → Has u.share k → Has b.share k × ((a ≡ id) → k ≢ low)))
      ⊎ ((a ≡ length s.views) × (given_view v ≡ u)) = λ a u e.
      ⊎_elim (λ (t : (a ≡ id) × (left ≡ u)). inl (
        v,
        ap (get_elem? s.views) t.0 ∙ me,
        ap (λ (z : View). z.hand) t.1,
        subst (IsTrueOf costs s.words) t.1 record {
          hand = mine.hand;
          seen = mine.seen;
          marks = mine.marks;
          bests = mine.bests;
        },
        λ k h. let q = without_has low v.share k (subst (λ (z : View). Has z.share k) (sym t.1) h) in (q.1, λ _. q.0),
      ))
      (⊎_elim (λ (t : (a ≢ id) × (get_elem? s.views a ≡ some u)). inl
      (u, t.1, refl, o.known a u t.1, λ k h. (h, λ q. absurd (t.0 q)))) (λ t. inr t))
      (cut_at s.views id left (given_view v) a u e) in
      record {
        words = o.words;
        rows = o.rows;
        bands = o.bands;
        known = λ a u e. ⊎_elim (λ t. t.3)
            (λ (q : (a ≡ length s.views) × (given_view v ≡ u)). subst (IsTrueOf costs s.words) q.1 record {
              hand = λ i h. absurd h;
              seen = mine.seen;
              marks = mine.marks;
              bests = mine.bests;
            }) (at a u e);
        alone = λ a b u w i ea eb ha hb. ⊎_elim
            (λ p. ⊎_elim (λ q. o.alone a b p.0 q.0 i p.1 q.1 (subst (λ (l : List ℕ). Has l i) (sym p.2) ha)
            (subst (λ (l : List ℕ). Has l i) (sym q.2) hb))
            (λ (q : (b ≡ length s.views) × (given_view v ≡ w)). absurd
            (subst (λ (z : View). Has z.hand i) (sym q.1) hb)) (at b w eb))
            (λ (p : (a ≡ length s.views) × (given_view v ≡ u)). absurd
            (subst (λ (z : View). Has z.hand i) (sym p.1) ha)) (at a u ea);
        few = λ a u k e h. ⊎_elim (λ t. o.few a t.0 k t.1 (t.4 k h).0)
            (λ (q : (a ≡ length s.views) × (given_view v ≡ u)). ⊎_elim
            (λ (z : low ≡ k). subst (λ (i : ℕ). i < 32) z (o.few id v low me has)) (λ f. absurd f)
            (subst (λ (z : View). Has z.share k) (sym q.1) h)) (at a u e);
        apart = λ a b u w k ea eb ha hb. ⊎_elim
            (λ p. ⊎_elim (λ q. o.apart a b p.0 q.0 k p.1 q.1 (p.4 k ha).0 (q.4 k hb).0)
            (λ (q : (b ≡ length s.views) × (given_view v ≡ w)). ⊎_elim (λ (z : low ≡ k). let same-seat =
            o.apart a id p.0 v k p.1 me (p.4 k ha).0 (subst (Has v.share) z has) in
            absurd ((p.4 k ha).1 same-seat (sym z))) (λ f. absurd f)
            (subst (λ (z : View). Has z.share k) (sym q.1) hb)) (at b w eb))
            (λ (p : (a ≡ length s.views) × (given_view v ≡ u)). ⊎_elim
            (λ q. ⊎_elim (λ (z : low ≡ k). let same-seat =
            o.apart b id q.0 v k q.1 me (q.4 k hb).0 (subst (Has v.share) z has) in
            absurd ((q.4 k hb).1 same-seat (sym z))) (λ f. absurd f)
            (subst (λ (z : View). Has z.share k) (sym p.1) ha))
            (λ (q : (b ≡ length s.views) × (given_view v ≡ w)). p.0 ∙ sym q.0) (at b w eb)) (at a u ea);
        held = λ i near one. let h = o.held i near one in dite (ℕ_discrete h.0 id)
            (λ e. let is : h.1 ≡ v = some-injective h.1 v (sym h.3 ∙ (ap (get_elem? s.views) e ∙ me)) in (
              id,
              left,
              other.0,
              at_longer (set s.views id left) (given_view v ∷ []) id left
                  (here s.views id v left me),
              subst (λ (z : View). Has z.hand i) is h.4,
              other.1,
            ))
            (λ q. (
              h.0,
              h.1,
              h.2,
              at_longer (set s.views id left) (given_view v ∷ []) h.0 h.1
                  (set_else s.views id h.0 left q ∙ h.3),
              h.4,
              h.5,
            ));
      }

  -- a seat takes over the notes and the numbers of another, whose hand is empty
  pub joins : (id other : ℕ) (v w : View) → w.hand ≡ [] → (x : ℕ) × Has v.share x
      → Joins (IsLawful costs cycles) id v other w (joined_view v w) spent_view
  joins id other v w empty number s o me apart-seats theirs = let both : View = joined_view v w in
      let vs : List View = set (set s.views id both) other spent_view in
      let them : get_elem? s.views other ≡ some w = sym (set_else s.views id other both apart-seats) ∙ theirs in
      let mine = o.known id v me in let yours = o.known other w them in
      let true-of-both : IsTrueOf costs s.words both = record {
        hand = mine.hand;
        seen = λ i h. ⊎_elim (mine.seen i) (yours.seen i) (of_both v.seen w.seen i h);
        marks = λ i m h. ⊎_elim (mine.marks i m) (yours.marks i m) (of_both v.marks w.marks (i, m) h);
        bests = λ k x h. ⊎_elim (mine.bests k x) (yours.bests k x) (of_both v.bests w.bests (k, x) h);
      } in
      let at : (a : ℕ) (u : View) → get_elem? vs a ≡ some u → ((a ≡ other) × (spent_view ≡ u))
      ⊎ (((a ≡ id) × (both ≡ u)) ⊎ ((a ≢ other) × (a ≢ id) × (get_elem? s.views a ≡ some u))) = λ a u e.
      ⊎_elim (λ t. inl t) (λ (t : (a ≢ other) × (get_elem? (set s.views id both) a ≡ some u)). ⊎_elim (λ q. inr (inl q))
      (λ (q : (a ≢ id) × (get_elem? s.views a ≡ some u)). inr (inr (t.0, q.0, q.1)))
      (at_set s.views id a both u t.1)) (at_set (set s.views id both) other a spent_view u e) in
      -- the seat in which a number was
      let owner : (a : ℕ) (u : View) (k : ℕ) → get_elem? vs a ≡ some u → Has u.share k → (b : ℕ) × (y : View)
      × (get_elem? s.views b ≡ some y) × Has y.share k × ((b ≡ a) ⊎ ((b ≡ other) × (a ≡ id))) × (a ≢ other) =
      λ a u k e h.
      ⊎_elim (λ (t : (a ≡ other) × (spent_view ≡ u)). absurd (subst (λ (z : View). Has z.share k) (sym t.1) h))
      (⊎_elim (λ (t : (a ≡ id) × (both ≡ u)). ⊎_elim
      (λ (q : Has v.share k). (id, v, me, q, inl (sym t.0), λ z. apart-seats (sym z ∙ t.0)))
      (λ (q : Has w.share k). (other, w, them, q, inr (refl, t.0), λ z. apart-seats (sym z ∙ t.0)))
      (of_both v.share w.share k (subst (λ (z : View). Has z.share k) (sym t.1) h)))
      (λ (t : (a ≢ other) × (a ≢ id) × (get_elem? s.views a ≡ some u)). (a, u, t.2, h, inl refl, t.0))) (at a u e) in
      let holder : (a : ℕ) (u : View) (i : ℕ) → get_elem? vs a ≡ some u → Has u.hand i → (y : View)
      × (get_elem? s.views a ≡ some y) × Has y.hand i = λ a u i e h.
      ⊎_elim (λ (t : (a ≡ other) × (spent_view ≡ u)). absurd (subst (λ (z : View). Has z.hand i) (sym t.1) h))
      (⊎_elim (λ (t : (a ≡ id) × (both ≡ u)). (
        v,
        ap (get_elem? s.views) t.0
            ∙ me,
        subst (λ (z : View). Has z.hand i) (sym t.1) h,
      ))
      (λ (t : (a ≢ other) × (a ≢ id) × (get_elem? s.views a ≡ some u)). (u, t.2, h))) (at a u e) in
      record {
        words = o.words;
        rows = o.rows;
        bands = o.bands;
        known = λ a u e. ⊎_elim (λ (t : (a ≡ other) × (spent_view ≡ u)). subst (IsTrueOf costs s.words) t.1
            record {
              hand = λ i h. absurd h;
              seen = λ i h. absurd h;
              marks = λ i m h. absurd h;
              bests = λ k x h. absurd h;
            })
            (⊎_elim (λ (t : (a ≡ id) × (both ≡ u)). subst (IsTrueOf costs s.words) t.1 true-of-both)
            (λ (t : (a ≢ other) × (a ≢ id) × (get_elem? s.views a ≡ some u)). o.known a u t.2)) (at a u e);
        alone = λ a b x y i ea eb ha hb. let p = holder a x i ea ha in let q = holder b y i eb hb in
            o.alone a b p.0 q.0 i p.1 q.1 p.2 q.2;
        few = λ a u k e h. let p = owner a u k e h in o.few p.0 p.1 k p.2 p.3;
        apart = λ a b x y k ea eb ha hb. let p = owner a x k ea ha in let q = owner b y k eb hb in
            let e = o.apart p.0 q.0 p.1 q.1 k p.2 q.2 p.3 q.3 in
            ⊎_elim (λ (l : p.0 ≡ a). ⊎_elim (λ (r : q.0 ≡ b). sym l ∙ (e ∙ r))
            (λ (r : (q.0 ≡ other) × (b ≡ id)). absurd (p.5 (sym l ∙ (e ∙ r.0)))) q.4)
            (λ (l : (p.0 ≡ other) × (a ≡ id)). ⊎_elim (λ (r : q.0 ≡ b). absurd (q.5 (sym r ∙ (sym e ∙ l.0))))
            (λ (r : (q.0 ≡ other) × (b ≡ id)). l.1 ∙ sym r.1) q.4) p.4;
        held = λ i near one. let h = o.held i near one in dite (ℕ_discrete h.0 other)
            (λ e. let is : h.1 ≡ w = some-injective h.1 w (sym h.3 ∙ (ap (get_elem? s.views) e ∙ them)) in
            absurd (subst (λ (l : List ℕ). Has l i) (ap (λ (z : View). z.hand) is ∙ empty) h.4))
            (λ far. dite (ℕ_discrete h.0 id)
            (λ e. let is : h.1 ≡ v = some-injective h.1 v (sym h.3 ∙ (ap (get_elem? s.views) e ∙ me)) in (
              id,
              both,
              number.0,
              set_else (set s.views id both) other id spent_view (λ z. apart-seats (sym z))
                  ∙ here s.views id v both me,
              subst (λ (z : View). Has z.hand i) is h.4,
              left_of v.share w.share number.0
                  number.1,
            ))
            (λ ne. (
              h.0,
              h.1,
              h.2,
              set_else (set s.views id both) other h.0 spent_view far
                  ∙ (set_else s.views id h.0 both ne ∙ h.3),
              h.4,
              h.5,
            )));
      }

  pub opens : (ws : List ℕ) → length ws ≡ n + 64 → ((i : ℕ) → i < n → get_or ws i 0 ≡ 0)
      → ((k : ℕ) → k < 64 → get_or ws (n + k) 0 ≡ nothing_yet) → IsLawful costs cycles (opening ws [] first_view)
  opens ws long zeros tops = record {
    words = long;
    rows = λ i h. inl (zeros i h);
    bands = λ k h. inl (tops k h);
    known = λ a v e. subst (IsTrueOf costs ws) (first a v e) record {
      hand = λ i h. absurd h;
      seen = λ i h. absurd h;
      marks = λ i m h. absurd h;
      bests = λ k w h. absurd h;
    };
    alone = λ a b v w i ea eb ha hb. absurd (subst (λ (u : View). Has u.hand i) (sym (first a v ea)) ha);
    few = λ a v x e h. range_below 0 32 x (subst (λ (u : View). Has u.share x) (sym (first a v e)) h);
    apart = λ a b v w x ea eb ha hb. only a v ea ∙ sym (only b w eb);
    held = λ i near one. let z = zeros i near in absurd (omega arith);
  }
