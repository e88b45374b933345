-- The knowledge of a seat that was joined from two.
use Rattle.std.proofs.Common.{◌≡◌, ℕ, min, [], List, subst, inl, inr, ⊎_elim, arith}
use Rattle.tomex_board.specs.declared.mark.Mark.{Mark}
use Rattle.tomex_board.specs.declared.view.View.{View}
use Rattle.tomex_board.specs.Views.{Has, best, Grows, joined_view}
use Rattle.tomex_board.proofs.Lists.{left_of, right_of}
use Rattle.tomex_board.proofs.Bests.{least_of_both}

pub lesser_best : (v w : View) (k : ℕ) → best k (joined_view v w) ≡ min (best k v) (best k w)
lesser_best v w k = least_of_both k v.bests w.bests

pub first_grows : (v w : View) → Grows v (joined_view v w)
first_grows v w = record {
  noted = λ i h. ⊎_elim (λ (a : Has v.hand i). inl a)
      (λ r. ⊎_elim (λ (a : Has v.seen i). inr (inl (left_of v.seen w.seen i a)))
      (λ (d : (m : Mark) × Has v.marks (i, m)). inr (inr (d.0, left_of v.marks w.marks (i, d.0) d.1))) r) h;
  marks = λ i m h. left_of v.marks w.marks (i, m) h;
  bests = λ k. let e = lesser_best v w k in omega arith;
}

pub second_grows : (v w : View) → w.hand ≡ [] → Grows w (joined_view v w)
second_grows v w empty = record {
  noted = λ i h. ⊎_elim (λ (a : Has w.hand i). absurd (subst (λ (l : List ℕ). Has l i) empty a))
      (λ r. ⊎_elim (λ (a : Has w.seen i). inr (inl (right_of v.seen w.seen i a)))
      (λ (d : (m : Mark) × Has w.marks (i, m)). inr (inr (d.0, right_of v.marks w.marks (i, d.0) d.1))) r) h;
  marks = λ i m h. right_of v.marks w.marks (i, m) h;
  bests = λ k. let e = lesser_best v w k in omega arith;
}
