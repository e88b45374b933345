-- The words of a closed board.
use Rattle.std.proofs.Common.{◌≡◌, ◌≢◌, ℕ, ◌<◌, ◌≤◌, List, [], map, take, length, get_or, sym, ap, ◌∙◌, subst, ⊎_elim}
use Rattle.std.proofs.Common.{arith, Some, slice_get}
use Rattle.std.proofs.lemmas.Grind.{common_steps}
use mathlib.Core.Option.{some-injective}
use lib.ListN.{get_elem?}
use Rattle.atomic_table.specs.Table.{State, Final, Seen}
use Rattle.tomex_board.specs.declared.view.View.{View}
use Rattle.tomex_board.specs.declared.mark.Mark.{Mark}
use Rattle.tomex_board.specs.declared.mark.Mark.TheVariants.{Open, Taken}
use Rattle.tomex_board.specs.Words.{mark_of, mark_word}
use Rattle.tomex_board.specs.Marks.{AreLawful}
use Rattle.tomex_board.specs.Views.{Has, KnowsNotOpen}
use Rattle.tomex_board.specs.Rule.{Drops, FitsRow, IsTrueOf, IsLawful}
use Rattle.tomex_board.proofs.RowMarks.{at_mark, within, kind, or_open, finished_mark, dropped_mark, word_says}
use Rattle.tomex_board.proofs.RowMarks.{lawful_now}

module _ (costs cycles : List ℕ) (id : ℕ) (v : View) (ws xs : List ℕ)
    (f : Final (Seen (IsLawful costs cycles) id v) ws xs) where
  abbrev n : ℕ
  n = length costs

  abbrev marks : List Mark
  marks = map mark_of (take n ws)

  abbrev s : State ℕ View
  s = f.0

  o : IsLawful costs cycles s
  o = f.1.0

  long : n ≤ length ws
  long = let a = ap (λ (l : List ℕ). length l) f.2 in let b = o.words in omega arith

  pub count : length marks ≡ n
  count = let enough = long in grind (arith, common_steps)

  row : (i : ℕ) → i < n → FitsRow costs cycles ws i (get_or ws i 0)
  row i h = subst (λ (l : List ℕ). FitsRow costs cycles l i (get_or l i 0)) f.2 (o.rows i h)

  mine : IsTrueOf costs ws v
  mine = subst (λ (l : List ℕ). IsTrueOf costs l v) f.2 (o.known id v f.1.1)

  at : (i : ℕ) (m : Mark) → slice_get marks i ≡ Some m → (i < n) × (mark_of (get_or ws i 0) ≡ m)
  at i m e = let h = within ws n i m e in (h, ap or_open (sym (at_mark ws n i h long) ∙ e))

  pub lawful : AreLawful costs cycles marks
  lawful = subst (λ (l : List ℕ). AreLawful costs cycles (map mark_of (take n l))) f.2 (lawful_now costs cycles s o)

  pub noted : (i : ℕ) (m : Mark) → Has v.marks (i, m) → slice_get marks i ≡ Some m
  noted i m h = let t = mine.marks i m h in
      at_mark ws n i t.0 long ∙ (ap (λ (k : ℕ). Some (mark_of k)) t.2 ∙ ap Some (word_says m))

  pub held : (i : ℕ) → Has v.hand i → slice_get marks i ≡ Some Taken
  held i h = let t = mine.hand i h in at_mark ws n i t.0 long ∙ ap (λ (k : ℕ). Some (mark_of k)) t.1

  seen_shut : (i : ℕ) → Has v.seen i → slice_get marks i ≢ Some Open
  seen_shut i h e = let t = mine.seen i h in let p = at i Open e in let w : ℕ = get_or ws i 0 in
      ⊎_elim (λ (a : w ≡ 0). t.1 a) (⊎_elim (λ (a : w ≡ 1). let k = ap kind (ap mark_of (sym a) ∙ p.1) in
      absurd (omega arith))
      (⊎_elim (λ a. let k = ap kind (sym (finished_mark w (get_or cycles i 0) a) ∙ p.1) in absurd (omega arith))
      (λ (d : Drops costs cycles ws i w). let k = ap kind (sym (dropped_mark w d.0 d.1) ∙ p.1) in
      absurd (omega arith)))) (row i t.0)

  pub shut : (i : ℕ) → KnowsNotOpen v i → slice_get marks i ≢ Some Open
  shut i h e = ⊎_elim (λ (a : Has v.hand i). let k : 1 ≡ 0 = ap kind (ap or_open (sym (held i a) ∙ e)) in
      absurd (omega arith))
      (⊎_elim (λ (a : Has v.seen i). seen_shut i a e)
      (λ (a : (m : Mark) × Has v.marks (i, m)). let t = mine.marks i a.0 a.1 in let big = t.1 in
      let k : mark_word a.0 ≡ 0 = ap mark_word (ap or_open (sym (noted i a.0 a.1) ∙ e)) in absurd (omega arith))) h

  -- with every number and an empty hand no row is taken
  pub closed : ((x : ℕ) → x < 32 → Has v.share x) → v.hand ≡ [] → (i : ℕ) → slice_get marks i ≢ Some Taken
  closed whole empty i e = let p = at i Taken e in let w : ℕ = get_or ws i 0 in
      ⊎_elim (λ (a : w ≡ 0). let k = ap kind (ap mark_of (sym a) ∙ p.1) in absurd (omega arith))
      (⊎_elim (λ (a : w ≡ 1). let h = o.held i p.0 (ap (λ (l : List ℕ). get_or l i 0) f.2 ∙ a) in
      let same = o.apart h.0 id h.1 v h.2 h.3 f.1.1 h.5 (whole h.2 (o.few h.0 h.1 h.2 h.3 h.5)) in
      let is : h.1 ≡ v = some-injective h.1 v (sym h.3 ∙ (ap (get_elem? s.views) same ∙ f.1.1)) in
      subst (λ (l : List ℕ). Has l i) (ap (λ (z : View). z.hand) is ∙ empty) h.4)
      (⊎_elim (λ a. let k = ap kind (sym (finished_mark w (get_or cycles i 0) a) ∙ p.1) in absurd (omega arith))
      (λ (d : Drops costs cycles ws i w). let k = ap kind (sym (dropped_mark w d.0 d.1) ∙ p.1) in
      absurd (omega arith)))) (row i p.0)
