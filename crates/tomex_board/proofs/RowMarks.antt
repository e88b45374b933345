-- The marks of the rows' words are lawful at every moment.
use Rattle.std.proofs.Common.{◌≡◌, ◌≢◌, ℕ, zero, suc, ◌+◌, ◌*◌, ◌/◌, ◌%◌, ◌<◌, ◌≤◌, ◌⊎◌, eqb, cond, List, [], ◌∷◌, ◌++◌}
use Rattle.std.proofs.Common.{map, take, length, get_or, sym, refl, ap, ◌∙◌, subst, inl, inr, ⊎_elim, arith, eq-eqb}
use Rattle.std.proofs.Common.{ne_eqb, Some, None, slice_get}
use Rattle.std.proofs.lemmas.Option.{none-some}
use mathlib.Core.Option.{some, some-injective, some-ne-none}
use lib.ListN.{get_elem?}
use Rattle.atomic_table.specs.Table.{State}
use Rattle.tomex_board.specs.declared.view.View.{View}
use Rattle.tomex_board.specs.declared.mark.Mark.{Mark}
use Rattle.tomex_board.specs.declared.mark.Mark.TheVariants.{Open, Taken, Finished, Dropped}
use Rattle.tomex_board.specs.Words.{mark_of, mark_word}
use Rattle.tomex_board.specs.Marks.{AreLawful}
use Rattle.tomex_board.specs.Rule.{Drops, FitsRow, IsLawful}

pub snoc_at : (ws : List ℕ) (i w : ℕ) → get_elem? ws i ≡ some w
    → map mark_of (take (suc i) ws) ≡ map mark_of (take i ws) ++ mark_of w ∷ []
snoc_at [] i w e = absurd (some-ne-none w (sym e))
snoc_at (x ∷ xs) zero w e = ap (λ (k : ℕ). mark_of k ∷ []) (some-injective x w e)
snoc_at (x ∷ xs) (suc i) w e = ap (λ (l : List Mark). mark_of x ∷ l) (snoc_at xs i w e)

pub at_mark : (ws : List ℕ) (n i : ℕ) → i < n → n ≤ length ws
    → slice_get (map mark_of (take n ws)) i ≡ Some (mark_of (get_or ws i 0))
at_mark ws zero i h long = absurd (omega arith)
at_mark [] (suc n) i h long = absurd (omega arith)
at_mark (x ∷ xs) (suc n) zero h long = refl
at_mark (x ∷ xs) (suc n) (suc i) h long = at_mark xs n i (omega arith) (omega arith)

pub within : (ws : List ℕ) (n i : ℕ) (m : Mark) → slice_get (map mark_of (take n ws)) i ≡ Some m → i < n
within ws zero i m e = absurd (none-some m e)
within [] (suc n) i m e = absurd (none-some m e)
within (x ∷ xs) (suc n) zero m e = omega arith
within (x ∷ xs) (suc n) (suc i) m e = let h = within xs n i m e in omega arith

abbrev pub kind : Mark → ℕ
kind Open = 0
kind Taken = 1
kind (Finished y) = 2
kind (Dropped j) = 3

abbrev pub number : Mark → ℕ
number Open = 0
number Taken = 0
number (Finished y) = y
number (Dropped j) = j

abbrev pub or_open : Rattle.std.proofs.Common.Option Mark → Mark
or_open None = Open
or_open (Some m) = m

pub finished_mark : (w y : ℕ) → w ≡ 4 * y + 2 → mark_of w ≡ Finished y
finished_mark w y e = subst (λ b. cond b (Finished (w / 4))
    (cond (eqb (w % 4) 3) (Dropped (w / 4)) (cond (eqb w 0) Open Taken)) ≡ Finished y)
    (sym (eq-eqb (w % 4) 2 (omega arith))) (let q : w / 4 ≡ y = omega arith in ap Finished q)

pub dropped_mark : (w j : ℕ) → w ≡ 4 * j + 3 → mark_of w ≡ Dropped j
dropped_mark w j e = subst (λ b. cond b (Finished (w / 4))
    (cond (eqb (w % 4) 3) (Dropped (w / 4)) (cond (eqb w 0) Open Taken)) ≡ Dropped j)
    (sym (ne_eqb (w % 4) 2 (λ h. omega arith)))
    (subst (λ b. cond b (Dropped (w / 4)) (cond (eqb w 0) Open Taken) ≡ Dropped j)
    (sym (eq-eqb (w % 4) 3 (omega arith))) (let q : w / 4 ≡ j = omega arith in ap Dropped q))

-- the word of a mark has that mark
pub word_says : (m : Mark) → mark_of (mark_word m) ≡ m
word_says Open = refl
word_says Taken = refl
word_says (Finished y) = finished_mark (4 * y + 2) y refl
word_says (Dropped j) = dropped_mark (4 * j + 3) j refl

module _ (costs cycles : List ℕ) (s : State ℕ View) (o : IsLawful costs cycles s) where
  abbrev ws : List ℕ
  ws = s.words

  abbrev n : ℕ
  n = length costs

  abbrev marks : List Mark
  marks = map mark_of (take n ws)

  long : n ≤ length ws
  long = let b = o.words in omega arith

  row : (i : ℕ) → i < n → FitsRow costs cycles ws i (get_or ws i 0)
  row i h = o.rows i h

  at : (i : ℕ) (m : Mark) → slice_get marks i ≡ Some m → (i < n) × (mark_of (get_or ws i 0) ≡ m)
  at i m e = let h = within ws n i m e in (h, ap or_open (sym (at_mark ws n i h long) ∙ e))

  pub lawful_now : AreLawful costs cycles marks
  lawful_now = record {
    finished = λ i y e. let t = at i (Finished y) e in let w : ℕ = get_or ws i 0 in
        ⊎_elim (λ (a : w ≡ 0). let k = ap kind (ap mark_of (sym a) ∙ t.1) in
        absurd (omega arith)) (⊎_elim (λ (a : w ≡ 1). let k = ap kind (ap mark_of (sym a) ∙ t.1) in
        absurd (omega arith))
        (⊎_elim (λ a. ap number (sym t.1 ∙ finished_mark w (get_or cycles i 0) a))
        (λ (d : Drops costs cycles ws i w). let k = ap kind (sym (dropped_mark w d.0 d.1) ∙ t.1) in
        absurd (omega arith)))) (row i t.0);
    dropped = λ i j e. let t = at i (Dropped j) e in let w : ℕ = get_or ws i 0 in
        ⊎_elim (λ (a : w ≡ 0). let k = ap kind (ap mark_of (sym a) ∙ t.1) in
        absurd (omega arith)) (⊎_elim (λ (a : w ≡ 1). let k = ap kind (ap mark_of (sym a) ∙ t.1) in
        absurd (omega arith))
        (⊎_elim (λ a. let k = ap kind (sym (finished_mark w (get_or cycles i 0) a) ∙ t.1) in absurd (omega arith))
        (λ (d : Drops costs cycles ws i w). let same : d.0 ≡ j = ap number (sym (dropped_mark w d.0 d.1) ∙ t.1) in
        let says = at_mark ws n d.0 d.2 long ∙ ap Some (finished_mark (get_or ws d.0 0) (get_or cycles d.0 0) d.3) in
        subst (λ (k : ℕ). (slice_get marks k ≡ Some (Finished (get_or cycles k 0)))
        × (get_or costs k 0 ≤ get_or costs i 0) × (get_or cycles k 0 < get_or cycles i 0)) same (says, d.4, d.5))))
        (row i t.0);
  }
