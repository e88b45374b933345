-- One number more in the index.
use Rattle.std.proofs.Common.{◌≡◌, ℕ, Bool, true, false, cond, List, [], ◌∷◌, ◌++◌, Option, Some, None, refl, sym, ap}
use Rattle.std.proofs.Common.{◌∙◌}
use Rattle.std.specs.Option.{option_map_or, unwrap_or}
use Rattle.std.specs.declared.vec.Vec.{Vec}
use Rattle.std.proofs.Common.{map, filter, bytes_eq}
use Rattle.tomex_asm_numbers.specs.Table.{Definition, numbers_of}
use Rattle.tomex_asm_numbers.specs.declared.number.Number.{Number}

module _ {A : Type 0} where
  abbrev items : Option (Vec Number A) → List Number
  items o = option_map_or (λ v. v.items) o []

  taken : (at_word : Option (Vec Number A)) (none : Vec Number A) → none.items ≡ []
      → (unwrap_or at_word none).items ≡ items at_word
  taken (Some v) none e = refl
  taken None none e = e

  pub added : (b : Bool) (old mid new at_word : Option (Vec Number A)) (none w v : Vec Number A) (n : Number)
      → none.items ≡ [] → w ≡ unwrap_or at_word none → v.items ≡ w.items ++ (n ∷ []) → mid ≡ cond b None old
      → new ≡ cond b (Some v) mid → (b ≡ true → old ≡ at_word)
      → option_map_or (λ u. u.items) new []
      ≡ cond b (option_map_or (λ u. u.items) old [] ++ (n ∷ [])) (option_map_or (λ u. u.items) old [])
  added true old mid new at_word none w v n e f g h i j =
      ap items i ∙ g ∙ ap (λ xs. xs ++ (n ∷ [])) (ap (λ u. u.items) f ∙ taken at_word none e ∙ ap items (sym (j refl)))
  added false old mid new at_word none w v n e f g h i j = ap items (i ∙ h)

numbers_append : (w : List ℕ) (ds : List Definition) (d : Definition)
    → numbers_of w (ds ++ (d ∷ []))
    ≡ cond (bytes_eq d.word w) (numbers_of w ds ++ (d.number ∷ [])) (numbers_of w ds)
numbers_append w [] d = go (bytes_eq d.word w) where
  go : (b : Bool) → map (λ (x : Definition). x.number) (cond b (d ∷ []) []) ≡ cond b (d.number ∷ []) []
  go true = refl
  go false = refl
numbers_append w (x ∷ ds) d = go (bytes_eq x.word w) (bytes_eq d.word w) (numbers_append w ds d) where
  go : (b e : Bool)
      → numbers_of w (ds ++ (d ∷ [])) ≡ cond e (numbers_of w ds ++ (d.number ∷ [])) (numbers_of w ds)
      → map (λ (y : Definition). y.number) (cond b (x ∷ filter (λ y. bytes_eq y.word w) (ds ++ (d ∷ [])))
      (filter (λ y. bytes_eq y.word w) (ds ++ (d ∷ []))))
      ≡ cond e (map (λ (y : Definition). y.number) (cond b (x ∷ filter (λ y. bytes_eq y.word w) ds)
      (filter (λ y. bytes_eq y.word w) ds)) ++ (d.number ∷ []))
      (map (λ (y : Definition). y.number) (cond b (x ∷ filter (λ y. bytes_eq y.word w) ds)
      (filter (λ y. bytes_eq y.word w) ds)))
  go true true h = ap (λ ns. x.number ∷ ns) h
  go true false h = ap (λ ns. x.number ∷ ns) h
  go false true h = h
  go false false h = h

-- the index after a definition more
pub one_more : (w : List ℕ) (before after : List Definition) (d : Definition) (old new : List Number)
    → old ≡ numbers_of w before → new ≡ cond (bytes_eq d.word w) (old ++ (d.number ∷ [])) old
    → after ≡ before ++ (d ∷ []) → new ≡ numbers_of w after
one_more w before after d old new e f h =
    f ∙ ap (λ (ns : List Number). cond (bytes_eq d.word w) (ns ++ (d.number ∷ [])) ns) e
    ∙ sym (numbers_append w before d) ∙ ap (numbers_of w) (sym h)
