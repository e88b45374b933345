-- Numbers that are taken out one by one.
use Rattle.std.proofs.Common.{◌≡◌, ℕ, ◌+◌, ◌^◌, ◌<◌, ◌≤◌, List, [], ◌∷◌, ◌++◌, length, refl, sym, ◌∙◌}
use Rattle.std.proofs.Common.{ap, arith, subst, inl, inr}
use Rattle.std.proofs.lemmas.Bool.{cases_eq, cases_lt}
use Rattle.std.proofs.lemmas.List.{ext_get_or, get_or-replicate, get_or-set_other, get_or-set_same, length-replicate}
use Rattle.std.proofs.lemmas.List.{get_or_append_left, get_or_push, get_or_read, length-set, length_push}
use Rattle.std.specs.Prelude.{◌⊎◌, replicate, slice_index, slice_index_or, slice_set}
use Rattle.tomex_samples.specs.declared.counts.Entry.{Entry}
use Rattle.tomex_samples.specs.Counts.{AreCovered, AreZero, IsSparse, TakesOut}

pub takes_more : (es : List Entry) (numbers left : List ℕ) (e : Entry) → TakesOut es numbers left
    → e.word < length left → slice_index left e.word ≡ e.count
    → TakesOut (es ++ e ∷ []) numbers (slice_set left e.word 0)
takes_more [] numbers left e same inside is = (
  subst (λ (xs : List ℕ). e.word < length xs) same inside,
  subst (λ (xs : List ℕ). slice_index xs e.word ≡ e.count) same is,
  ap (λ xs. slice_set xs e.word 0) same,
)
takes_more (x ∷ es) numbers left e takes inside is =
    (takes.0, takes.1, takes_more es (slice_set numbers x.word 0) left e takes.2 inside is)

-- the entries of the first k words are taken out, and every word whose number isn't zero is among the others
pub record IsDrained (words : List ℕ) (k : ℕ) (row : List Entry) (numbers left : List ℕ) : Type 0 where
  pub takes : TakesOut row numbers left
  pub inside : (t : ℕ) → t < length words → slice_index words t < length left
  pub each : (w : ℕ) → 0 < slice_index left w → (t : ℕ) × (k ≤ t) × (t < length words) × (slice_index words t ≡ w)

pub drained_none : (words numbers : List ℕ) → AreCovered words numbers → IsDrained words 0 [] numbers numbers
drained_none words numbers c = record {
  takes = refl;
  inside = c.inside;
  each = λ w some. let at = c.each w some in (at.0, omega arith, at.1, at.2);
}

pub drained_more : (words : List ℕ) (k : ℕ) (row : List Entry) (numbers left : List ℕ) (e : Entry)
    → IsDrained words k row numbers left → k < length words → e.word ≡ slice_index words k
    → e.count ≡ slice_index left e.word → IsDrained words (k + 1) (row ++ e ∷ []) numbers (slice_set left e.word 0)
drained_more words k row numbers left e d more is count =
    let within : e.word < length left = omega (arith, d.inside k more, is) in
    record {
      takes = takes_more row numbers left e d.takes within (sym count);
      inside = λ t h. omega (arith, d.inside t h, length-set left e.word 0);
      each = λ w some. others w some (cases_eq w e.word);
    }
  where
    later : (w : ℕ) (at : (t : ℕ) × (k ≤ t) × (t < length words) × (slice_index words t ≡ w))
        → (at.0 ≡ k) ⊎ (at.0 ≡ k → ⊥) → (w ≡ e.word → ⊥) → k + 1 ≤ at.0
    later w at (inl same) other =
        absurd (other (sym at.3 ∙ (ap (λ t. slice_index words t) same ∙ sym is)))
    later w at (inr apart) other = omega (arith, at.1, apart)

    others : (w : ℕ) → 0 < slice_index (slice_set left e.word 0) w → (w ≡ e.word) ⊎ (w ≡ e.word → ⊥)
        → (t : ℕ) × (k + 1 ≤ t) × (t < length words) × (slice_index words t ≡ w)
    others w some (inl same) =
        let within : e.word < length left = omega (arith, d.inside k more, is) in
        let zero_is : slice_index (slice_set left e.word 0) w ≡ 0 =
        ap (λ (x : ℕ). slice_index (slice_set left e.word 0) x) same ∙ get_or-set_same left e.word 0 0 within in
        absurd (omega (arith, zero_is))
    others w some (inr other) =
        let old : 0 < slice_index left w =
        subst (λ (n : ℕ). 0 < n) (get_or-set_other left e.word w 0 0 other) some in
        let at = d.each w old in
        (at.0, later w at (cases_eq at.0 k) other, at.2, at.3)

pub drained_all : (words : List ℕ) (row : List Entry) (numbers left : List ℕ)
    → IsDrained words (length words) row numbers left → AreZero left
drained_all words row numbers left d = λ w. zero_at w (cases_eq (slice_index left w) 0)
  where
    zero_at : (w : ℕ) → (slice_index left w ≡ 0) ⊎ (slice_index left w ≡ 0 → ⊥) → slice_index left w ≡ 0
    zero_at w (inl z) = z
    zero_at w (inr some) =
        let at = d.each w (omega (arith, some)) in
        absurd (omega (arith, at.1, at.2))

pub zeros : (xs : List ℕ) (n : ℕ) → AreZero xs → length xs ≡ n → xs ≡ replicate n 0
zeros xs n z size =
    ext_get_or 0 xs (replicate n 0) (size ∙ sym (length-replicate n 0))
    (λ i h. z i ∙ sym (get_or-replicate n i 0 0 (omega (arith, size))))

pub drained_past : (words : List ℕ) (k : ℕ) (row : List Entry) (numbers left : List ℕ)
    → IsDrained words k row numbers left → length words ≤ k → IsSparse row numbers
drained_past words k row numbers left d past = record {
  left = left;
  takes = d.takes;
  none = λ w. zero_at w (cases_eq (slice_index left w) 0);
}
  where
    zero_at : (w : ℕ) → (slice_index left w ≡ 0) ⊎ (slice_index left w ≡ 0 → ⊥) → slice_index left w ≡ 0
    zero_at w (inl z) = z
    zero_at w (inr some) =
        let at = d.each w (omega (arith, some)) in
        absurd (omega (arith, past, at.1, at.2))

-- the word that is read is one of those that are counted
pub drained_word : (words : List ℕ) (k : ℕ) (row : List Entry) (numbers left same : List ℕ) (all word : ℕ)
    → IsDrained words k row numbers left → same ≡ words → k < all → all ≡ length words
    → word ≡ slice_index_or same k word → word < length left
drained_word words k row numbers left same all word d is more size read =
    let within : k < length words = omega (arith, more, size) in
    let here : k < length same = subst (λ (ws : List ℕ). k < length ws) (sym is) within in
    let at : word ≡ slice_index words k = get_or_read same k word here read 0 ∙ ap (λ ws. slice_index ws k) is in
    subst (λ (w : ℕ). w < length left) (sym at) (d.inside k within)

pub place_read : (words same : List ℕ) (k all : ℕ) → same ≡ words → k < all → all ≡ length words → k < length same
place_read words same k all is more size = subst (λ (ws : List ℕ). k < length ws) (sym is) (omega (arith, more, size))

-- one word more, and a word that is among them already
pub covered_push : (words numbers more set : List ℕ) (word n : ℕ) → AreCovered words numbers → word < length numbers
    → more ≡ words ++ word ∷ [] → set ≡ slice_set numbers word n → AreCovered more set
covered_push words numbers more set word n c inside is at =
    subst (λ (ws : List ℕ). AreCovered ws set) (sym is)
    (subst (λ (ns : List ℕ). AreCovered (words ++ word ∷ []) ns) (sym at) (record {
      inside = λ t h. omega (arith, length-set numbers word n, place t h (cases_lt t (length words)));
      each = λ w some. found w some (cases_eq w word);
    }))
  where
    place : (t : ℕ) → t < length (words ++ word ∷ []) → (t < length words) ⊎ (length words ≤ t)
        → slice_index (words ++ word ∷ []) t < length numbers
    place t h (inl less) =
        subst (λ (w : ℕ). w < length numbers) (sym (get_or_append_left words (word ∷ []) 0 t less)) (c.inside t less)
    place t h (inr past) =
        let last : length words ≡ t = omega (arith, length_push words word) in
        subst (λ (w : ℕ). w < length numbers) (sym (get_or_push words word 0 t last)) inside

    found : (w : ℕ) → 0 < slice_index (slice_set numbers word n) w → (w ≡ word) ⊎ (w ≡ word → ⊥)
        → (t : ℕ) × (t < length (words ++ word ∷ [])) × (slice_index (words ++ word ∷ []) t ≡ w)
    found w some (inl same) =
        (length words, omega (arith, length_push words word), get_or_push words word 0 (length words) refl ∙ sym same)
    found w some (inr other) =
        let at = c.each w (subst (λ (m : ℕ). 0 < m) (get_or-set_other numbers word w n 0 other) some) in
        (at.0, omega (arith, length_push words word, at.1), get_or_append_left words (word ∷ []) 0 at.0 at.1 ∙ at.2)

pub covered_set : (words numbers more set : List ℕ) (word n : ℕ) → AreCovered words numbers
    → 0 < slice_index numbers word → more ≡ words → set ≡ slice_set numbers word n → AreCovered more set
covered_set words numbers more set word n c had is at =
    subst (λ (ws : List ℕ). AreCovered ws set) (sym is)
    (subst (λ (ns : List ℕ). AreCovered words ns) (sym at) (record {
      inside = λ t h. omega (arith, length-set numbers word n, c.inside t h);
      each = λ w some. found w some (cases_eq w word);
    }))
  where
    found : (w : ℕ) → 0 < slice_index (slice_set numbers word n) w → (w ≡ word) ⊎ (w ≡ word → ⊥)
        → (t : ℕ) × (t < length words) × (slice_index words t ≡ w)
    found w some (inl same) = c.each w (subst (λ (k : ℕ). 0 < slice_index numbers k) (sym same) had)
    found w some (inr other) =
        c.each w (subst (λ (m : ℕ). 0 < m) (get_or-set_other numbers word w n 0 other) some)

pub some_there : (numbers : List ℕ) (word r : ℕ) → word < length numbers → r ≡ slice_index_or numbers word r
    → (r ≡ 0 → ⊥) → 0 < slice_index numbers word
some_there numbers word r inside read some = omega (arith, get_or_read numbers word r inside read 0, some)

-- the number that is read is the one from before, and one more fits
pub one_more_fits : (numbers same : List ℕ) (word r : ℕ) → same ≡ numbers → word < length numbers
    → r ≡ slice_index_or same word r → slice_index numbers word + 1 < 2 ^ 32 → r + 1 < 2 ^ 32
one_more_fits numbers same word r is inside read few =
    let within : word < length same = omega (arith, ap length is, inside) in
    let all = get_or_read same word r within read 0 ∙ ap (λ xs. slice_index xs word) is in
    subst (λ (n : ℕ). n + 1 < 2 ^ 32) (sym all) few
