-- The values of an array, and the items that contracts see.
use Rattle.std.proofs.Common.{◌≡◌, ◌≢◌, ◌&&◌, ◌<◌, ◌≤◌, ◌+◌, ◌∙◌, ◌++◌, ℕ, zero, suc, Bool, List, [], ◌∷◌, Ok, Err}
use Rattle.std.proofs.Common.{length, drop, get_or, add-one, ap, sym, refl, arith}
use Rattle.std.proofs.lemmas.List.{append_assoc, append-nil}
use Rattle.std.specs.List.{list_all}
use Rattle.toml.specs.Data.{Data}
use Rattle.toml.specs.View.{view, items_view}
use Rattle.toml.specs.declared.value.Value.{Value}
use Rattle.tomex_values.specs.declared.place.Key.{Key}
use Rattle.tomex_values.specs.declared.place.Place.{Place}
use Rattle.tomex_values.specs.declared.error.DocumentError.{DocumentError}
use Rattle.tomex_values.specs.Readings.{Reading, ◌>>=◌, with_front}
use Rattle.tomex_values.specs.Numbers.{between, number_of}
use Rattle.tomex_values.specs.Lists.{items_count, all_items, each, some_counts}

-- there are as many
pub count_items : (vs : List Value) → length vs ≡ items_count (items_view vs)
count_items [] = refl
count_items (v ∷ vs) = ap suc (count_items vs)

-- a test of the values is a test of the items
pub list_all_items : (test : Data → Bool) (vs : List Value)
    → list_all (λ v. test (view v)) vs ≡ all_items test (items_view vs)
list_all_items test [] = refl
list_all_items test (v ∷ vs) = ap (λ b. test (view v) && b) (list_all_items test vs)

-- if there are any, their counts are read
pub some_are_read : (place : Place) (key : Key) (most : ℕ) (vs : List Value) → length vs ≢ 0
    → some_counts place key most (items_view vs) ≡ each (number_of place key (between 1 most)) (items_view vs)
some_are_read place key most [] some = absurd (some refl)
some_are_read place key most (v ∷ vs) some = refl

-- a value of the front, or of the reading after it
front_more : {X : Type 0} (front : List X) (x : X) (rest : Reading (List X))
    → with_front (front ++ x ∷ []) rest ≡ with_front front (rest >>= (λ xs. Ok (x ∷ xs)))
front_more front x (Ok xs) = ap Ok (append_assoc front (x ∷ []) xs)
front_more front x (Err error) = refl

-- if the values before a place were read, the one there is read next
each_more : {X : Type 0} (read : Data → Reading X) (front : List X) (vs : List Value) (index : ℕ) (v : Value) (x : X)
    (whole : Reading (List X))
    → index < length vs → v ≡ get_or vs index v → read (view v) ≡ Ok x
    → with_front front (each read (items_view (drop index vs))) ≡ whole
    → with_front (front ++ x ∷ []) (each read (items_view (drop (suc index) vs))) ≡ whole
each_more read front [] index v x whole within is given so_far = absurd (omega (arith, within))
each_more read front (w ∷ vs) zero v x whole within is given so_far =
    let here : read (view w) ≡ Ok x = rw is at given in
    front_more front x (each read (items_view vs)) ∙ (rw here at so_far)
each_more read front (w ∷ vs) (suc index) v x whole within is given so_far =
    each_more read front vs index v x whole (omega (arith, within)) is given so_far

-- the same, as a loop counts
pub each_next : {X : Type 0} (read : Data → Reading X) (front : List X) {after : List X} (vs : List Value) (index : ℕ)
    {v : Value} {x : X} {whole : Reading (List X)} → index < length vs → v ≡ get_or vs index v → read (view v) ≡ Ok x
    → after ≡ front ++ x ∷ [] → with_front front (each read (items_view (drop index vs))) ≡ whole
    → with_front after (each read (items_view (drop (index + 1) vs))) ≡ whole
each_next read front vs index {v} {x} {whole} within is given grown so_far =
    rw (add-one, grown) (each_more read front vs index v x whole within is given so_far)

-- the fault of one is the fault of all
pub each_fault : {X : Type 0} (read : Data → Reading X) (front : List X) (vs : List Value) (index : ℕ) {v : Value}
    {error : DocumentError} {whole : Reading (List X)} → index < length vs → v ≡ get_or vs index v
    → read (view v) ≡ Err error → with_front front (each read (items_view (drop index vs))) ≡ whole → whole ≡ Err error
each_fault read front [] index within is fault so_far = absurd (omega (arith, within))
each_fault read front (w ∷ vs) zero {error} within is fault so_far =
    let here : read (view w) ≡ Err error = rw is at fault in
    sym (rw here at so_far)
each_fault read front (w ∷ vs) (suc index) {v} {error} {whole} within is fault so_far =
    each_fault read front vs index (omega (arith, within)) is fault so_far

-- at the end the front is all
pub each_end : {X : Type 0} (read : Data → Reading X) (front : List X) (vs : List Value) (index : ℕ)
    (whole : Reading (List X))
    → length vs ≤ index → with_front front (each read (items_view (drop index vs))) ≡ whole → whole ≡ Ok front
each_end read front [] zero whole past so_far = sym so_far ∙ ap Ok (append-nil front)
each_end read front [] (suc index) whole past so_far = sym so_far ∙ ap Ok (append-nil front)
each_end read front (v ∷ vs) zero whole past so_far = absurd (omega (arith, past))
each_end read front (v ∷ vs) (suc index) whole past so_far =
    each_end read front vs index whole (omega (arith, past)) so_far
