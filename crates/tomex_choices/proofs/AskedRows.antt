-- A row is asked in one list after another.
use Rattle.std.proofs.Common.{◌≡◌, ◌≢◌, ℕ, suc, ◌+◌, ◌-◌, ◌<◌, ◌≤◌, ◌==◌, arith, ap, sym, refl, subst, ◌∙◌, List, []}
use Rattle.std.proofs.Common.{◌∷◌, ◌++◌, append_assoc, length, get_or, map}
use Rattle.std.proofs.Common.{slice_get, inl, inr, Some}
use Rattle.std.specs.Prelude.{nat_lt}
use Rattle.std.specs.List.{range_with_len}
use Rattle.std.proofs.Math.ListN.{set, length-set}
use Rattle.std.proofs.lemmas.Bool.{cases_Bool}
use Rattle.std.proofs.lemmas.Bool.Decides.{nat_tests}
use Rattle.std.proofs.lemmas.List.{get_or-set_other, get_or-set_same}
use Rattle.std.proofs.lemmas.List.FromFn.{get_or-map-range_with_len, length-map-range_with_len}
use Rattle.std.proofs.lemmas.Option.{slice_get-get_or, slice_get_past, slice_get_within}
use Rattle.tomex_config.specs.Configuration.{Configuration}
use Rattle.tomex_study.specs.Study.{DesignSpace}
use Rattle.tomex_choices.specs.Asking.{AreAsked, AreLists, IsAskedOnce, ListOf}
use Rattle.tomex_choices.specs.declared.found.ListFound.{ListFound}

-- what is read of the list at a place
pub list_at : (rows : List Configuration) (lists : List ListOf) (place : ℕ) (e : ListOf) → AreLists rows lists
    → place < length lists → e ≡ get_or lists place e → e ≡ record { rows = rows; place = place }
list_at rows lists place e are low at =
    let f : ℕ → ListOf = λ (k : ℕ). record { rows = rows; place = k } in
    let long : length lists ≡ 13 = ap length are ∙ length-map-range_with_len f 0 13 in
    at ∙ (ap (λ (xs : List ListOf). get_or xs place e) are
    ∙ get_or-map-range_with_len f 0 13 place place e (omega (arith, long, low)) (omega arith))

abbrev pub list_of : List Configuration → ℕ → ListOf
list_of rows place = record { rows = rows; place = place }

pub lists_long : (rows : List Configuration) (lists : List ListOf) → AreLists rows lists → length lists ≡ 13
lists_long rows lists are = ap length are ∙ length-map-range_with_len (list_of rows) 0 13

-- one more list
pub list_more : (rows : List Configuration) (k : ℕ) (before after : List ListOf) (e : ListOf) (whole : List ListOf)
    → k < 13 → after ≡ before ++ e ∷ [] → e.rows ≡ rows → e.place ≡ k
    → before ++ map (list_of rows) (range_with_len k (13 - k)) ≡ whole
    → after ++ map (list_of rows) (range_with_len (k + 1) (13 - (k + 1))) ≡ whole
list_more rows k before after e whole low is its_rows its_place so_far =
    let own : e ≡ list_of rows k =
    (let f : list_of e.rows e.place ≡ list_of rows k = rw (its_rows, its_place) refl in f) in
    let many : 13 - k ≡ suc (13 - (k + 1)) = omega (arith, low) in
    let rest : List ListOf = map (list_of rows) (range_with_len (k + 1) (13 - (k + 1))) in
    ap (λ (xs : List ListOf). xs ++ rest) (is ∙ ap (λ (x : ListOf). before ++ x ∷ []) own)
    ∙ (append_assoc before (list_of rows k ∷ []) rest
    ∙ (ap (λ (n : ℕ). before ++ map (list_of rows) (range_with_len k n)) (sym many) ∙ so_far))

-- an item after another one was replaced, or that one

pub get-set_same : {X : Type 0} (xs : List X) (k : ℕ) (x : X) → k < length xs → slice_get (set xs k x) k ≡ Some x
get-set_same xs k x low =
    slice_get-get_or (set xs k x) k x (let m = length-set xs k x in omega (arith, m))
    ∙ ap (λ (y : _). Some y) (get_or-set_same xs k x x low)

pub get-set_other : {X : Type 0} (xs : List X) (k j : ℕ) (x : X) → j ≢ k → slice_get (set xs k x) j ≡ slice_get xs j
get-set_other xs k j x apart = elim (cases_Bool (nat_lt j (length xs))) [
  | inl e ↦
      let low : j < length xs = grind (arith, nat_tests) in
      slice_get-get_or (set xs k x) j x (let m = length-set xs k x in omega (arith, m))
      ∙ (ap (λ (y : _). Some y) (get_or-set_other xs k j x x apart) ∙ sym (slice_get-get_or xs j x low))
  | inr e ↦
      let past : length xs ≤ j = grind (arith, nat_tests) in
      slice_get_past (set xs k x) j (let m = length-set xs k x in omega (arith, m)) ∙ sym (slice_get_past xs j past)
]

-- a row was asked in the lists before a place
pub record AreAskedTo {A : Type 0} (s : DesignSpace) (row upto : ℕ) (old new : List (ListFound A)) : Type 0 where
  pub count : length new ≡ length old
  pub each : (place : ℕ) (f g : ListFound A) → place < upto → slice_get old place ≡ Some f
      → slice_get new place ≡ Some g → IsAskedOnce s place row f g
  pub rest : (place : ℕ) → upto ≤ place → slice_get new place ≡ slice_get old place

pub none_asked_yet : {A : Type 0} (s : DesignSpace) (row : ℕ) (old : List (ListFound A)) → AreAskedTo s row 0 old old
none_asked_yet s row old = record {
  count = refl;
  each = λ place f g low at in_new. absurd (omega arith);
  rest = λ place past. refl;
}

pub one_is_asked : {A : Type 0} (s : DesignSpace) (row place : ℕ) (old new all : List (ListFound A))
    (f g : ListFound A)
    → slice_get new place ≡ Some f → IsAskedOnce s place row f g → all ≡ set new place g
    → AreAskedTo s row place old new → AreAskedTo s row (place + 1) old all
one_is_asked s row place old new all f g at asked is so_far =
    let low : place < length new = slice_get_within new place f at in
    let long : length all ≡ length new = ap length is ∙ length-set new place g in
    record {
      count = long ∙ so_far.count;
      each = λ k x y less in_old in_all. elim (cases_Bool (k == place)) [
        | inl e ↦
            let here : k ≡ place = grind (arith, nat_tests) in
            let new_one : Some y ≡ Some g =
            sym in_all ∙ (ap (λ (xs : List (ListFound _)). slice_get xs k) is
            ∙ (ap (slice_get (set new place g)) here ∙ get-set_same new place g low)) in
            let old_one : Some x ≡ Some f =
            sym in_old ∙ (sym (so_far.rest k (omega arith)) ∙ (ap (slice_get new) here ∙ at)) in
            let ys : g ≡ y = (cc) in
            let xs : f ≡ x = (cc) in
            subst (λ (z : ListFound _). IsAskedOnce s k row x z) ys
            (subst (λ (z : ListFound _). IsAskedOnce s k row z g) xs
            (subst (λ (n : ℕ). IsAskedOnce s n row f g) (sym here) asked))
        | inr e ↦
            let apart : k ≢ place = λ same. grind (arith, nat_tests) in
            let before : k < place = grind (arith, nat_tests) in
            so_far.each k x y before in_old
            (sym (get-set_other new place k g apart) ∙ (ap (λ (xs : List (ListFound _)). slice_get xs k) (sym is)
            ∙ in_all))
      ];
      rest = λ k past.
          let apart : k ≢ place = λ same. omega arith in
          ap (λ (xs : List (ListFound _)). slice_get xs k) is
          ∙ (get-set_other new place k g apart ∙ so_far.rest k (omega arith));
    }

-- in all of them
pub all_are_asked : {A : Type 0} (s : DesignSpace) (row upto : ℕ) (old new : List (ListFound A)) → length old ≤ upto
    → AreAskedTo s row upto old new → AreAsked s row old new
all_are_asked s row upto old new past asked = record {
  count = asked.count;
  each = λ place f g at in_new.
      let low = slice_get_within old place f at in
      asked.each place f g (omega (arith, low)) at in_new;
}
