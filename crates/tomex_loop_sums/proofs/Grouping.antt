-- The items with a key grow by one item at a time.
use Rattle.std.proofs.Common.{ℕ, ◌+◌, ◌<◌, ◌≡◌, ◌∙◌, arith, refl, sym, ap, inl, inr, ◌==◌}
use Rattle.std.proofs.Common.{List, [], ◌∷◌, ◌++◌, length, get_or, map, set, take}
use Rattle.std.specs.Prelude.{if◌then◌else◌}
use Rattle.std.proofs.lemmas.Bool.{cases_Bool, cases_eq, eq-eqb, ne_eqb}
use Rattle.std.proofs.lemmas.List.{append-nil, get_or-map, get_or-set_other, get_or-set_same, length-map, length-take}
use Rattle.std.proofs.lemmas.List.{map-set, take_more}
use Rattle.tomex_loop_sums.specs.Groups.{with_key}

key_push : {X : Type 0} (n : ℕ) (keys : List ℕ) (items : List X) (k : ℕ) (x : X) → length keys ≡ length items
    → with_key n (keys ++ (k ∷ [])) (items ++ (x ∷ [])) ≡ with_key n keys items ++ (if k == n then x ∷ [] else [])
key_push n [] [] k x e = elim (cases_Bool (k == n)) [ inl is ↦ rw is refl | inr is ↦ rw is refl ]
key_push n [] (y ∷ items) k x e = absurd (omega arith)
key_push n (j ∷ keys) [] k x e = absurd (omega arith)
key_push n (j ∷ keys) (y ∷ items) k x e =
    let rest = key_push n keys items k x (omega arith) in
    elim (cases_Bool (j == n)) [
      | inl is ↦ rw is (ap (λ (xs : List _). y ∷ xs) rest)
      | inr is ↦ rw is rest
    ]

key_more : {X : Type 0} (n : ℕ) (keys : List ℕ) (items : List X) (i : ℕ) (d : X) → length keys ≡ length items
    → i < length keys → with_key n (take (i + 1) keys) (take (i + 1) items)
    ≡ with_key n (take i keys) (take i items) ++ (if get_or keys i 0 == n then get_or items i d ∷ [] else [])
key_more n keys items i d e l =
    rw (take_more keys i 0 l, take_more items i d (omega (arith, e, l)))
    (key_push n (take i keys) (take i items) (get_or keys i 0) (get_or items i d)
    (omega (arith, length-take i keys, length-take i items, e)))

-- one more item, in the group of its key
pub group_more : {X G : Type 0} (f : G → List X) (groups : List G) (keys : List ℕ) (items : List X) (i n : ℕ)
    (x : X) (old new : G) → length keys ≡ length items → i < length keys → get_or keys i 0 < length groups
    → old ≡ get_or groups (get_or keys i 0) old → x ≡ get_or items i x → f new ≡ f old ++ (x ∷ [])
    → get_or (map f groups) n [] ≡ with_key n (take i keys) (take i items)
    → get_or (map f (set groups (get_or keys i 0) new)) n [] ≡ with_key n (take (i + 1) keys) (take (i + 1) items)
group_more f groups keys items i n x old new e l small was item push so =
    let more = key_more n keys items i x e l in
    let wrote = map-set f groups (get_or keys i 0) new in
    elim (cases_eq (get_or keys i 0) n) [
      | inl same ↦
          let read = get_or-map f groups (get_or keys i 0) old [] small in
          let at = get_or-set_same (map f groups) (get_or keys i 0) (f new) []
          (omega (arith, small, length-map groups f)) in
          let yes = rw (eq-eqb (get_or keys i 0) n same) at more in
          let had : f old ≡ with_key n (take i keys) (take i items) =
          ap f was ∙ sym read ∙ ap (λ (j : ℕ). get_or (map f groups) j []) same ∙ so in
          ap (λ (xs : List _). get_or xs n []) wrote
          ∙ ap (λ (j : ℕ). get_or (set (map f groups) (get_or keys i 0) (f new)) j []) (sym same) ∙ at ∙ push
          ∙ ap (λ (xs : List _). xs ++ (x ∷ [])) had
          ∙ ap (λ (y : _). with_key n (take i keys) (take i items) ++ (y ∷ [])) item ∙ sym yes
      | inr other ↦
          let at = get_or-set_other (map f groups) (get_or keys i 0) n (f new) []
          (λ (z : n ≡ get_or keys i 0). other (sym z)) in
          let no = rw (ne_eqb (get_or keys i 0) n other, append-nil) at more in
          ap (λ (xs : List _). get_or xs n []) wrote ∙ at ∙ so ∙ sym no
    ]
