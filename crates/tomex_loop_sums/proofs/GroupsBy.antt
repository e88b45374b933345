-- The groups of all keys, in a list.
use Rattle.std.proofs.Common.{ℕ, ◌<◌, ◌≤◌, ◌≡◌, ◌∙◌, ap, arith, inl, inr, sym}
use Rattle.std.proofs.Common.{List, [], ◌∷◌, Result, Ok, Err, length, get_or, map}
use Rattle.std.specs.Prelude.{All, IfOk, ◌==◌}
use Rattle.std.proofs.lemmas.Bool.{cases_Bool}
use Rattle.std.proofs.lemmas.List.{length-map}
use Rattle.std.proofs.lemmas.List.FromFn.{fill_by_all, get_or-map-range_with_len, length-map-range_with_len}
use Rattle.tomex_loop_sums.specs.Groups.{groups_by, with_key}

-- what two clauses say together
pub both_ok : {X Y : Type 0} (r : Result X Y) (P Q R : X → Type 0) → ((x : X) → P x → Q x → R x) → IfOk r P
    → IfOk r Q → IfOk r R
both_ok (Ok x) P Q R so p q = so x p q
both_ok (Err e) P Q R so p q = tt

-- a list of the groups, known by its places
pub groups_are : {X G : Type 0} (f : G → List X) (groups : List G) (count : ℕ) (keys : List ℕ) (items : List X)
    → length groups ≡ count → ((n : ℕ) → n < count → get_or (map f groups) n [] ≡ with_key n keys items)
    → map f groups ≡ groups_by count keys items
groups_are f groups count keys items many each =
    fill_by_all (λ n. with_key n keys items) (map f groups) count [] (length-map groups f ∙ many) each

pub group_at : {X : Type 0} (count : ℕ) (keys : List ℕ) (items : List X) (n : ℕ) (d : List X) → n < count
    → get_or (groups_by count keys items) n d ≡ with_key n keys items
group_at count keys items n d l =
    get_or-map-range_with_len (λ n. with_key n keys items) 0 count n n d l (omega arith)

pub groups_many : {X : Type 0} (count : ℕ) (keys : List ℕ) (items : List X)
    → length (groups_by count keys items) ≡ count
groups_many count keys items = length-map-range_with_len (λ n. with_key n keys items) 0 count

-- a group has no more items than there are
key_few : {X : Type 0} (n : ℕ) (keys : List ℕ) (items : List X) → length (with_key n keys items) ≤ length items
key_few n [] items = omega arith
key_few n (k ∷ keys) [] = omega arith
key_few n (k ∷ keys) (x ∷ items) =
    let rest = key_few n keys items in
    elim (cases_Bool (k == n)) [ inl is ↦ rw is (omega (arith, rest)) | inr is ↦ rw is (omega (arith, rest)) ]

pub groups_few : {X : Type 0} (count most : ℕ) (keys : List ℕ) (items : List X) → length items < most
    → All (λ group. length group < most) (groups_by count keys items)
groups_few count most keys items few = λ i d l.
    let small : i < count = omega (arith, l, groups_many count keys items) in
    rw (group_at count keys items i d small) (let part = key_few i keys items in omega (arith, part, few))

-- there are as many groups as keys
pub many_groups : {X G : Type 0} (f : G → List X) (groups : List G) (count : ℕ) (keys : List ℕ) (items : List X)
    → map f groups ≡ groups_by count keys items → length groups ≡ count
many_groups f groups count keys items are =
    sym (length-map groups f) ∙ ap (λ (xs : List (List _)). length xs) are ∙ groups_many count keys items
