-- Leaders, round after round.
use Rattle.std.proofs.Common.{◌≡◌, ℕ, zero, suc, ◌+◌, ◌-◌, ◌<◌, ◌≤◌, List, [], ◌∷◌, ◌++◌, length, refl, sym, ◌∙◌, ap}
use Rattle.std.proofs.Common.{arith, subst, inl, inr, Bool, true, false, Option, None, Result, Ok, Err, append-nil}
use Rattle.std.proofs.lemmas.Bool.{cases_eq, cases_lt, eq-eqb, eqb-true, false≢true}
use Rattle.std.proofs.lemmas.List.{get_or-map, get_or_append_left, get_or_at, get_or_past, length-append, length-map}
use Rattle.std.proofs.lemmas.List.FromFn.{fill_by_all}
use Rattle.std.proofs.lemmas.List.Folds.{list_any_at}
use Rattle.std.specs.List.{list_any}
use Rattle.std.specs.Prelude.{◌⊎◌, ◌==◌, ◌||◌, IfOk, IsTrue, if◌then◌else◌, is_some, map, slice_index}
use Rattle.tomex_samples.specs.declared.nearness.Near.{Near}
use Rattle.tomex_samples.specs.Groups.{center, groups_of, leaders_after, next_leaders}
use Rattle.tomex_samples.specs.Leaders.{count, in_order, nearest}
use Rattle.tomex_samples.specs.Near.{AllCan, AreNearest, leaders_in, no_leader, part_is_found}
use Rattle.tomex_samples.specs.Stretches.{Run}
use Rattle.tomex_samples.proofs.Ordered.{order_more}

-- a stretch that can is one
pub found_inside : (parts : List (Option ℕ)) (k : ℕ) → IsTrue (part_is_found parts k) → k < length parts
found_inside parts k found = at (cases_lt k (length parts))
  where
    at : (k < length parts) ⊎ (length parts ≤ k) → k < length parts
    at (inl less) = less
    at (inr past) = absurd (false≢true (sym (ap is_some (get_or_past parts k None past)) ∙ found))

pub all_inside : (parts : List (Option ℕ)) (ks : List ℕ) → AllCan parts ks → (t : ℕ) → t < length ks
    → slice_index ks t < length parts
all_inside parts ks all t h = found_inside parts (slice_index ks t) (all t h)

-- what holds of all numbers holds of one that is among them
any_passes : (test : ℕ → Bool) (n : ℕ) (ks : List ℕ) → list_any (λ j. j == n) ks ≡ true
    → ((t : ℕ) → t < length ks → IsTrue (test (slice_index ks t))) → IsTrue (test n)
any_passes test n [] none all = absurd (false≢true none)
any_passes test n (x ∷ xs) there all =
    by (λ later. any_passes test n xs later (λ t h. all (suc t) (omega arith))) (x == n) refl
  where
    by : (list_any (λ j. j == n) xs ≡ true → IsTrue (test n)) → (b : Bool) → (x == n) ≡ b → IsTrue (test n)
    by rest true e = subst (λ (m : ℕ). IsTrue (test m)) (eqb-true x n e) (all 0 (omega arith))
    by rest false e = rest (sym (ap (λ (b : Bool). b || list_any (λ j. j == n) xs) e) ∙ there)

-- of one more
pushed_passes : (test : ℕ → Bool) (ks : List ℕ) (k : ℕ)
    → ((t : ℕ) → t < length ks → IsTrue (test (slice_index ks t))) → IsTrue (test k)
    → (t : ℕ) → t < length (ks ++ k ∷ []) → IsTrue (test (slice_index (ks ++ k ∷ []) t))
pushed_passes test ks k all found t h = at (cases_lt t (length ks))
  where
    at : (t < length ks) ⊎ (length ks ≤ t) → IsTrue (test (slice_index (ks ++ k ∷ []) t))
    at (inl less) =
        subst (λ (m : ℕ). IsTrue (test m)) (sym (get_or_append_left ks (k ∷ []) 0 t less)) (all t less)
    at (inr past) =
        let size = length-append ks (k ∷ []) in
        let is : length ks ≡ t = omega (arith, h, size) in
        subst (λ (m : ℕ). IsTrue (test m)) (sym (get_or_at ks k [] 0 t is)) found

-- of all numbers in order
pub order_passes : (test : ℕ → Bool) (n : ℕ) (ks : List ℕ)
    → ((t : ℕ) → t < length ks → IsTrue (test (slice_index ks t)))
    → (t : ℕ) → t < length (in_order n ks) → IsTrue (test (slice_index (in_order n ks) t))
order_passes test zero ks all = λ t h. absurd (omega (arith, h))
order_passes test (suc n) ks all = by (order_passes test n ks all) (list_any (λ j. j == n) ks) refl
  where
    whole : (b : Bool) → list_any (λ j. j == n) ks ≡ b
        → in_order (suc n) ks ≡ in_order n ks ++ (if b then n ∷ [] else [])
    whole b e =
        let one : suc n ≡ n + 1 = omega arith in
        ap (λ m. in_order m ks) one
        ∙ (order_more n ks ∙ ap (λ (c : Bool). in_order n ks ++ (if c then n ∷ [] else [])) e)

    by : ((t : ℕ) → t < length (in_order n ks) → IsTrue (test (slice_index (in_order n ks) t)))
        → (b : Bool) → list_any (λ j. j == n) ks ≡ b
        → (t : ℕ) → t < length (in_order (suc n) ks) → IsTrue (test (slice_index (in_order (suc n) ks) t))
    by before true e =
        subst (λ (xs : List ℕ). (t : ℕ) → t < length xs → IsTrue (test (slice_index xs t)))
        (sym (whole true e)) (pushed_passes test (in_order n ks) n before (any_passes test n ks e all))
    by before false e = subst (λ (xs : List ℕ). (t : ℕ) → t < length xs → IsTrue (test (slice_index xs t)))
        (sym (whole false e ∙ append-nil (in_order n ks))) before

pub order_some : (n : ℕ) (ks : List ℕ) (t : ℕ) → t < length ks → slice_index ks t < n → 0 < length (in_order n ks)
order_some zero ks t h less = absurd (omega (arith, less))
order_some (suc n) ks t h less = at (λ below. order_some n ks t h below) (cases_eq (slice_index ks t) n)
  where
    one : suc n ≡ n + 1
    one = omega arith

    whole : length (in_order (suc n) ks)
        ≡ length (in_order n ks) + length (if list_any (λ j. j == n) ks then n ∷ [] else [])
    whole = ap (λ m. length (in_order m ks)) one
        ∙ (ap length (order_more n ks)
        ∙ length-append (in_order n ks) (if list_any (λ j. j == n) ks then n ∷ [] else []))

    at : (slice_index ks t < n → 0 < length (in_order n ks)) → (slice_index ks t ≡ n) ⊎ (slice_index ks t ≡ n → ⊥)
        → 0 < length (in_order (suc n) ks)
    at before (inl is) =
        let there : list_any (λ j. j == n) ks ≡ true =
        list_any_at (λ j. j == n) ks t 0 h (eq-eqb (slice_index ks t) n is) in
        let last : length (if list_any (λ j. j == n) ks then n ∷ [] else []) ≡ 1 =
        ap (λ (b : Bool). length (if b then n ∷ [] else [])) there in
        omega (arith, whole, last)
    at before (inr other) = let rest = before (omega (arith, less, other)) in omega (arith, whole, rest)

-- the groups by what the code keeps
pub groups_are : (run : Run) (near : List Near) (leaders : List ℕ) → 0 < length leaders
    → AreNearest run leaders near → leaders_in near ≡ groups_of run leaders
groups_are run near [] some a = absurd (omega (arith, some))
groups_are run near (l ∷ ls) some a =
    fill_by_all (nearest run (l ∷ ls)) (leaders_in near) (count run) 0 (length-map near (λ (x : Near). x.leader)
    ∙ a.number)
    (λ k h.
    let within : k < length near = omega (arith, a.number, h) in
    let e = a.each k h in
    get_or-map (λ (x : Near). x.leader) near k no_leader 0 within ∙ e.0)

-- once no leader changes, none does later
pub rounds_same : (run : Run) (n : ℕ) (leaders : List ℕ) → next_leaders run leaders ≡ leaders
    → leaders_after run n leaders ≡ leaders
unfolding leaders_after
rounds_same run zero leaders same = refl
rounds_same run (suc n) leaders same = ap (leaders_after run n) same ∙ rounds_same run n leaders same

pub rounds_more : (run : Run) (done : ℕ) (leaders next : List ℕ) → done < 10 → next ≡ next_leaders run leaders
    → leaders_after run (10 - (done + 1)) next ≡ leaders_after run (10 - done) leaders
unfolding leaders_after
rounds_more run done leaders next few is =
    let e : 10 - done ≡ suc (10 - (done + 1)) = omega arith in
    ap (leaders_after run (10 - (done + 1))) is ∙ sym (ap (λ n. leaders_after run n leaders) e)

pub no_rounds : (run : Run) (n : ℕ) (leaders : List ℕ) → n ≡ 0 → leaders_after run n leaders ≡ leaders
unfolding leaders_after
no_rounds run n leaders none = ap (λ m. leaders_after run m leaders) none

-- one more that can
pub can_more : (parts : List (Option ℕ)) (ks : List ℕ) (k : ℕ) → AllCan parts ks → IsTrue (part_is_found parts k)
    → AllCan parts (ks ++ k ∷ [])
can_more parts ks k all found = pushed_passes (part_is_found parts) ks k all found

-- one leader that can after another
pub can_as : (parts : List (Option ℕ)) (ks more : List ℕ) → more ≡ ks → AllCan parts ks → AllCan parts more
can_as parts ks more same all = subst (λ (xs : List ℕ). AllCan parts xs) (sym same) all

pub ok_more : {X E : Type 0} (P Q : X → Type 0) (r : Result X E) → IfOk r P → ((x : X) → P x → Q x) → IfOk r Q
ok_more P Q (Ok x) h more = more x h
ok_more P Q (Err e) h more = tt

-- the next leaders by what the code computes
pub next_is : (run : Run) (near : List Near) (leaders centers : List ℕ) (n : ℕ) → 0 < length leaders
    → AreNearest run leaders near → centers ≡ map (center run (leaders_in near)) leaders → n ≡ count run
    → in_order n centers ≡ next_leaders run leaders
next_is run near leaders centers n some a are all =
    ap (λ m. in_order m centers) all
    ∙ (ap (in_order (count run)) are
    ∙ ap (λ gs. in_order (count run) (map (center run gs) leaders)) (groups_are run near leaders some a))
