-- What the loops take adds up.
use Rattle.std.proofs.Common.{ℕ, zero, suc, ◌+◌, ◌<◌, ◌≤◌, ◌≡◌, ◌∙◌, refl, sym, ap, arith, List, [], ◌∷◌, ◌++◌, length}
use Rattle.std.proofs.Common.{get_or, map, slice_index, sum, sum_by, take, take_all, Option, Some, None}
use Rattle.std.specs.Prelude.{IfSome, is_none}
use Rattle.std.specs.List.{All}
use Rattle.std.specs.Option.{option_map}
use Rattle.std.proofs.lemmas.List.{length-map, take_more}
use Rattle.std.proofs.lemmas.List.Elements.{All-cons, All-get_or, All-head, All-nil, All-tail}
use Rattle.std.proofs.lemmas.List.Sorted.{sum_by-IsPermutation}
use Rattle.std.proofs.lemmas.List.Sums.{sum_by-append}
use Rattle.tomex_rvexec.specs.declared.step.Step.{Step}
use Rattle.tomex_config.specs.Configuration.{Configuration}
use Rattle.tomex_loops.specs.declared.visit.Visit.{Visit}
use Rattle.tomex_loops.specs.Runs.{heads_of, innermost_of, visits_of}
use Rattle.tomex_loops.specs.Sound.{IsOneOf}
use Rattle.tomex_loops.proofs.EachRun.{loops_are_sound}
use Rattle.tomex_stretches.specs.Accounts.{own_in}
use Rattle.tomex_stretches.specs.Cycles.{is_key, sum_below, sum_where}
use Rattle.tomex_stretches.proofs.Keyed.{keys_add_up}
use Rattle.tomex_stretches.proofs.Totals.{length_floors, length_own, runs_add_up}
use Rattle.tomex_loop_sums.specs.ByLoop.{loops_of}
use Rattle.tomex_loop_views.specs.Laws.{LoopsAddUp}
use Rattle.tomex_loop_views.specs.LoopsReport.{AreLines, floors_of, keys_in}
use Rattle.tomex_loop_views.specs.Table.{Line}

-- a sum over a list, by the numbers of its items
sum_single : (f : Line → ℕ) (x : Line) → sum_by f (x ∷ []) ≡ f x
sum_single f x = omega arith

sum_push : (f : Line → ℕ) (xs : List Line) (x : Line) → sum_by f (xs ++ x ∷ []) ≡ sum_by f xs + f x
sum_push f xs x = sum_by-append f xs (x ∷ []) ∙ ap (λ (m : ℕ). sum_by f xs + m) (sum_single f x)

one : (k : ℕ) → suc k ≡ k + 1
one k = omega arith

sum_to : (f : Line → ℕ) (g : ℕ → ℕ) (xs : List Line) (d : Line) (k : ℕ) → k ≤ length xs
    → ((n : ℕ) (z : Line) → n < length xs → f (get_or xs n z) ≡ g n) → sum_by f (take k xs) ≡ sum_below k g
sum_to f g xs d zero few are = refl
sum_to f g xs d (suc k) few are =
    let more : take (suc k) xs ≡ take k xs ++ get_or xs k d ∷ [] =
    ap (λ (m : ℕ). take m xs) (one k) ∙ take_more xs k d (omega (arith, few)) in
    let before = sum_to f g xs d k (omega (arith, few)) are in
    let last = are k d (omega (arith, few)) in
    ap (λ (ys : List Line). sum_by f ys) more ∙ sum_push f (take k xs) (get_or xs k d)
    ∙ omega (arith, before, last)

sum_all : (f : Line → ℕ) (g : ℕ → ℕ) (xs : List Line)
    → ((n : ℕ) (z : Line) → n < length xs → f (get_or xs n z) ≡ g n) → sum_by f xs ≡ sum_below (length xs) g
sum_all f g [] are = refl
sum_all f g (x ∷ xs) are =
    ap (λ (ys : List Line). sum_by f ys) (sym (take_all (length (x ∷ xs)) (x ∷ xs) (omega arith)))
    ∙ sum_to f g (x ∷ xs) x (length (x ∷ xs)) (omega arith) are

-- the loop of a visit is one of those there are
key_low : (count : ℕ) (visits : List Visit) (o : Option ℕ) → All (λ (v : Visit). v.number < count) visits
    → IsOneOf (length visits) o → IfSome (option_map (slice_index (loops_of visits)) o) (λ n. n < count)
key_low count visits None low one = tt
key_low count visits (Some v) low one =
    All-get_or (λ (n : ℕ). n < count) (loops_of visits) v 0
    (omega (arith, one, length-map visits (λ (u : Visit). u.number)))
    (loops_low visits low)
  where
    loops_low : (vs : List Visit) → All (λ (v : Visit). v.number < count) vs
        → All (λ (n : ℕ). n < count) (loops_of vs)
    loops_low [] are = All-nil (λ (n : ℕ). n < count)
    loops_low (v ∷ vs) are = All-cons (λ (n : ℕ). n < count) v.number (loops_of vs)
        (All-head (λ (u : Visit). u.number < count) v vs are)
        (loops_low vs (All-tail (λ (u : Visit). u.number < count) v vs are))

pub keys_low : (count : ℕ) (visits : List Visit) (os : List (Option ℕ)) → All (λ (v : Visit). v.number < count) visits
    → All (IsOneOf (length visits)) os
    → All (λ (key : Option ℕ). IfSome key (λ n. n < count)) (map (option_map (slice_index (loops_of visits))) os)
keys_low count visits [] low are = All-nil (λ (key : Option ℕ). IfSome key (λ n. n < count))
keys_low count visits (o ∷ os) low are = All-cons (λ (key : Option ℕ). IfSome key (λ n. n < count)) _ _
    (key_low count visits o low (All-head (IsOneOf (length visits)) o os are))
    (keys_low count visits os low (All-tail (IsOneOf (length visits)) o os are))

-- one column
column : (file : List ℕ) (config : Configuration) (steps : List Step) (lines : List Line) (f : Line → ℕ)
    (numbers : List ℕ) → length numbers ≡ length steps → (are : AreLines file config steps lines)
    → ((n : ℕ) (z : Line) → n < length are.given
    → f (get_or are.given n z) ≡ sum_where (is_key n) (keys_in steps) numbers)
    → sum_by f lines + sum_where is_none (keys_in steps) numbers ≡ sum numbers
column file config steps lines f numbers many are each =
    let sound = loops_are_sound steps in
    let count : ℕ = length (heads_of steps) in
    let moved : sum_by f lines ≡ sum_by f are.given = sum_by-IsPermutation f are.given lines are.those in
    let all : sum_by f are.given ≡ sum_below (length are.given) (λ n. sum_where (is_key n) (keys_in steps) numbers) =
    sum_all f (λ n. sum_where (is_key n) (keys_in steps) numbers) are.given each in
    let these : sum_by f are.given ≡ sum_below count (λ n. sum_where (is_key n) (keys_in steps) numbers) =
    all ∙ ap (λ (k : ℕ). sum_below k (λ n. sum_where (is_key n) (keys_in steps) numbers)) are.many in
    let keyed = keys_add_up count (keys_in steps) numbers
    (length-map (innermost_of steps) _ ∙ sound.many_innermost ∙ sym many)
    (keys_low count (visits_of steps) (innermost_of steps) sound.loops sound.innermost) in
    omega (arith, moved, these, keyed)

pub loops_add_up : LoopsAddUp
loops_add_up config file steps lines outside total within are is_outside is_total =
    let own = column file config steps lines (λ l. l.sums.own) (own_in config steps) (length_own config steps) are
    (λ n z h. (are.are n z h).spent.own_is) in
    let floor = column file config steps lines (λ l. l.sums.floor) (floors_of config steps)
    (length_floors config steps (innermost_of steps) (loops_are_sound steps).many_innermost) are
    (λ n z h. (are.are n z h).spent.floor_is) in (
      omega (arith, own, is_outside.cycles, is_total.cycles, runs_add_up config steps within),
      omega (arith, floor, is_outside.floor, is_total.floor),
    )
