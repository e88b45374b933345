-- Steps are counted by ones, and by the loop that they are in.
use Rattle.std.proofs.Common.{ℕ, ◌+◌, ◌<◌, ◌≤◌, ◌≡◌, ◌∙◌, ap, arith, sym}
use Rattle.std.proofs.Common.{List, Option, Some, None, length, get_or, map, sum, take}
use Rattle.std.specs.Prelude.{All, IfSome, if◌then◌else◌, is_none, slice_index}
use Rattle.std.specs.Option.{option_map}
use Rattle.std.proofs.lemmas.List.{get_or-map, length-map}
use Rattle.std.proofs.lemmas.List.Elements.{All-map}
use Rattle.std.proofs.lemmas.List.Sums.{sum_by-le}
use Rattle.tomex_loops.specs.declared.visit.Visit.{Visit}
use Rattle.tomex_loops.specs.Sound.{IsOneOf}
use Rattle.tomex_stretches.specs.Cycles.{sum_where}
use Rattle.tomex_stretches.proofs.Keyed.{where_more}
use Rattle.tomex_loop_sums.specs.ByLoop.{keys_of, loops_of, spans_by}
use Rattle.tomex_loop_sums.specs.Spans.{sum_in}

-- one more step, which may be outside of all loops
pub without_more : (keys : List (Option ℕ)) (i : ℕ) (d : Option ℕ) → i < length keys
    → sum_where is_none (take (i + 1) keys) (take (i + 1) (map (λ k. 1) keys))
    ≡ sum_where is_none (take i keys) (take i (map (λ k. 1) keys)) + (if is_none (get_or keys i d) then 1 else 0)
without_more keys i d l =
    where_more is_none keys (map (λ k. 1) keys) i d (sym (length-map keys (λ k. 1))) l
    ∙ ap (λ (n : ℕ). sum_where is_none (take i keys) (take i (map (λ k. 1) keys))
    + (if is_none (get_or keys i d) then n else 0)) (get_or-map (λ (k : Option ℕ). 1) keys i d 0 l)

pub sum_ones : {X : Type 0} (xs : List X) → sum (map (λ x. 1) xs) ≤ length xs
sum_ones xs =
    let few = sum_by-le (λ (n : ℕ). n) 1 (map (λ x. 1) xs) (All-map (λ (n : ℕ). n ≤ 1) (λ x. 1) xs
    (λ i d l. omega arith)) in
    omega (arith, few, length-map {B = ℕ} xs (λ x. 1))

one_low : (count : ℕ) (visits : List Visit) (o : Option ℕ) → All (λ v. v.number < count) visits
    → IsOneOf (length visits) o → IfSome (option_map (slice_index (loops_of visits)) o) (λ n. n < count)
one_low count visits None small is = tt
one_low count visits (Some v) small is =
    All-map (λ n. n < count) (λ v. v.number) visits small v 0 (omega (arith, is, length-map visits (λ v. v.number)))

-- the loop of each step is one of those there are
pub keys_low : (count : ℕ) (visits : List Visit) (innermost : List (Option ℕ)) → All (λ v. v.number < count) visits
    → All (IsOneOf (length visits)) innermost → All (λ key. IfSome key (λ n. n < count)) (keys_of visits innermost)
keys_low count visits innermost small are =
    All-map (λ key. IfSome key (λ n. n < count)) (option_map (slice_index (loops_of visits))) innermost
    (λ i d l. one_low count visits (get_or innermost i d) small (are i d l))

-- sums over the same numbers
pub same_sum : (n x m : ℕ) (visits : List Visit) (ends : List (Option ℕ)) (xs ys : List ℕ)
    → x ≡ sum_in n (spans_by (length xs) visits ends) xs → xs ≡ ys → length ys ≡ m
    → x ≡ sum_in n (spans_by m visits ends) ys
same_sum n x m visits ends xs ys is same many =
    is ∙ ap (λ (zs : List ℕ). sum_in n (spans_by (length zs) visits ends) zs) same
    ∙ ap (λ (k : ℕ). sum_in n (spans_by k visits ends) ys) many
