-- The first leaders can, and there is one.
use Rattle.std.proofs.Common.{◌≡◌, ℕ, zero, suc, ◌<◌, ◌≤◌, List, [], ◌∷◌, ◌++◌, length, refl, sym, arith}
use Rattle.std.proofs.Common.{subst, Bool, true, false, Option, Some, None, append-nil}
use Rattle.std.proofs.lemmas.List.{length-append}
use Rattle.std.specs.Prelude.{◌&&◌, IsTrue, if◌then◌else◌, nat_lt, option_to_list, slice_index}
use Rattle.tomex_samples.specs.Leaders.{and_farthest, away, can, count, farthest, in_order}
use Rattle.tomex_samples.specs.Near.{AllCan, part_is_found}
use Rattle.tomex_samples.specs.Numbers.{beats, best_below}
use Rattle.tomex_samples.specs.Stretches.{Run}
use Rattle.tomex_samples.proofs.Renewed.{can_more, found_inside, order_passes, order_some}

left_true : (a b : Bool) → (a && b) ≡ true → a ≡ true
left_true true b h = refl
left_true false b h = h

-- the best number passes the test
best_passes : (test : ℕ → Bool) (better : ℕ → ℕ → Bool) (n k : ℕ) → best_below test better n ≡ Some k → test k ≡ true
best_passes test better zero k is = cc
best_passes test better (suc n) k is =
    by (λ before. best_passes test better n k before) (test n && beats better n (best_below test better n)) refl is
  where
    by : (best_below test better n ≡ Some k → test k ≡ true) → (b : Bool)
        → (test n && beats better n (best_below test better n)) ≡ b
        → (if b then Some n else best_below test better n) ≡ Some k → test k ≡ true
    by rest true e h =
        let same : n ≡ k = cc in
        subst (λ (m : ℕ). test m ≡ true) same (left_true (test n) (beats better n (best_below test better n)) e)
    by rest false e h = rest h

farthest_can : (run : Run) (leaders : List ℕ) (k : ℕ) → farthest run leaders ≡ Some k
    → IsTrue (part_is_found run.parts k)
farthest_can run leaders k is =
    left_true (can run k) (nat_lt 0 (away run leaders k))
    (best_passes (λ j. can run j && nat_lt 0 (away run leaders j))
    (λ i j. nat_lt (away run leaders j) (away run leaders i)) (count run) k is)

spread_can : (run : Run) (n : ℕ) (ks : List ℕ) → AllCan run.parts ks → AllCan run.parts (and_farthest run n ks)
unfolding and_farthest
spread_can run zero ks all = all
spread_can run (suc n) ks all = spread_can run n (ks ++ option_to_list (farthest run ks)) (by (farthest run ks) refl)
  where
    by : (o : Option ℕ) → farthest run ks ≡ o → AllCan run.parts (ks ++ option_to_list o)
    by None e = subst (λ (xs : List ℕ). AllCan run.parts xs) (sym (append-nil ks)) all
    by (Some k) e = can_more run.parts ks k all (farthest_can run ks k e)

spread_long : (run : Run) (n : ℕ) (ks : List ℕ) → length ks ≤ length (and_farthest run n ks)
unfolding and_farthest
spread_long run zero ks = omega arith
spread_long run (suc n) ks =
    let rest = spread_long run n (ks ++ option_to_list (farthest run ks)) in
    let more = length-append ks (option_to_list (farthest run ks)) in
    omega (arith, rest, more)

pub order_can : (parts : List (Option ℕ)) (ks : List ℕ) → AllCan parts ks → AllCan parts (in_order (length parts) ks)
order_can parts ks all = order_passes (part_is_found parts) (length parts) ks all

pub order_long : (parts : List (Option ℕ)) (ks : List ℕ) → 0 < length ks → AllCan parts ks
    → 0 < length (in_order (length parts) ks)
order_long parts ks some all =
    order_some (length parts) ks 0 some (found_inside parts (slice_index ks 0) (all 0 some))

-- the farthest from each other
pub far_can : (run : Run) (parts : List (Option ℕ)) (n first : ℕ) → run.parts ≡ parts
    → IsTrue (part_is_found parts first) → AllCan parts (and_farthest run n (first ∷ []))
far_can run parts n first same found =
    subst (λ (ps : List (Option ℕ)). AllCan ps (and_farthest run n (first ∷ []))) same
    (spread_can run n (first ∷ []) (at (subst (λ (ps : List (Option ℕ)). IsTrue (part_is_found ps first)) (sym same)
    found)))
  where
    at : IsTrue (part_is_found run.parts first) → AllCan run.parts (first ∷ [])
    at h zero less = h
    at h (suc t) less = absurd (omega (arith, less))

pub far_some : (run : Run) (n first : ℕ) → 0 < length (and_farthest run n (first ∷ []))
far_some run n first = let long = spread_long run n (first ∷ []) in omega (arith, long)
