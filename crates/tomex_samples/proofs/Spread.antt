-- Leaders, one after another.
use Rattle.std.proofs.Common.{◌≡◌, ℕ, zero, suc, ◌+◌, ◌-◌, ◌<◌, List, [], ◌∷◌, ◌++◌, length, refl, sym, ◌∙◌, ap, arith}
use Rattle.std.proofs.Common.{subst, Bool, true, false, Option, Some, None, append-nil}
use Rattle.std.proofs.lemmas.List.{get_or-replicate, length-replicate}
use Rattle.std.specs.Prelude.{◌&&◌, IfSome, if◌then◌else◌, nat_lt, option_to_list, replicate}
use Rattle.tomex_samples.specs.declared.nearness.Near.{Near}
use Rattle.tomex_samples.specs.Leaders.{and_farthest, away, can, count, farthest}
use Rattle.tomex_samples.specs.Near.{AreNearest, farthest_by, near_at, no_leader}
use Rattle.tomex_samples.specs.Numbers.{beats, best_below}
use Rattle.tomex_samples.specs.Stretches.{Run}

-- what is best is below the number
pub best_inside : (test : ℕ → Bool) (better : ℕ → ℕ → Bool) (n : ℕ) → IfSome (best_below test better n) (λ k. k < n)
best_inside test better zero = tt
best_inside test better (suc n) =
    at (test n && beats better n (best_below test better n)) (best_below test better n) (best_inside test better n)
  where
    at : (b : Bool) (o : Option ℕ) → IfSome o (λ k. k < n) → IfSome (if b then Some n else o) (λ k. k < suc n)
    at true o h = omega arith
    at false (Some k) h = omega arith
    at false None h = tt

-- the best by equal tests
pub best_same : (test other : ℕ → Bool) (better more : ℕ → ℕ → Bool) (n : ℕ)
    → ((k : ℕ) → k < n → test k ≡ other k) → ((j k : ℕ) → j < n → k < n → better j k ≡ more j k)
    → best_below test better n ≡ best_below other more n
best_same test other better more zero same alike = refl
best_same test other better more (suc n) same alike =
    at (best_below test better n) (best_inside test better n) refl
    (best_same test other better more n (λ k h. same k (omega arith)) (λ j k a b. alike j k (omega arith) (omega
    arith)))
  where
    beat : (o : Option ℕ) → IfSome o (λ k. k < n) → beats better n o ≡ beats more n o
    beat None h = refl
    beat (Some k) h = alike n k (omega arith) (omega arith)

    at : (o : Option ℕ) → IfSome o (λ k. k < n) → best_below test better n ≡ o
        → best_below test better n ≡ best_below other more n
        → (if test n && beats better n (best_below test better n) then Some n else best_below test better n)
        ≡ (if other n && beats more n (best_below other more n) then Some n else best_below other more n)
    at o h is rest =
        ap (λ (p : Option ℕ). if test n && beats better n p then Some n else p) is
        ∙ (ap (λ (b : Bool). if b && beats better n o then Some n else o) (same n (omega arith))
        ∙ (ap (λ (b : Bool). if other n && b then Some n else o) (beat o h)
        ∙ ap (λ (p : Option ℕ). if other n && beats more n p then Some n else p) (sym is ∙ rest)))

-- the farthest by what the code keeps
pub farthest_is : (run : Run) (parts : List (Option ℕ)) (near : List Near) (leaders others : List ℕ) (l : ℕ)
    → run.parts ≡ parts → leaders ≡ l ∷ others → AreNearest run leaders near
    → farthest_by parts near (length parts) ≡ farthest run leaders
farthest_is run parts near leaders others l same starts a =
    ap (λ ps. farthest_by ps near (length ps)) (sym same)
    ∙ (best_same (λ k. can run k && nat_lt 0 (near_at near k).distance)
    (λ k. can run k && nat_lt 0 (away run (l ∷ others) k))
    (λ j k. nat_lt (near_at near k).distance (near_at near j).distance)
    (λ j k. nat_lt (away run (l ∷ others) k) (away run (l ∷ others) j)) (count run)
    (λ k h. ap (λ d. can run k && nat_lt 0 d) (far k h))
    (λ j k a b. ap (λ d. nat_lt d (near_at near j).distance) (far k b) ∙ ap (λ d. nat_lt (away run (l ∷ others) k) d)
    (far j a))
    ∙ ap (farthest run) (sym starts))
  where
    far : (k : ℕ) → k < count run → (near_at near k).distance ≡ away run (l ∷ others) k
    far k h = let b = subst (λ (ls : List ℕ). AreNearest run ls near) starts a in let e = b.each k h in e.1

-- no leader so far
pub nearest_none : (run : Run) (near : List Near) (n : ℕ) → near ≡ replicate n no_leader → count run ≡ n
    → AreNearest run [] near
nearest_none run near n is all = record {
  number = ap length is ∙ (length-replicate n no_leader ∙ sym all);
  each = λ k h.
      ap (λ (x : Near). x.distance)
      (ap (λ ns. near_at ns k) is ∙ get_or-replicate n k no_leader no_leader (omega arith));
}

-- with no farthest there are no more
pub all_spread : (run : Run) (n : ℕ) (leaders : List ℕ) → farthest run leaders ≡ None
    → and_farthest run n leaders ≡ leaders
unfolding and_farthest
all_spread run zero leaders none = refl
all_spread run (suc n) leaders none =
    ap (λ (o : Option ℕ). and_farthest run n (leaders ++ option_to_list o)) none
    ∙ (ap (and_farthest run n) (append-nil leaders) ∙ all_spread run n leaders none)

-- the same by what the code reads
pub farthest_from : (run : Run) (parts read : List (Option ℕ)) (near seen : List Near) (leaders others : List ℕ) (l : ℕ)
    (o : Option ℕ) → o ≡ farthest_by read seen (length read) → read ≡ parts → seen ≡ near → run.parts ≡ parts
    → leaders ≡ l ∷ others → AreNearest run leaders near → farthest run leaders ≡ o
farthest_from run parts read near seen leaders others l o is same_parts same_near parts_are starts a =
    sym (is ∙ (ap (λ ps. farthest_by ps seen (length ps)) same_parts
    ∙ (ap (λ ns. farthest_by parts ns (length parts)) same_near
    ∙ farthest_is run parts near leaders others l parts_are starts a)))

pub rest_more : (run : Run) (done next : ℕ) (leaders more : List ℕ) → done < 7 → farthest run leaders ≡ Some next
    → more ≡ leaders ++ next ∷ [] → and_farthest run (7 - (done + 1)) more ≡ and_farthest run (7 - done) leaders
unfolding and_farthest
rest_more run done next leaders more few is longer =
    let e : 7 - done ≡ suc (7 - (done + 1)) = omega arith in
    sym (ap (λ n. and_farthest run n leaders) e
    ∙ (ap (λ (o : Option ℕ). and_farthest run (7 - (done + 1)) (leaders ++ option_to_list o)) is
    ∙ ap (and_farthest run (7 - (done + 1))) (sym longer)))

pub no_more : (run : Run) (n : ℕ) (leaders : List ℕ) → n ≡ 0 → and_farthest run n leaders ≡ leaders
unfolding and_farthest
no_more run n leaders none = ap (λ k. and_farthest run k leaders) none
