-- The parts of leaders can be weighed.
use Rattle.std.proofs.Common.{◌≡◌, ℕ, zero, suc, ◌+◌, ◌<◌, ◌≤◌, List, [], ◌∷◌, length, refl, sym, ◌∙◌, ap, arith}
use Rattle.std.proofs.Common.{subst, inl, inr, Bool, true, false, cond, count_by, fold, Option, Some, None}
use Rattle.std.proofs.lemmas.Bool.{eq-eqb, false≢true}
use Rattle.std.proofs.lemmas.List.{get_or-map, length-map}
use Rattle.std.proofs.lemmas.List.FromFn.{get_or-map-range_with_len, length-map-range_with_len}
use Rattle.std.proofs.lemmas.List.Sums.{count_by-le-length, sum_by-cons}
use Rattle.std.specs.Prelude.{◌⊎◌, ◌==◌, IsTrue, if◌then◌else◌, is_some, nat_lt, slice_index, slice_index_or}
use Rattle.std.specs.Prelude.{unwrap_or}
use Rattle.tomex_samples.specs.declared.stretches.Stretches.{Stretches}
use Rattle.tomex_samples.specs.declared.weights.Share.{Share}
use Rattle.tomex_samples.specs.Groups.{groups_of, members}
use Rattle.tomex_samples.specs.Leaders.{apart, count, nearer, nearest}
use Rattle.tomex_samples.specs.Near.{AllCan, part_is_found}
use Rattle.tomex_samples.specs.Parts.{share_of, shares_of}
use Rattle.tomex_samples.specs.Stretches.{Run, most_stretches}
use Rattle.tomex_samples.specs.Tallied.{AreOf}
use Rattle.tomex_samples.specs.Weighable.{AreLengths, AreShares, IsShare}
use Rattle.tomex_samples.proofs.Renewed.{found_inside}

-- a number that is chosen from some is one of them
record IsOneOf (ks : List ℕ) (k : ℕ) : Type 0 where
  pub place : ℕ
  pub inside : place < length ks
  pub is : slice_index ks place ≡ k

one_of : (f : ℕ → ℕ → ℕ) (l : ℕ) (ls : List ℕ) → ((a b : ℕ) → (f a b ≡ a) ⊎ (f a b ≡ b))
    → IsOneOf (l ∷ ls) (fold f l ls)
one_of f l [] either = record { place = 0; inside = omega arith; is = refl }
one_of f l (m ∷ ms) either =
    let r = one_of f (f l m) ms either in at r.place r.inside r.is (either l m)
  where
    at : (t : ℕ) → t < length (f l m ∷ ms) → slice_index (f l m ∷ ms) t ≡ fold f (f l m) ms
        → (f l m ≡ l) ⊎ (f l m ≡ m) → IsOneOf (l ∷ m ∷ ms) (fold f (f l m) ms)
    at zero less is (inl first) = record { place = 0; inside = omega arith; is = sym first ∙ is }
    at zero less is (inr second) = record { place = 1; inside = omega arith; is = sym second ∙ is }
    at (suc t) less is h = record { place = suc (suc t); inside = omega (arith, less); is = is }

nearest_one : (run : Run) (l : ℕ) (ls : List ℕ) (k : ℕ) → IsOneOf (l ∷ ls) (nearest run (l ∷ ls) k)
nearest_one run l ls k = one_of (nearer run k) l ls (λ a b. by a b (nat_lt (apart run k b) (apart run k a)))
  where
    by : (a b : ℕ) (c : Bool) → ((if c then b else a) ≡ a) ⊎ ((if c then b else a) ≡ b)
    by a b true = inr refl
    by a b false = inl refl

first_counts : (p : ℕ → Bool) (xs : List ℕ) → 0 < length xs → p (slice_index xs 0) ≡ true → 1 ≤ count_by p xs
first_counts p [] some is = absurd (omega (arith, some))
first_counts p (x ∷ xs) some is =
    by (p x) is (sum_by-cons (λ (y : ℕ). cond (p y) 1 0) x xs)
  where
    by : (b : Bool) → b ≡ true → count_by p (x ∷ xs) ≡ cond b 1 0 + count_by p xs → 1 ≤ count_by p (x ∷ xs)
    by true e sum = omega (arith, sum)
    by false e sum = absurd (false≢true e)

-- the part of a leader that can
share_is : (run : Run) (groups : List ℕ) (steps l : ℕ) → IsTrue (part_is_found run.parts l)
    → AreLengths run.parts → length groups ≤ most_stretches
    → IsShare (share_of run groups steps l)
share_is run groups steps l found lengths few = by (slice_index_or run.parts l None) refl found
  where
    most : members groups l ≤ length groups
    most = count_by-le-length (λ m. m == l) groups

    by : (o : Option ℕ) → slice_index_or run.parts l None ≡ o → IsTrue (is_some o)
        → IsShare (share_of run groups steps l)
    by (Some n) e h =
        let long = lengths l n e in
        let steps_are : (share_of run groups steps l).steps ≡ n = ap (λ (o : Option ℕ). unwrap_or o 0) e in
        record {
          some = omega (arith, steps_are, long.some);
          few = omega (arith, steps_are, long.few);
          not_many = omega (arith, most, few);
        }
    by None e h = absurd (false≢true h)

pub shares_are : (run : Run) (steps : ℕ) (leaders : List ℕ) → 0 < length leaders → AllCan run.parts leaders
    → AreLengths run.parts → count run ≤ most_stretches
    → AreShares (shares_of run steps leaders)
shares_are run steps [] some all lengths few = absurd (omega (arith, some))
shares_are run steps (l ∷ ls) some all lengths few =
    let o = nearest_one run l ls 0 in
    let share : Share = f (slice_index (l ∷ ls) o.place) in
    let within : o.place < length (shares_of run steps (l ∷ ls)) = omega (arith, size, o.inside) in
    record {
      each = λ k d h.
          let inside : k < length (l ∷ ls) = omega (arith, h, size) in
          subst (λ (s : Share). IsShare s) (sym (get_or-map f (l ∷ ls) k 0 d inside))
          (share_is run groups steps (slice_index (l ∷ ls) k) (all k inside) lengths (omega (arith, number, few)));
      some = (o.place, share, within, get_or-map f (l ∷ ls) o.place 0 share o.inside, counts o.place o.is);
    }
  where
    groups : List ℕ
    groups = groups_of run (l ∷ ls)

    f : ℕ → Share
    f = share_of run groups steps

    number : length groups ≡ count run
    number = length-map-range_with_len (nearest run (l ∷ ls)) 0 (count run)

    size : length (shares_of run steps (l ∷ ls)) ≡ length (l ∷ ls)
    size = length-map (l ∷ ls) f

    there : 0 < count run
    there = let inside = found_inside run.parts l (all 0 some) in omega (arith, inside)

    counts : (t : ℕ) → slice_index (l ∷ ls) t ≡ nearest run (l ∷ ls) 0
        → 1 ≤ members groups (slice_index (l ∷ ls) t)
    counts t is =
        let zero_and : 0 + 0 ≡ 0 = omega arith in
        let first : slice_index groups 0 ≡ nearest run (l ∷ ls) 0 =
        get_or-map-range_with_len (nearest run (l ∷ ls)) 0 (count run) 0 0 0 there zero_and in
        first_counts (λ m. m == slice_index (l ∷ ls) t) groups (omega (arith, number, there))
        (eq-eqb (slice_index groups 0) (slice_index (l ∷ ls) t) (first ∙ sym is))

-- of stretches that the code keeps
pub weighable : {A : Type 0} (run : Run) (r : Stretches A) → AreOf run r → (leaders : List ℕ) → 0 < length leaders
    → AllCan r.parts.items leaders → AreLengths r.parts.items → AreShares (shares_of run r.steps leaders)
weighable run r of leaders some all lengths =
    let number = ap length of.parts_are in
    shares_are run r.steps leaders some
    (subst (λ (ps : List (Option ℕ)). AllCan ps leaders) (sym of.parts_are) all)
    (subst (λ (ps : List (Option ℕ)). AreLengths ps) (sym of.parts_are) lengths)
    (omega (arith, number, of.not_many))
