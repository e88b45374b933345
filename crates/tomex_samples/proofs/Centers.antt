-- Centers of groups, one stretch after another.
use Rattle.std.proofs.Common.{◌≡◌, ℕ, zero, suc, ◌+◌, ◌*◌, ◌^◌, ◌<◌, ◌≤◌, List, [], ◌∷◌, length, take, refl, sym, ◌∙◌}
use Rattle.std.proofs.Common.{ap, arith, subst, add-one, Bool, true, false, cond, count_by, Option, Some, None}
use Rattle.std.proofs.lemmas.Bool.{le-ltb, lt-ltb}
use Rattle.std.proofs.lemmas.List.{get_or-map, get_or_read, take_all}
use Rattle.std.proofs.lemmas.List.FromFn.{fill_by_all}
use Rattle.std.proofs.lemmas.List.Sums.{count_by_more_no, count_by_more_yes, sum_by-cons}
use Rattle.std.specs.Prelude.{◌==◌, ◌&&◌, if◌then◌else◌, is_some, nat_lt, slice_index, slice_index_or, unwrap_or}
use Rattle.tomex_samples.specs.declared.nearness.Near.{Near}
use Rattle.tomex_samples.specs.Groups.{center, center_by, is_in, members}
use Rattle.tomex_samples.specs.Leaders.{can, count, counts_at}
use Rattle.tomex_samples.specs.Near.{AreGroupSums, leaders_in, near_at, no_leader}
use Rattle.tomex_samples.specs.Numbers.{beats, best_below, sum_below}
use Rattle.tomex_samples.specs.Stretches.{Run}
use Rattle.tomex_samples.proofs.Grouped.{share_at}
use Rattle.tomex_samples.proofs.Sums.{sum_same, sum_zero}

-- what the code keeps of the best number so far, and of how far it is
abbrev pub IsBest : (ℕ → ℕ) → ℕ → Option ℕ → Near → Type 0
IsBest far first None best = (best.leader ≡ first) × (best.distance ≡ 18446744073709551615)
IsBest far first (Some b) best = (best.leader ≡ b) × (best.distance ≡ far b)

-- of the numbers below n that pass a test the nearest
abbrev pub nearest_below : (ℕ → Bool) → (ℕ → ℕ) → ℕ → Option ℕ
nearest_below test far n = best_below test (λ j k. nat_lt (far j) (far k)) n

pub best_nearer : (test : ℕ → Bool) (far : ℕ → ℕ) (first k d : ℕ) (best : Near)
    → IsBest far first (nearest_below test far k) best → test k ≡ true → d ≡ far k → d < best.distance
    → IsBest far first (nearest_below test far (k + 1)) (record { leader = k; distance = d })
best_nearer test far first k d best is passes d_is less =
    subst (λ (n : ℕ). IsBest far first (nearest_below test far n) (record { leader = k; distance = d }))
    (sym (add-one k)) (at (nearest_below test far k) is)
  where
    at : (o : Option ℕ) → IsBest far first o best
        → IsBest far first (if test k && beats (λ i j. nat_lt (far i) (far j)) k o then Some k else o)
        (record { leader = k; distance = d })
    at None h =
        subst (λ (b : Bool). IsBest far first (if b && true then Some k else None)
        (record { leader = k; distance = d })) (sym passes) (refl, d_is)
    at (Some b) h =
        let beat : nat_lt (far k) (far b) ≡ true = lt-ltb (far k) (far b) (omega (arith, h.1)) in
        subst (λ (p : Bool). IsBest far first (if p && nat_lt (far k) (far b) then Some k else Some b)
        (record { leader = k; distance = d })) (sym passes)
        (subst (λ (p : Bool). IsBest far first (if p then Some k else Some b) (record { leader = k; distance = d }))
        (sym beat) (refl, d_is))

pub best_farther : (test : ℕ → Bool) (far : ℕ → ℕ) (first k d : ℕ) (best : Near)
    → IsBest far first (nearest_below test far k) best → test k ≡ true → d ≡ far k → d < 2 ^ 63 → best.distance ≤ d
    → IsBest far first (nearest_below test far (k + 1)) best
best_farther test far first k d best is passes d_is small more =
    subst (λ (n : ℕ). IsBest far first (nearest_below test far n) best) (sym (add-one k))
    (at (nearest_below test far k) is)
  where
    at : (o : Option ℕ) → IsBest far first o best
        → IsBest far first (if test k && beats (λ i j. nat_lt (far i) (far j)) k o then Some k else o) best
    at None h = absurd (omega (arith, h.1, small, more))
    at (Some b) h =
        let fails_now : nat_lt (far k) (far b) ≡ false = le-ltb (far k) (far b) (omega (arith, h.1)) in
        subst (λ (p : Bool). IsBest far first (if p && nat_lt (far k) (far b) then Some k else Some b) best)
        (sym passes)
        (subst (λ (p : Bool). IsBest far first (if p then Some k else Some b) best) (sym fails_now) h)

pub best_other : (test : ℕ → Bool) (far : ℕ → ℕ) (first k : ℕ) (best : Near)
    → IsBest far first (nearest_below test far k) best → test k ≡ false
    → IsBest far first (nearest_below test far (k + 1)) best
best_other test far first k best is fails =
    subst (λ (n : ℕ). IsBest far first (nearest_below test far n) best) (sym (add-one k))
    (subst (λ (b : Bool). IsBest far first
    (if b && beats (λ i j. nat_lt (far i) (far j)) k (nearest_below test far k) then Some k else
    nearest_below test far k) best) (sym fails) is)

pub best_is : (far : ℕ → ℕ) (first : ℕ) (o : Option ℕ) (best : Near) → IsBest far first o best
    → best.leader ≡ unwrap_or o first
best_is far first None best h = h.0
best_is far first (Some b) best h = h.0

-- a stretch can and is in a group, by what is read
pub can_is : (run : Run) (parts : List (Option ℕ)) (k : ℕ) (o : Option ℕ) → run.parts ≡ parts → k < length parts
    → o ≡ slice_index_or parts k o → can run k ≡ is_some o
can_is run parts k o same within read =
    ap (λ (ps : List (Option ℕ)). is_some (slice_index_or ps k None)) same
    ∙ ap is_some (sym (get_or_read parts k o within read None))

pub is_in_is : (near : List Near) (l k : ℕ) (r : Near) → k < length near → r ≡ slice_index_or near k r
    → is_in (leaders_in near) l k ≡ (r.leader == l)
is_in_is near l k r within read =
    ap (λ m. m == l) (get_or-map (λ (x : Near). x.leader) near k r 0 within ∙ ap (λ (x : Near). x.leader) (sym read))

-- sums of two values
sum_of_two : (f g : ℕ → ℕ) (n : ℕ) → sum_below (λ k. f k + g k) n ≡ sum_below f n + sum_below g n
sum_of_two f g zero = refl
sum_of_two f g (suc n) = let rest = sum_of_two f g n in omega (arith, rest)

-- sums of sums, in either order
sum_exchange : (f : ℕ → ℕ → ℕ) (m n : ℕ)
    → sum_below (λ w. sum_below (f w) n) m ≡ sum_below (λ k. sum_below (λ w. f w k) m) n
sum_exchange f zero n = sym (sum_zero (λ k. 0) n (λ k h. refl))
sum_exchange f (suc m) n =
    ap (λ s. s + sum_below (f m) n) (sum_exchange f m n)
    ∙ sym (sum_of_two (λ k. sum_below (λ w. f w k) m) (f m) n)

-- the steps of a group's stretches are its members times the steps of each
members_steps : (near : List Near) (leader steps n : ℕ) → n ≤ length near
    → sum_below (λ k. if (near_at near k).leader == leader then steps else 0) n
    ≡ count_by (λ (x : Near). x.leader == leader) (take n near) * steps
members_steps near leader steps zero few = let none : 0 ≡ 0 * steps = omega arith in none
members_steps near leader steps (suc n) few =
    by ((near_at near n).leader == leader) refl (members_steps near leader steps n (omega arith))
  where
    by : (b : Bool) → ((near_at near n).leader == leader) ≡ b
        → sum_below (λ k. if (near_at near k).leader == leader then steps else 0) n
        ≡ count_by (λ (x : Near). x.leader == leader) (take n near) * steps
        → sum_below (λ k. if (near_at near k).leader == leader then steps else 0) n
        + (if (near_at near n).leader == leader then steps else 0)
        ≡ count_by (λ (x : Near). x.leader == leader) (take (suc n) near) * steps
    by true e rest =
        let here : (if (near_at near n).leader == leader then steps else 0) ≡ steps =
        ap (λ (b : Bool). if b then steps else 0) e in
        let more = count_by_more_yes (λ (x : Near). x.leader == leader) near n no_leader (omega arith) e in
        let next : count_by (λ (x : Near). x.leader == leader) (take (suc n) near)
        ≡ count_by (λ (x : Near). x.leader == leader) (take n near) + 1 =
        ap (λ m. count_by (λ (x : Near). x.leader == leader) (take m near)) (sym (add-one n)) ∙ more in
        let all = ap (λ m. m * steps) next in
        omega (arith, here, rest, all)
    by false e rest =
        let here : (if (near_at near n).leader == leader then steps else 0) ≡ 0 =
        ap (λ (b : Bool). if b then steps else 0) e in
        let more = count_by_more_no (λ (x : Near). x.leader == leader) near n no_leader (omega arith) e in
        let next : count_by (λ (x : Near). x.leader == leader) (take (suc n) near)
        ≡ count_by (λ (x : Near). x.leader == leader) (take n near) =
        ap (λ m. count_by (λ (x : Near). x.leader == leader) (take m near)) (sym (add-one n)) ∙ more in
        let all = ap (λ m. m * steps) next in
        omega (arith, here, rest, all)

-- all sums together
pub group_steps : (run : Run) (near : List Near) (leader steps words : ℕ) (sums : List ℕ)
    → AreGroupSums run near leader (length near) sums → length sums ≡ words
    → ((k : ℕ) → k < length near → sum_below (λ w. slice_index (counts_at run k) w) words ≡ steps)
    → sum_below (λ w. slice_index sums w) (length sums) ≡ count_by (λ (x : Near). x.leader == leader) near * steps
group_steps run near leader steps words sums are size each =
    ap (sum_below (λ w. slice_index sums w)) size
    ∙ (sum_same (λ w. slice_index sums w) (λ w. sum_below (share_at run near leader w) (length near)) words
    (λ w h. are.each w)
    ∙ (sum_exchange (share_at run near leader) words (length near)
    ∙ (sum_same (λ k. sum_below (λ w. share_at run near leader w k) words)
    (λ k. if (near_at near k).leader == leader then steps else 0) (length near)
    (λ k h. by k ((near_at near k).leader == leader) (each k h))
    ∙ (members_steps near leader steps (length near) (omega arith)
    ∙ ap (λ xs. count_by (λ (x : Near). x.leader == leader) xs * steps) (take_all (length near) near (omega arith))))))
  where
    by : (k : ℕ) (b : Bool) → sum_below (λ w. slice_index (counts_at run k) w) words ≡ steps
        → sum_below (λ w. if b then slice_index (counts_at run k) w else 0) words ≡ (if b then steps else 0)
    by k true h = h
    by k false h = sum_zero (λ w. 0) words (λ w less. refl)

count_of_leaders : (near : List Near) (l : ℕ)
    → members (leaders_in near) l ≡ count_by (λ (x : Near). x.leader == l) near
count_of_leaders [] l = refl
count_of_leaders (x ∷ xs) l =
    sum_by-cons (λ m. cond (m == l) 1 0) x.leader (leaders_in xs)
    ∙ (ap (λ n. cond (x.leader == l) 1 0 + n) (count_of_leaders xs l)
    ∙ sym (sum_by-cons (λ (y : Near). cond (y.leader == l) 1 0) x xs))

-- the center by what the code computes
pub center_is : (run : Run) (near : List Near) (l times words : ℕ) (sums : List ℕ)
    → times ≡ count_by (λ (x : Near). x.leader == l) near → AreGroupSums run near l (length near) sums
    → length sums ≡ words → length (counts_at run l) ≡ words → length near ≡ count run
    → center_by run (leaders_in near) l times sums ≡ center run (leaders_in near) l
center_is run near l times words sums times_are are size counts number =
    ap (λ n. center_by run (leaders_in near) l n sums) (times_are ∙ sym (count_of_leaders near l))
    ∙ ap (center_by run (leaders_in near) l (members (leaders_in near) l))
    (fill_by_all
    (λ w. sum_below (λ k. if is_in (leaders_in near) l k then slice_index (counts_at run k) w else 0) (count run))
    sums (length (counts_at run l)) 0 (size ∙ sym counts)
    (λ w h. are.each w ∙ (sum_same (share_at run near l w)
    (λ k. if is_in (leaders_in near) l k then slice_index (counts_at run k) w else 0) (length near)
    (λ k less. ap (λ (b : Bool). if b then slice_index (counts_at run k) w else 0)
    (ap (λ m. m == l) (sym (get_or-map (λ (x : Near). x.leader) near k no_leader 0 less))))
    ∙ ap (sum_below (λ k. if is_in (leaders_in near) l k then slice_index (counts_at run k) w else 0)) number)))
