-- After steps that are the same, histories that look alike look alike again.
use Rattle.std.proofs.Common.{ℕ, zero, suc, ◌+◌, ◌-◌, ◌<◌, ◌≤◌, ◌≡◌, ◌∙◌, Bool, true, false, arith, refl, ap, inl, inr}
use Rattle.std.proofs.Common.{List, ◌∷◌, nat_lt, nat_le, ◌&&◌, max, is_some, ◌==◌, cond}
use Rattle.std.proofs.lemmas.Bool.{cases_Bool, cases_order}
use Rattle.tomex_rvdec.specs.Operands.{unit_at}
use Rattle.tomex_rvdec.specs.declared.pool.PoolId.{PoolId}
use Rattle.tomex_rvdec.specs.declared.pool.UnitId.{UnitId}
use Rattle.tomex_rvexec.specs.Steps.{step_pool, step_unit, step_dest, is_branch, is_in, is_number}
use Rattle.tomex_rvexec.specs.declared.step.Step.{Step}
use Rattle.tomex_config.specs.Configuration.{Configuration, IsWithinLimits}
use Rattle.tomex_timing.specs.Ahead.{one}
use Rattle.tomex_timing.specs.declared.times.Done.{Done}
use Rattle.tomex_timing.specs.declared.times.Times.{Times}
use Rattle.tomex_timing.specs.History.{is_of, is_memory, last_address, greatest_end, writer_end}
use Rattle.tomex_timing.specs.Recurrence.{IsTimed, AreTimed}
use Rattle.tomex_timing.specs.Station.{is_free, is_held}
use Rattle.tomex_timing.proofs.Width.{none_later}
use Rattle.tomex_timing.specs.Issue.{branch_finish, first_after_branches, first_issue, slot_from}
use Rattle.tomex_timing.proofs.Orders.{last_address_rises}
use Rattle.tomex_alike.specs.Alike.{first_access, lateness}
use Rattle.tomex_alike.specs.Alike.{issued_in, starts_in, results_in, IsAsFar, AreAsFar, LooksLike, IsSameStep}
use Rattle.tomex_alike.specs.Laws.{done}
use Rattle.tomex_alike.proofs.Accesses.{skip_access, finish_of}
use Rattle.tomex_alike.proofs.Issue.{free_alike, slot_low}
use Rattle.tomex_alike.proofs.Shift.{count_far, eq_far, le_far, later_far, rest_far}
use Rattle.tomex_alike.proofs.Start.{address_far, times_alike}

-- if two issues are as far, so are the next slots, whether or not these are in the same cycle
slot_case : (n m i j : ℕ) → IsAsFar n m i j → (b : Bool)
    → IsAsFar n m (cond b i (i + 1)) (cond b j (j + 1))
slot_case n m i j far true = far
slot_case n m i j far false = later_far n m i j 1 far

module _ (config : Configuration) (w : ℕ) (g h : List Done) (good : IsWithinLimits config) (in_g : AreTimed config g)
    (in_h : AreTimed config h) (like : LooksLike config w g h) where
  pub issued_far : (s t : ℕ) → IsAsFar (first_issue config g) (first_issue config h) s t → issued_in g s ≡ issued_in h t
  issued_far s t far = elim (cases_order (first_issue config g) s) [
    | inl e ↦
        let f : first_issue config h ≡ t = omega (arith, far.second, far.far) in
        rw (← e, ← f) like.issued
    | inr (inl l) ↦
        let i = slot_low config g in
        let j = slot_low config h in
        rw (
          none_later config g s in_g (omega (arith, i)),
          none_later config h t in_h (omega (arith, far.second, far.far)),
        ) refl
    | inr (inr l) ↦ absurd (omega (arith, far.first))
  ]

  module _ (x y : Step) (same : IsSameStep w g h x y) (a b : Times) (p : IsTimed config g x a)
      (q : IsTimed config h y b) where
    pub far : AreAsFar (first_issue config g) (first_issue config h) a b
    far = times_alike config w g h good in_g in_h like x y same a b p q

    issued_more : (s t : ℕ) → IsAsFar (first_issue config g) (first_issue config h) s t
        → issued_in (done x a ∷ g) s ≡ issued_in (done y b ∷ h) t
    issued_more s t f =
        count_far (λ d. d.at.issue == s) (λ d. d.at.issue == t) (done x a) (done y b) g h
        (eq_far _ _ a.issue b.issue s t far.issue f) (issued_far s t f)

    slot_far : IsAsFar (first_issue config g) (first_issue config h) (slot_from config (done x a ∷ g))
        (slot_from config (done y b ∷ h))
    slot_far =
        let c = issued_more a.issue b.issue far.issue in
        rw c (slot_case _ _ a.issue b.issue far.issue
        (nat_lt (issued_in (done y b ∷ h) b.issue) config.width))

    branch_far : branch_finish (done x a ∷ g) + 1 - first_issue config g
        ≡ branch_finish (done y b ∷ h) + 1 - first_issue config h
    branch_far = elim (cases_Bool (is_branch x)) [
      | inl e ↦
          let e' : is_branch y ≡ true = rw same.pool at e in
          rw (e, e') (branches a.finish b.finish (branch_finish g) (branch_finish h) (slot_from config g)
          (slot_from config h) far.finish)
      | inr e ↦
          let e' : is_branch y ≡ false = rw same.pool at e in
          rw (e, e') (none (branch_finish g) (branch_finish h) (slot_from config g) (slot_from config h))
    ]
      where
        branches : (f k b c s t : ℕ) → IsAsFar (max s (b + 1)) (max t (c + 1)) f k
            → max f b + 1 - max s (b + 1) ≡ max k c + 1 - max t (c + 1)
        branches f k b c s t far = omega (arith, far.first, far.second, far.far)

        none : (b c s t : ℕ) → b + 1 - max s (b + 1) ≡ c + 1 - max t (c + 1)
        none b c s t = omega arith

    -- the new first issues are as far after the old ones
    pub first_far : IsAsFar (first_issue config g) (first_issue config h) (first_issue config (done x a ∷ g))
        (first_issue config (done y b ∷ h))
    first_far = first_of_parts _ _ _ _ _ _ slot_far branch_far
      where
        first_of_parts : (n m s t b c : ℕ) → IsAsFar n m s t → b + 1 - n ≡ c + 1 - m
            → IsAsFar n m (max s (b + 1)) (max t (c + 1))
        first_of_parts n m s t b c f e = record {
          first = omega (arith, f.first);
          second = omega (arith, f.second);
          far = omega (arith, f.first, f.second, f.far);
        }

    from_far : (t : ℕ) → IsAsFar (first_issue config g) (first_issue config h)
        (first_issue config (done x a ∷ g) + t) (first_issue config (done y b ∷ h) + t)
    from_far t = later_far _ _ _ _ t first_far

    issued_again : issued_in (done x a ∷ g) (first_issue config (done x a ∷ g))
        ≡ issued_in (done y b ∷ h) (first_issue config (done y b ∷ h))
    issued_again = issued_more _ _ first_far

    width_again : first_issue config (done x a ∷ g) - first_after_branches (done x a ∷ g)
        ≡ first_issue config (done y b ∷ h) - first_after_branches (done y b ∷ h)
    width_again =
        width_parts (first_issue config g) (first_issue config h) _ _ _ _ a.issue b.issue (omega arith) (omega arith)
        slot_far branch_far far.issue
      where
        width_parts : (n m s t b c i j : ℕ) → 0 < n → 0 < m → IsAsFar n m s t → b + 1 - n ≡ c + 1 - m
            → IsAsFar n m i j
            → max s (b + 1) - max (max 1 i) (b + 1) ≡ max t (c + 1) - max (max 1 j) (c + 1)
        width_parts n m s t b c i j l k f e r =
            let u : max 1 i ≡ i = omega (arith, r.first) in
            let v : max 1 j ≡ j = omega (arith, r.second) in
            rw (u, v) (inner n m s t b c i j f e r)
          where
            inner : (n m s t b c i j : ℕ) → IsAsFar n m s t → b + 1 - n ≡ c + 1 - m → IsAsFar n m i j
                → max s (b + 1) - max i (b + 1) ≡ max t (c + 1) - max j (c + 1)
            inner n m s t b c i j f e r = omega (arith, f.first, f.second, f.far, r.first, r.second, r.far)

    end_again : greatest_end (done x a ∷ g) + 1 - first_issue config (done x a ∷ g)
        ≡ greatest_end (done y b ∷ h) + 1 - first_issue config (done y b ∷ h)
    end_again = rest_far _ _ _ _ _ _ (end_parts _ _ _ _ _ _ like.end far.end) first_far
      where
        end_parts : (n m u v i j : ℕ) → u + 1 - n ≡ v + 1 - m → IsAsFar n m i j
            → max i u + 1 - n ≡ max j v + 1 - m
        end_parts n m u v i j e f = omega (arith, f.first, f.second, f.far)

    address_more : last_address (done x a ∷ g) - first_issue config g
        ≡ last_address (done y b ∷ h) - first_issue config h
    address_more = elim (cases_Bool (is_memory x)) [
      | inl e ↦
          let e' : is_memory y ≡ true = rw same.pool at e in
          rw (e, e') (address_far config w g h good in_g in_h like x y same a b p q)
      | inr e ↦ let e' : is_memory y ≡ false = rw same.pool at e in rw (e, e') like.address
    ]

    ends_more : (r : ℕ) → writer_end (done x a ∷ g) r - first_issue config g
        ≡ writer_end (done y b ∷ h) r - first_issue config h
    ends_more r = elim (cases_Bool (is_number (step_dest x) r)) [
      | inl e ↦ let e' : is_number (step_dest y) r ≡ true = rw same.dest at e in rw (e, e') far.end.far
      | inr e ↦ let e' : is_number (step_dest y) r ≡ false = rw same.dest at e in rw (e, e') (like.ends r)
    ]

    held_new : (pool : PoolId) (t : ℕ) → is_held pool (first_issue config (done x a ∷ g) + t) (done x a)
        ≡ is_held pool (first_issue config (done y b ∷ h) + t) (done y b)
    held_new pool t =
        ap (λ c. is_in pool (step_pool x) && c) (le_far _ _ a.end b.end _ _ far.end (from_far t))
        ∙ ap (λ o. is_in pool o && nat_le (first_issue config (done y b ∷ h) + t) b.end) same.pool

    free_again : (pool : PoolId) (t k : ℕ) → is_free pool (done x a ∷ g) (first_issue config (done x a ∷ g) + t) k
        ≡ is_free pool (done y b ∷ h) (first_issue config (done y b ∷ h) + t) k
    free_again pool t k =
        rw (
          held_new pool t,
          far.station,
          free_alike config w g h good in_g in_h like pool k _ _ (from_far t),
        ) refl

    -- what holds of each cycle from the old first issues on
    pub shifted : (f k : ℕ → ℕ) → ((t : ℕ) → 0 < t → f (first_issue config g + t) ≡ k (first_issue config h + t))
        → (s t : ℕ) → first_issue config g < s → IsAsFar (first_issue config g) (first_issue config h) s t → f s ≡ k t
    shifted f k all s t l r =
        let e : first_issue config g + (s - first_issue config g) ≡ s = omega (arith, r.first) in
        let e' : first_issue config h + (s - first_issue config g) ≡ t = omega (arith, r.second, r.far) in
        rw (e, e') at (all (s - first_issue config g) (omega arith))

    starts_again : (unit : UnitId) (t : ℕ) → 0 < t
        → starts_in unit (done x a ∷ g) (first_issue config (done x a ∷ g) + t)
        ≡ starts_in unit (done y b ∷ h) (first_issue config (done y b ∷ h) + t)
    starts_again unit t l =
        let n' = first_issue config (done x a ∷ g) in
        let m' = first_issue config (done y b ∷ h) in
        let u : step_unit x ≡ step_unit y = ap unit_at same.pool in
        count_far (λ d. is_of unit (step_unit d.step) && d.at.start == n' + t)
        (λ d. is_of unit (step_unit d.step) && d.at.start == m' + t) (done x a) (done y b) g h
        (rw (u, eq_far _ _ a.start b.start _ _ far.start (from_far t)) refl)
        (shifted (starts_in unit g) (starts_in unit h) (like.starts unit) _ _ (omega (arith, first_far.first))
        (from_far t))

    results_again : (t : ℕ) → 0 < t
        → results_in (done x a ∷ g) (first_issue config (done x a ∷ g) + t)
        ≡ results_in (done y b ∷ h) (first_issue config (done y b ∷ h) + t)
    results_again t l =
        let n' = first_issue config (done x a ∷ g) in
        let m' = first_issue config (done y b ∷ h) in
        count_far (λ d. is_some (step_dest d.step) && d.at.end == n' + t)
        (λ d. is_some (step_dest d.step) && d.at.end == m' + t) (done x a) (done y b) g h
        (rw (same.dest, eq_far _ _ a.end b.end _ _ far.end (from_far t)) refl)
        (shifted (results_in g) (results_in h) like.results _ _ (omega (arith, first_far.first)) (from_far t))

    -- the next access starts no earlier
    address_no_earlier : last_address g ≤ last_address (done x a ∷ g)
    address_no_earlier = last_address_rises config g x a p

    address_no_earlier' : last_address h ≤ last_address (done y b ∷ h)
    address_no_earlier' = last_address_rises config h y b q

    access_far : IsAsFar (first_access config g) (first_access config h) (first_access config (done x a ∷ g))
        (first_access config (done y b ∷ h))
    access_far = access_parts _ _ _ _ _ _ _ _ first_far like.address address_more address_no_earlier address_no_earlier'
      where
        access_parts : (n m s t u v i j : ℕ) → IsAsFar n m s t → u - n ≡ v - m → i - n ≡ j - m → u ≤ i → v ≤ j
            → IsAsFar (max n u + 2) (max m v + 2) (max s i + 2) (max t j + 2)
        access_parts n m s t u v i j f e r l k = record {
          first = omega (arith, f.first);
          second = omega (arith, f.second);
          far = omega (arith, f.first, f.second, f.far);
        }

    late_still : (i : ℕ) → lateness config g i ≡ lateness config h i
        → finish_of g i + 1 - first_access config (done x a ∷ g)
        ≡ finish_of h i + 1 - first_access config (done y b ∷ h)
    late_still i e = rest_far _ _ _ _ _ _ e access_far

    late_new : a.finish + 1 - first_access config (done x a ∷ g) ≡ b.finish + 1 - first_access config (done y b ∷ h)
    late_new = rest_far (first_issue config g) (first_issue config h) _ _ _ _
        (omega (arith, far.finish.first, far.finish.second, far.finish.far))
        (over _ _ _ _ _ _ first_far address_more)
      where
        over : (n m s t i j : ℕ) → IsAsFar n m s t → i - n ≡ j - m → IsAsFar n m (max s i + 2) (max t j + 2)
        over n m s t i j f e = record {
          first = omega (arith, f.first);
          second = omega (arith, f.second);
          far = omega (arith, f.first, f.second, f.far);
        }

    accesses_again : (i : ℕ) → i < w + one (is_memory x)
        → lateness config (done x a ∷ g) i ≡ lateness config (done y b ∷ h) i
    accesses_again i l = elim (cases_Bool (is_memory x)) [
      | inl e ↦ let e' : is_memory y ≡ true = rw same.pool at e in by_number i e e' (rw e at l)
      | inr e ↦
          let e' : is_memory y ≡ false = rw same.pool at e in
          let k : i < w + 0 = rw e at l in
          let s : finish_of (done x a ∷ g) i ≡ finish_of g i = skip_access (λ d. d.at.finish) 0 (done x a) g i e in
          let t : finish_of (done y b ∷ h) i ≡ finish_of h i = skip_access (λ d. d.at.finish) 0 (done y b) h i e' in
          let r = late_still i (like.accesses i (omega arith)) in
          omega (arith, r)
    ]
      where
        by_number : (i : ℕ) → is_memory x ≡ true → is_memory y ≡ true → i < w + 1
            → lateness config (done x a ∷ g) i ≡ lateness config (done y b ∷ h) i
        by_number zero e e' l =
            let s : finish_of (done x a ∷ g) zero ≡ a.finish = rw e refl in
            let t : finish_of (done y b ∷ h) zero ≡ b.finish = rw e' refl in
            let r = late_new in
            omega (arith, r)
        by_number (suc i) e e' l =
            let s : finish_of (done x a ∷ g) (suc i) ≡ finish_of g i = rw e refl in
            let t : finish_of (done y b ∷ h) (suc i) ≡ finish_of h i = rw e' refl in
            let r = late_still i (like.accesses i (omega arith)) in
            omega (arith, r)

    older_again : (i : ℕ) → w + one (is_memory x) ≤ i
        → (lateness config (done x a ∷ g) i ≡ 0) × (lateness config (done y b ∷ h) i ≡ 0)
    older_again i l = elim (cases_Bool (is_memory x)) [
      | inl e ↦ let e' : is_memory y ≡ true = rw same.pool at e in by_number i e e' (rw e at l)
      | inr e ↦
          let e' : is_memory y ≡ false = rw same.pool at e in
          let k : w + 0 ≤ i = rw e at l in
          let s : finish_of (done x a ∷ g) i ≡ finish_of g i = skip_access (λ d. d.at.finish) 0 (done x a) g i e in
          let t : finish_of (done y b ∷ h) i ≡ finish_of h i = skip_access (λ d. d.at.finish) 0 (done y b) h i e' in
          let z = like.older i (omega arith) in
          (omega (arith, z.0, access_far.first), omega (arith, z.1, access_far.second))
    ]
      where
        by_number : (i : ℕ) → is_memory x ≡ true → is_memory y ≡ true → w + 1 ≤ i
            → (lateness config (done x a ∷ g) i ≡ 0) × (lateness config (done y b ∷ h) i ≡ 0)
        by_number zero e e' l = absurd (omega arith)
        by_number (suc i) e e' l =
            let s : finish_of (done x a ∷ g) (suc i) ≡ finish_of g i = rw e refl in
            let t : finish_of (done y b ∷ h) (suc i) ≡ finish_of h i = rw e' refl in
            let z = like.older i (omega arith) in
            (omega (arith, z.0, access_far.first), omega (arith, z.1, access_far.second))

    pub looks_again : LooksLike config (w + one (is_memory x)) (done x a ∷ g) (done y b ∷ h)
    looks_again = record {
      issued = issued_again;
      width = omega (arith, width_again);
      end = end_again;
      address = rest_far _ _ _ _ _ _ address_more first_far;
      ends = λ r. rest_far _ _ _ _ _ _ (ends_more r) first_far;
      free = free_again;
      starts = starts_again;
      results = results_again;
      accesses = accesses_again;
      older = older_again;
    }
