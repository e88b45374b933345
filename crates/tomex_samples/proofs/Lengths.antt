-- How many steps a part has.
use Rattle.std.proofs.Common.{◌≡◌, ℕ, zero, suc, ◌+◌, ◌-◌, ◌*◌, ◌<◌, ◌≤◌, List, length, refl, sym, ◌∙◌, ap}
use Rattle.std.proofs.Common.{arith, inl, inr, Option, Some, None, Result, Ok, Err, IsSome}
use Rattle.std.proofs.lemmas.Bool.{cases_lt}
use Rattle.std.proofs.lemmas.List.{get_or_past}
use Rattle.std.proofs.lemmas.List.FromFn.{get_or-map-range_with_len, length-map-range_with_len}
use Rattle.std.specs.Prelude.{◌⊎◌}
use Rattle.tomex_cut.specs.declared.error.CutError.{CutError}
use Rattle.tomex_cut.specs.declared.error.CutError.TheVariants as errors
use Rattle.tomex_cut.specs.After.{after, left_by}
use Rattle.tomex_cut.specs.Part.{Verdict, GoesOn, Ends, Fails, most_part, part_at, part_by, part_from, part_of, verdict}
use Rattle.tomex_cut.specs.Part.{verdict_on}
use Rattle.tomex_cut.proofs.Walks.{over}
use Rattle.tomex_image.specs.Image.{Loaded}
use Rattle.tomex_samples.specs.Stretches.{part_length, run_of}
use Rattle.tomex_samples.specs.Weighable.{AreLengths, IsLength}
use Rattle.tomex_rvexec.specs.declared.step.Step.{Step}
use Rattle.tomex_rvexec.specs.Machine.{State, Outcome, Goes, Faults, coming_of, step_of}
use Rattle.tomex_rvexec.specs.Machine.{Ends as EndsRun}
use Rattle.tomex_rvexec.specs.Run.{start_of}
use Rattle.tomex_rvexec.specs.Trace.{onto, steps_after, steps_from}
use Rattle.tomex_rvexec.proofs.FlowStates.{step_ends, step_goes}

steps_few : (n : ℕ) (s : State) → length (steps_from n s) ≤ n
steps_few zero s = omega arith
steps_few (suc n) s = by (coming_of s) (steps_after (step_of s) (steps_from n)) (rest (λ t. steps_few n t) (step_of s))
  where
    rest : ((t : State) → length (steps_from n t) ≤ n) → (o : Outcome) → length (steps_after o (steps_from n)) ≤ n
    rest few (Goes t) = few t
    rest few (EndsRun k) = omega arith
    rest few (Faults k) = omega arith

    by : (c : Option Step) (xs : List Step) → length xs ≤ n → length (onto c xs) ≤ suc n
    by None xs few = omega (arith, few)
    by (Some x) xs few = omega (arith, few)

first_there : (n : ℕ) (s : State) → IsSome (coming_of s) → 1 ≤ length (steps_from (suc n) s)
first_there n s there = by (coming_of s) there
  where
    by : (c : Option Step) → IsSome c → 1 ≤ length (onto c (steps_after (step_of s) (steps_from n)))
    by (Some x) h = omega arith
    by None h = cc

-- a part that has an end has a step
steps_some : (n : ℕ) (s : State) (end : Option ℕ) → 1 ≤ n → verdict s n ≡ Ends end → 1 ≤ length (steps_from n s)
steps_some zero s end some is = absurd (omega (arith, some))
steps_some (suc n) s end some is = by (step_of s) refl
  where
    by : (o : Outcome) → step_of s ≡ o → 1 ≤ length (steps_from (suc n) s)
    by (Goes t) e = first_there n s (step_goes s t e)
    by (EndsRun kind) e = first_there n s (step_ends s kind e)
    by (Faults kind) e =
        let left : left_by (step_of s) s ≡ Err (errors.Fault (record { kind = kind; pc = s.pc })) =
        ap (λ o. left_by o s) e in
        let fails = over s s (errors.Fault (record { kind = kind; pc = s.pc })) 0 (suc n) refl left (omega arith) in
        let is_not : verdict s (suc n) ≡ Fails (errors.Fault (record { kind = kind; pc = s.pc })) =
        ap (λ r. verdict_on r (steps_from (suc n) s)) fails in
        let both : Ends end ≡ Fails (errors.Fault (record { kind = kind; pc = s.pc })) = sym is ∙ is_not in
        cc

part_steps : (s : State) (more n k : ℕ) → 1 ≤ n → n + more ≤ most_part + 1
    → part_length (part_from s more n) ≡ Some k → IsLength k
part_steps s zero n k some few is = cc
part_steps s (suc more) n k some few is =
    by (λ next. part_steps s more (n + 1) k (omega arith) (omega (arith, few)) next) (verdict s n) refl is
  where
    by : (part_length (part_from s more (n + 1)) ≡ Some k → IsLength k) → (v : Verdict) → verdict s n ≡ v
        → part_length (part_by v s n (part_from s more)) ≡ Some k → IsLength k
    by rest GoesOn e h = rest h
    by rest (Ends end) e h =
        let same : length (steps_from n s) ≡ k = cc in
        let low = steps_some n s end some e in
        let high = steps_few n s in
        record { some = omega (arith, same, low); few = omega (arith, same, high, few) }
    by rest (Fails x) e h = cc

-- the parts of a run
pub lengths_of : (i : Loaded) (steps m : ℕ) → 1 ≤ steps → steps ≤ most_part → AreLengths (run_of i steps m).parts
lengths_of i steps m some few k n is = at (cases_lt k m)
  where
    by : (r : Result State CutError) → part_length (part_at r steps) ≡ Some n → IsLength n
    by (Ok s) h =
        let all : steps + (most_part + 1 - steps) ≤ most_part + 1 = omega (arith, few) in
        part_steps s (most_part + 1 - steps) steps n some all h
    by (Err e) h = cc

    at : (k < m) ⊎ (m ≤ k) → IsLength n
    at (inl less) =
        let zero_and : 0 + k ≡ k = omega arith in
        by (after (start_of i) (k * steps + 1 - 1))
        (sym (get_or-map-range_with_len (λ j. part_length (part_of i (j * steps + 1) steps)) 0 m k k None less zero_and)
        ∙ is)
    at (inr past) =
        let size = length-map-range_with_len (λ j. part_length (part_of i (j * steps + 1) steps)) 0 m in
        let none = get_or_past (run_of i steps m).parts k None (omega (arith, size, past)) in
        let both : None ≡ Some n = sym none ∙ is in
        cc
