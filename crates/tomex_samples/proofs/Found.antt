-- The parts of a run's stretches, as they end.
use Rattle.std.proofs.Common.{◌≡◌, ℕ, zero, suc, ◌+◌, ◌-◌, ◌*◌, ◌<◌, ◌≤◌, List, length, take, sym, ◌∙◌, ap, arith}
use Rattle.std.proofs.Common.{subst, inl, inr, Ok, Err, Some, None, Option, true}
use Rattle.std.proofs.Math.Nat.{mul-le-mul_right}
use Rattle.std.proofs.lemmas.Bool.{cases_eq, cases_lt, le-leb, lt-leb, le-ltb, lt-ltb}
use Rattle.std.proofs.lemmas.List.{get_or-take, length-take-le, length_push}
use Rattle.std.specs.Prelude.{◌⊎◌, ◌≢◌, nat_le, nat_lt, if◌then◌else◌, slice_index, slice_index_or}
use Rattle.tomex_cut.specs.declared.error.CutError.TheVariants as cut_errors
use Rattle.tomex_cut.specs.After.{after, left_by}
use Rattle.tomex_cut.specs.Part.{Ends, Fails, GoesOn, is_used, most_part, part_at, verdict, verdict_on}
use Rattle.tomex_cut.proofs.Walks.{IsOpen, never_ends, over, part_ends}
use Rattle.tomex_image.specs.Image.{Loaded}
use Rattle.tomex_samples.specs.Ends.{HaveEnded, length_at}
use Rattle.tomex_samples.specs.Stretches.{part_length}
use Rattle.tomex_samples.specs.Tally.{AreFound}
use Rattle.tomex_samples.proofs.Reach.{Passes, and_step, length_steps, passes, rest_from}
use Rattle.tomex_samples.proofs.Walked.{AreLastUses}
use Rattle.tomex_rvexec.specs.declared.outcome.EndKind.{EndKind}
use Rattle.tomex_rvexec.specs.declared.outcome.FaultKind.TheVariants as faults
use Rattle.tomex_rvexec.specs.declared.step.Step.{Step}
use Rattle.tomex_rvexec.specs.Machine.{State, coming_of, holds, step_of}
use Rattle.tomex_rvexec.specs.Machine.{Ends as EndsRun}
use Rattle.tomex_rvexec.specs.Run.{start_of}
use Rattle.tomex_rvexec.specs.Trace.{steps_from}

-- a part that can end after m steps, and not before, does, unless it is too long
pub ends_after : (s : State) (steps m : ℕ) (end : Option ℕ) → steps ≤ m → steps ≤ most_part → IsOpen s steps m
    → verdict s m ≡ Ends end → length (steps_from m s) ≡ m
    → part_length (part_at (Ok s) steps) ≡ (if nat_le m most_part then Some m else None)
ends_after s steps m end enough most going is size = at (cases_lt most_part m)
  where
    at : (most_part < m) ⊎ (m ≤ most_part)
        → part_length (part_at (Ok s) steps) ≡ (if nat_le m most_part then Some m else None)
    at (inl long) =
        ap part_length (never_ends s steps most (λ j low high. going j low (omega arith)))
        ∙ ap (λ b. if b then Some m else None) (sym (lt-leb m most_part long))
    at (inr short) =
        ap part_length (part_ends s steps m end enough short going is)
        ∙ (ap Some size ∙ ap (λ b. if b then Some m else None) (sym (le-leb m most_part short)))

-- a number is among some values from one on, or isn't
pub among : (f : ℕ → ℕ) (k low n : ℕ)
    → ((t : ℕ) × (low ≤ t) × (t < n) × (f t ≡ k)) ⊎ ((t : ℕ) → low ≤ t → t < n → f t ≢ k)
among f k low zero = inr (λ t a b. absurd (omega arith))
among f k low (suc n) = at (among f k low n) (cases_eq (f n) k) (cases_lt n low)
  where
    at : ((t : ℕ) × (low ≤ t) × (t < n) × (f t ≡ k)) ⊎ ((t : ℕ) → low ≤ t → t < n → f t ≢ k)
        → (f n ≡ k) ⊎ (f n ≡ k → ⊥) → (n < low) ⊎ (low ≤ n)
        → ((t : ℕ) × (low ≤ t) × (t < suc n) × (f t ≡ k)) ⊎ ((t : ℕ) → low ≤ t → t < suc n → f t ≢ k)
    at (inl here) e l = inl (here.0, here.1, omega (arith, here.2), here.3)
    at (inr none) (inl is) (inr l) = inl (n, l, omega arith, is)
    at (inr none) (inl is) (inl l) = inr (λ t a b. none t a (omega arith))
    at (inr none) (inr other) l = inr (λ t a b. by t a b (cases_eq t n))
      where
        by : (t : ℕ) → low ≤ t → t < suc n → (t ≡ n) ⊎ (t ≡ n → ⊥) → f t ≢ k
        by t a b (inl same) = λ is. other (ap f (sym same) ∙ is)
        by t a b (inr apart) = none t a (omega arith)

-- what there is after n steps of the run, for a part that began after b of them
pub verdict_here : (s t u : State) (n b base k : ℕ) (numbers : List ℕ) → after s n ≡ Ok t → b ≤ n → after s b ≡ Ok u
    → holds t t.pc 4 ≡ true → AreLastUses s n base numbers → k < length numbers → t.pc ≡ base + 4 * k
    → verdict u (n - b) ≡ (if nat_lt b (slice_index numbers k) then GoesOn else Ends (Some t.pc))
verdict_here s t u n b base k numbers here less reached inside uses within at =
    let rest = rest_from s t u n b here less reached in
    let used : is_used (steps_from (n - b) u) t.pc ≡ nat_lt b (slice_index numbers k) =
    ap (is_used (steps_from (n - b) u)) at ∙ uses.each k b u within less reached in
    ap (λ r. verdict_on r (steps_from (n - b) u)) rest
    ∙ (ap (λ c. if c then (if is_used (steps_from (n - b) u) t.pc then GoesOn else Ends (Some t.pc))
    else Fails (cut_errors.Fault (record { kind = faults.Fetch; pc = t.pc }))) inside
    ∙ ap (λ c. if c then GoesOn else Ends (Some t.pc)) used)

-- stretches that wait began before the run's steps so far
pub begun : (i : Loaded) (steps n m current : ℕ) (parts : List (Option ℕ)) (waiting : List ℕ)
    → AreFound i steps m parts waiting → n ≡ length parts * steps + current
    → (t : ℕ) → t < length waiting → slice_index waiting t * steps + steps ≤ n
begun i steps n m current parts waiting f done t h =
    let k = slice_index waiting t in
    let less : k + 1 ≤ length parts = omega (arith, f.inside t h) in
    let by : (k + 1) * steps ≤ length parts * steps = mul-le-mul_right steps less in
    let next : (k + 1) * steps ≡ k * steps + steps = omega arith in
    omega arith

-- the parts whose end is found are known then, whatever ends them
pub found_by : (i : Loaded) (steps n last : ℕ) (parts new_parts : List (Option ℕ)) (waiting new_waiting : List ℕ)
    → AreFound i steps n parts waiting → (e : HaveEnded steps n last parts waiting new_parts new_waiting)
    → ((t : ℕ) (s : State) → t < e.kept → t < length waiting → after (start_of i) (slice_index waiting t * steps) ≡ Ok s
    → steps ≤ n - slice_index waiting t * steps → verdict s (n - slice_index waiting t * steps) ≡ GoesOn)
    → ((t : ℕ) → e.kept ≤ t → t < length waiting
    → part_length (part_at (after (start_of i) (slice_index waiting t * steps)) steps)
    ≡ length_at steps n (slice_index waiting t))
    → AreFound i steps (n + 1) new_parts new_waiting
found_by i steps n last parts new_parts waiting new_waiting f e on ended =
    subst (λ (ws : List ℕ). AreFound i steps (n + 1) new_parts ws) (sym e.ending.is) (record {
      rising = λ t u h l. omega (
        arith,
        here t (omega (arith, size)),
        here u (omega (arith, size)),
        f.rising t u h (omega (arith, size, e.ending.few)),
      );
      inside = λ t h. omega (
        arith,
        here t (omega (arith, size)),
        e.ending.size,
        f.inside t (omega (arith, size, e.ending.few)),
      );
      goes_on = λ t s j h reached enough early.
          let same = here t (omega (arith, size)) in
          on_at t s j (omega (arith, size)) (ap (λ k. after (start_of i) (k * steps)) (sym same) ∙ reached) enough
          (subst (λ (k : ℕ). k * steps + j < n + 1) same early)
          (cases_lt (slice_index waiting t * steps + j) n);
      known = λ k h apart. known_at k (omega (arith, e.ending.size)) (λ t l. apart t (omega (arith, size)))
          (among (slice_index waiting) k e.kept (length waiting));
    })
  where
    size : length (take e.kept waiting) ≡ e.kept
    size = length-take-le e.kept waiting e.ending.few

    here : (t : ℕ) → t < e.kept → slice_index (take e.kept waiting) t ≡ slice_index waiting t
    here t h = get_or-take e.kept waiting t 0 h

    on_at : (t : ℕ) (s : State) (j : ℕ) → t < e.kept → after (start_of i) (slice_index waiting t * steps) ≡ Ok s
        → steps ≤ j → slice_index waiting t * steps + j < n + 1
        → (slice_index waiting t * steps + j < n) ⊎ (n ≤ slice_index waiting t * steps + j) → verdict s j ≡ GoesOn
    on_at t s j h reached enough early (inl less) =
        f.goes_on t s j (omega (arith, e.ending.few)) reached enough less
    on_at t s j h reached enough early (inr past) =
        let is : n - slice_index waiting t * steps ≡ j = omega arith in
        subst (λ (m : ℕ). verdict s m ≡ GoesOn) is
        (on t s h (omega (arith, e.ending.few)) reached (omega arith))

    known_at : (k : ℕ) → k < length parts → ((t : ℕ) → t < e.kept → slice_index (take e.kept waiting) t ≢ k)
        → ((t : ℕ) × (e.kept ≤ t) × (t < length waiting) × (slice_index waiting t ≡ k))
        ⊎ ((t : ℕ) → e.kept ≤ t → t < length waiting → slice_index waiting t ≢ k)
        → slice_index_or new_parts k None ≡ part_length (part_at (after (start_of i) (k * steps)) steps)
    known_at k h apart (inl at) =
        subst (λ (j : ℕ). slice_index_or new_parts j None
        ≡ part_length (part_at (after (start_of i) (j * steps)) steps)) at.3
        ((e.ending.ended at.0 at.1 at.2).1 ∙ sym (ended at.0 at.1 at.2))
    known_at k h apart (inr none) =
        e.ending.same k none
        ∙ f.known k h (λ t l. other t l (cases_lt t e.kept))
      where
        other : (t : ℕ) → t < length waiting → (t < e.kept) ⊎ (e.kept ≤ t) → slice_index waiting t ≢ k
        other t l (inl less) = λ same. apart t less (here t less ∙ same)
        other t l (inr past) = none t past l

-- those that began after the last use of the next pc's word end there
pub found_next : (i : Loaded) (steps n current base k : ℕ) (t : State) (numbers : List ℕ)
    (parts new_parts : List (Option ℕ)) (waiting new_waiting : List ℕ)
    → steps ≤ most_part → AreFound i steps n parts waiting → n ≡ length parts * steps + current
    → after (start_of i) n ≡ Ok t → holds t t.pc 4 ≡ true → AreLastUses (start_of i) n base numbers
    → k < length numbers → t.pc ≡ base + 4 * k
    → HaveEnded steps n (slice_index numbers k) parts waiting new_parts new_waiting
    → AreFound i steps (n + 1) new_parts new_waiting
found_next i steps n current base k t numbers parts new_parts waiting new_waiting most f done here inside uses within
    at e =
    found_by i steps n (slice_index numbers k) parts new_parts waiting new_waiting f e
    (λ j s less h reached enough.
    verdict_here (start_of i) t s n (slice_index waiting j * steps) base k numbers here (omega (arith, old j h)) reached
    inside uses within at
    ∙ ap (λ c. if c then GoesOn else Ends (Some t.pc))
    (lt-ltb (slice_index waiting j * steps) (slice_index numbers k) (e.began j less)))
    (λ j low h. ends_at j low h (passes (start_of i) t n (slice_index waiting j * steps) here (omega (arith, old j h))))
  where
    old : (j : ℕ) → j < length waiting → slice_index waiting j * steps + steps ≤ n
    old = begun i steps n n current parts waiting f done

    ends_at : (j : ℕ) → e.kept ≤ j → j < length waiting → Passes (start_of i) t n (slice_index waiting j * steps)
        → part_length (part_at (after (start_of i) (slice_index waiting j * steps)) steps)
        ≡ length_at steps n (slice_index waiting j)
    ends_at j low h p =
        let enough : steps ≤ n - slice_index waiting j * steps = omega (arith, old j h) in
        let is : verdict p.mid (n - slice_index waiting j * steps) ≡ Ends (Some t.pc) =
        verdict_here (start_of i) t p.mid n (slice_index waiting j * steps) base k numbers here (omega (arith, old j h))
        p.first inside uses within at
        ∙ ap (λ c. if c then GoesOn else Ends (Some t.pc))
        (le-ltb (slice_index waiting j * steps) (slice_index numbers k) (e.ending.ended j low h).0) in
        ap (λ r. part_length (part_at r steps)) p.first
        ∙ ends_after p.mid steps (n - slice_index waiting j * steps) (Some t.pc) enough most
        (λ m a b. f.goes_on j p.mid m h p.first a (omega (arith, old j h))) is
        (length_steps (n - slice_index waiting j * steps) p.mid t p.rest)

-- the run's own end is that of all others
pub all_found : (i : Loaded) (steps n current : ℕ) (t : State) (kind : EndKind) (x : Step)
    (parts new_parts : List (Option ℕ)) (waiting new_waiting : List ℕ)
    → 1 ≤ steps → steps ≤ most_part → AreFound i steps (n + 1) parts waiting → n + 1 ≡ length parts * steps + current
    → after (start_of i) n ≡ Ok t → coming_of t ≡ Some x → step_of t ≡ EndsRun kind
    → HaveEnded steps (n + 1) 0 parts waiting new_parts new_waiting → (k : ℕ) → k < length parts
    → slice_index_or new_parts k None ≡ part_length (part_at (after (start_of i) (k * steps)) steps)
all_found i steps n current t kind x parts new_parts waiting new_waiting some most f done here comes over_here e k h =
    at (among (slice_index waiting) k e.kept (length waiting))
  where
    none_kept : e.kept ≡ 0
    none_kept = by (cases_lt 0 e.kept)
      where
        by : (0 < e.kept) ⊎ (e.kept ≤ 0) → e.kept ≡ 0
        by (inl some) = absurd (omega (arith, e.began 0 some))
        by (inr none) = omega arith

    old : (j : ℕ) → j < length waiting → slice_index waiting j * steps + steps ≤ n + 1
    old = begun i steps (n + 1) (n + 1) current parts waiting f done

    ends_at : (j : ℕ) → j < length waiting → Passes (start_of i) t n (slice_index waiting j * steps)
        → part_length (part_at (after (start_of i) (slice_index waiting j * steps)) steps)
        ≡ length_at steps (n + 1) (slice_index waiting j)
    ends_at j h p =
        let b = slice_index waiting j * steps in
        let m : n + 1 - b ≡ n - b + 1 = omega (arith, old j h) in
        let left : left_by (step_of t) t ≡ Err cut_errors.NoSuchStep = ap (λ o. left_by o t) over_here in
        let is : verdict p.mid (n + 1 - b) ≡ Ends None =
        ap (λ r. verdict_on r (steps_from (n + 1 - b) p.mid))
        (over p.mid t cut_errors.NoSuchStep (n - b) (n + 1 - b) p.rest left (omega (arith, old j h))) in
        let size : length (steps_from (n + 1 - b) p.mid) ≡ n + 1 - b =
        ap (λ q. length (steps_from q p.mid)) m
        ∙ (ap length (and_step p.mid t (n - b) x p.rest comes)
        ∙ (length_push (steps_from (n - b) p.mid) x
        ∙ (ap (λ q. q + 1) (length_steps (n - b) p.mid t p.rest) ∙ sym m))) in
        ap (λ r. part_length (part_at r steps)) p.first
        ∙ ends_after p.mid steps (n + 1 - b) None (omega (arith, old j h)) most
        (λ q a c. f.goes_on j p.mid q h p.first a (omega (arith, old j h))) is size

    at : ((j : ℕ) × (e.kept ≤ j) × (j < length waiting) × (slice_index waiting j ≡ k))
        ⊎ ((j : ℕ) → e.kept ≤ j → j < length waiting → slice_index waiting j ≢ k)
        → slice_index_or new_parts k None ≡ part_length (part_at (after (start_of i) (k * steps)) steps)
    at (inl is) =
        subst (λ (j : ℕ). slice_index_or new_parts j None
        ≡ part_length (part_at (after (start_of i) (j * steps)) steps)) is.3
        ((e.ending.ended is.0 is.1 is.2).1
        ∙ sym (ends_at is.0 is.2 (passes (start_of i) t n (slice_index waiting is.0 * steps) here
        (omega (arith, old is.0 is.2)))))
    at (inr none) = e.ending.same k none ∙ f.known k h (λ j l. none j (omega (arith, none_kept)) l)
