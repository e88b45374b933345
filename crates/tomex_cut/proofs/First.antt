-- A part ends at its first end, and has one answer.
use Rattle.std.proofs.Common.{◌≡◌, ℕ, zero, suc, ◌+◌, ◌-◌, ◌<◌, ◌≤◌, List, Bool, true, false, Option, Some, None}
use Rattle.std.proofs.Common.{Result, Ok, Err, refl, sym, ◌∙◌, ap, subst, arith, inl, inr}
use Rattle.std.specs.Prelude.{IfSome, if◌then◌else◌}
use Rattle.std.proofs.lemmas.Bool.{cases_lt}
use Rattle.tomex_cut.specs.declared.error.CutError.{CutError}
use Rattle.tomex_cut.specs.declared.error.CutError.TheVariants as errors
use Rattle.tomex_cut.specs.After.{after}
use Rattle.tomex_cut.specs.Cut.{IsCut, IsRefused}
use Rattle.tomex_cut.specs.Laws.{EndsFirst}
use Rattle.tomex_cut.specs.Part.{Ends, Fails, GoesOn, Part, Verdict, is_overwritten, is_used, most_part, part_at}
use Rattle.tomex_cut.specs.Part.{part_by}
use Rattle.tomex_cut.specs.Part.{part_from, part_of, verdict, verdict_on}
use Rattle.tomex_cut.specs.Room.{CanPlace, HasNoRoom, IsHook, IsPlace}
use Rattle.tomex_image.specs.Image.{Loaded}
use Rattle.tomex_rvexec.specs.declared.outcome.FaultKind.TheVariants as faults
use Rattle.tomex_rvexec.specs.declared.step.Step.{Step}
use Rattle.tomex_rvexec.specs.Machine.{State, holds}
use Rattle.tomex_rvexec.specs.Run.{start_of}
use Rattle.tomex_rvexec.specs.Trace.{steps_from}

-- the first end from step n on
record Found (s : State) (more n : ℕ) (p : Part) : Type 0 where
  start : p.start ≡ s
  count : ℕ
  enough : n ≤ count
  few : count < n + more
  steps : p.steps ≡ steps_from count s
  ends : verdict s count ≡ Ends p.end
  first : (m : ℕ) → n ≤ m → m < count → verdict s m ≡ GoesOn

found : (more : ℕ) (s : State) (n : ℕ) (p : Part) → part_from s more n ≡ Ok p → Found s more n p
found zero s n p e = cc
found (suc more) s n p e = at (λ h. found more s (n + 1) p h) (verdict s n) refl e
  where
    here : (end : Option ℕ) → verdict s n ≡ Ends end
        → record { start = s; steps = steps_from n s; end = end } ≡ p → Found s (suc more) n p
    here end is same =
        let q : Part = record { start = s; steps = steps_from n s; end = end } in
        subst (λ (r : Part). Found s (suc more) n r) same (record {
          start = refl;
          count = n;
          enough = omega arith;
          few = omega arith;
          steps = refl;
          ends = is;
          first = λ m low high. absurd (omega arith);
        })

    at : (part_from s more (n + 1) ≡ Ok p → Found s more (n + 1) p) → (v : Verdict) → verdict s n ≡ v
        → part_by v s n (part_from s more) ≡ Ok p → Found s (suc more) n p
    at next GoesOn is e =
        let f = next e in
        record {
          start = f.start;
          count = f.count;
          enough = omega (arith, f.enough);
          few = omega (arith, f.few);
          steps = f.steps;
          ends = f.ends;
          first = λ m low high. elim (cases_lt n m) [
            | inl l ↦ f.first m (omega arith) high
            | inr g ↦ let same : n ≡ m = omega arith in subst (λ (k : ℕ). verdict s k ≡ GoesOn) same is
          ];
        }
    at next (Ends end) is e = here end is (cc)
    at next (Fails x) is e = cc

-- an end before an address is new
end_is_new : (r : Result State CutError) (steps : List Step) (end : Option ℕ) → verdict_on r steps ≡ Ends end
    → IfSome end (λ e. is_used steps e ≡ false)
end_is_new (Ok t) steps end h = at (holds t t.pc 4) (is_used steps t.pc) refl h
  where
    at : (b u : Bool) → is_used steps t.pc ≡ u
        → (if b then (if u then GoesOn else Ends (Some t.pc))
        else Fails (errors.Fault (record { kind = faults.Fetch; pc = t.pc }))) ≡ Ends end
        → IfSome end (λ e. is_used steps e ≡ false)
    at true true is h = cc
    at true false is h =
        let same : Some t.pc ≡ end = cc in subst (λ (o : Option ℕ). IfSome o (λ e. is_used steps e ≡ false)) same is
    at false u is h = cc
end_is_new (Err errors.NoSuchStep) steps end h =
    let same : None ≡ end = cc in subst (λ (o : Option ℕ). IfSome o (λ e. is_used steps e ≡ false)) same tt
end_is_new (Err e) steps end h = cc

pub ends_first : (i : Loaded) (from least : ℕ) (p : Part) → part_of i from least ≡ Ok p → EndsFirst i from least p
ends_first i from least p e = at (after (start_of i) (from - 1)) refl e
  where
    at : (r : Result State CutError) → after (start_of i) (from - 1) ≡ r → part_at r least ≡ Ok p
        → EndsFirst i from least p
    at (Err x) here e = cc
    at (Ok s) here e =
        let f = found (most_part + 1 - least) s least p e in
        record {
          reached = here ∙ ap Ok (sym f.start);
          count = f.count;
          enough = f.enough;
          few = omega (arith, f.few, f.enough);
          steps = f.steps ∙ ap (λ (t : State). steps_from f.count t) (sym f.start);
          ends = subst (λ (t : State). verdict t f.count ≡ Ends p.end) (sym f.start) f.ends;
          first = λ m low high. subst (λ (t : State). verdict t m ≡ GoesOn) (sym f.start) (f.first m low high);
          new = subst (λ (xs : List Step). IfSome p.end (λ b. is_used xs b ≡ false)) (sym f.steps)
              (end_is_new (after s f.count) (steps_from f.count s) p.end f.ends);
        }

-- a part has one hook
one_hook : (p : Part) (h k : ℕ) → IsHook p h → IsHook p k → h ≡ k
one_hook p h k a b =
    let n = a.nearest k b.can in
    let m = b.nearest h a.can in
    let low = a.lower k b.can (omega arith) in
    let high = b.lower h a.can (omega arith) in
    omega arith

one_part : (i : Loaded) (from least : ℕ) (p q : Part) → part_of i from least ≡ Ok p → part_of i from least ≡ Ok q
    → p ≡ q
one_part i from least p q e f = cc

no_room : (p : Part) (h a : ℕ) → IsHook p h → IsPlace p h a → HasNoRoom p → ⊥
no_room p h a hook place (inl none) = none h hook.can
no_room p h a hook place (inr other) =
    let same = one_hook p other.0 h other.1 hook in
    other.2 a (subst (λ (k : ℕ). CanPlace p k a) (sym same) place.can)

pub made : (i : Loaded) (from least : ℕ) (file : List ℕ) (e : CutError) → IsCut i from least file
    → IsRefused i from least e → e ≡ errors.Memory
made i from least file errors.Memory c r = refl
made i from least file errors.Overwritten c r =
    let same = one_part i from least r.0 c.part r.1 c.is_part in
    let yes : is_overwritten c.part ≡ true = subst (λ (p : Part). is_overwritten p ≡ true) same r.2 in
    let never = c.kept in cc
made i from least file errors.NoRoom c r =
    let same = one_part i from least r.0 c.part r.1 c.is_part in
    absurd (no_room c.part c.hook c.place c.is_hook c.is_place (subst HasNoRoom same r.3))
made i from least file errors.NoEnd c r = let is = c.is_part in cc
made i from least file errors.NoSuchStep c r = let is = c.is_part in cc
made i from least file (errors.Fault f) c r = let is = c.is_part in cc

-- why there is no file: no part, its code, or no room
data Reason (i : Loaded) (from least : ℕ) (e : CutError) : Type 0 where
  no_part : part_of i from least ≡ Err e → Reason i from least e
  changed : (p : Part) → part_of i from least ≡ Ok p → is_overwritten p ≡ true → e ≡ errors.Overwritten
      → Reason i from least e
  narrow : (p : Part) → part_of i from least ≡ Ok p → is_overwritten p ≡ false → e ≡ errors.NoRoom
      → Reason i from least e

reason : (i : Loaded) (from least : ℕ) (e : CutError) → (e ≡ errors.Memory → ⊥) → IsRefused i from least e
    → Reason i from least e
reason i from least errors.Memory other r = absurd (other refl)
reason i from least errors.Overwritten other r = changed r.0 r.1 r.2 refl
reason i from least errors.NoRoom other r = narrow r.0 r.1 r.2 refl
reason i from least errors.NoEnd other r = no_part r
reason i from least errors.NoSuchStep other r = no_part r
reason i from least (errors.Fault f) other r = no_part r

one_reason : (i : Loaded) (from least : ℕ) (e f : CutError) → Reason i from least e → Reason i from least f → e ≡ f
one_reason i from least e f (no_part a) (no_part b) = cc
one_reason i from least e f (no_part a) (changed q b c d) = cc
one_reason i from least e f (no_part a) (narrow q b c d) = cc
one_reason i from least e f (changed p a c d) (no_part b) = cc
one_reason i from least e f (changed p a c d) (changed q b g h) = d ∙ sym h
one_reason i from least e f (changed p a c d) (narrow q b g h) =
    let same = one_part i from least p q a b in
    let yes : is_overwritten q ≡ true = subst (λ (x : Part). is_overwritten x ≡ true) same c in cc
one_reason i from least e f (narrow p a c d) (no_part b) = cc
one_reason i from least e f (narrow p a c d) (changed q b g h) =
    let same = one_part i from least p q a b in
    let never : is_overwritten q ≡ false = subst (λ (x : Part). is_overwritten x ≡ false) same c in cc
one_reason i from least e f (narrow p a c d) (narrow q b g h) = d ∙ sym h

pub one_refusal : (i : Loaded) (from least : ℕ) (e f : CutError) → (e ≡ errors.Memory → ⊥) → (f ≡ errors.Memory → ⊥)
    → IsRefused i from least e → IsRefused i from least f → e ≡ f
one_refusal i from least e f other another a b =
    one_reason i from least e f (reason i from least e other a) (reason i from least f another b)
