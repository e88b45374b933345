-- Steps of a run, one at a time.
use Rattle.std.proofs.Common.{◌≡◌, ℕ, suc, ◌+◌, ◌-◌, ◌<◌, List, [], ◌∷◌, ◌++◌, arith, refl, sym, ap, ◌∙◌, append_assoc}
use Rattle.std.proofs.Common.{Some, Ok, Err, add-one}
use Rattle.tomex_rvexec.specs.declared.outcome.Stepped.{Stepped}
use Rattle.tomex_rvexec.specs.declared.outcome.Stepped.TheVariants.{Ended, Next}
use Rattle.tomex_rvexec.specs.declared.outcome.Fault.{Fault}
use Rattle.tomex_rvexec.specs.Run.{Leads, Answers}
use Rattle.tomex_rvexec.specs.declared.outcome.EndKind.{EndKind}
use Rattle.tomex_rvexec.specs.declared.step.Step.{Step}
use Rattle.tomex_rvexec.specs.Machine.{State, Outcome, Goes, Ends, Faults, step_of, coming_of}
use Rattle.tomex_rvexec.specs.Trace.{steps_from}

pub goes_on : (n k : ℕ) (s t : State) (x : Step) → k < n → coming_of s ≡ Some x → step_of s ≡ Goes t
    → steps_from (n - k) s ≡ x ∷ steps_from (n - (k + 1)) t
goes_on n k s t x h c g = let e : n - k ≡ suc (n - (k + 1)) = omega arith in rw (e, c, g) refl

pub ends_here : (n k : ℕ) (s : State) {x : Step} {kind : EndKind} → k < n → coming_of s ≡ Some x → step_of s ≡ Ends kind
    → steps_from (n - k) s ≡ x ∷ []
ends_here n k s h c g = let e : n - k ≡ suc (n - (k + 1)) = omega arith in rw (e, c, g) refl

pub kept : (n k : ℕ) (xs : List Step) (s : State) {t : State} {x : Step} {all : List Step} → k < n
    → coming_of s ≡ Some x → step_of s ≡ Goes t → xs ++ steps_from (n - k) s ≡ all
    → (xs ++ x ∷ []) ++ steps_from (n - (k + 1)) t ≡ all
kept n k xs s {t} {x} h c g e =
    append_assoc xs (x ∷ []) (steps_from (n - (k + 1)) t) ∙ (ap (λ r. xs ++ r) (sym (goes_on n k s t x h c g)) ∙ e)

pub next_goes : (o : Outcome) (old new : State) (r : Stepped) → r ≡ Next → Answers o old (Ok r) new → o ≡ Goes new
next_goes (Goes s) old new r e h = ap Goes (sym h.1)
next_goes (Ends k) old new r e h = let f = h.0 in cc
next_goes (Faults k) old new r e h = let f = h.0 in cc

pub ended_ends : (o : Outcome) (old new : State) (r : Stepped) (kind : EndKind) → r ≡ Ended kind
    → Answers o old (Ok r) new → o ≡ Ends kind
ended_ends (Goes s) old new r kind e h = let f = h.0 in cc
ended_ends (Ends k) old new r kind e h = let f = h.0 in cc
ended_ends (Faults k) old new r kind e h = let f = h.0 in cc

pub fault_faults : (o : Outcome) (old new : State) (f : Fault) → Answers o old (Err f) new → (o ≡ Faults f.kind)
    × (f.pc ≡ old.pc)
fault_faults (Goes s) old new f h = let e = h.0 in absurd (cc)
fault_faults (Ends k) old new f h = let e = h.0 in absurd (cc)
fault_faults (Faults k) old new f h =
    let is : f ≡ record { kind = k; pc = old.pc } = let e = h.0 in cc in
    (sym (ap (λ (x : Fault). Faults x.kind) is), ap (λ (x : Fault). x.pc) is)

pub leads_on : (old mid new : State) (k : ℕ) → Leads old k mid → step_of mid ≡ Goes new → Leads old (k + 1) new
leads_on old mid new k l g = rw add-one (mid, l, g)
