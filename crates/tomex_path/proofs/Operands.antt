-- What holds a start for an operand comes in the cycle before it.
use Rattle.std.proofs.Common.{ℕ, ◌+◌, ◌-◌, ◌<◌, ◌≡◌, true, false, arith, refl, inl, inr}
use Rattle.std.proofs.Common.{List, [], ◌∷◌, Option, Some, None, nat_lt, ◌==◌, ◌&&◌}
use Rattle.std.proofs.lemmas.Bool.{cases_Bool, eqb-true, eq-eqb}
use Rattle.std.proofs.lemmas.Bool.Decides.{nat_tests}
use Rattle.tomex_rvexec.specs.Steps.{is_number, j_of, k_of, step_dest}
use Rattle.tomex_rvexec.specs.declared.step.Operand.{Operand}
use Rattle.tomex_timing.specs.declared.times.Done.{Done}
use Rattle.tomex_timing.specs.History.{source_end, writer_end}
use Rattle.tomex_timing.specs.Recent.{register_of}
use Rattle.tomex_timing.specs.Recurrence.{has_operands}
use Rattle.tomex_path.specs.declared.event.Holder.TheVariants.{Writer}
use Rattle.tomex_path.specs.Holds.{just_ended}
use Rattle.tomex_path.proofs.Chain.{holder_at}

-- the end of a register's producer
abbrev pub end_of : List Done → Option ℕ → ℕ
end_of h None = 0
end_of h (Some r) = writer_end h r

pub source_is : (h : List Done) (o : Option Operand) → source_end h o ≡ end_of h (register_of o)
source_is h None = refl
source_is h (Some o) = refl

pub one_writer : (h : List Done) (a : Option ℕ) → holder_at (Writer a None) h ≡ end_of h a
one_writer [] None = refl
one_writer [] (Some r) = refl
one_writer (d ∷ h) None = one_writer h None
one_writer (d ∷ h) (Some r) = elim (cases_Bool (is_number (step_dest d.step) r)) [
  | inl e ↦ rw e refl
  | inr e ↦ rw e (one_writer h (Some r))
]

other_writer : (h : List Done) (b : Option ℕ) → holder_at (Writer None b) h ≡ end_of h b
other_writer [] None = refl
other_writer [] (Some r) = refl
other_writer (d ∷ h) None = other_writer h None
other_writer (d ∷ h) (Some r) = elim (cases_Bool (is_number (step_dest d.step) r)) [
  | inl e ↦ rw e refl
  | inr e ↦ rw e (other_writer h (Some r))
]

two_writers : (h : List Done) (r s t : ℕ) → 1 < t → writer_end h r + 1 ≡ t → writer_end h s + 1 ≡ t
    → holder_at (Writer (Some r) (Some s)) h + 1 ≡ t
two_writers [] r s t l e f = absurd (omega arith)
two_writers (d ∷ h) r s t l e f = elim (cases_Bool (is_number (step_dest d.step) r)) [
  | inl i ↦ rw i (rw i at e)
  | inr i ↦ elim (cases_Bool (is_number (step_dest d.step) s)) [
    | inl k ↦ rw (i, k) (rw k at f)
    | inr k ↦ rw (i, k) (two_writers h r s t l (rw i at e) (rw k at f))
  ]
]

both_writers : (h : List Done) (a b : Option ℕ) (t : ℕ) → 1 < t → end_of h a + 1 ≡ t → end_of h b + 1 ≡ t
    → holder_at (Writer a b) h + 1 ≡ t
both_writers h None b t l e f = absurd (omega arith)
both_writers h (Some r) None t l e f = absurd (omega arith)
both_writers h (Some r) (Some s) t l e f = two_writers h r s t l e f

which : (j k t : ℕ) → 0 < t → (nat_lt j (t - 1) && nat_lt k (t - 1)) ≡ false → (nat_lt j t && nat_lt k t) ≡ true
    → (j + 1 == t) ≡ false → (k + 1 ≡ t)
which j k t l a b e = grind (arith, nat_tests)

-- if an operand wasn't there in the cycle before, and is now, the youngest step that brings one ended in it
pub operand_before : (older : List Done) (d : Done) → 1 < d.at.start
    → has_operands older d.step (d.at.start - 1) ≡ false → has_operands older d.step d.at.start ≡ true
    → holder_at (Writer (just_ended older (j_of d.step) d.at.start) (just_ended older (k_of d.step) d.at.start)) older
    + 1 ≡ d.at.start
operand_before older d l a b =
    let j : ℕ = source_end older (j_of d.step) in
    let k : ℕ = source_end older (k_of d.step) in
    elim (cases_Bool (source_end older (j_of d.step) + 1 == d.at.start)) [
      | inl e ↦
          let je : source_end older (j_of d.step) + 1 ≡ d.at.start = eqb-true _ _ e in
          elim (cases_Bool (source_end older (k_of d.step) + 1 == d.at.start)) [
            | inl f ↦
                let ke : source_end older (k_of d.step) + 1 ≡ d.at.start = eqb-true _ _ f in
                rw (e, f) (both_writers older (register_of (j_of d.step)) (register_of (k_of d.step)) d.at.start l
                (rw (← source_is older (j_of d.step)) je) (rw (← source_is older (k_of d.step)) ke))
            | inr f ↦ rw (
              e,
              f,
              one_writer older (register_of (j_of d.step)),
              ← source_is older (j_of d.step),
            ) je
          ]
      | inr e ↦
          let ke : source_end older (k_of d.step) + 1 ≡ d.at.start =
          which (source_end older (j_of d.step)) (source_end older (k_of d.step)) d.at.start (omega arith) a b e in
          rw (
            e,
            eq-eqb _ _ ke,
            other_writer older (register_of (k_of d.step)),
            ← source_is older (k_of d.step),
          ) ke
    ]
