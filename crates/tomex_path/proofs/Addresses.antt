-- What an address comes after: its issue, the base, or the address before; and an end: its finish, or a full cycle.
use Rattle.std.proofs.Common.{ℕ, ◌+◌, ◌-◌, ◌<◌, ◌≡◌, Bool, true, false, arith, refl, inl, inr, max}
use Rattle.std.proofs.Common.{List, [], ◌∷◌, nat_lt, ◌==◌, ◌&&◌, count_by, is_some}
use Rattle.std.proofs.lemmas.Bool.{cases_Bool, cases_lt, lt-ltb, le-ltb, eqb-true, MatchBool-at_true}
use Rattle.std.proofs.lemmas.Bool.{MatchBool-at_false}
use Rattle.std.proofs.lemmas.Bool.Decides.{nat_tests}
use Rattle.std.proofs.lemmas.List.Sums.{sum_by-cons}
use Rattle.tomex_rvexec.specs.Steps.{j_of, step_dest}
use Rattle.tomex_config.specs.Configuration.{Configuration, IsWithinLimits}
use Rattle.tomex_timing.specs.Ahead.{one}
use Rattle.tomex_timing.specs.declared.times.Done.{Done}
use Rattle.tomex_timing.specs.History.{cycle_of, is_memory, last_address, source_end}
use Rattle.tomex_timing.specs.Recent.{register_of}
use Rattle.tomex_timing.specs.Recurrence.{AreTimed, IsLeast, can_address, can_end, has_bus}
use Rattle.tomex_timing.proofs.Bools.{last_fails}
use Rattle.tomex_timing.proofs.Least.{least_same}
use Rattle.tomex_timing.proofs.Limits.{buses_low}
use Rattle.tomex_timing.proofs.Orders.{result_end}
use Rattle.tomex_timing.proofs.Splits.{address_agree}
use Rattle.tomex_timing.proofs.Tests.{at_once, cases_unit, operation}
use Rattle.tomex_path.specs.declared.event.Event.{Event}
use Rattle.tomex_path.specs.declared.event.Event.TheVariants.{End}
use Rattle.tomex_path.specs.declared.event.Holder.TheVariants.{Bus, Memory}
use Rattle.tomex_path.specs.Holds.{cycle_at, passes}
use Rattle.tomex_path.proofs.Cases.{AddressCase, EndCase}
use Rattle.tomex_path.proofs.Chain.{first_at, holder_at}
use Rattle.tomex_path.proofs.Operands.{one_writer, source_is}

-- if any step passes, the first one does
pub found : (q : Done → Bool) (p : List Done → Done → Bool) (e : Event) (t : ℕ) (h : List Done)
    → ((o : List Done) (x : Done) → p o x ≡ q x) → ((x : Done) → q x ≡ true → cycle_at e x.at + 1 ≡ t)
    → 0 < count_by q h → first_at p e h + 1 ≡ t
found q p e t [] same at c = absurd (omega arith)
found q p e t (d ∷ h) same at c = elim (cases_Bool (q d)) [
  | inl i ↦ rw (same h d, i) (at d i)
  | inr i ↦
      let s : count_by q (d ∷ h) ≡ one (q d) + count_by q h = sum_by-cons (λ x. one (q x)) d h in
      let z : one (q d) ≡ 0 = rw i refl in
      let k : 0 < count_by q h = omega arith in
      rw (same h d, i) (found q p e t h same at k)
]

pub before_is : (b : Bool) (a n : ℕ) → 0 < n → (b && (a == n - 1)) ≡ true → a + 1 ≡ n
before_is b a n l e = grind (arith, nat_tests)

first_access : (h : List Done) → holder_at Memory h ≡ last_address h
first_access [] = refl
first_access (d ∷ h) = elim (cases_Bool (is_memory d.step)) [ inl e ↦ rw e refl | inr e ↦ rw e (first_access h) ]

pub address_case : (config : Configuration) (d : Done) (older : List Done) → AreTimed config (d ∷ older)
    → is_memory d.step ≡ true → AddressCase config d older
address_case config d older timed memory =
    let least : IsLeast (can_address older d.step d.at.issue) (cycle_of d.at.address) =
    MatchBool-at_true _ _ memory timed.0.address in
    let at : cycle_of d.at.address
    ≡ max (max d.at.issue (source_end older (j_of d.step))) (last_address older) + 1 =
    least_same (can_address older d.step d.at.issue) (cycle_of d.at.address) _ least
    (address_agree older d.step d.at.issue) in
    elim (cases_Bool (d.at.issue + 1 == cycle_of d.at.address)) [
      | inl e ↦ inl (record { is = rw e refl; before = eqb-true _ _ e })
      | inr e ↦ elim (cases_Bool (source_end older (j_of d.step) + 1 == cycle_of d.at.address)) [
        | inl f ↦
            let s : source_end older (j_of d.step) + 1 ≡ cycle_of d.at.address = eqb-true _ _ f in
            inr (inl (record {
              is = rw (e, f) refl;
              before = rw (one_writer older (register_of (j_of d.step)), ← source_is older (j_of d.step)) s;
            }))
        | inr f ↦
            let l : last_address older + 1 ≡ cycle_of d.at.address =
            last d.at.issue (source_end older (j_of d.step)) (last_address older) (cycle_of d.at.address) at e f in
            inr (inr (record { is = rw (e, f) refl; before = rw (first_access older) l }))
      ]
    ]
  where
    last : (i j a t : ℕ) → t ≡ max (max i j) a + 1 → (i + 1 == t) ≡ false → (j + 1 == t) ≡ false → a + 1 ≡ t
    last i j a t e f g = grind (arith, nat_tests)

bus_before : (config : Configuration) (d : Done) (older : List Done) → IsWithinLimits config
    → IsLeast (can_end config older d.at.finish) d.at.end → d.at.finish + 1 < d.at.end
    → holder_at (Bus (d.at.end - 1)) older + 1 ≡ d.at.end
bus_before config d older good least late =
    let few = buses_low config good in
    let no_bus : has_bus config older (d.at.end - 1) ≡ false =
    last_fails (nat_lt d.at.finish (d.at.end - 1)) (has_bus config older (d.at.end - 1))
    (lt-ltb d.at.finish (d.at.end - 1) (omega arith)) (least.1 (d.at.end - 1) (omega arith)) in
    found (λ x. is_some (step_dest x.step) && x.at.end == d.at.end - 1) (passes (Bus (d.at.end - 1))) End d.at.end older
    (λ o x. refl) (λ x i. before_is (is_some (step_dest x.step)) x.at.end d.at.end (omega arith) i)
    (elim (cases_lt (count_by (λ x. is_some (step_dest x.step) && x.at.end == d.at.end - 1) older) config.buses) [
      | inl l ↦ let f : true ≡ false = rw (lt-ltb _ config.buses l) at no_bus in absurd (cc)
      | inr l ↦ omega arith
    ])

pub end_case : (config : Configuration) (d : Done) (older : List Done) → IsWithinLimits config
    → AreTimed config (d ∷ older) → EndCase config d older
end_case config d older good timed = elim (cases_lt 0 (d.at.end - (d.at.finish + 1))) [
  | inl l ↦ elim (cases_Bool (is_some (step_dest d.step))) [
    | inl e ↦ inr (record {
      waits = l;
      is = rw (lt-ltb 0 (d.at.end - (d.at.finish + 1)) l) refl;
      before = bus_before config d older good (result_end timed.0 e) (omega arith);
    })
    | inr e ↦ elim (cases_unit d.step) [
      | inl none ↦ let at = at_once none timed.0 in absurd (omega (arith, at.end, at.finish))
      | inr u ↦
          let same : d.at.end ≡ d.at.finish =
          MatchBool-at_false (IsLeast (can_end config older d.at.finish) d.at.end) _ e (operation u.1 timed.0).end in
          absurd (omega arith)
    ]
  ]
  | inr l ↦ inl (record { is = rw (le-ltb 0 (d.at.end - (d.at.finish + 1)) l) refl; end = omega arith })
]
