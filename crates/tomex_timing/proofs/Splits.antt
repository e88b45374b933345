-- The tests of the recurrence, split by the first cycle in which each of their parts passes.
use Rattle.std.proofs.Common.{◌∙◌, sym, ℕ, ◌+◌, ◌≤◌, ◌≡◌, Bool, arith, refl, List, [], ◌∷◌, add-one, inl, inr}
use Rattle.std.proofs.Common.{max, nat_lt, nat_le, ◌==◌, ◌&&◌, count_by}
use Rattle.std.proofs.lemmas.Bool.{cases_Bool, cases_order, lt-ltb, le-leb, lt-leb}
use Rattle.std.proofs.lemmas.Bool.Decides.{nat_tests}
use Rattle.tomex_rvexec.specs.Steps.{j_of, is_branch}
use Rattle.tomex_rvexec.specs.declared.step.Step.{Step}
use Rattle.tomex_config.specs.Configuration.{Configuration, IsWithinLimits}
use Rattle.tomex_timing.specs.declared.times.Done.{Done}
use Rattle.tomex_timing.specs.History.{source_end, last_issue, last_address}
use Rattle.tomex_timing.specs.Issue.{branch_finish, first_issue, slot_from}
use Rattle.tomex_timing.specs.Recurrence.{IsLeast, AreTimed, can_address, can_issue_another, are_branches_finished}
use Rattle.tomex_timing.proofs.Bools.{and_assoc, and_swap}
use Rattle.tomex_timing.proofs.Limits.{width_low}
use Rattle.tomex_timing.proofs.Tests.{can_address_from, can_address_is}
use Rattle.tomex_timing.proofs.Width.{none_later}

pub slot_range : (config : Configuration) (h : List Done) → (last_issue h ≤ slot_from config h)
    × (slot_from config h ≤ last_issue h + 1)
slot_range config h = elim (cases_Bool (nat_lt (count_by (λ d. d.at.issue == last_issue h) h) config.width)) [
  | inl e ↦ rw e (omega arith, omega arith)
  | inr e ↦ rw e (omega arith, omega arith)
]

-- the first cycle from a greatest one on
pub max_split : (a b t : ℕ) → nat_le (max a b) t ≡ (nat_le a t && nat_le b t)
max_split a b t = grind (arith, nat_tests)

-- a cycle from the next one on is later
pub after_split : (a t : ℕ) → nat_le (a + 1) t ≡ nat_lt a t
after_split a t = rw add-one refl

-- there is room for an issue in the cycle of the last issue, if fewer than the width have it, and in each later one
pub slot_split : (config : Configuration) (h : List Done) (t : ℕ) → IsWithinLimits config → AreTimed config h
    → nat_le (slot_from config h) t ≡ can_issue_another config h t
slot_split config h t good timed = elim (cases_order (last_issue h) t) [
  | inl e ↦ elim (cases_Bool (nat_lt (count_by (λ d. d.at.issue == last_issue h) h) config.width)) [
    | inl f ↦ rw (f, ← e, f, le-leb (last_issue h) (last_issue h) (omega arith)) refl
    | inr f ↦ rw (
      f,
      ← e,
      f,
      lt-leb (last_issue h + 1) (last_issue h) (omega arith),
      le-leb (last_issue h) (last_issue h) (omega arith),
    ) refl
  ]
  | inr (inl l) ↦
      let low = (slot_range config h).1 in
      rw (
        none_later config h t timed l,
        lt-ltb 0 config.width (width_low config good),
        le-leb (last_issue h) t (omega arith),
      ) (le-leb (slot_from config h) t (omega (arith, low)))
  | inr (inr l) ↦
      let high = (slot_range config h).0 in
      rw (lt-leb (last_issue h) t l) (lt-leb (slot_from config h) t (omega (arith, high)))
]

swap_and : (a b c : Bool) → (a && (b && c)) ≡ (b && (a && c))
swap_and a b c = rw (← and_assoc a b c, and_swap a b) (and_assoc b a c)

-- later than the latest finish of a branch is later than each
pub branch_split : (h : List Done) (t : ℕ) → nat_le (branch_finish h + 1) t ≡ (nat_lt 0 t && are_branches_finished h t)
branch_split [] t = elim (cases_Bool (nat_lt 0 t)) [ inl e ↦ rw e refl | inr e ↦ rw e refl ]
branch_split (d ∷ h) t = elim (cases_Bool (is_branch d.step)) [
  | inl e ↦
      let s : max d.at.finish (branch_finish h) + 1 ≡ max (d.at.finish + 1) (branch_finish h + 1) = omega arith in
      rw (e, s, max_split (d.at.finish + 1) (branch_finish h + 1) t, after_split d.at.finish t, branch_split h t)
      (swap_and (nat_lt d.at.finish t) (nat_lt 0 t) (are_branches_finished h t))
  | inr e ↦ rw e (branch_split h t)
]

-- all of the test for issue except the station
pub issue_split : (config : Configuration) (h : List Done) (t : ℕ) → IsWithinLimits config → AreTimed config h
    → nat_le (first_issue config h) t ≡ ((nat_lt 0 t && can_issue_another config h t) && are_branches_finished h t)
issue_split config h t good timed =
    rw (max_split (slot_from config h) (branch_finish h + 1) t, slot_split config h t good timed, branch_split h t)
    (swap_and (can_issue_another config h t) (nat_lt 0 t) (are_branches_finished h t)
    ∙ sym (and_assoc (nat_lt 0 t) (can_issue_another config h t) (are_branches_finished h t)))

pub ready_split : (issue address j k t : ℕ) → nat_le (max (max issue address) (max j k) + 1) t
    ≡ ((nat_lt issue t && nat_lt address t) && (nat_lt j t && nat_lt k t))
ready_split issue address j k t =
    let e : max (max issue address) (max j k) + 1 ≡ max (max (issue + 1) (address + 1)) (max (j + 1) (k + 1)) =
    omega arith in
    rw (e, max_split, max_split, max_split, after_split, after_split, after_split, after_split) refl

pub address_agree : (h : List Done) (s : Step) (issue : ℕ)
    → IsLeast (can_address h s issue) (max (max issue (source_end h (j_of s))) (last_address h) + 1)
address_agree h s issue = (
  can_address_from h s issue (max (max issue (source_end h (j_of s))) (last_address h) + 1)
      (record { after_issue = omega arith; after_base = omega arith; in_order = omega arith }),
  λ t l. elim (cases_Bool (can_address h s issue t)) [
    | inl e ↦ let can = can_address_is h s issue t e in absurd (omega arith)
    | inr e ↦ e
  ],
)
