-- One step more: the latest cycles then show the longer history.
use Rattle.std.proofs.Common.{ℕ, ◌+◌, ◌-◌, ◌^◌, ◌<◌, ◌≤◌, ◌≡◌, ◌≢◌, ◌∙◌, Bool, true, false, arith, refl, sym, ap}
use Rattle.std.proofs.Common.{List, ◌∷◌, Option, Some, None, cond, inl, inr, length, max, nat_lt, ◌==◌, slice_index}
use Rattle.std.specs.Prelude.{IfSome}
use Rattle.std.proofs.lemmas.Bool.{and_parts, cases_eq, eq-eqb, leb-true, ne_eqb}
use Rattle.std.proofs.lemmas.Bool.{MatchBool-at_false, MatchBool-at_true}
use Rattle.std.proofs.lemmas.List.{get_or-set_same, get_or-set_other}
use Rattle.std.proofs.lemmas.List.Sums.{count_by-le-length, sum_by-cons}
use Rattle.tomex_rvexec.specs.Steps.{is_branch, is_number, step_dest}
use Rattle.tomex_rvexec.specs.declared.step.Step.{Step}
use Rattle.tomex_config.specs.Configuration.{Configuration, IsWithinLimits}
use Rattle.tomex_timing.specs.declared.recent.Latest.{Latest}
use Rattle.tomex_timing.specs.declared.times.Done.{Done}
use Rattle.tomex_timing.specs.declared.times.Times.{Times}
use Rattle.tomex_timing.specs.History.{cycle_of, greatest_end, is_memory, last_address, writer_end}
use Rattle.tomex_timing.specs.Issue.{branch_finish, first_after_branches, first_issue}
use Rattle.tomex_timing.specs.Laws.{InReach}
use Rattle.tomex_timing.specs.Recent.{facts_of, issue_from, latest_after, written_by}
use Rattle.tomex_timing.specs.Recurrence.{AreTimed, IsLeast, IsTimed, can_address}
use Rattle.tomex_timing.specs.Waiting.{past_branches}
use Rattle.tomex_timing.proofs.Orders.{reach, start_after}
use Rattle.tomex_timing.proofs.Search.{address_pos}
use Rattle.tomex_timing.proofs.Splits.{issue_split}
use Rattle.tomex_timing.proofs.Summary.{address_kept, length-written_by}
use Rattle.tomex_timing.proofs.Turns.{issue_first}
use Rattle.tomex_timing.proofs.Width.{none_later}
use Rattle.tomex_alike.specs.Alike.{issued_in}
use Rattle.tomex_states.specs.States.{ShowsLatest, count_with_next}

-- what is as far after n is as far after a later cycle
pub rest : (n m x y : ℕ) → n ≤ m → x - n ≡ y - n → x - m ≡ y - m
rest n m x y l e = omega arith

-- one more than are counted in a cycle
pub one_more_of : (f : ℕ → ℕ) (t issue count : ℕ) → (t ≡ issue → count ≡ f t) → (t ≢ issue → f t ≡ 0)
    → cond (t == issue) (count + 1) 1 ≡ f t + 1
one_more_of f t issue count same none = elim (cases_eq t issue) [
  | inl e ↦ rw (eq-eqb t issue e, same e) refl
  | inr n ↦ rw (ne_eqb t issue n, none n) refl
]

from_parts : (b : Bool) (issue branch n : ℕ) → max (cond b issue (issue + 1)) (branch + 1) ≡ n
    → (issue ≤ n) × (branch < n)
from_parts true issue branch n e = (omega arith, omega arith)
from_parts false issue branch n e = (omega arith, omega arith)

module _ {config : Configuration} {h : List Done} {latest : Latest} (shown : ShowsLatest config h latest) where
  pub last_low : (latest.issue ≤ first_issue config h) × (latest.branch < first_issue config h)
  last_low =
      from_parts (nat_lt latest.issued config.width) latest.issue latest.branch (first_issue config h) shown.first

  -- the steps that issue in a cycle are counted
  pub counted : (t : ℕ) → AreTimed config h → first_issue config h ≤ t → count_with_next latest t ≡ issued_in h t + 1
  counted t timed l = elim (cases_eq t (first_issue config h)) [
    | inl e ↦ rw e shown.issued
    | inr n ↦
        let low = last_low in
        let issued = issue_first config h in
        let later : first_issue config h < t = omega (arith, n) in
        one_more_of (issued_in h) t latest.issue latest.issued (λ (e : t ≡ latest.issue). absurd (omega (arith, low.0)))
        (λ k. none_later config h t timed (omega (arith, issued)))
  ]

slot_with : (b : Bool) (issue x y : ℕ) → max issue (x + 1) ≡ max issue (y + 1)
    → max (cond b issue (issue + 1)) (x + 1) ≡ max (cond b issue (issue + 1)) (y + 1)
slot_with true issue x y e = e
slot_with false issue x y e = omega arith

past_with : (issue x y : ℕ) → max issue (x + 1) ≡ max issue (y + 1)
    → max (max 1 issue) (x + 1) ≡ max (max 1 issue) (y + 1)
past_with issue x y e = omega arith

branch_with : (b : Bool) (n issue finish x y : ℕ) → n ≤ issue → issue ≤ finish → x < n → y < n
    → max issue (cond b (max finish x) x + 1) ≡ max issue (cond b (max finish y) y + 1)
branch_with true n issue finish x y l k p q = omega arith
branch_with false n issue finish x y l k p q = omega arith

either_rest : (b : Bool) (n m a x y : ℕ) → n ≤ m → x - n ≡ y - n → cond b a x - m ≡ cond b a y - m
either_rest true n m a x y l e = refl
either_rest false n m a x y l e = rest n m x y l e

written_rest : (h : List Done) (dest : Option ℕ) (n m end : ℕ) (ends : List ℕ) → length ends ≡ 32
    → IfSome dest (λ r. r < 32) → n ≤ m → ((r : ℕ) → r < 32 → slice_index ends r - n ≡ writer_end h r - n) → (r : ℕ)
    → r < 32 → slice_index (written_by dest end ends) r - m ≡ cond (is_number dest r) end (writer_end h r) - m
written_rest h None n m end ends len small l same r k = rest n m _ _ l (same r k)
written_rest h (Some q) n m end ends len small l same r k = elim (cases_eq q r) [
  | inl y ↦
      let there : q < length ends = rw len small in
      rw (eq-eqb q r y, ← y) (ap (λ e. e - m) (get_or-set_same ends q end 0 there))
  | inr z ↦
      rw (ne_eqb q r z) (ap (λ e. e - m) (get_or-set_other ends q r end 0 (λ (y : r ≡ q). z (sym y)))
      ∙ rest n m _ _ l (same r k))
]

module _ {config : Configuration} {h : List Done} {latest : Latest} {s : Step} {at : Times}
    (good : IsWithinLimits config) (timed : AreTimed config h) (shown : ShowsLatest config h latest)
    (is : IsTimed config h s at) where
  abbrev more : List Done
  more = record { step = s; at = at } ∷ h

  abbrev after : Latest
  after = latest_after (facts_of s) at latest

  pub first_issued : first_issue config h ≤ at.issue
  first_issued = leb-true (first_issue config h) at.issue (issue_split config h at.issue good timed
      ∙ (and_parts _ _ is.issue.0).0)

  pub first_later : first_issue config h ≤ first_issue config more
  first_later = let l = issue_first config more in omega (arith, first_issued)

  reaches : InReach (greatest_end h) at
  reaches = reach config (record { step = s; at = at }) h good (is, timed)

  issued_after : after.issued ≡ issued_in more at.issue
  issued_after =
      counted shown at.issue timed first_issued
      ∙ rw (sum_by-cons, eq-eqb at.issue at.issue refl) (omega arith)

  branch_after : max at.issue (after.branch + 1) ≡ max at.issue (branch_finish more + 1)
  branch_after =
      let low = last_low shown in
      let start = start_after config h s at is in
      branch_with (is_branch s) (first_issue config h) at.issue at.finish latest.branch (branch_finish h) first_issued
      (omega (arith, reaches.order)) low.1 (omega arith)

  first_after : issue_from config after ≡ first_issue config more
  first_after =
      ap (λ k. max (cond (nat_lt k config.width) at.issue (at.issue + 1)) (after.branch + 1)) issued_after
      ∙ slot_with (nat_lt (issued_in more at.issue) config.width) at.issue after.branch (branch_finish more)
      branch_after

  past_after : past_branches after ≡ first_after_branches more
  past_after = past_with at.issue after.branch (branch_finish more) branch_after

  address_after : after.address - first_issue config more ≡ last_address more - first_issue config more
  address_after =
      ap (λ a. a - first_issue config more) (address_kept (is_memory s) at.address latest.address
      (λ e. let a : IsLeast (can_address h s at.issue) (cycle_of at.address) = MatchBool-at_true _ _ e is.address in
      address_pos h s at.issue (cycle_of at.address) a.0)
      (λ e. MatchBool-at_false (IsLeast (can_address h s at.issue) (cycle_of at.address)) _ e is.address))
      ∙ either_rest (is_memory s) (first_issue config h) (first_issue config more) (cycle_of at.address)
      latest.address (last_address h) first_later shown.address

  few_after : length h < 2 ^ 56 → after.issued < 2 ^ 63
  few_after few =
      let most = count_by-le-length (λ (d : Done). d.at.issue == at.issue) more in
      omega (arith, issued_after)

  pub latest_shows : IfSome (step_dest s) (λ r. r < 32) → length h < 2 ^ 56 → ShowsLatest config more after
  latest_shows small few = record {
    first = first_after;
    issued = one_more_of (issued_in more) (first_issue config more) at.issue after.issued
        (λ e. issued_after ∙ ap (issued_in more) (sym e))
        (λ n. none_later config more (first_issue config more) (is, timed)
        (omega (arith, n, issue_first config more)));
    width = ap (λ p. first_issue config more - p) past_after;
    end = ap (max at.end) shown.end;
    address = address_after;
    ends = written_rest h (step_dest s) (first_issue config h) (first_issue config more) at.end latest.ends shown.count
        small first_later shown.ends;
    count = length-written_by (step_dest s) at.end latest.ends ∙ shown.count;
    few = few_after few;
  }
