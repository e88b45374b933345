-- One step more: the window has the finishes of the longer history's last accesses.
use Rattle.std.proofs.Common.{ℕ, zero, suc, ◌+◌, ◌-◌, ◌<◌, ◌≤◌, ◌≡◌, ◌∙◌, true, false, arith, refl, sym, ap, inl, inr}
use Rattle.std.proofs.Common.{List, ◌∷◌, length, max, slice_index}
use Rattle.std.proofs.lemmas.Bool.{cases_order}
use Rattle.tomex_rvexec.specs.declared.step.Step.{Step}
use Rattle.tomex_config.specs.Configuration.{Configuration}
use Rattle.tomex_timing.specs.declared.times.Done.{Done}
use Rattle.tomex_timing.specs.declared.times.Times.{Times}
use Rattle.tomex_timing.specs.History.{is_memory, last_address}
use Rattle.tomex_timing.specs.Issue.{first_issue}
use Rattle.tomex_alike.specs.Alike.{first_access}
use Rattle.tomex_alike.proofs.Accesses.{finish_of, skip_access}
use Rattle.tomex_states.specs.States.{IsWindow}
use Rattle.tomex_states.specs.declared.state.Window.{Window}
use Rattle.tomex_states.proofs.Latest.{rest}

-- the window with one more finish
pub record IsWith (finish : ℕ) (before after : Window) : Type 0 where
  pub first : slice_index after.finishes 0 ≡ finish
  pub later : (i : ℕ) → i < 3 → slice_index after.finishes (i + 1) ≡ slice_index before.finishes i
  pub older : after.older ≡ max (slice_index before.finishes 3) before.older
  pub count : length after.finishes ≡ 4

module _ (config : Configuration) (h : List Done) (s : Step) (at : Times) (window : Window)
    (first : first_issue config h ≤ first_issue config (record { step = s; at = at } ∷ h))
    (rises : last_address h ≤ last_address (record { step = s; at = at } ∷ h)) (is : IsWindow config h window) where
  abbrev more : List Done
  more = record { step = s; at = at } ∷ h

  access_later : first_access config h ≤ first_access config more
  access_later = omega (arith, first, rises)

  -- a finish that is as late before is as late after the step
  late_still : (a b : ℕ) → a + 1 - first_access config h ≡ b + 1 - first_access config h
      → a + 1 - first_access config more ≡ b + 1 - first_access config more
  late_still a b e = rest (first_access config h) (first_access config more) (a + 1) (b + 1) access_later e

  low_still : (a b : ℕ) → a + 1 - first_access config h ≤ b + 1 - first_access config h
      → a + 1 - first_access config more ≤ b + 1 - first_access config more
  low_still a b l = let k = access_later in still (first_access config h) (first_access config more) k l
    where
      still : (n m : ℕ) → n ≤ m → a + 1 - n ≤ b + 1 - n → a + 1 - m ≤ b + 1 - m
      still n m k l = omega arith

  -- what is no access leaves the window
  pub window_stays : is_memory s ≡ false → IsWindow config more window
  window_stays m = record {
    finishes = λ i l.
        ap (λ f. f + 1 - first_access config more)
        (skip_access (λ d. d.at.finish) 0 (record { step = s; at = at }) h i m)
        ∙ late_still (finish_of h i) (slice_index window.finishes i) (is.finishes i l);
    older = λ i l. rw (skip_access (λ d. d.at.finish) 0 (record { step = s; at = at }) h i m)
        (low_still (finish_of h i) window.older (is.older i l));
    count = is.count;
  }

  module _ (after : Window) (m : is_memory s ≡ true) (with : IsWith at.finish window after) where
    next_back : (i : ℕ) → finish_of more (suc i) ≡ finish_of h i
    next_back i = rw m refl

    finishes_after : (i : ℕ) → i < 4
        → finish_of more i + 1 - first_access config more ≡ slice_index after.finishes i + 1 - first_access config more
    finishes_after zero l =
        let here : finish_of more 0 ≡ at.finish = rw m refl in
        ap (λ f. f + 1 - first_access config more) (here ∙ sym with.first)
    finishes_after (suc i) l =
        let same : i + 1 ≡ suc i = omega arith in
        let shifted : slice_index after.finishes (suc i) ≡ slice_index window.finishes i =
        ap (slice_index after.finishes) (sym same) ∙ with.later i (omega arith) in
        ap (λ f. f + 1 - first_access config more) (next_back i)
        ∙ late_still (finish_of h i) (slice_index window.finishes i) (is.finishes i (omega arith))
        ∙ ap (λ f. f + 1 - first_access config more) (sym shifted)

    older_after : (i : ℕ) → 4 ≤ i → finish_of more i + 1 - first_access config more
        ≤ after.older + 1 - first_access config more
    older_after zero l = absurd (omega arith)
    older_after (suc i) l = elim (cases_order i 3) [
      | inl e ↦
          let at_third = late_still (finish_of h 3) (slice_index window.finishes 3) (is.finishes 3 (omega arith)) in
          rw (next_back i, e, with.older) (omega (arith, at_third))
      | inr (inl k) ↦ absurd (omega arith)
      | inr (inr k) ↦
          let before = low_still (finish_of h i) window.older (is.older i (omega arith)) in
          rw (next_back i, with.older) (omega (arith, before))
    ]

    -- an access's finish is the first in it
    pub window_more : IsWindow config more after
    window_more = record { finishes = finishes_after; older = older_after; count = with.count }
