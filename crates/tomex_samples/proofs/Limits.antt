-- Limits of the numbers that a walk keeps.
use Rattle.std.proofs.Common.{◌≡◌, ℕ, ◌+◌, ◌-◌, ◌*◌, ◌^◌, ◌<◌, ◌≤◌, List, length, sym, ap, arith, subst, inl, inr}
use Rattle.std.proofs.Math.Nat.{mul-le-mul_right}
use Rattle.std.proofs.lemmas.Bool.{cases_lt}
use Rattle.std.specs.Prelude.{◌⊎◌}
use Rattle.tomex_cut.specs.Part.{most_part}
use Rattle.tomex_image.specs.Image.{Loaded}
use Rattle.tomex_image.specs.Window.{IsWindow, Span}
use Rattle.tomex_samples.specs.declared.tally.Tally.{Tally}
use Rattle.tomex_samples.specs.Stretches.{most_stretches}
use Rattle.tomex_samples.specs.Tallied.{AreTalliedIn}
use Rattle.tomex_samples.specs.Uses.{AreWordsFor}
use Rattle.tomex_samples.proofs.Tallying.{tallied_as}
use Rattle.tomex_samples.proofs.Walked.{IsWalked}
use Rattle.tomex_samples.specs.Tally.{lists}
use Rattle.tomex_rvexec.specs.Machine.{State}

pub no_more : (n m : ℕ) → n ≤ m → m < 2 ^ 32 → n < 2 ^ 32
no_more n m low few = omega arith

pub none_above : (n m : ℕ) → n ≡ m → m ≤ most_stretches → n < 2 ^ 32
none_above n m is few = omega arith

pub some_too : (n m : ℕ) → n ≡ m → 0 < m → 0 < n
some_too n m is some = omega arith

pub none_under_way : (current steps : ℕ) → current ≡ 0 → 1 ≤ steps → current < steps
none_under_way current steps is some = omega arith

pub none_to_go : (most done : ℕ) → most ≤ done → most - done ≡ 0
none_to_go most done past = omega arith

-- the stretches so far are few
pub few_stretches : (steps done whole current now : ℕ) → done ≡ whole * steps + current
    → done < most_stretches * steps → now ≡ whole → now < 2 ^ 32
few_stretches steps done whole current now is early same = at (cases_lt whole most_stretches)
  where
    at : (whole < most_stretches) ⊎ (most_stretches ≤ whole) → now < 2 ^ 32
    at (inl less) = omega arith
    at (inr many) =
        let by : most_stretches * steps ≤ whole * steps = mul-le-mul_right steps many in
        absurd (omega arith)

pub one_step_more : (steps done : ℕ) → steps ≤ most_part → done < most_stretches * steps → done + 1 < 2 ^ 32
one_step_more steps done few early = omega arith

-- the limits of the window of the image
pub limits_of : (window other : Span) → window ≡ other → IsWindow window.base window.size
    → IsWindow other.base other.size
limits_of window other same limits = subst (λ (w : Span). IsWindow w.base w.size) same limits

module _ {A : Type 0} (i : Loaded) (steps n : ℕ) (old new : Tally A) (tallied : AreTalliedIn i steps n old)
    (counts : new.counts ≡ old.counts) where
  -- the tally after some parts ended
  pub tallied_still : new.current ≡ old.current → new.rows ≡ old.rows
      → length new.ends.parts.items ≡ length old.ends.parts.items → AreTalliedIn i steps n new
  tallied_still current rows parts =
      tallied_as i steps n old.current new.current _ _ _ _ _ _ _ _ current (ap (λ c. c.numbers.items) counts)
      (ap (λ c. c.words.items) counts) (ap (λ r. lists r.items) rows) parts tallied

  same_size : length new.counts.numbers.items ≡ length old.counts.numbers.items
  same_size = ap (λ c. length c.numbers.items) counts

  pub few_counts : IsWindow i.window.base i.window.size → length new.counts.numbers.items < 2 ^ 32
  few_counts limits = omega (arith, same_size, tallied.size, limits.most)

  pub word_counted : (t : State) (base word : ℕ) (numbers : List ℕ) → IsWalked i steps n t base numbers
      → word < length numbers → word < length new.counts.numbers.items
  word_counted t base word numbers w inside = omega (arith, same_size, tallied.size, w.size, inside)

module _ (i : Loaded) (steps n : ℕ) (t : State) (base : ℕ) (numbers : List ℕ) (w : IsWalked i steps n t base numbers)
  where
    pub window_walked : IsWindow i.window.base i.window.size → IsWindow t.image.window.base t.image.window.size
    window_walked limits =
        subst (λ (j : Loaded). IsWindow j.window.base j.window.size) (sym w.keeps.image) limits

    pub words_walked : AreWordsFor t base numbers
    words_walked =
        subst (λ (j : Loaded). AreWordsFor (record { image = j; pc = t.pc; regs = t.regs; memory = t.memory }) base
        numbers) (sym w.keeps.image) (record { from = w.from; count = w.size })
