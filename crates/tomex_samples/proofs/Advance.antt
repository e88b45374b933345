-- What is kept of a run, from one step to the next.
use Rattle.std.proofs.Common.{◌≡◌, ℕ, ◌+◌, ◌*◌, ◌/◌, ◌<◌, ◌≤◌, List, [], length, refl, sym, ◌∙◌, ap, arith, subst}
use Rattle.std.proofs.Common.{Option, Some}
use Rattle.std.specs.Prelude.{slice_index, IsTrue}
use Rattle.tomex_cut.specs.Part.{most_part}
use Rattle.tomex_image.specs.Image.{Loaded}
use Rattle.tomex_samples.specs.declared.counts.Entry.{Entry}
use Rattle.tomex_samples.specs.declared.stretches.Stretches.{Stretches}
use Rattle.tomex_samples.specs.declared.tally.Tally.{Tally}
use Rattle.tomex_samples.specs.Ends.{HaveEnded}
use Rattle.tomex_samples.specs.Stretches.{Run, most_stretches, run_of}
use Rattle.tomex_samples.specs.Tallied.{AreFoundIn, AreTalliedIn, IsPass}
use Rattle.tomex_samples.specs.Tally.{AreFound, IsShown, IsStep, lists}
use Rattle.tomex_samples.proofs.Found.{all_found, found_next}
use Rattle.tomex_samples.proofs.Passed.{shown}
use Rattle.tomex_samples.proofs.Tallying.{tallied_as}
use Rattle.tomex_samples.proofs.Walked.{IsWalked, length_ends}
use Rattle.tomex_rvexec.specs.declared.step.Step.{Step}
use Rattle.tomex_rvexec.specs.declared.outcome.EndKind.{EndKind}
use Rattle.tomex_rvexec.specs.Machine.{State, Ends, coming_of, holds, step_of}
use Rattle.tomex_rvexec.proofs.FlowSteps.{comes}

pub found_none : (i : Loaded) (steps : ℕ) (parts : List (Option ℕ)) (waiting : List ℕ) → parts ≡ [] → waiting ≡ []
    → AreFound i steps 0 parts waiting
found_none i steps parts waiting none nothing = record {
  rising = λ t u h l. absurd (omega (arith, ap length nothing));
  inside = λ t h. absurd (omega (arith, ap length nothing));
  goes_on = λ t s n h reached enough early. absurd (omega arith);
  known = λ k h apart. absurd (omega (arith, ap length none));
}

pub record Advanced {A : Type 0} (i : Loaded) (steps n : ℕ) (new : Tally A) : Type 0 where
  pub tallied : AreTalliedIn i steps n new
  pub found : AreFoundIn i steps n new

pub advance : {A : Type 0} (i : Loaded) (steps n word last : ℕ) (t : State) (base : ℕ) (numbers : List ℕ) (x : Step)
    (old mid new : Tally A) → steps ≤ most_part → IsWalked i steps n t base numbers → AreTalliedIn i steps n old
    → AreFoundIn i steps n old → word < length numbers → t.pc ≡ base + 4 * word → IsTrue (holds t t.pc 4)
    → last ≡ slice_index numbers word
    → HaveEnded steps n last old.ends.parts.items old.ends.waiting.items mid.ends.parts.items mid.ends.waiting.items
    → mid.current ≡ old.current → mid.counts ≡ old.counts → mid.rows ≡ old.rows → coming_of t ≡ Some x
    → ((j : Loaded) (m : ℕ) (y : Step) → IsStep j m y → y.pc ≡ j.window.base + 4 * word → AreTalliedIn j steps m mid
    → AreTalliedIn j steps (m + 1) new)
    → ((j : Loaded) (m : ℕ) → AreTalliedIn j steps m mid → AreFoundIn j steps (m + 1) mid
    → AreFoundIn j steps (m + 1) new)
    → Advanced i steps (n + 1) new
advance i steps n word last t base numbers x old mid new most w tallied found inside at held last_is e current counts
    rows comes_x adds finds =
    let here : AreTalliedIn i steps n mid =
    tallied_as i steps n old.current mid.current _ _ _ _ _ _ _ _ current (ap (λ c. c.numbers.items) counts)
    (ap (λ c. c.words.items) counts) (ap (λ r. lists r.items) rows) e.ending.size tallied in
    let ended : AreFoundIn i steps (n + 1) mid =
    found_next i steps n old.current base word t numbers _ _ _ _ most found tallied.done w.reached held w.last inside at
    (subst (λ (k : ℕ). HaveEnded steps n k old.ends.parts.items old.ends.waiting.items mid.ends.parts.items
    mid.ends.waiting.items) last_is e) in
    let pc : x.pc ≡ t.pc = sym (ap (λ (y : Step). y.pc) (comes t x (step_of t) comes_x refl).step) in
    let place : x.pc ≡ i.window.base + 4 * word = pc ∙ (at ∙ ap (λ b. b + 4 * word) w.from) in
    record {
      tallied = adds i n x (record { before = t; reached = w.reached; comes = comes_x }) place here;
      found = finds i n here ended;
    }

shown_as : (steps other words more : ℕ) (rows new_rows : List (List Entry)) (parts new_parts : List (Option ℕ))
    (run : Run) → other ≡ steps → more ≡ words → new_rows ≡ rows → new_parts ≡ parts
    → IsShown steps words rows parts run → IsShown other more new_rows new_parts run
shown_as steps other words more rows new_rows parts new_parts run e f g h s =
    subst (λ (k : ℕ). IsShown k more new_rows new_parts run) (sym e)
    (subst (λ (k : ℕ). IsShown steps k new_rows new_parts run) (sym f)
    (subst (λ (rs : List (List Entry)). IsShown steps words rs new_parts run) (sym g)
    (subst (λ (ps : List (Option ℕ)). IsShown steps words rows ps run) (sym h) s)))

-- the run ends with the next step
pub passed : {A : Type 0} (i : Loaded) (steps n : ℕ) (t : State) (base : ℕ) (numbers : List ℕ) (kind : EndKind)
    (x : Step) (new last : Tally A) (r : Stretches A) → 1 ≤ steps → steps ≤ most_part
    → IsWalked i steps n t base numbers → n < most_stretches * steps → Advanced i steps (n + 1) new
    → new.current < steps → coming_of t ≡ Some x → step_of t ≡ Ends kind
    → HaveEnded steps (n + 1) 0 new.ends.parts.items new.ends.waiting.items last.ends.parts.items
    last.ends.waiting.items
    → last.counts ≡ new.counts → last.rows ≡ new.rows → r.steps ≡ steps
    → r.words ≡ length last.counts.numbers.items → r.rows.items ≡ last.rows.items
    → r.parts.items ≡ last.ends.parts.items → IsPass i steps r
passed i steps n t base numbers kind x new last r some most w less on current comes_x ends e counts rows steps_are
    words_are rows_are parts_are =
    let words : r.words ≡ length new.counts.numbers.items =
    words_are ∙ ap (λ c. length c.numbers.items) counts in
    record {
      count = n + 1;
      ends = w.whole ∙ length_ends n (most_stretches * steps) t kind less ends;
      steps_are = steps_are;
      words_are = words ∙ on.tallied.size;
      shown = shown_as steps r.steps r.words r.words _ _ _ _ (run_of i steps ((n + 1) / steps)) steps_are refl
          (ap lists rows_are ∙ ap (λ v. lists v.items) rows) parts_are
          (shown i steps (n + 1) new.current r.words _ _ _ new.ends.parts.items last.ends.parts.items some most
          (omega arith) current
          on.tallied words e.ending.size
          (all_found i steps n new.current t kind x _ _ _ _ some most on.found on.tallied.done w.reached comes_x ends
          e));
    }
