-- A part, step by step: what is known after each.
use Rattle.std.proofs.Common.{◌≡◌, ℕ, ◌+◌, ◌-◌, ◌*◌, ◌%◌, ◌<◌, ◌≤◌, List, [], ◌∷◌, ◌++◌, length, Bool, true, false}
use Rattle.std.proofs.Common.{Some, None}
use Rattle.std.proofs.Common.{Ok, Err, refl, sym, ◌∙◌, ap, arith, subst, max, inl, inr}
use Rattle.std.specs.Prelude.{not, ◌||◌, ◌==◌, MatchBool, ◌⊎◌, if◌then◌else◌}
use Rattle.std.specs.List.{list_any}
use Rattle.std.proofs.Math.Bool.{or-false}
use Rattle.std.proofs.lemmas.Bool.{cases_lt}
use Rattle.std.proofs.lemmas.List.Folds.{list_any-append}
use Rattle.tomex_cut.specs.declared.error.CutError.{CutError}
use Rattle.tomex_cut.specs.declared.error.CutError.TheVariants as errors
use Rattle.tomex_cut.specs.After.{after, left_by}
use Rattle.tomex_cut.specs.Marks.{AreMarked, AreWordsOf, HaveMarks}
use Rattle.tomex_cut.specs.Part.{GoesOn, Ends, Fails, is_changed, is_used, most_part, part_at, uses, verdict}
use Rattle.tomex_cut.specs.Part.{verdict_at, verdict_on}
use Rattle.tomex_cut.specs.Walking.{HasTaken, IsFound}
use Rattle.tomex_image.specs.Image.{Loaded}
use Rattle.tomex_rvexec.specs.declared.outcome.FaultKind.TheVariants as faults
use Rattle.tomex_rvexec.specs.declared.step.Step.{Step}
use Rattle.tomex_rvexec.specs.Fetch.{word_at}
use Rattle.tomex_rvexec.specs.Machine.{State, base_of, holds, step_of}
use Rattle.tomex_rvexec.specs.Machine.{Ends as EndsRun}
use Rattle.tomex_rvexec.specs.Memory.{is_inside, word_read}
use Rattle.tomex_rvexec.specs.Trace.{steps_from}
use Rattle.tomex_rvexec.proofs.FlowStates.{state_kept}
use Rattle.tomex_rvexec.proofs.FlowSteps.{changes}
use Rattle.tomex_cut.proofs.Walks.{IsOpen, Keeps, after_more, over, part_ends, part_fails, steps_end, steps_more}

-- after n steps of a part that begins in s the run is in t; these words are marked, and this is known of its code
pub record Walked (s : State) (n : ℕ) (t : State) (base : ℕ) (marks : List Bool) (overwritten : Bool) : Type 0 where
  pub reached : after s n ≡ Ok t
  pub keeps : Keeps s t
  pub from : base ≡ base_of s
  pub used : HaveMarks base marks (steps_from n s)
  pub changed : overwritten ≡ list_any (is_changed s) (steps_from n s)

-- a test of one more step
one_more : (p : Step → Bool) (steps : List Step) (x : Step) → list_any p (steps ++ x ∷ []) ≡ (list_any p steps || p x)
one_more p steps x = list_any-append p steps (x ∷ []) ∙ ap (λ b. list_any p steps || b) (or-false (p x))

used_more : (base : ℕ) (old new : List Bool) (steps : List Step) (x : Step) → HaveMarks base old steps
    → AreMarked base (λ a. uses a x) old new → HaveMarks base new (steps ++ x ∷ [])
used_more base old new steps x before more = record {
  each = λ k h.
      let inside : k < length old = omega (arith, more.count) in
      more.each k inside ∙ (ap (λ b. b || uses (base + 4 * k) x) (before.each k inside)
      ∙ sym (one_more (uses (base + 4 * k)) steps x));
}

at_true : (P Q : Type 0) (b : Bool) → b ≡ true → MatchBool b P Q → P
at_true P Q true e h = h
at_true P Q false e h = cc

at_false : (P Q : Type 0) (b : Bool) → b ≡ false → MatchBool b P Q → Q
at_false P Q true e h = cc
at_false P Q false e h = h

-- what is known of a step's code, with the names of the part
change_is : (i : Loaded) (m : List ℕ) (s : State) (x : Step) (changed : Bool) → i ≡ s.image → m ≡ s.memory
    → changed ≡ not (word_read m (x.pc - i.window.base) == word_at i x.pc) → changed ≡ is_changed s x
change_is i m s x changed e f h =
    h ∙ (ap (λ (j : Loaded). not (word_read m (x.pc - j.window.base) == word_at j x.pc)) e
    ∙ ap (λ (n : List ℕ). not (word_read n (x.pc - base_of s) == word_at s.image x.pc)) f)

pub taken_on : (i : Loaded) (m : List ℕ) (s t u : State) (n base base' : ℕ) (old new : List Bool)
    (before last changed : Bool) → i ≡ s.image → m ≡ s.memory → Walked s n t base old before
    → HasTaken i m t last changed u base old new → last ≡ false → base' ≡ base
    → Walked s (n + 1) u base' new (before || changed)
taken_on i m s t u n base base' old new before last changed e f w h on same =
    let goes = at_false _ _ last on h.goes in
    let steps = steps_more s t u n h.step w.reached h.comes goes in
    record {
      reached = after_more s t u n w.reached goes;
      keeps = record {
        state = state_kept t u h.step w.keeps.state h.comes goes;
        image = (changes t u h.step w.keeps.state h.comes goes).image ∙ w.keeps.image;
      };
      from = same ∙ w.from;
      used = subst (λ (b : ℕ). HaveMarks b new (steps_from (n + 1) s)) (sym same)
          (subst (λ (xs : List Step). HaveMarks base new xs) (sym steps)
          (used_more base old new (steps_from n s) h.step w.used h.marks));
      changed =
          ap (λ b. b || changed) w.changed
          ∙ (ap (λ b. list_any (is_changed s) (steps_from n s) || b) (change_is i m s h.step changed e f h.change)
          ∙ (sym (one_more (is_changed s) (steps_from n s) h.step)
          ∙ ap (list_any (is_changed s)) (sym steps)));
    }

-- a step that ends the run ends the part, also if it has fewer steps than were asked for
pub found_last : (i : Loaded) (m : List ℕ) (s t u : State) (least n base : ℕ) (old new : List Bool)
    (before last changed : Bool) → i ≡ s.image → m ≡ s.memory → Walked s n t base old before → IsOpen s least (n + 1)
    → least ≤ most_part → n < most_part → HasTaken i m t last changed u base old new → last ≡ true
    → IsFound s least None (before || changed) new
found_last i m s t u least n base old new before last changed e f w going most few h ended =
    let k = max least (n + 1) in
    let over_here = at_true _ _ last ended h.goes in
    let kind = over_here.0 in
    let ends : step_of t ≡ EndsRun kind = over_here.1 in
    let later : n < k = omega arith in
    let asked : least ≤ k = omega arith in
    let within : k ≤ most_part = omega arith in
    let last = steps_end s t kind n k h.step w.reached h.comes ends later in
    let left : left_by (step_of t) t ≡ Err errors.NoSuchStep = ap (λ o. left_by o t) ends in
    let is : verdict s k ≡ Ends None =
    ap (λ r. verdict_on r (steps_from k s)) (over s t errors.NoSuchStep n k w.reached left later) in
    let unended : IsOpen s least k = λ j low high. going j low (omega arith) in
    let marks = used_more base old new (steps_from n s) h.step w.used h.marks in
    record {
      part = record { start = s; steps = steps_from k s; end = None };
      is_part = part_ends s least k None asked within unended is;
      start = refl;
      ends = refl;
      end_word = tt;
      changed =
          ap (λ b. b || changed) w.changed
          ∙ (ap (λ b. list_any (is_changed s) (steps_from n s) || b) (change_is i m s h.step changed e f h.change)
          ∙ (sym (one_more (is_changed s) (steps_from n s) h.step)
          ∙ ap (list_any (is_changed s)) (sym last)));
      used = subst (λ (b : ℕ). HaveMarks b new (steps_from k s)) w.from
          (subst (λ (xs : List Step). HaveMarks base new xs) (sym last) marks);
    }

-- a part ends only before a word of memory
ends_inside : (t : State) (steps : List Step) (pc : ℕ) → verdict_at t steps ≡ Ends (Some pc)
    → (pc ≡ t.pc) × (holds t t.pc 4 ≡ true)
ends_inside t steps pc e = at (holds t t.pc 4) (is_used steps t.pc) refl e
  where
    at : (b u : Bool) → holds t t.pc 4 ≡ b
        → (if b then (if u then GoesOn else Ends (Some t.pc))
        else Fails (errors.Fault (record { kind = faults.Fetch; pc = t.pc }))) ≡ Ends (Some pc)
        → (pc ≡ t.pc) × (holds t t.pc 4 ≡ true)
    at true true here e = cc
    at true false here e = (cc, here)
    at false u here e = cc

-- the part ends before a new pc
pub found_here : (s t : State) (least n base : ℕ) (marks : List Bool) (overwritten : Bool) (pc : ℕ)
    → Walked s n t base marks overwritten → IsOpen s least n → least ≤ n → n ≤ most_part
    → verdict_at t (steps_from n s) ≡ Ends (Some pc) → IsFound s least (Some pc) overwritten marks
found_here s t least n base marks overwritten pc w going low high is =
    let at = ends_inside t (steps_from n s) pc is in
    let word : (pc % 4 ≡ 0) × (holds s pc 4 ≡ true) = (
      rw (at.0) w.keeps.state.aligned,
      rw (at.0) (subst (λ (i : Loaded). is_inside i.window.base i.window.size t.pc 4 ≡ true) w.keeps.image at.1),
    ) in
    let here : verdict s n ≡ Ends (Some pc) = ap (λ r. verdict_on r (steps_from n s)) w.reached ∙ is in
    record {
      part = record { start = s; steps = steps_from n s; end = Some pc };
      is_part = part_ends s least n (Some pc) low high going here;
      start = refl;
      ends = refl;
      end_word = word;
      changed = w.changed;
      used = subst (λ (b : ℕ). HaveMarks b marks (steps_from n s)) w.from w.used;
    }

-- there is nothing to end it after one more step
pub open_more : (s : State) (least n : ℕ) → IsOpen s least n → (least ≤ n → verdict s n ≡ GoesOn)
    → IsOpen s least (n + 1)
open_more s least n going here = λ m low high. at m low high (cases_lt m n)
  where
    at : (m : ℕ) → least ≤ m → m < n + 1 → (m < n) ⊎ (n ≤ m) → verdict s m ≡ GoesOn
    at m low high (inl l) = going m low l
    at m low high (inr g) =
        let same : n ≡ m = omega arith in
        subst (λ (k : ℕ). verdict s k ≡ GoesOn) same (here (omega arith))

-- a fault ends the search
pub fault_fails : (s t : State) (least n base : ℕ) (marks : List Bool) (overwritten : Bool) (e : CutError)
    → Walked s n t base marks overwritten → IsOpen s least (n + 1) → least ≤ most_part → n < most_part
    → left_by (step_of t) t ≡ Err e → (e ≡ errors.NoSuchStep → ⊥) → part_at (Ok s) least ≡ Err e
fault_fails s t least n base marks overwritten e w going most few left other =
    let k = max least (n + 1) in
    let later : n < k = omega arith in
    let is : verdict s k ≡ Fails e =
    ap (λ r. verdict_on r (steps_from k s)) (over s t e n k w.reached left later) ∙ fails e other in
    part_fails s least k e (omega arith) (omega arith) (λ j low high. going j low (omega arith)) is
  where
    fails : (e : CutError) → (e ≡ errors.NoSuchStep → ⊥)
        → verdict_on (Err e) (steps_from (max least (n + 1)) s) ≡ Fails e
    fails errors.NoSuchStep other = absurd (other refl)
    fails e other = refl

-- the marks are those of the window, also after more steps
pub words_of : (s t : State) (base base' : ℕ) (old new : List Bool) → Keeps s t → AreWordsOf s base old → base' ≡ base
    → length new ≡ length old → AreWordsOf t base' new
words_of s t base base' old new k w e f = record {
  from = e ∙ (w.from ∙ ap (λ (i : Loaded). i.window.base) (sym k.image));
  count = ap (λ n. 4 * n) f ∙ (w.count ∙ ap (λ (i : Loaded). i.window.size) (sym k.image));
}
