-- The steps of a log, while they are gathered.
use Rattle.std.proofs.Common.{◌≡◌, ◌∙◌, ap, sym, refl, arith, inl, inr, ℕ, zero, suc, ◌+◌, ◌<◌, ◌≤◌, List, [], ◌∷◌}
use Rattle.std.proofs.Common.{◌++◌, append_assoc, drop, get_or, length, Option, Some, None}
use Rattle.std.specs.Prelude.{replicate}
use Rattle.std.specs.Option.{ForSome}
use Rattle.std.proofs.lemmas.Bool.{cases_Bool, cases_eq, eq-eqb, ne_eqb}
use Rattle.std.proofs.lemmas.List.{append-nil, get_or-set_same, get_or-set_other, length-set}
use Rattle.tomex_rvexec.specs.Steps.{is_number, step_dest, j_of, k_of}
use Rattle.tomex_rvexec.specs.declared.step.Operand.{Operand}
use Rattle.tomex_rvexec.specs.declared.step.Step.{Step}
use Rattle.tomex_timing.specs.declared.times.Done.{Done}
use Rattle.tomex_timing.specs.declared.times.Times.{Times}
use Rattle.tomex_konata.specs.declared.entries.Entry.{Entry}
use Rattle.tomex_konata.specs.declared.entries.Producer.{Producer}
use Rattle.tomex_konata.specs.Konata.{entries_from, entry_of, producer}
use Rattle.tomex_konata.specs.Kept.{writers_after, writer_in}

-- the youngest writer of a register among some older steps
abbrev writer_of : List Done → ℕ → Option Producer
writer_of older r = producer older (Some (record { register = r; value = 0 }))

-- a table has the youngest writer of each register
pub record AreWriters (older : List Done) (writers : List (Option Producer)) : Type 0 where
  pub long : length writers ≡ 32
  pub each : (r : ℕ) → r < 32 → get_or writers r None ≡ writer_of older r

none_yet : (n r : ℕ) (p : Option Producer) → get_or (replicate n p) r p ≡ p
none_yet zero r p = refl
none_yet (suc n) zero p = refl
none_yet (suc n) (suc r) p = none_yet n r p

pub no_writers : AreWriters [] (replicate 32 None)
no_writers = record { long = refl; each = λ r within. none_yet 32 r None }

by_register : (older : List Done) (o : Operand) → producer older (Some o) ≡ writer_of older o.register
by_register [] o = refl
by_register (d ∷ older) o = elim (cases_Bool (is_number (step_dest d.step) o.register)) [
  | inl e ↦ rw e refl
  | inr e ↦ rw e (by_register older o)
]

no_operand : (older : List Done) → producer older None ≡ None
no_operand [] = refl
no_operand (d ∷ older) = refl

pub read : (older : List Done) (writers : List (Option Producer)) (o : Option Operand) → AreWriters older writers
    → ForSome o (λ o. o.register < 32) → writer_in writers o ≡ producer older o
read older writers None are low = sym (no_operand older)
read older writers (Some o) are low = are.each o.register (low o refl) ∙ sym (by_register older o)

-- one more step
pub more_writers : (older : List Done) (d : Done) (dest : Option ℕ) (writers : List (Option Producer))
    → AreWriters older writers
    → step_dest d.step ≡ dest → AreWriters (d ∷ older)
    (writers_after writers dest (record { id = length older; end = d.at.end }))
more_writers older d None writers are is = record { long = are.long; each = λ r within. are.each r within ∙ rw is refl }
more_writers older d (Some n) writers are is = record {
  long = length-set writers n (Some (record { id = length older; end = d.at.end })) ∙ are.long;
  each = λ r within. elim (cases_eq n r) [
    | inl e ↦
        let inside : r < length writers = omega (arith, within, are.long) in
        rw (is, e, eq-eqb r r refl) (get_or-set_same writers r (Some (record { id = length older; end = d.at.end }))
        None inside)
    | inr other ↦ rw (is, ne_eqb n r other)
        (get_or-set_other writers n r (Some (record { id = length older; end = d.at.end })) None (λ e. other (sym e))
        ∙ are.each r within)
  ];
}

-- the entries that are gathered after `count` steps
pub record AreGathered (steps : List Step) (times : List Times) (count : ℕ) (entries : List Entry)
    (writers : List (Option Producer)) : Type 0 where
  pub older : List Done
  pub long : length older ≡ count
  pub kept : AreWriters older writers
  pub text : entries ++ entries_from older (drop count steps) (drop count times) ≡ entries_from [] steps times

pub none_gathered : (steps : List Step) (times : List Times) (entries : List Entry) → entries ≡ []
    → AreGathered steps times 0 entries (replicate 32 None)
none_gathered steps times entries none = record { older = []; long = refl; kept = no_writers; text = rw none refl }

next_entry : (older : List Done) (i : ℕ) (steps : List Step) (times : List Times) (step s : Step) (at t : Times)
    → i < length steps → length times ≡ length steps → step ≡ get_or steps i s → at ≡ get_or times i t
    → entries_from older (drop i steps) (drop i times)
    ≡ entry_of older (record { step = step; at = at })
    ∷ entries_from (record { step = step; at = at } ∷ older) (drop (suc i) steps) (drop (suc i) times)
next_entry older i [] times step s at t within pairs step_is at_is = absurd (omega (arith, within))
next_entry older i (x ∷ xs) [] step s at t within pairs step_is at_is = absurd (omega (arith, pairs))
next_entry older zero (x ∷ xs) (y ∷ ys) step s at t within pairs step_is at_is = rw (step_is, at_is) refl
next_entry older (suc i) (x ∷ xs) (y ∷ ys) step s at t within pairs step_is at_is =
    next_entry older i xs ys step s at t (omega (arith, within)) (omega (arith, pairs)) step_is at_is

-- one more step
pub one_gathered : {steps : List Step} {times : List Times} {i : ℕ} {before after : List Entry}
    {writers behind : List (Option Producer)} {step : Step} (s : Step) {at : Times} (t : Times) {j k : Option Producer}
    → (g : AreGathered steps times i before writers) → i < length steps → length times ≡ length steps
    → step ≡ get_or steps i s → at ≡ get_or times i t → j ≡ writer_in writers (j_of step)
    → k ≡ writer_in writers (k_of step) → ForSome (j_of step) (λ o. o.register < 32)
    → ForSome (k_of step) (λ o. o.register < 32)
    → behind ≡ writers_after writers (step_dest step) (record { id = i; end = at.end })
    → after ≡ before ++ record { id = i; step = step; at = at; j = j; k = k } ∷ []
    → AreGathered steps times (i + 1) after behind
one_gathered {steps} {times} {i} {before} {writers} {step} s {at} t {j} {k} g within pairs step_is at_is j_is k_is
    j_low k_low noted_is grown =
    let d : Done = record { step = step; at = at } in
    let rest = entries_from (d ∷ g.older) (drop (suc i) steps) (drop (suc i) times) in
    let entry : entry_of g.older d ≡ record { id = i; step = step; at = at; j = j; k = k } =
    rw (
      j_is,
      k_is,
      read g.older writers (j_of step) g.kept j_low,
      read g.older writers (k_of step) g.kept k_low,
      g.long,
    ) refl in
    record {
      older = d ∷ g.older;
      long = omega (arith, g.long);
      kept = rw (noted_is, ← g.long) (more_writers g.older d (step_dest step) writers g.kept refl);
      text =
          let next : i + 1 ≡ suc i = omega arith in
          rw (next, grown)
          (append_assoc before (record { id = i; step = step; at = at; j = j; k = k } ∷ []) rest
          ∙ (ap (λ (e : Entry). before ++ e ∷ rest) (sym entry)
          ∙ (ap (λ (es : List Entry). before ++ es)
          (sym (next_entry g.older i steps times step s at t within pairs step_is at_is)) ∙ g.text)));
    }

none_there : (older : List Done) (ss : List Step) → entries_from older ss [] ≡ []
none_there older [] = refl
none_there older (s ∷ ss) = refl

-- after all of them
pub all_gathered : {steps : List Step} {times : List Times} {count : ℕ} {entries : List Entry}
    {writers : List (Option Producer)} → AreGathered steps times count entries writers → length steps ≤ count
    → entries ≡ entries_from [] steps times
all_gathered {steps} {times} {count} {entries} g past =
    sym (append-nil entries) ∙ (ap (λ (es : List Entry). entries ++ es) (sym (none_left g.older count steps times past))
    ∙ g.text)
  where
    none_left : (older : List Done) (n : ℕ) (ss : List Step) (ts : List Times) → length ss ≤ n
        → entries_from older (drop n ss) (drop n ts) ≡ []
    none_left older zero [] ts past = refl
    none_left older (suc n) [] ts past = refl
    none_left older zero (x ∷ xs) ts past = absurd (omega (arith, past))
    none_left older (suc n) (x ∷ xs) [] past = none_there older (drop n xs)
    none_left older (suc n) (x ∷ xs) (y ∷ ys) past = none_left older n xs ys (omega (arith, past))
