-- The answer of a run, by its length.
use Rattle.std.proofs.Common.{◌≡◌, ℕ, ◌+◌, ◌*◌, ◌/◌, ◌<◌, ◌≤◌, List, length}
use Rattle.std.proofs.Common.{refl, sym, ◌∙◌, ap, arith, subst, Bool, Option}
use Rattle.std.proofs.Common.{Some, None, Ok, Err}
use Rattle.std.proofs.Math.Nat.{div-mul-le_self, lt-div-mul-add}
use Rattle.std.proofs.lemmas.Bool.{le-ltb, lt-ltb}
use Rattle.std.proofs.lemmas.List.Quantifiers.{position-Some}
use Rattle.std.proofs.lemmas.Nat.{mul-le}
use Rattle.std.specs.Prelude.{IsTrue, if◌then◌else◌, is_some, position}
use Rattle.tomex_image.specs.Image.{Loaded}
use Rattle.tomex_samples.specs.declared.chosen.Chosen.{Chosen}
use Rattle.tomex_samples.specs.declared.error.PartsError.{PartsError}
use Rattle.tomex_samples.specs.declared.error.PartsError.TheVariants as errors
use Rattle.tomex_samples.specs.declared.stretches.Stretches.{Stretches}
use Rattle.tomex_samples.specs.Parts.{all_weighed, chosen, chosen_from, leaders_from, parts_of, parts_within, shares_of}
use Rattle.tomex_samples.specs.Stretches.{Run, most_stretches, run_length, run_of}
use Rattle.tomex_samples.specs.Tallied.{AreOf, IsPass}
use Rattle.tomex_rvexec.specs.Run.{start_of}
use Rattle.std.proofs.lemmas.List.FromFn.{length-map-range_with_len}
use Rattle.tomex_cut.specs.Part.{most_part, part_of}
use Rattle.tomex_samples.specs.Near.{part_is_found}
use Rattle.tomex_samples.specs.Weighable.{AreLengths}
use Rattle.tomex_samples.proofs.Lengths.{lengths_of}
use Rattle.tomex_samples.specs.Stretches.{part_length}

pub fails : (i : Loaded) (steps : ℕ) (e : PartsError) → run_length (most_stretches * steps) (start_of i) ≡ Err e
    → parts_of i steps ≡ Err e
fails i steps e is = ap (parts_within i steps) is

-- the number of stretches
number : {A : Type 0} (i : Loaded) (steps : ℕ) (r : Stretches A) (p : IsPass i steps r)
    → length r.parts.items ≡ p.count / steps
number i steps r p =
    sym (ap length p.shown.parts_are)
    ∙ length-map-range_with_len (λ k. part_length (part_of i (k * steps + 1) steps)) 0 (p.count / steps)

pub too_short : {A : Type 0} (i : Loaded) (steps : ℕ) (r : Stretches A) → IsPass i steps r → 1 ≤ steps
    → length r.parts.items ≡ 0 → parts_of i steps ≡ Err errors.NoSuchStep
too_short i steps r p some none =
    let zero_is : p.count / steps ≡ 0 = sym (number i steps r p) ∙ none in
    let product : p.count / steps * steps ≡ 0 = ap (λ n. n * steps) zero_is ∙ omega arith in
    let less : p.count < steps = omega (arith, lt-div-mul-add {a = p.count} {b = steps} some, product) in
    ap (parts_within i steps) p.ends
    ∙ ap (λ (b : Bool). if b then Err errors.NoSuchStep else chosen (run_of i steps (p.count / steps)) steps)
    (lt-ltb p.count steps less)

pub long_enough : {A : Type 0} (i : Loaded) (steps : ℕ) (r : Stretches A) (p : IsPass i steps r) (o : Option ℕ)
    → 0 < length r.parts.items → o ≡ position is_some r.parts.items
    → parts_of i steps ≡ chosen_from (run_of i steps (p.count / steps)) steps o
long_enough i steps r p o some is =
    let many : 1 ≤ p.count / steps = omega (arith, number i steps r p, some) in
    let more = mul-le 1 steps (p.count / steps) steps many (omega arith) in
    let enough : steps ≤ p.count = omega (arith, more, div-mul-le_self p.count steps) in
    ap (parts_within i steps) p.ends
    ∙ (ap (λ (b : Bool). if b then Err errors.NoSuchStep else chosen (run_of i steps (p.count / steps)) steps)
    (le-ltb p.count steps enough)
    ∙ ap (chosen_from (run_of i steps (p.count / steps)) steps)
    (ap (position is_some) p.shown.parts_are ∙ sym is))

-- the lengths of its parts
pub pass_lengths : {A : Type 0} (i : Loaded) (steps : ℕ) (r : Stretches A) → 1 ≤ steps → steps ≤ most_part
    → IsPass i steps r → AreLengths r.parts.items
pass_lengths i steps r some few p =
    subst (λ (ps : List (Option ℕ)). AreLengths ps) p.shown.parts_are (lengths_of i steps (p.count / steps) some few)

-- the first stretch that can is one that can
pub first_can : (parts : List (Option ℕ)) (k : ℕ) → Some k ≡ position is_some parts → IsTrue (part_is_found parts k)
first_can parts k is = let at = position-Some is_some parts k None (sym is) in at.1

pub none_is : (o : Option ℕ) → ((k : ℕ) → o ≡ Some k → ⊥) → o ≡ None
none_is None not_some = refl
none_is (Some k) not_some = absurd (not_some k refl)

-- the parts by the first stretch that can
pub chosen_is : {A : Type 0} (i : Loaded) (steps : ℕ) (r : Stretches A) → IsPass i steps r → (first : ℕ)
    → (parts : List Chosen) → 0 < length r.parts.items → Some first ≡ position is_some r.parts.items
    → ((run : Run) → AreOf run r → parts ≡ all_weighed (shares_of run r.steps (leaders_from run first)))
    → parts_of i steps ≡ Ok parts
chosen_is i steps r p first parts some is are =
    let run : Run = run_of i steps (p.count / steps) in
    long_enough i steps r p (Some first) some is
    ∙ sym (ap Ok (are run p.shown ∙ ap (λ n. all_weighed (shares_of run n (leaders_from run first))) p.steps_are))
