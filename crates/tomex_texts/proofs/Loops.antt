-- The text that a loop has written, one turn later.
use Rattle.std.proofs.Common.{◌≡◌, ℕ, zero, suc, ◌+◌, ◌<◌, List, [], ◌∷◌, ◌++◌, length, get_or, take, drop, refl, sym}
use Rattle.std.proofs.Common.{ap, ◌∙◌, arith, add-one, append_assoc}
use Rattle.std.specs.List.{flat_map}
use Rattle.std.proofs.lemmas.List.{append-nil}
use Rattle.tomex_rvexec.specs.declared.step.Step.{Step}
use Rattle.tomex_timing.specs.declared.times.Times.{Times}
use Rattle.tomex_layout.specs.Csv.{record_text}
use Rattle.tomex_texts.specs.TimesReport.{fields_of_step, step_records}

-- the piece of one more item
flat_map_suc : {X Y : Type 0} (f : X → List Y) (xs : List X) (i : ℕ) (x d : X) → i < length xs → x ≡ get_or xs i d
    → flat_map f (take (suc i) xs) ≡ flat_map f (take i xs) ++ f x
flat_map_suc f [] i x d within is = absurd (omega (arith, within))
flat_map_suc f (y ∷ ys) zero x d within is = append-nil (f y) ∙ ap f (sym is)
flat_map_suc f (y ∷ ys) (suc i) x d within is =
    ap (λ zs. f y ++ zs) (flat_map_suc f ys i x d (omega (arith, within)) is)
    ∙ sym (append_assoc (f y) (flat_map f (take i ys)) (f x))

pub piece_more : {X Y : Type 0} (f : X → List Y) (xs : List X) (i : ℕ) (x d : X) (so_far after piece : List Y)
    → i < length xs → x ≡ get_or xs i d
    → after ≡ so_far ++ piece → piece ≡ f x → so_far ≡ flat_map f (take i xs) → after ≡ flat_map f (take (i + 1) xs)
piece_more f xs i x d so_far after piece within is grown piece_is before =
    grown ∙ rw (piece_is, before, add-one) (sym (flat_map_suc f xs i x d within is))

-- the record of the next step
records_at : (number index : ℕ) (steps : List Step) (times : List Times) (step first : Step) (at none : Times)
    → index < length steps → length times ≡ length steps
    → step ≡ get_or steps index first → at ≡ get_or times index none
    → step_records number (drop index steps) (drop index times) ≡ record_text (fields_of_step number step at)
    ++ step_records (number + 1) (drop (suc index) steps) (drop (suc index) times)
records_at number index [] times step first at none within pairs step_is at_is = absurd (omega (arith, within))
records_at number index (s ∷ ss) [] step first at none within pairs step_is at_is = absurd (omega (arith, pairs))
records_at number zero (s ∷ ss) (t ∷ ts) step first at none within pairs step_is at_is = rw (step_is, at_is) refl
records_at number (suc index) (s ∷ ss) (t ∷ ts) step first at none within pairs step_is at_is =
    records_at number index ss ts step first at none (omega (arith, within)) (omega (arith, pairs)) step_is at_is

pub record_more : (index : ℕ) (steps : List Step) (times : List Times) {step : Step} (first : Step) {at : Times}
    (none : Times) {fields : List (List ℕ)} (before : List ℕ) {after whole : List ℕ} → index < length steps
    → length times ≡ length steps
    → step ≡ get_or steps index first → at ≡ get_or times index none
    → after ≡ before ++ record_text fields → fields ≡ fields_of_step (index + 1) step at
    → before ++ step_records (index + 1) (drop index steps) (drop index times) ≡ whole
    → after ++ step_records (index + 1 + 1) (drop (index + 1) steps) (drop (index + 1) times) ≡ whole
record_more index steps times {step = step} first {at = at} none before within pairs step_is at_is grown filled so_far =
    let next = records_at (index + 1) index steps times step first at none within pairs step_is at_is in
    let all = rw next at so_far in
    rw (grown, filled, add-one) (append_assoc before (record_text (fields_of_step (suc index) step at)) _
    ∙ (rw add-one at all))
