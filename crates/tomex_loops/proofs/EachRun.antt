-- Of each run: how many comings there are, and that their places are within it.
use Rattle.std.proofs.Common.{ℕ, suc, ◌+◌, ◌<◌, ◌≤◌, ◌≡◌, ◌∙◌, refl, sym, ap, arith, List, [], ◌∷◌, ◌++◌}
use Rattle.std.proofs.Common.{length, get_or, map}
use Rattle.std.specs.List.{All, range_with_len}
use Rattle.std.proofs.lemmas.List.{append_assoc, get_or-append-add, length-append}
use Rattle.std.proofs.lemmas.List.Elements.{All-cons, All-get_or, All-nil}
use Rattle.tomex_rvexec.specs.declared.step.Step.{Step}
use Rattle.tomex_loops.specs.declared.coming.Coming.{Coming}
use Rattle.tomex_loops.specs.Calls.{awaited_after, comings_after, comings_of, move_to, place_of}
use Rattle.tomex_loops.specs.Runs.{found_of}
use Rattle.tomex_loops.specs.Sound.{LoopsAreSound}
use Rattle.tomex_loops.proofs.Places.{at_most}
use Rattle.tomex_loops.proofs.Sound.{are_sound}

many_after : (steps : List Step) (awaited : List ℕ) (before : Step) (left : List Step)
    → length (comings_after steps awaited before left) ≡ length left
many_after steps awaited before [] = refl
many_after steps awaited before (x ∷ left) = ap (λ (n : ℕ). suc n)
    (many_after steps (awaited_after (move_to awaited before x) awaited before) x left)

pub many_comings : (steps : List Step) → length (comings_of steps) ≡ length steps
many_comings [] = refl
many_comings (x ∷ left) = ap (λ (n : ℕ). suc n) (many_after (x ∷ left) [] x left)

-- the place of a step is no later than the step
place_low : (steps front : List Step) (x : Step) (left : List Step) → steps ≡ front ++ x ∷ left
    → place_of steps x.pc < length steps
place_low steps front x left is =
    let long : length steps ≡ length front + suc (length left) =
    ap (λ (xs : List Step). length xs) is ∙ length-append front (x ∷ left) in
    let at : get_or steps (length front) x ≡ x =
    ap (λ (xs : List Step). get_or xs (length front) x) is
    ∙ ap (λ (n : ℕ). get_or (front ++ x ∷ left) n x) (omega arith)
    ∙ get_or-append-add front (x ∷ left) 0 x in
    let low : place_of steps (get_or steps (length front) x).pc ≤ length front =
    at_most steps (length front) x (omega (arith, long)) in
    let same : place_of steps (get_or steps (length front) x).pc ≡ place_of steps x.pc =
    ap (λ (y : Step). place_of steps y.pc) at in
    omega (arith, low, same, long)

places_after : (steps front : List Step) (awaited : List ℕ) (before : Step) (left : List Step) → steps ≡ front ++ left
    → All (λ (c : Coming). c.place < length steps) (comings_after steps awaited before left)
places_after steps front awaited before [] is = All-nil (λ (c : Coming). c.place < length steps)
places_after steps front awaited before (x ∷ left) is =
    All-cons (λ (c : Coming). c.place < length steps) _ _ (place_low steps front x left is)
    (places_after steps (front ++ x ∷ []) (awaited_after (move_to awaited before x) awaited before) x left
    (is ∙ sym (append_assoc front (x ∷ []) left)))

pub places_low : (steps : List Step) → All (λ (c : Coming). c.place < length steps) (comings_of steps)
places_low [] = All-nil (λ (c : Coming). c.place < 0)
places_low (x ∷ left) = All-cons (λ (c : Coming). c.place < length (x ∷ left)) _ _ (place_low (x ∷ left) [] x left refl)
    (places_after (x ∷ left) (x ∷ []) [] x left refl)

pub loops_are_sound : LoopsAreSound
loops_are_sound steps = are_sound steps _ (map (found_of steps).loop (range_with_len 0 (length steps))) _ _ _ _ _
    (many_comings steps)
    (λ k z h. All-get_or (λ (c : Coming). c.place < length steps) (comings_of steps) k z h (places_low steps))
    refl refl refl refl refl refl
