-- What is noted of the steps up to a place: the places of the accesses, and the masks of a block's steps.
use Rattle.std.proofs.Common.{ℕ, ◌+◌, ◌-◌, ◌<◌, ◌≤◌, ◌≡◌, ◌∙◌, arith, add-one, add-zero, refl, sym, ap}
use Rattle.std.proofs.Common.{Bool, true, false, cond}
use Rattle.std.proofs.Common.{List, [], ◌∷◌, ◌++◌, drop, get_or, inl, inr, length, reverse, take}
use Rattle.std.specs.List.{filter}
use Rattle.std.proofs.lemmas.Bool.{cases_lt}
use Rattle.std.proofs.lemmas.List.{append-nil, drop-append-le, drop-map, get_or_append_left, get_or_default}
use Rattle.std.proofs.lemmas.List.{get_or_push, take_rest}
use Rattle.std.proofs.lemmas.List.{length-drop, length-map, length-reverse, length_push, map_push, reverse-append}
use Rattle.std.proofs.lemmas.List.{take-append-drop, take-append-le, take_all, take_at}
use Rattle.std.proofs.lemmas.List.Elements.{All-push, All-weaker, filter_more}
use Rattle.tomex_timing.specs.Ahead.{one}
use Rattle.tomex_timing.specs.declared.recent.Facts.{Facts}
use Rattle.tomex_repeats.specs.Blocks.{accesses_before, is_access, window_at}
use Rattle.tomex_repeats.specs.Masks.{AreMasks, ArePlaces, facts_at, mask_at, mask_of}
use Rattle.tomex_repeats.proofs.Alike.{window_more, window_none}

-- The steps before a place are noted, and of a block those from its first one on. The masks before it are the old
-- ones. The accesses from number `from` on are those in the window.
pub record AreNotedTo
    (facts : List Facts) (old : List ℕ) (from first place : ℕ) (places masks : List ℕ) : Type 0 where
  pub accesses : ArePlaces facts places place
  pub some : from ≤ length places
  pub few : length places + first ≤ from + 4 + place
  pub window : (z : Facts) → reverse (facts_at facts (drop from places) z)
      ≡ take (window_at facts first place) (accesses_before facts place)
  pub are : AreMasks facts masks first place
  pub known : length masks ≡ place
  pub kept : take first masks ≡ old

-- the last ones of a list, in reverse
reverse_last : {X : Type 0} (xs : List X) (w : ℕ) → reverse (drop (length xs - w) xs) ≡ take w (reverse xs)
reverse_last xs w = elim (cases_lt w (length xs)) [
  | inl l ↦
      let n = length xs - w in
      let e : take n xs ++ drop n xs ≡ xs = take-append-drop n xs in
      let r : reverse (take n xs ++ drop n xs) ≡ reverse (drop n xs) ++ reverse (take n xs) =
      reverse-append (take n xs) (drop n xs) in
      let long : length (reverse (drop n xs)) ≡ w =
      omega (arith, length-reverse (drop n xs), length-drop n xs) in
      sym (ap (take w) (sym (ap reverse e) ∙ r) ∙ take_at (reverse (drop n xs)) (reverse (take n xs)) w long)
  | inr l ↦
      let e : length xs - w ≡ 0 = omega arith in
      let long = length-reverse xs in
      rw e (sym (take_all w (reverse xs) (omega arith)))
]

-- before a block
pub noted_first : (facts : List Facts) (first : ℕ) (places masks : List ℕ) → ArePlaces facts places first
    → length masks ≡ first → AreNotedTo facts masks (length places - 4) first first places masks
noted_first facts first places masks are known = record {
  accesses = are;
  some = omega arith;
  few = omega arith;
  window = λ z.
      let n = length places - 4 in
      let whole = facts_at facts places z in
      let long : length whole ≡ length places = length-map places (λ k. get_or facts k z) in
      let part : facts_at facts (drop n places) z ≡ drop n whole = sym (drop-map (λ k. get_or facts k z) n places) in
      let last : reverse (drop n whole) ≡ take 4 (reverse whole) =
      rw (sym long) (reverse_last whole 4) in
      ap reverse part ∙ last ∙ rw (are.are z, window_none facts first) refl;
  are = λ p z l m. absurd (omega arith);
  known = known;
  kept = take_all first masks (omega arith);
}

-- the accesses before the next place
before_more : (facts : List Facts) (p : ℕ) (z : Facts) → p < length facts
    → filter is_access (take (p + 1) facts)
    ≡ filter is_access (take p facts) ++ cond (is_access (get_or facts p z)) (get_or facts p z ∷ []) []
before_more facts p z l = filter_more is_access facts p z l

window_next : (facts : List Facts) (first place : ℕ) (z : Facts) → first ≤ place → place < length facts
    → window_at facts first (place + 1) ≡ window_at facts first place + one (is_access (get_or facts place z))
window_next facts first place z l m =
    let e : first + (place - first) ≡ place = omega arith in
    let d : first + ((place - first) + 1) ≡ place + 1 = omega arith in
    let more = window_more facts first (place - first) z (omega arith) in
    rw (e, d) at more

masks_more : (facts : List Facts) (masks : List ℕ) (first place m : ℕ) → AreMasks facts masks first place
    → length masks ≡ place → ((z : Facts) → m ≡ mask_at facts first place (get_or facts place z))
    → AreMasks facts (masks ++ (m ∷ [])) first (place + 1)
masks_more facts masks first place m are known here p z l n = elim (cases_lt p place) [
  | inl k ↦ get_or_append_left masks (m ∷ []) 0 p (omega arith) ∙ are p z l k
  | inr k ↦
      let e : p ≡ place = omega arith in
      rw e (get_or_push masks m 0 place known ∙ here z)
]

-- the window with one more access, and with none
window_push : (facts : List Facts) (from first place : ℕ) (places : List ℕ) (f z : Facts) → from ≤ length places
    → first ≤ place → place < length facts → get_or facts place z ≡ f → is_access f ≡ true
    → reverse (facts_at facts (drop from places) z) ≡ take (window_at facts first place) (accesses_before facts place)
    → reverse (facts_at facts (drop from (places ++ (place ∷ []))) z)
    ≡ take (window_at facts first (place + 1)) (accesses_before facts (place + 1))
window_push facts from first place places f z some l n at access so =
    let before = accesses_before facts place in
    let w = window_at facts first place in
    let left : reverse (facts_at facts (drop from (places ++ (place ∷ []))) z) ≡ f ∷ take w before =
    rw (
      drop-append-le from places (place ∷ []) some,
      map_push (λ k. get_or facts k z) (drop from places) place,
      reverse-append (facts_at facts (drop from places) z) (get_or facts place z ∷ []),
      at,
      so,
    ) refl in
    let right : take (window_at facts first (place + 1)) (accesses_before facts (place + 1)) ≡ f ∷ take w before =
    rw (
      window_next facts first place z l n,
      before_more facts place z n,
      at,
      access,
      reverse-append (filter is_access (take place facts)) (f ∷ []),
      add-one w,
    ) refl in
    left ∙ sym right

window_kept : (facts : List Facts) (first place : ℕ) (f z : Facts) → first ≤ place → place < length facts
    → get_or facts place z ≡ f → is_access f ≡ false
    → take (window_at facts first (place + 1)) (accesses_before facts (place + 1))
    ≡ take (window_at facts first place) (accesses_before facts place)
window_kept facts first place f z l n at access =
    rw (
      window_next facts first place z l n,
      before_more facts place z n,
      at,
      access,
      append-nil (filter is_access (take place facts)),
      add-zero (window_at facts first place),
    ) refl

-- one more step, and one more access if it is one
pub noted_more : (facts : List Facts) (old : List ℕ) (from first place : ℕ) (places masks : List ℕ) (m : ℕ) (f : Facts)
    (b : Bool) → AreNotedTo facts old from first place places masks → first ≤ place → place < length facts
    → ((z : Facts) → get_or facts place z ≡ f)
    → ((z : Facts) → m ≡ mask_of (reverse (facts_at facts (drop from places) z)) f) → is_access f ≡ b
    → AreNotedTo facts old from first (place + 1) (cond b (places ++ (place ∷ [])) places) (masks ++ (m ∷ []))
noted_more facts old from first place places masks m f true so l n at here access = record {
  accesses = record {
    below = All-push (λ k. k < place + 1) places place
        (All-weaker (λ k. k < place) (λ k. k < place + 1) (λ k i. omega arith) places so.accesses.below) (omega arith);
    are = λ z.
        map_push (λ k. get_or facts k z) places place
        ∙ rw (before_more facts place z n, at z, access, so.accesses.are z) refl;
  };
  some = let long = length_push places place in omega arith;
  few = let long = length_push places place in omega (arith, so.few);
  window = λ z. window_push facts from first place places f z so.some l n (at z) access (so.window z);
  are = masks_more facts masks first place m so.are so.known
      (λ z. rw (at z) (here z ∙ ap (λ xs. mask_of xs f) (so.window z)));
  known = let long = length_push masks m in omega (arith, so.known);
  kept = take-append-le first masks (m ∷ []) (omega (arith, so.known)) ∙ so.kept;
}
noted_more facts old from first place places masks m f false so l n at here access = record {
  accesses = record {
    below = All-weaker (λ k. k < place) (λ k. k < place + 1) (λ k i. omega arith) places so.accesses.below;
    are = λ z.
        so.accesses.are z
        ∙ rw (before_more facts place z n, at z, access) (sym (append-nil (filter is_access (take place facts))));
  };
  some = so.some;
  few = omega (arith, so.few);
  window = λ z. so.window z ∙ sym (window_kept facts first place f z l n (at z) access);
  are = masks_more facts masks first place m so.are so.known
      (λ z. rw (at z) (here z ∙ ap (λ xs. mask_of xs f) (so.window z)));
  known = let long = length_push masks m in omega (arith, so.known);
  kept = take-append-le first masks (m ∷ []) (omega (arith, so.known)) ∙ so.kept;
}

-- the same as the code has it: the window is a part of the places
pub noted_step : (facts : List Facts) (old : List ℕ) (from first place : ℕ) (places masks : List ℕ) (m : ℕ) (d : Facts)
    (b : Bool) (slice : List ℕ) → AreNotedTo facts old from first place places masks → first ≤ place
    → place < length facts → slice ≡ places
    → ((z : Facts) → m
    ≡ mask_of (reverse (facts_at facts (take (length slice - from) (drop from slice)) z)) (get_or facts place d))
    → is_access (get_or facts place d) ≡ b
    → AreNotedTo facts old from first (place + 1) (cond b (places ++ (place ∷ [])) places) (masks ++ (m ∷ []))
noted_step facts old from first place places masks m d b slice so l n e here access =
    let part : take (length slice - from) (drop from slice) ≡ drop from places = rw (e, take_rest places from) refl in
    noted_more facts old from first place places masks m (get_or facts place d) b so l n
    (λ z. get_or_default facts place z d n) (λ z. rw part at (here z)) access
