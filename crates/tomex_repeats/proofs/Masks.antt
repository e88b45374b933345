-- The numbers whose bits say which accesses a step conflicts with.
use Rattle.std.proofs.Common.{ℕ, zero, suc, ◌+◌, ◌-◌, ◌*◌, ◌^◌, ◌<◌, ◌≤◌, ◌≡◌, ◌∙◌, arith, refl, sym, Bool, true, false}
use Rattle.std.proofs.Common.{List, [], ◌∷◌, get_or, length, map, reverse, take, None, Some, Option, is_some}
use Rattle.std.proofs.lemmas.List.{get_or-take, length-map, length-reverse, length-take-le, map_more, reverse-append}
use Rattle.std.proofs.lemmas.List.{take-map}
use Rattle.std.proofs.Math.Nat.{pow-suc, pow-le-pow_right}
use mir.Val.{bool_byte}
use Rattle.tomex_rvexec.specs.Steps.{shares_byte}
use Rattle.tomex_rvexec.specs.declared.step.ByteRange.{ByteRange}
use Rattle.tomex_timing.specs.Ahead.{one}
use Rattle.tomex_timing.specs.declared.recent.Facts.{Facts}
use Rattle.tomex_repeats.specs.declared.blocks.Block.{Block}
use Rattle.tomex_repeats.specs.Blocks.{AreLike, AreSameBlocks, accesses_before, do_conflict, is_access, window_at}
use Rattle.tomex_repeats.specs.Masks.{IsNoted, facts_at, mask_of, number_of}
use Rattle.tomex_repeats.proofs.Alike.{windows_same}

one_at_most : (b : Bool) → one b ≤ 1
one_at_most true = omega arith
one_at_most false = omega arith

pub number_below : (tests : List Bool) → number_of tests < 2 ^ length tests
number_below [] = omega arith
number_below (b ∷ tests) = omega (arith, one_at_most b, number_below tests, pow-suc 2 (length tests))

-- equal numbers have equal bits, and any more are 0
bits : (b d : Bool) (m n : ℕ) → one b + 2 * m ≡ one d + 2 * n → (b ≡ d) × (m ≡ n)
bits true true m n e = (refl, omega arith)
bits false false m n e = (refl, omega arith)
bits true false m n e = absurd (omega arith)
bits false true m n e = absurd (omega arith)

none_set : (tests : List Bool) → number_of tests ≡ 0 → (i : ℕ) → get_or tests i false ≡ false
none_set [] e i = refl
none_set (true ∷ tests) e i = absurd (omega arith)
none_set (false ∷ tests) e zero = refl
none_set (false ∷ tests) e (suc i) = none_set tests (omega arith) i

pub number_same : (xs ys : List Bool) → number_of xs ≡ number_of ys → (i : ℕ) → get_or xs i false ≡ get_or ys i false
number_same [] ys e i = sym (none_set ys (sym e) i)
number_same (x ∷ xs) [] e i = none_set (x ∷ xs) e i
number_same (x ∷ xs) (y ∷ ys) e zero = (bits x y (number_of xs) (number_of ys) e).0
number_same (x ∷ xs) (y ∷ ys) e (suc i) = number_same xs ys (bits x y (number_of xs) (number_of ys) e).1 i

-- a step without bytes conflicts with none
shared_by_none : (a b : Option ByteRange) → is_some b ≡ false → shares_byte a b ≡ false
shared_by_none None None e = refl
shared_by_none (Some a) None e = refl
shared_by_none a (Some b) e = cc

none_shared : (a f : Facts) → is_access f ≡ false → one (do_conflict a f) ≡ 0
none_shared a f e = rw (shared_by_none a.bytes f.bytes e) refl

pub mask_none : (accesses : List Facts) (f : Facts) → is_access f ≡ false → mask_of accesses f ≡ 0
mask_none [] f e = refl
mask_none (a ∷ accesses) f e = omega (arith, none_shared a f e, mask_none accesses f e)

-- one more access, the youngest
pub mask_more : (facts : List Facts) (places : List ℕ) (i p : ℕ) (f z : Facts) → i < length places
    → get_or places i p ≡ p → mask_of (reverse (facts_at facts (take (i + 1) places) z)) f
    ≡ one (do_conflict (get_or facts p z) f) + 2 * mask_of (reverse (facts_at facts (take i places) z)) f
mask_more facts places i p f z l e =
    let m = map_more (λ k. get_or facts k z) places i p l in
    let r = reverse-append (facts_at facts (take i places) z) (get_or facts (get_or places i p) z ∷ []) in
    rw (m, r, e) refl

pub mask_below : (facts : List Facts) (places : List ℕ) (f z : Facts)
    → mask_of (reverse (facts_at facts places z)) f < 2 ^ length places
mask_below facts places f z =
    let n = number_below (map (λ a. do_conflict a f) (reverse (facts_at facts places z))) in
    let e : length (map (λ a. do_conflict a f) (reverse (facts_at facts places z))) ≡ length places =
    length-map _ (λ a. do_conflict a f) ∙ length-reverse (facts_at facts places z)
    ∙ length-map places (λ k. get_or facts k z) in
    rw e at n

-- so far it has room for one more bit
pub mask_small : (facts : List Facts) (places : List ℕ) (i mask : ℕ) (f : Facts) → i < length places
    → length places < 64 → ((z : Facts) → mask ≡ mask_of (reverse (facts_at facts (take i places) z)) f)
    → mask < 2 ^ 63
mask_small facts places i mask f l few is =
    let below = mask_below facts (take i places) f f in
    let long = length-take-le i places (omega arith) in
    let more = pow-le-pow_right {n = 2} (omega arith) {i = i} {j = 63} (omega arith) in
    omega (arith, is f, rw long at below)

pub bit_is : (b : Bool) → (bool_byte b ≡ one b) × (one b ≤ 1)
bit_is true = (refl, omega arith)
bit_is false = (refl, omega arith)

-- blocks whose steps are the same and have the same masks conflict alike
pub same_noted : (facts : List Facts) (masks : List ℕ) (a b : Block) → IsNoted facts masks a → IsNoted facts masks b
    → a.end - a.first ≡ b.end - b.first
    → ((k : ℕ) (z : Facts) → k < a.end - a.first
    → AreLike (get_or facts (a.first + k) z) (get_or facts (b.first + k) z))
    → ((k : ℕ) → k < a.end - a.first → get_or masks (a.first + k) 0 ≡ get_or masks (b.first + k) 0)
    → AreSameBlocks facts a b
same_noted facts masks a b x y long like equal = record {
  long = long;
  same = record {
    steps = like;
    conflicts = λ k i z l n.
        let p = a.first + k in
        let q = b.first + k in
        let f = get_or facts p z in
        let g = get_or facts q z in
        let one_size = windows_same facts a.first b.first k z (omega arith) (omega arith)
        (λ j z m. like j z (omega arith)) in
        let e = sym (x.are p z (omega arith) (omega arith)) ∙ equal k l ∙ y.are q z (omega arith) (omega arith) in
        let bit = number_same (map (λ h. do_conflict h f) (take (window_at facts a.first p) (accesses_before facts p)))
        (map (λ h. do_conflict h g) (take (window_at facts b.first q) (accesses_before facts q))) e i in
        sym (bit_at f (accesses_before facts p) (window_at facts a.first p) i n) ∙ bit
        ∙ bit_at g (accesses_before facts q) (window_at facts b.first q) i (omega arith);
  };
}
  where
    bit_at : (f : Facts) (accesses : List Facts) (w i : ℕ) → i < w
        → get_or (map (λ h. do_conflict h f) (take w accesses)) i false
        ≡ get_or (map (λ h. do_conflict h f) accesses) i false
    bit_at f accesses w i n =
        rw (sym (take-map (λ h. do_conflict h f) w accesses))
        (get_or-take w (map (λ h. do_conflict h f) accesses) i false n)
