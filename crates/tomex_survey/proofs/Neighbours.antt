-- Stretches of neighbours, one after another, and all together.
use Rattle.std.proofs.Common.{◌≡◌, ℕ, zero, suc, ◌+◌, ◌-◌, ◌*◌, ◌/◌, ◌<◌}
use Rattle.std.proofs.Common.{◌≤◌, List, [], ◌∷◌, ◌++◌, length, map, take, drop}
use Rattle.std.proofs.Common.{get_or, get_or-drop, length-drop}
use Rattle.std.proofs.Common.{arith, ap, sym, refl, ◌∙◌, append_assoc}
use Rattle.std.specs.List.{AllZip, flat_map, range_with_len}
use Rattle.std.proofs.Math.Nat.{div-le_of_le-mul, div-mul-le_self, mul-div_cancel_left, mul-le-mul_right}
use Rattle.std.proofs.Math.Seq.{take-add}
use Rattle.std.proofs.lemmas.List.{append-nil, drop-drop, get_or-map, length-map, map-append, take_all, take_more}
use Rattle.std.proofs.lemmas.Nat.{le-div}
use Rattle.tomex_survey.specs.Stretches.{IsWithin, in_stretch, stretch_of, stretches_of}
use Rattle.tomex_survey.specs.declared.stretch.Stretch.{Stretch}

div_grows : (a b w : ℕ) → 0 < w → a ≤ b → a / w ≤ b / w
div_grows a b w some more =
    let e : a / w * w ≤ a = div-mul-le_self a w in
    le-div (a / w) b w some (omega arith)

-- a worker's stretch ends after it begins, within all rows
pub is_within : (rows workers k : ℕ) → k < workers → IsWithin rows (stretch_of rows workers k)
is_within rows workers k low =
    let more : (k + 1) * rows ≤ workers * rows = mul-le-mul_right rows (omega arith) in
    record {
      order = div_grows (k * rows) ((k + 1) * rows) workers (omega arith) (omega arith);
      within = div-le_of_le-mul workers more;
    }

-- from a to b, and from b to c
neighbours : {X : Type 0} (xs : List X) (a b c : ℕ) → a ≤ b → b ≤ c
    → take (b - a) (drop a xs) ++ take (c - b) (drop b xs) ≡ take (c - a) (drop a xs)
neighbours xs a b c low high =
    let there : drop (b - a) (drop a xs) ≡ drop b xs =
    drop-drop (b - a) a xs ∙ ap (λ (n : ℕ). drop n xs) (let e : a + (b - a) ≡ b = omega arith in e) in
    let long : b - a + (c - b) ≡ c - a = omega arith in
    sym (ap (λ (ys : List _). take (b - a) (drop a xs) ++ take (c - b) ys) there)
    ∙ (sym (take-add (b - a) (c - b) (drop a xs)) ∙ ap (λ (n : ℕ). take n (drop a xs)) long)

-- the stretches of n workers from the k-th on
from_worker : {X : Type 0} (xs : List X) (rows w k n : ℕ) → 0 < w
    → flat_map (in_stretch xs) (map (stretch_of rows w) (range_with_len k n))
    ≡ take ((k + n) * rows / w - k * rows / w) (drop (k * rows / w) xs)
from_worker xs rows w k zero some =
    let same : k + 0 ≡ k = omega arith in
    let none : (k + 0) * rows / w - k * rows / w ≡ 0 = rw same (omega arith) in
    ap (λ (m : ℕ). take m (drop (k * rows / w) xs)) (sym none)
from_worker xs rows w k (suc n) some =
    let rest = from_worker xs rows w (k + 1) n some in
    let at : k + 1 + n ≡ k + suc n = omega arith in
    let low : k * rows / w ≤ (k + 1) * rows / w = div_grows (k * rows) ((k + 1) * rows) w some (omega arith) in
    let most : (k + 1) * rows ≤ (k + suc n) * rows = mul-le-mul_right rows (omega arith) in
    let high : (k + 1) * rows / w ≤ (k + suc n) * rows / w = div_grows _ _ w some most in
    let next : ℕ = (k + 1) * rows / w in
    ap (λ (ys : List _). in_stretch xs (stretch_of rows w k) ++ ys) rest
    ∙ (ap (λ (m : ℕ). in_stretch xs (stretch_of rows w k) ++ take (m * rows / w - next) (drop next xs)) at
    ∙ neighbours xs (k * rows / w) ((k + 1) * rows / w) ((k + suc n) * rows / w) low high)

none_before : (n w : ℕ) → 0 * n / w ≡ 0
none_before n w =
    let e : 0 * n / w ≤ 0 = div-le_of_le-mul w (let f : 0 * n ≤ w * 0 = omega arith in f) in
    omega arith

-- the stretches of all workers have all items
pub all_stretches : {X : Type 0} (xs : List X) (w : ℕ) → 0 < w
    → flat_map (in_stretch xs) (stretches_of (length xs) w) ≡ xs
unfolding stretches_of
all_stretches xs w some =
    let first : 0 * length xs / w ≡ 0 = none_before (length xs) w in
    let last : (0 + w) * length xs / w ≡ length xs =
    ap (λ (n : ℕ). n * length xs / w) (let e : 0 + w ≡ w = omega arith in e) ∙ mul-div_cancel_left (length xs) some in
    from_worker xs (length xs) w 0 w some ∙ rw (last, first) (take_all (length xs - 0) xs (omega arith))

-- one more worker's stretch
pub one_stretch : (rows workers k : ℕ) (before after : List Stretch) (s : Stretch) → k < workers
    → after ≡ before ++ s ∷ [] → s ≡ stretch_of rows workers k
    → before ++ map (stretch_of rows workers) (range_with_len k (workers - k)) ≡ stretches_of rows workers
    → after ++ map (stretch_of rows workers) (range_with_len (k + 1) (workers - (k + 1))) ≡ stretches_of rows workers
one_stretch rows workers k before after s low grown is so_far =
    let e : workers - k ≡ suc (workers - (k + 1)) = omega arith in
    let rest = map (stretch_of rows workers) (range_with_len (k + 1) (workers - (k + 1))) in
    ap (λ (t : List Stretch). t ++ rest) grown
    ∙ (append_assoc before (s ∷ []) rest
    ∙ (ap (λ (x : Stretch). before ++ x ∷ rest) is
    ∙ (ap (λ (n : ℕ). before ++ map (stretch_of rows workers) (range_with_len k n)) (sym e) ∙ so_far)))

pub no_stretch : (rows workers : ℕ) (before : List Stretch) → before ≡ []
    → before ++ map (stretch_of rows workers) (range_with_len 0 (workers - 0)) ≡ stretches_of rows workers
unfolding stretches_of
no_stretch rows workers before none =
    let e : workers - 0 ≡ workers = omega arith in
    rw (none, e) refl

pub last_stretch : (rows workers k : ℕ) (before : List Stretch) → workers ≤ k
    → before ++ map (stretch_of rows workers) (range_with_len k (workers - k)) ≡ stretches_of rows workers
    → before ≡ stretches_of rows workers
last_stretch rows workers k before past so_far =
    let e : workers - k ≡ 0 = omega arith in
    sym (append-nil before)
    ∙ (ap (λ (n : ℕ). before ++ map (stretch_of rows workers) (range_with_len k n)) (sym e) ∙ so_far)

-- the parts' results for their stretches, for all of them
pub put_together : {S P X Y Z : Type 0} (f : X → Z) (g : Y → Z) (items : P → List X) (part : S → List Y)
    (ss : List S) (ps : List P) → AllZip (λ s p. map f (items p) ≡ map g (part s)) ss ps
    → map f (flat_map items ps) ≡ map g (flat_map part ss)
put_together f g items part [] [] all = refl
put_together f g items part [] (p ∷ ps) all = absurd all
put_together f g items part (s ∷ ss) [] all = absurd all
put_together f g items part (s ∷ ss) (p ∷ ps) all =
    map-append f (items p) (flat_map items ps)
    ∙ (ap (λ (zs : List _). zs ++ map f (flat_map items ps)) all.0
    ∙ (ap (λ (zs : List _). map g (part s) ++ zs) (put_together f g items part ss ps all.1)
    ∙ sym (map-append g (part s) (flat_map part ss))))

-- one more row of a stretch
pub one_in_stretch : {X Y Z : Type 0} (f : X → Z) (g : Y → Z) (ys : List Y) (before after : List X) (first row : ℕ)
    (x : X) (d : Y) → first ≤ row → row < length ys → after ≡ before ++ x ∷ [] → f x ≡ g (get_or ys row d)
    → map f before ≡ map g (take (row - first) (drop first ys))
    → map f after ≡ map g (take (row + 1 - first) (drop first ys))
one_in_stretch f g ys before after first row x d low high grown made so_far =
    let rest : length (drop first ys) ≡ length ys - first = length-drop first ys in
    let within : row - first < length (drop first ys) = omega (arith, rest) in
    let there : get_or (drop first ys) (row - first) d ≡ get_or ys row d =
    get_or-drop first ys (row - first) d
    ∙ ap (λ (n : ℕ). get_or ys n d) (let e : first + (row - first) ≡ row = omega arith in e) in
    let long : row + 1 - first ≡ row - first + 1 = omega arith in
    let more : map g (take (row + 1 - first) (drop first ys))
    ≡ map g (take (row - first) (drop first ys)) ++ g (get_or ys row d) ∷ [] =
    ap (λ (n : ℕ). map g (take n (drop first ys))) long
    ∙ (ap (map g) (take_more (drop first ys) (row - first) d within)
    ∙ (map-append g (take (row - first) (drop first ys)) (get_or (drop first ys) (row - first) d ∷ [])
    ∙ ap (λ (y : _). map g (take (row - first) (drop first ys)) ++ g y ∷ []) there)) in
    ap (map f) grown
    ∙ (map-append f before (x ∷ [])
    ∙ (ap (λ (zs : List _). zs ++ f x ∷ []) so_far
    ∙ (ap (λ (z : _). map g (take (row - first) (drop first ys)) ++ z ∷ []) made ∙ sym more)))

-- two lists with equal images have equal images at each place
pub same_at : {X Y Z : Type 0} (f : X → Z) (g : Y → Z) (xs : List X) (ys : List Y) (k : ℕ) (x : X) (y : Y)
    → map f xs ≡ map g ys → k < length xs → f (get_or xs k x) ≡ g (get_or ys k y)
same_at f g xs ys k x y same low =
    let long : length xs ≡ length ys = sym (length-map xs f) ∙ (ap length same ∙ length-map ys g) in
    sym (get_or-map f xs k x (f x) low)
    ∙ (ap (λ (zs : List _). get_or zs k (f x)) same ∙ get_or-map g ys k y (f x) (omega arith))

-- no row yet, and all of them
pub none_in_stretch : {X Y Z : Type 0} (f : X → Z) (g : Y → Z) (ys : List Y) (before : List X) (first : ℕ)
    → before ≡ [] → map f before ≡ map g (take (first - first) (drop first ys))
none_in_stretch f g ys before first none =
    let e : first - first ≡ 0 = omega arith in
    rw (none, e) refl

pub all_in_stretch : {X Y Z : Type 0} (f : X → Z) (g : Y → Z) (ys : List Y) (all : List X) (s : Stretch) (row : ℕ)
    → s.end ≤ row → row ≤ s.end → map f all ≡ map g (take (row - s.first) (drop s.first ys))
    → map f all ≡ map g (in_stretch ys s)
all_in_stretch f g ys all s row past within so_far =
    let e : row ≡ s.end = omega arith in
    so_far ∙ ap (λ (n : ℕ). map g (take (n - s.first) (drop s.first ys))) e
