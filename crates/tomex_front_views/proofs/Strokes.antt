-- Strokes of a column of points, and columns, one turn later.
use Rattle.std.proofs.Common.{◌≡◌, ◌∙◌, ap, refl, sym, arith, ℕ, zero, suc, ◌+◌, ◌-◌, ◌<◌, ◌≤◌, Bool, true, false}
use Rattle.std.proofs.Common.{List, [], ◌∷◌, ◌++◌, append_assoc, drop, get_or, length, map}
use Rattle.std.specs.Prelude.{◌&&◌, ◌==◌, cond, if◌then◌else◌, nat_eq, not}
use Rattle.std.specs.List.{flat_map, prefix_len, range_with_len, take_while}
use Rattle.std.proofs.lemmas.Bool.{ne_eqb}
use Rattle.std.proofs.lemmas.List.{append-nil}
use Rattle.std.proofs.lemmas.List.Folds.{length-prefix_len}
use Rattle.std.proofs.lemmas.List.FromFn.{get_or-map-range_with_len}
use Rattle.tomex_front_views.specs.Dots.{all_x, all_y, begins, reach, stroke, stroke_at}

-- the points from a line on, and from a column on
unfoldable pub y_from : ℕ → List ℕ
y_from line = range_with_len (80 + line) (281 - line)

unfoldable pub x_from : ℕ → List ℕ
x_from column = range_with_len (136 + column) (513 - column)

pub from_top : all_y ≡ y_from 0
unfolding all_y y_from
from_top = refl

pub from_left : all_x ≡ x_from 0
unfolding all_x x_from
from_left = refl

next_y : (line : ℕ) → line < 281 → y_from line ≡ (80 + line) ∷ y_from (line + 1)
unfolding y_from
next_y line low =
    let e : 281 - line ≡ suc (281 - (line + 1)) = omega arith in
    let f : 80 + line + 1 ≡ 80 + (line + 1) = omega arith in
    ap (range_with_len (80 + line)) e
    ∙ ap (λ (n : ℕ). (80 + line) ∷ range_with_len n (281 - (line + 1))) f

next_x : (column : ℕ) → column < 513 → x_from column ≡ (136 + column) ∷ x_from (column + 1)
unfolding x_from
next_x column low =
    let e : 513 - column ≡ suc (513 - (column + 1)) = omega arith in
    let f : 136 + column + 1 ≡ 136 + (column + 1) = omega arith in
    ap (range_with_len (136 + column)) e
    ∙ ap (λ (n : ℕ). (136 + column) ∷ range_with_len n (513 - (column + 1))) f

no_y : (line : ℕ) → 281 ≤ line → y_from line ≡ []
unfolding y_from
no_y line past = ap (range_with_len (80 + line)) (let e : 281 - line ≡ 0 = omega arith in e)

no_x : (column : ℕ) → 513 ≤ column → x_from column ≡ []
unfolding x_from
no_x column past = ap (range_with_len (136 + column)) (let e : 513 - column ≡ 0 = omega arith in e)

-- the text of one more point
one_more : (f : ℕ → List ℕ) (n : ℕ) (from next : List ℕ) (before after whole : List ℕ) → from ≡ n ∷ next
    → after ≡ before ++ f n → before ++ flat_map f from ≡ whole → after ++ flat_map f next ≡ whole
one_more f n from next before after whole step grown so_far =
    ap (λ (t : List ℕ). t ++ flat_map f next) grown
    ∙ (append_assoc before (f n) (flat_map f next)
    ∙ (ap (λ (ns : List ℕ). before ++ flat_map f ns) (sym step) ∙ so_far))

pub line_more : (f : ℕ → List ℕ) (line : ℕ) (before after whole : List ℕ) → line < 281
    → after ≡ before ++ f (80 + line) → before ++ flat_map f (y_from line) ≡ whole
    → after ++ flat_map f (y_from (line + 1)) ≡ whole
line_more f line before after whole low = one_more f (80 + line) _ _ before after whole (next_y line low)

pub column_more : (f : ℕ → List ℕ) (column : ℕ) (before after whole : List ℕ) → column < 513
    → after ≡ before ++ f (136 + column) → before ++ flat_map f (x_from column) ≡ whole
    → after ++ flat_map f (x_from (column + 1)) ≡ whole
column_more f column before after whole low = one_more f (136 + column) _ _ before after whole (next_x column low)

-- after the last one
pub lines_over : (f : ℕ → List ℕ) (line : ℕ) (text whole : List ℕ) → 281 ≤ line
    → text ++ flat_map f (y_from line) ≡ whole → text ≡ whole
lines_over f line text whole past so_far =
    sym (append-nil text) ∙ (ap (λ (ns : List ℕ). text ++ flat_map f ns) (sym (no_y line past)) ∙ so_far)

pub columns_over : (f : ℕ → List ℕ) (column : ℕ) (text whole : List ℕ) → 513 ≤ column
    → text ++ flat_map f (x_from column) ≡ whole → text ≡ whole
columns_over f column text whole past so_far =
    sym (append-nil text) ∙ (ap (λ (ns : List ℕ). text ++ flat_map f ns) (sym (no_x column past)) ∙ so_far)

-- a column of dots, read at a line
read_at : (dot : ℕ → Bool) (column : List Bool) (line y : ℕ) → column ≡ map dot all_y → line < 281 → 80 + line ≡ y
    → get_or column line false ≡ dot y
unfolding all_y
read_at dot column line y is low at =
    ap (λ (bs : List Bool). get_or bs line false) is
    ∙ get_or-map-range_with_len dot 80 281 line y false low at

-- there is a dot above
abbrev pub above : List Bool → ℕ → Bool
above column line = if nat_eq line 0 then false else get_or column (line - 1) false

above_is : (dot : ℕ → Bool) (column : List Bool) (line : ℕ) → dot 79 ≡ false → column ≡ map dot all_y → line < 281
    → above column line ≡ dot (80 + line - 1)
above_is dot column zero top is low = sym top
above_is dot column (suc line) top is low =
    let e : suc line - 1 ≡ line = omega arith in
    let f : 80 + line ≡ 80 + suc line - 1 = omega arith in
    let later : (suc line == 0) ≡ false = ne_eqb (suc line) 0 (λ z. omega arith) in
    rw later (ap (λ (n : ℕ). get_or column n false) e ∙ read_at dot column line _ is (omega arith) f)

-- a stroke begins there
pub begins_is : (dot : ℕ → Bool) (column : List Bool) (line : ℕ) (b : Bool) → dot 79 ≡ false
    → column ≡ map dot all_y → line < 281 → b ≡ (get_or column line false && not (above column line))
    → b ≡ begins dot (80 + line)
begins_is dot column line b top is low b_is =
    b_is
    ∙ (ap (λ (c : Bool). c && not (above column line)) (read_at dot column line (80 + line) is low refl)
    ∙ ap (λ (c : Bool). dot (80 + line) && not c) (above_is dot column line top is low))

drop_range : (k a n : ℕ) → drop k (range_with_len a n) ≡ range_with_len (a + k) (n - k)
drop_range zero a n =
    let e : a + 0 ≡ a = omega arith in
    let f : n - 0 ≡ n = omega arith in
    rw (e, f) refl
drop_range (suc k) a zero =
    let e : 0 - suc k ≡ 0 = omega arith in
    rw e refl
drop_range (suc k) a (suc n) =
    let e : a + 1 + k ≡ a + suc k = omega arith in
    let f : n - k ≡ suc n - suc k = omega arith in
    drop_range k (a + 1) n ∙ (ap (λ (m : ℕ). range_with_len m (n - k)) e ∙ ap (range_with_len (a + suc k)) f)

drop_map : {X Y : Type 0} (f : X → Y) (k : ℕ) (xs : List X) → drop k (map f xs) ≡ map f (drop k xs)
drop_map f zero xs = refl
drop_map f (suc k) [] = refl
drop_map f (suc k) (x ∷ xs) = drop_map f k xs

prefix_map : (dot : ℕ → Bool) (ns : List ℕ) → prefix_len (λ (b : Bool). b) (map dot ns) ≡ prefix_len dot ns
prefix_map dot [] = refl
prefix_map dot (n ∷ ns) = ap (λ (k : ℕ). cond (dot n) (1 + k) 0) (prefix_map dot ns)

-- how far a stroke goes
pub reach_is : (dot : ℕ → Bool) (column : List Bool) (line : ℕ) → column ≡ map dot all_y → line < 281
    → prefix_len (λ b. b) (drop (line + 1) column) ≡ reach dot (80 + line)
unfolding all_y reach
reach_is dot column line is low =
    let e : 80 + (line + 1) ≡ 80 + line + 1 = omega arith in
    let f : 281 - (line + 1) ≡ 360 - (80 + line) = omega arith in
    ap (λ (bs : List Bool). prefix_len (λ (b : Bool). b) (drop (line + 1) bs)) is
    ∙ (ap (prefix_len (λ (b : Bool). b)) (drop_map dot (line + 1) (range_with_len 80 281))
    ∙ (prefix_map dot (drop (line + 1) (range_with_len 80 281))
    ∙ (ap (prefix_len dot) (drop_range (line + 1) 80 281)
    ∙ (ap (λ (n : ℕ). prefix_len dot (range_with_len n (281 - (line + 1)))) e
    ∙ ap (λ (n : ℕ). prefix_len dot (range_with_len (80 + line + 1) n)) f))))

-- the text that is written there
pub written : (dot : ℕ → Bool) (column : List Bool) (x line : ℕ) {far : ℕ} {b : Bool} (before : List ℕ) {after : List ℕ}
    → dot 79 ≡ false → column ≡ map dot all_y → line < 281
    → b ≡ (get_or column line false && not (above column line)) → b ≡ true
    → far ≡ prefix_len (λ b. b) (drop (line + 1) column) → after ≡ before ++ stroke x (80 + line) far
    → after ≡ before ++ stroke_at dot x (80 + line)
written dot column x line {b = b} before top is low b_is begun far_is grown =
    let e : begins dot (80 + line) ≡ true = sym (begins_is dot column line b top is low b_is) ∙ begun in
    grown
    ∙ (ap (λ (n : ℕ). before ++ stroke x (80 + line) n) (far_is ∙ reach_is dot column line is low)
    ∙ ap (λ (c : Bool). before ++ (if c then stroke x (80 + line) (reach dot (80 + line)) else [])) (sym e))

pub not_written : (dot : ℕ → Bool) (column : List Bool) (x line : ℕ) (b : Bool) (before : List ℕ)
    → dot 79 ≡ false → column ≡ map dot all_y → line < 281
    → b ≡ (get_or column line false && not (above column line)) → b ≡ false
    → before ≡ before ++ stroke_at dot x (80 + line)
not_written dot column x line b before top is low b_is none =
    let e : begins dot (80 + line) ≡ false = sym (begins_is dot column line b top is low b_is) ∙ none in
    sym (append-nil before)
    ∙ ap (λ (c : Bool). before ++ (if c then stroke x (80 + line) (reach dot (80 + line)) else [])) (sym e)

pub counted : (column : List Bool) (line n : ℕ) (rest : List Bool) → rest ≡ drop (line + 1) column
    → n ≡ length (take_while (λ b. b) rest) → n ≡ prefix_len (λ b. b) (drop (line + 1) column)
counted column line n rest is n_is =
    n_is ∙ (length-prefix_len (λ (b : Bool). b) rest ∙ ap (prefix_len (λ (b : Bool). b)) is)
