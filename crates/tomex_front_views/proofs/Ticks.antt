-- The step from tick to tick, and the ticks one turn later.
use Rattle.std.proofs.Common.{◌≡◌, ◌∙◌, ap, refl, sym, arith, ℕ, suc, ◌+◌, ◌-◌, ◌*◌, ◌/◌, ◌^◌, ◌<◌, ◌≤◌}
use Rattle.std.proofs.Common.{List, [], ◌∷◌, ◌++◌, append_assoc, map, Bool, true, false}
use Rattle.std.proofs.Math.Nat.{one-le-pow}
use Rattle.std.proofs.lemmas.Grind.{pow_more}
use Rattle.std.specs.Prelude.{nat_le}
use Rattle.std.specs.List.{flat_map, range_with_len}
use Rattle.std.proofs.lemmas.List.{append-nil}
use Rattle.std.specs.Int.{div_ceil}
use Rattle.tomex_front_views.specs.Axes.{first_enough, round_in, step_of, ticks_of}
use Rattle.tomex_front_views.specs.Plot.{mark_at, marks_of, span_of}
use Rattle.tomex_front_views.specs.declared.plot.axes.Axes.{Axes}
use Rattle.tomex_front_views.specs.declared.plot.axes.Span.{Span}
use Rattle.tomex_front_views.specs.declared.plot.marks.Mark.{Mark}

-- the first step that is enough, from a power of ten on
abbrev pub step_from : ℕ → ℕ → ℕ
step_from far k = first_enough far (flat_map round_in (range_with_len k (19 - k)))

pub from_one : (far : ℕ) → step_from far 0 ≡ step_of far
unfolding step_of
from_one far = refl

next_power : (far k : ℕ) → k < 19
    → step_from far k ≡ first_enough far (round_in k ++ flat_map round_in (range_with_len (k + 1) (19 - (k + 1))))
next_power far k within =
    let e : 19 - k ≡ suc (19 - (k + 1)) = omega arith in
    ap (λ (n : ℕ). first_enough far (flat_map round_in (range_with_len k n))) e

-- no power of ten is 0
pub positive_power : (k power : ℕ) → power ≡ 10 ^ k → 0 < power
positive_power k power is = rw is (one-le-pow k 10 (omega arith))

module _ (far k power : ℕ) (within : k < 19) (is : power ≡ 10 ^ k) (so_far : step_from far k ≡ step_of far)
    (one : Bool) (one_is : one ≡ nat_le far (6 * power)) where
  -- the power itself is enough
  pub once : one ≡ true → power ≡ step_of far
  once enough =
      let e : nat_le far (6 * 10 ^ k) ≡ true = rw (← is) (sym one_is ∙ enough) in
      let first : step_from far k ≡ 10 ^ k = next_power far k within ∙ rw e refl in
      is ∙ (sym first ∙ so_far)

  module _ (none : one ≡ false) (two : Bool) (two_is : two ≡ nat_le far (6 * (2 * power))) where
    -- or twice as much
    pub twice : two ≡ true → 2 * power ≡ step_of far
    twice enough =
        let e : nat_le far (6 * 10 ^ k) ≡ false = rw (← is) (sym one_is ∙ none) in
        let f : nat_le far (6 * (2 * 10 ^ k)) ≡ true = rw (← is) (sym two_is ∙ enough) in
        let first : step_from far k ≡ 2 * 10 ^ k = next_power far k within ∙ rw (e, f) refl in
        ap (λ (n : ℕ). 2 * n) is ∙ (sym first ∙ so_far)

    module _ (nor : two ≡ false) (five : Bool) (five_is : five ≡ nat_le far (6 * (5 * power))) where
      -- or five times as much
      pub five_times : five ≡ true → 5 * power ≡ step_of far
      five_times enough =
          let e : nat_le far (6 * 10 ^ k) ≡ false = rw (← is) (sym one_is ∙ none) in
          let f : nat_le far (6 * (2 * 10 ^ k)) ≡ false = rw (← is) (sym two_is ∙ nor) in
          let g : nat_le far (6 * (5 * 10 ^ k)) ≡ true = rw (← is) (sym five_is ∙ enough) in
          let first : step_from far k ≡ 5 * 10 ^ k = next_power far k within ∙ rw (e, f, g) refl in
          ap (λ (n : ℕ). 5 * n) is ∙ (sym first ∙ so_far)

      -- or what comes later
      pub later : five ≡ false → step_from far (k + 1) ≡ step_of far
      later neither =
          let e : nat_le far (6 * 10 ^ k) ≡ false = rw (← is) (sym one_is ∙ none) in
          let f : nat_le far (6 * (2 * 10 ^ k)) ≡ false = rw (← is) (sym two_is ∙ nor) in
          let g : nat_le far (6 * (5 * 10 ^ k)) ≡ false = rw (← is) (sym five_is ∙ neither) in
          let next : step_from far k ≡ step_from far (k + 1) = next_power far k within ∙ rw (e, f, g) refl in
          sym next ∙ so_far

pub ten_times : (k power next : ℕ) → power ≡ 10 ^ k → next ≡ power * 10 → next ≡ 10 ^ (k + 1)
ten_times k power next is more = more ∙ (ap (λ (n : ℕ). n * 10) is ∙ sym (pow_more 10 k))

-- the multiples from the k-th on, to the last
abbrev pub multiples_from : ℕ → ℕ → ℕ → List ℕ
multiples_from step k last = map (λ (n : ℕ). n * step) (range_with_len k (last + 1 - k))

-- they are all ticks of an axis at first
pub all_ticks : (axes : Axes) (mark : Mark) {span : Span} {far step k : ℕ} (text : List ℕ) → span ≡ span_of axes mark
    → far ≡ span.greatest - span.least → step ≡ step_of far → k ≡ div_ceil span.least step
    → text ++ flat_map (mark_at axes mark) (multiples_from step k (span.greatest / step)) ≡ text ++ marks_of axes mark
unfolding marks_of ticks_of
all_ticks axes mark text span_is far_is step_is k_is = rw (k_is, step_is, far_is, span_is) refl

-- then one is drawn
next_multiple : (step k last : ℕ) → k ≤ last
    → multiples_from step k last ≡ k * step ∷ multiples_from step (k + 1) last
next_multiple step k last within =
    let e : last + 1 - k ≡ suc (last + 1 - (k + 1)) = omega arith in
    ap (λ (n : ℕ). map (λ (m : ℕ). m * step) (range_with_len k n)) e

pub one_tick : (f : ℕ → List ℕ) (step k last : ℕ) (before after whole : List ℕ) → k ≤ last
    → after ≡ before ++ f (k * step) → before ++ flat_map f (multiples_from step k last) ≡ whole
    → after ++ flat_map f (multiples_from step (k + 1) last) ≡ whole
one_tick f step k last before after whole within grown so_far =
    let rest = flat_map f (multiples_from step (k + 1) last) in
    ap (λ (t : List ℕ). t ++ rest) grown
    ∙ (append_assoc before (f (k * step)) rest
    ∙ (ap (λ (ms : List ℕ). before ++ flat_map f ms) (sym (next_multiple step k last within)) ∙ so_far))

-- and after the last there is none
pub last_tick : (f : ℕ → List ℕ) (step k last : ℕ) (before after whole : List ℕ) → k ≤ last → last ≤ k
    → after ≡ before ++ f (k * step) → before ++ flat_map f (multiples_from step k last) ≡ whole → after ≡ whole
last_tick f step k last before after whole within past grown so_far =
    let none : last + 1 - (k + 1) ≡ 0 = omega arith in
    let over : multiples_from step (k + 1) last ≡ [] =
    ap (λ (n : ℕ). map (λ (m : ℕ). m * step) (range_with_len (k + 1) n)) none in
    sym (append-nil after)
    ∙ (ap (λ (ms : List ℕ). after ++ flat_map f ms) (sym over)
    ∙ one_tick f step k last before after whole within grown so_far)
