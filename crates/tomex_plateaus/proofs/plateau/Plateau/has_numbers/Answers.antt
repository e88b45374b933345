-- One number more is compared; at the end the first sixteen are, and then the last two.
use Rattle.std.proofs.Common.{◌≡◌, ◌∙◌, ◌≤◌, ℕ, arith, ap, sym, List, true, false}
use Rattle.std.specs.Prelude.{◌&&◌, Bool}
use Rattle.tomex_plateaus.specs.declared.plateau.Plateau.{Plateau}
use Rattle.tomex_plateaus.specs.Plateaus.{fits}
use Rattle.tomex_plateaus.proofs.Comparing.{all_fit, fits_at, fits_below, fits_more, none_compared}
use Rattle.tomex_plateaus.proofs.plateau.Plateau.has_numbers.Goals as goal

pub loop-place-init : goal.loop-place-init
loop-place-init c = none_compared c.args.self.now c.args.numbers.now

pub loop-place-preserved : goal.loop-place-preserved
loop-place-preserved c =
    ap (λ (b : Bool). b && c.has_number-has_all.result) c.loop-place.invariant
    ∙ ap (λ (b : Bool). fits_below c.args.self.now c.args.numbers.now c.loop-place.place && b)
    c.has_number-has_all.ensures
    ∙ fits_more c.args.self.now c.args.numbers.now c.loop-place.place

-- whether the first sixteen are the plateau's decides, unless they are
sixteen : (p : Plateau) (numbers : List ℕ) (place : ℕ) (has_all b : Bool) → 16 ≤ place → place ≤ 16
    → has_all ≡ fits_below p numbers place → has_all ≡ b
    → (b && (fits_at p numbers 16 && fits_at p numbers 17)) ≡ fits numbers p
sixteen p numbers place has_all b past within so_far is =
    let end : place ≡ 16 = omega arith in
    ap (λ (x : Bool). x && (fits_at p numbers 16 && fits_at p numbers 17))
    (sym is ∙ so_far ∙ ap (fits_below p numbers) end)
    ∙ all_fit p numbers

pub returns-then-not-has_all : goal.returns-then-not-has_all
returns-then-not-has_all c =
    sixteen c.args.self.now c.args.numbers.now c.loop-place.place c.loop-place.has_all false c.loop-place-test.false
    c.loop-place.auto.place-end c.loop-place.invariant c.if-not-has_all.true

pub returns : goal.returns
returns c =
    ap (λ (b : Bool). b && c.has_number-2.result) c.has_number.ensures
    ∙ ap (λ (b : Bool). fits_at c.args.self.now c.args.numbers.now 16 && b) c.has_number-2.ensures
    ∙ sixteen c.args.self.now c.args.numbers.now c.loop-place.place c.loop-place.has_all true c.loop-place-test.false
    c.loop-place.auto.place-end c.loop-place.invariant c.if-not-has_all.false
