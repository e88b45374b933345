-- The steps so far are the same, and then all.
use Rattle.std.proofs.Common.{arith, ◌≡◌, ◌+◌, below_more, get_or, refl}
use Rattle.tomex_timing.specs.declared.recent.Facts.{Facts}
use Rattle.tomex_repeats.specs.Blocks.{AreLike}
use Rattle.tomex_repeats.proofs.Alike.{like_at}
use Rattle.tomex_repeats.proofs.Masks.{same_noted}
use Rattle.tomex_repeats.proofs.numbers.are_same.Goals as goal

pub loop-step-preserved : goal.loop-step-preserved
loop-step-preserved c =
    let facts = c.args.facts.now in
    let masks = c.args.masks.now in
    let a = c.args.a.now.first in
    let b = c.args.b.now.first in
    let n = c.loop-step.step in
    record {
      like = λ k z l. below_more (λ i. (d : Facts) → AreLike (get_or facts (a + i) d) (get_or facts (b + i) d)) n
          (λ i m d. c.loop-step.invariant.like i d m)
          (λ d. like_at facts (a + n) (b + n) _ _ d (omega arith) (omega arith) (c.if-not-are_like.ensures refl)) k l z;
      masks = below_more (λ i. get_or masks (a + i) 0 ≡ get_or masks (b + i) 0) n c.loop-step.invariant.masks
          c.if-masks-p.false;
    }

pub returns : goal.returns
returns c = λ t. same_noted c.args.facts.now c.args.masks.now c.args.a.now c.args.b.now c.requires.a c.requires.b
    (omega arith) (λ k z l. c.loop-step.invariant.like k z (omega arith))
    (λ k l. c.loop-step.invariant.masks k (omega arith))
