use Rattle.std.proofs.Common.{◌∙◌, ap}
use Rattle.std.specs.Prelude.{◌==◌}
use Rattle.std.specs.Int.{w128}
use Rattle.std.proofs.lemmas.Nat.{and_le_l}
use Rattle.std.proofs.lemmas.Nat.Bits.{bit_at_clear_same, bit_at_clear_other}
use Rattle.tomex_bus.proofs.Powers.{shifted_one}
use Rattle.tomex_bus.proofs.Bits.{has_none, fewer}
use Rattle.tomex_bus.proofs.sets.without.Goals as goal

pub returns-clause-others : goal.returns-clause-others
returns-clause-others c =
    let one = c.alone.ensures ∙ shifted_one c.args.number c.requires in
    record {
      same = rw one (has_none _ c.args.number (bit_at_clear_same w128 c.args.set c.args.number c.requires));
      others = λ x l apart. rw one (ap (λ b. b == 1)
          (bit_at_clear_other w128 c.args.set c.args.number c.requires x l apart));
    }

pub returns-clause-less : goal.returns-clause-less
returns-clause-less c member =
    let one = c.alone.ensures ∙ shifted_one c.args.number c.requires in
    rw one (fewer c.args.set _ c.args.number (and_le_l c.args.set _) member
    (has_none _ c.args.number (bit_at_clear_same w128 c.args.set c.args.number c.requires)))
