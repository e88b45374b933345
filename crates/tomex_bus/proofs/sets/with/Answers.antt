use Rattle.std.proofs.Common.{◌∙◌, ap}
use Rattle.std.specs.Prelude.{◌==◌}
use Rattle.std.specs.Int.{w128}
use Rattle.std.proofs.lemmas.Nat.Bits.{bit_at_set_same, bit_at_set_other}
use Rattle.tomex_bus.proofs.Powers.{shifted_one}
use Rattle.tomex_bus.proofs.Bits.{has_one}
use Rattle.tomex_bus.proofs.sets.with.Goals as goal

pub returns : goal.returns
returns c =
    let one = c.alone.ensures ∙ shifted_one c.args.number c.requires in
    record {
      same = rw one (has_one _ c.args.number (bit_at_set_same w128 c.args.set c.args.number c.requires));
      others = λ x apart. rw one (ap (λ b. b == 1) (bit_at_set_other w128 c.args.set c.args.number c.requires x apart));
    }
