use Rattle.std.proofs.Common.{ℕ, ◌*◌, ◌%◌, ◌^◌, ◌≡◌, ◌∙◌, arith, ap, refl}
use Rattle.std.specs.Prelude.{◌==◌}
use Rattle.std.specs.Int.{w128}
use Rattle.std.specs.Int.Bits.{bit_or, or_zero_r}
use Rattle.std.proofs.lemmas.Nat.Bits.{bit_at_set_same, bit_at_set_other}
use Rattle.tomex_bus.proofs.Bits.{has_one}
use Rattle.tomex_bus.proofs.sets.with_if.Goals as goal

nothing : (n : ℕ) → 0 * n % 2 ^ 128 ≡ 0
nothing n = omega arith

pub returns-clause-comes : goal.returns-clause-comes
returns-clause-comes c = λ is.
    let one : c.from.result ≡ 1 = c.from.ensures ∙ rw is refl in
    rw one (record {
      same = has_one _ c.args.number (bit_at_set_same w128 c.args.set c.args.number c.requires);
      others = λ x apart. ap (λ b. b == 1) (bit_at_set_other w128 c.args.set c.args.number c.requires x apart);
    })

pub returns-clause-stays : goal.returns-clause-stays
returns-clause-stays c = λ is.
    let none : c.from.result ≡ 0 = c.from.ensures ∙ rw is refl in
    rw none (ap (bit_or c.args.set) (nothing (2 ^ c.args.number)) ∙ or_zero_r c.args.set)
