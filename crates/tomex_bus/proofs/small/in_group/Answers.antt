use Rattle.std.proofs.Common.{◌+◌, ◌*◌, ◌%◌, ◌≡◌, ◌∙◌, arith, ap}
use Rattle.tomex_bus.specs.Sets.{has}
use Rattle.tomex_bus.proofs.Bits.{cut, shifted}
use Rattle.tomex_bus.proofs.small.in_group.Goals as goal
use Rattle.tomex_bus.proofs.small.in_group.Goals.{then-group-lt4, else-group-lt4}

pub returns : goal.returns
returns c n l = shifted c.if-group-lt4.half (16 * (c.args.group % 4)) n ∙ elim c.if-group-lt4.branch [
  | then-group-lt4 w ↦
      let at : 16 * (c.args.group % 4) + n ≡ 16 * c.args.group + n = omega (arith, w.if-group-lt4.true) in
      ap (λ h. has h (16 * (c.args.group % 4) + n)) (w.half-is ∙ w.lower-half.ensures)
      ∙ cut c.args.set 64 (16 * (c.args.group % 4) + n) (omega arith) ∙ ap (has c.args.set) at
  | else-group-lt4 w ↦
      let at : 64 + (16 * (c.args.group % 4) + n) ≡ 16 * c.args.group + n =
      omega (arith, w.if-group-lt4.false, c.requires) in
      ap (λ h. has h (16 * (c.args.group % 4) + n)) (w.half-is ∙ w.upper-half.ensures)
      ∙ shifted c.args.set 64 (16 * (c.args.group % 4) + n) ∙ ap (has c.args.set) at
]
