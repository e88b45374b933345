-- All the cycles that are made are the row's; the last look is before the end.
use Rattle.std.proofs.Common.{◌≡◌, ◌≤◌, ◌∙◌, arith}
use Rattle.std.specs.Prelude.{sum}
use Rattle.tomex_plateaus.specs.Looks.{plain_on}
use Rattle.tomex_plateaus.proofs.Looking.{over_early, row_is, seen_late, sum_small}
use Rattle.tomex_plateaus.proofs.Totals.{plain_sum}
use Rattle.tomex_plateaus.proofs.known_row.KnownRow.of.Goals as goal
use Rattle.tomex_plateaus.proofs.known_row.KnownRow.of.Goals.{then-plain-gt-STRIDE, else-plain-gt-STRIDE}

pub sum_of-plain-requires : goal.sum_of-plain-requires
sum_of-plain-requires g c =
    let small : sum c.args.totals.now ≤ 140509184 = sum_small c.args.programs.now c.requires.totals.0 c.args.totals.now
    c.requires.totals.1 c.requires.few c.requires.totals.2 in
    omega arith

pub returns : goal.returns
returns g c = λ config same.
    let plain : c.sum_of-plain.result ≡ plain_on c.args.programs.now config =
    c.sum_of-plain.ensures ∙ plain_sum c.args.programs.now config c.args.totals.now same in
    record {
      cycles = row_is c.args.programs.now config _ _ plain (c.weighted_cycles-2.ensures config same);
      at_last_look = elim c.if-plain-gt-STRIDE.branch [
        | then-plain-gt-STRIDE w ↦ w.at_last_look-is
            ∙ seen_late c.args.programs.now config _ _ plain w.if-plain-gt-STRIDE.true
            (w.weighted_cycles.ensures config same)
        | else-plain-gt-STRIDE w ↦ w.at_last_look-is
            ∙ over_early c.args.programs.now config _ plain w.if-plain-gt-STRIDE.false
      ];
    }
