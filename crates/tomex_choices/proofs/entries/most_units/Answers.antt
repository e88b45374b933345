-- The list isn't one of options.
use Rattle.std.proofs.Common.{◌≤◌, ap, arith}
use Rattle.std.proofs.lemmas.List.Elements.{All-replicate}
use Rattle.tomex_choices.specs.declared.entries.MostUnits.{MostUnits}
use Rattle.tomex_choices.proofs.Reading.{not_units}
use Rattle.tomex_choices.proofs.entries.most_units.Goals as goal

pub returns-in_default : goal.returns-in_default
returns-in_default c =
    let none : c.none.result.price ≤ 1000000 = omega (arith, ap (λ (m : MostUnits). m.price) c.none.ensures) in
    record {
      most = not_units c.args.rows.now c.args.part _ c.in_default.not-Units;
      range = All-replicate (λ m. m.price ≤ 1000000) 65 c.none.result none;
    }
