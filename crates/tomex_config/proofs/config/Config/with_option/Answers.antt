-- The new option is within the limits, and there is still one branch unit.
use Rattle.std.proofs.Common.{◌≡◌, true, arith}
use Rattle.std.proofs.lemmas.Grind.{common_steps}
use Rattle.std.proofs.lemmas.List.Elements.{All-set}
use Rattle.tomex_config.specs.Configuration.{is_option}
use Rattle.tomex_config.proofs.Ranges.{fits_any, one_branch_unit}
use Rattle.tomex_config.proofs.config.Config.with_option.Goals as goal

pub invariant_of-result : goal.invariant_of-result
invariant_of-result c =
    let inv = c.self.invariant in
    record {
      pools = inv.pools;
      stations = inv.stations;
      kinds = grind (arith, common_steps, inv.kinds);
      units = All-set (λ o. is_option 8 o ≡ true) c.self.inside.units c.place.result c.args.option
          (fits_any c.args.unit c.args.option c.requires) inv.units;
      branch_unit = rw c.place.ensures.place
          (one_branch_unit c.args.unit c.args.option c.self.inside.units c.requires inv.kinds inv.branch_unit);
      buses = inv.buses;
      width = inv.width;
    }
