-- Of all latencies.
use Rattle.std.proofs.Common.{◌≤◌, ap, arith, refl, rules}
use Rattle.std.proofs.lemmas.List.Elements.{All-replicate}
use Rattle.std.proofs.lemmas.List.FromFn.{fill_by_all}
use Rattle.tomex_choices.specs.Asking.{most_at}
use Rattle.tomex_choices.specs.declared.entries.MostUnits.{MostUnits}
use Rattle.tomex_choices.proofs.Options.{no_units}
use Rattle.tomex_choices.proofs.entries.most_units_of.Goals as goal

pub loop-latency-init : goal.loop-latency-init
loop-latency-init c =
    let none : c.none-options.result.price ≤ 1000000 =
    omega (arith, ap (λ (m : MostUnits). m.price) c.none-options.ensures) in
    record {
      long = refl;
      each = λ k low. absurd (omega arith);
      prices = All-replicate (λ m. m.price ≤ 1000000) 65 c.none-options.result none;
    }

pub returns-clause-most : goal.returns-clause-most
returns-clause-most c =
    fill_by_all (most_at c.args.rows.now c.args.unit) c.loop-latency.options 65 no_units
    c.loop-latency.invariant.long (search rules)
