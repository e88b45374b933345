use Rattle.std.proofs.Common.{◌≡◌, refl, sym}
use Rattle.tomex_config.specs.Configuration.{with_buses}
use Rattle.tomex_config.specs.Grid.{lists_of}
use Rattle.tomex_config.specs.Vary.{vary, bus_rows}
use Rattle.tomex_config.proofs.product.bus_rows.Goals as goal

pub returns : goal.returns
returns g c =
    let product : vary with_buses c.deref-2.result.now c.deref.result.now ≡ bus_rows (lists_of c.args.axes.now) =
    rw (c.deref.ensures.value, c.deref-2.ensures.value, c.in_ok-rows.ensures) refl in
    rw (sym product) c.vary_buses.ensures
