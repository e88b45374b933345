-- The configurations that the last axis ends are the product of all axes.
use Rattle.std.proofs.Common.{◌≡◌, sym}
use Rattle.tomex_config.specs.Configuration.{with_width}
use Rattle.tomex_config.specs.Grid.{lists_of, rows_of}
use Rattle.tomex_config.specs.Vary.{vary}
use Rattle.tomex_config.proofs.Varied.{varied_rows}
use Rattle.tomex_config.proofs.product.rows_of.Goals as goal

pub returns : goal.returns
returns g c =
    let product : vary with_width c.deref-2.result.now c.deref.result.now ≡ rows_of (lists_of c.args.axes.now) =
    rw (c.deref.ensures.value, c.deref-2.ensures.value, c.in_ok-rows.ensures) (varied_rows (lists_of c.args.axes.now))
    in
    rw (sym product) c.vary_width.ensures
