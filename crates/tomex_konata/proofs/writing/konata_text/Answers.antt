-- The steps shown are the requested ones, within the limits of an excerpt.
use Rattle.std.proofs.Common.{arith, rules}
use Rattle.tomex_konata.proofs.Bounds.{logged}
use Rattle.tomex_konata.proofs.writing.konata_text.Goals as goal

pub log_of-requires : goal.log_of-requires
log_of-requires g c =
    let limits = c.keeps_limits.ensures in
    rw (c.number.ensures, c.steps.ensures, c.times.ensures) (record {
      pairs = limits.pairs;
      few = omega (arith, limits.numbers, limits.short);
      bound = limits.bound;
    })

pub returns : goal.returns
returns g c = record {
  text = logged c.args.config.now _ c.args.number c.args.count _ _ c.in_ok-excerpt.ensures.steps
      (rw (c.number.ensures, c.steps.ensures, c.times.ensures) at c.in_ok-log_of.ensures);
  refused = tt;
  no_step = (search rules);
}
