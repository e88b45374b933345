-- A program's part is small, and counted; at the end all are.
use Rattle.std.proofs.Common.{◌≡◌, ◌<◌, arith, length, refl}
use Rattle.tomex_plateaus.proofs.Looking.{all_counted, none_counted, one_counted, part_small}
use Rattle.tomex_plateaus.proofs.Totals.{as_many_totals}
use Rattle.tomex_plateaus.proofs.known_row.weighted_cycles.Goals as goal

pub loop-place-init : goal.loop-place-init
loop-place-init g c = none_counted c.args.programs.now c.args.totals.now c.args.made

pub bounds-totals-place : goal.bounds-totals-place
bounds-totals-place g c =
    let many : length c.args.totals.now ≡ length c.args.programs.now =
    as_many_totals c.args.programs.now c.requires.totals.0 c.args.totals.now c.requires.totals.2 in
    let low : c.loop-place.place < length c.args.programs.now = c.loop-place-test.true in
    omega arith

pub overflow_mul-cycles : goal.overflow_mul-cycles
overflow_mul-cycles g c =
    let w = part_small c.args.programs.now c.args.made c.loop-place.place c.loop-place.cycles c.loop-place.left
    c.requires.totals.0 c.loop-place.invariant c.loop-place-test.true c.index-programs-place.is refl c.requires.few
    c.requires.ends c.requires.totals.1 c.requires.totals.2 in
    rw (c.from.ensures, c.weight.ensures.value, c.min.ensures) (omega (arith, w.0))

pub overflow_add-cycles : goal.overflow_add-cycles
overflow_add-cycles g c =
    let w = part_small c.args.programs.now c.args.made c.loop-place.place c.loop-place.cycles c.loop-place.left
    c.requires.totals.0 c.loop-place.invariant c.loop-place-test.true c.index-programs-place.is refl c.requires.few
    c.requires.ends c.requires.totals.1 c.requires.totals.2 in
    rw (c.from.ensures, c.weight.ensures.value, c.min.ensures) (omega (arith, w.1))

pub loop-place-preserved : goal.loop-place-preserved
loop-place-preserved g c =
    rw (c.from.ensures, c.weight.ensures.value, c.min.ensures, c.saturating_sub-left.ensures)
    (one_counted c.args.programs.now c.args.totals.now c.args.made c.loop-place.place c.loop-place.cycles
    c.loop-place.left _ c.index-programs-place.result c.loop-place.invariant c.loop-place-test.true
    c.index-programs-place.is refl)

pub returns : goal.returns
returns g c =
    all_counted c.args.programs.now c.args.totals.now c.args.made c.loop-place.place c.loop-place.cycles
    c.loop-place.left c.loop-place.invariant c.loop-place-test.false
