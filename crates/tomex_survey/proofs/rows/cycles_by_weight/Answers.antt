-- One more program's cycles, which are small.
use Rattle.std.proofs.Common.{◌≡◌, arith, length, refl, sym}
use Rattle.tomex_plateaus.proofs.Totals.{as_many_totals, no_cycles}
use Rattle.tomex_survey.proofs.Weighing.{all_weighed, one_weighed, weighed_small}
use Rattle.tomex_survey.proofs.rows.cycles_by_weight.Goals as goal

pub loop-place-init : goal.loop-place-init
loop-place-init g c = λ config same. sym (no_cycles c.args.programs.now config)

pub bounds-totals-place : goal.bounds-totals-place
bounds-totals-place g c =
    let many : length c.args.totals.now ≡ length c.args.programs.now =
    as_many_totals c.args.programs.now c.requires.totals.0 c.args.totals.now c.requires.totals.2 in
    omega (arith, c.loop-place-test.true)

pub overflow_mul-cycles : goal.overflow_mul-cycles
overflow_mul-cycles g c =
    let w = weighed_small c.args.programs.now c.args.totals.now c.loop-place.place c.loop-place.cycles
    c.requires.totals.0 c.requires.totals.1 c.requires.ends c.requires.few c.loop-place-test.true
    c.index-programs-place.is refl c.requires.totals.2
    (c.loop-place.invariant c.requires.totals.0 c.requires.totals.2) in
    rw (c.from.ensures, c.weight.ensures.value) (omega (arith, w.0))

pub overflow_add-cycles : goal.overflow_add-cycles
overflow_add-cycles g c =
    let w = weighed_small c.args.programs.now c.args.totals.now c.loop-place.place c.loop-place.cycles
    c.requires.totals.0 c.requires.totals.1 c.requires.ends c.requires.few c.loop-place-test.true
    c.index-programs-place.is refl c.requires.totals.2
    (c.loop-place.invariant c.requires.totals.0 c.requires.totals.2) in
    rw (c.from.ensures, c.weight.ensures.value) (omega (arith, w.1))

pub loop-place-preserved : goal.loop-place-preserved
loop-place-preserved g c = λ config same.
    rw (c.from.ensures, c.weight.ensures.value)
    (one_weighed c.args.programs.now c.args.totals.now c.loop-place.place c.loop-place.cycles _
    c.index-programs-place.result config c.loop-place-test.true c.index-programs-place.is refl same
    (c.loop-place.invariant config same))

pub returns : goal.returns
returns g c = λ config same.
    all_weighed c.args.programs.now c.loop-place.place c.loop-place.cycles config c.loop-place-test.false
    (c.loop-place.invariant config same)
