-- One more row is closed, by a run if no worker had closed it.
use Rattle.std.proofs.Common.{◌≡◌, ◌<◌, ◌≤◌, ◌∙◌, length, List, sym, subst, ap, rules, arith}
use Rattle.tomex_config.specs.Configuration.{Configuration}
use Rattle.tomex_lanes.specs.Parts.{is_closed}
use Rattle.tomex_sweep.proofs.Gathered.{all_gathered, none_gathered, one_closed, one_run}
use Rattle.tomex_sweep.proofs.Gathered.{place_fits, read_mark, run_cycles}
use Rattle.tomex_study.proofs.Rows.{as_many_rows}
use Rattle.tomex_sweep.proofs.leftovers.gather.Goals as goal

pub loop-row-init : goal.loop-row-init
loop-row-init g c = none_gathered _ _ c.requires.lawful

pub loop-row-preserved-then-is_closed : goal.loop-row-preserved-then-is_closed
loop-row-preserved-then-is_closed g c =
    let long : c.len-row-end.result ≡ length c.args.marks.now.items = let e = c.len-row-end.ensures in search rules in
    let count : length c.loop-row.marks.items ≡ length c.args.marks.now.items = c.loop-row.invariant.count in
    let test : c.loop-row.row < c.len-row-end.result = c.loop-row-test.true in
    let low : c.loop-row.row < length c.loop-row.marks.items = omega arith in
    one_closed c.loop-row.invariant low
    (ap is_closed (read_mark c.loop-row.marks.items c.loop-row.row c.index.result.now low c.index.ensures)
    ∙ sym c.if-is_closed.ensures)

pub loop-row-preserved : goal.loop-row-preserved
loop-row-preserved g c =
    let long : c.len-row-end.result ≡ length c.args.marks.now.items = let e = c.len-row-end.ensures in search rules in
    let count : length c.loop-row.marks.items ≡ length c.args.marks.now.items = c.loop-row.invariant.count in
    let costs : length c.args.marks.now.items ≡ length c.args.study.now.costs = c.requires.count in
    let test : c.loop-row.row < c.len-row-end.result = c.loop-row-test.true in
    let low : c.loop-row.row < length c.loop-row.marks.items = omega arith in
    one_run c.loop-row.invariant low
    (ap is_closed (read_mark c.loop-row.marks.items c.loop-row.row c.index.result.now low c.index.ensures)
    ∙ sym c.if-is_closed.ensures)
    (run_cycles c.args.study.now _ c.rows.result.now c.index-rows-row.result c.loop-row.row c.in_ok-cycles.cycles
    c.keeps_limits.ensures c.programs.ensures.value c.rows.ensures.value (omega arith) c.index-rows-row.is
    c.in_ok-cycles.ensures)

pub returns-clause-judged : goal.returns-clause-judged
returns-clause-judged g c =
    let long : c.len-row-end.result ≡ length c.args.marks.now.items = let e = c.len-row-end.ensures in search rules in
    let count : length c.loop-row.marks.items ≡ length c.args.marks.now.items = c.loop-row.invariant.count in
    let test : c.len-row-end.result ≤ c.loop-row.row = c.loop-row-test.false in
    let past : length c.loop-row.marks.items ≤ c.loop-row.row = omega arith in
    (all_gathered c.loop-row.invariant c.requires.count past).0

pub cycles-requires-clause-few : goal.cycles-requires-clause-few
cycles-requires-clause-few g c = rw c.programs.ensures.value c.keeps_limits.ensures.few_programs

pub cycles-requires-clause-ends : goal.cycles-requires-clause-ends
cycles-requires-clause-ends g c = rw c.programs.ensures.value c.keeps_limits.ensures.ends

pub bounds-rows-row : goal.bounds-rows-row
bounds-rows-row g c =
    let long : c.len-row-end.result ≡ length c.args.marks.now.items = let e = c.len-row-end.ensures in search rules in
    let costs : length c.args.marks.now.items ≡ length c.args.study.now.costs = c.requires.count in
    let test : c.loop-row.row < c.len-row-end.result = c.loop-row-test.true in
    let rows : length c.args.study.now.costs ≡ length c.args.study.now.rows = as_many_rows _ c.keeps_limits.ensures in
    subst (λ (rs : List Configuration). c.loop-row.row < length rs) (sym c.rows.ensures.value) (omega arith)

pub offset_bounds-rows-row : goal.offset_bounds-rows-row
offset_bounds-rows-row g c =
    record { fits = place_fits c.loop-row.row (length c.rows.result.now) (bounds-rows-row g c) c.rows.type_inv.1 }

pub returns-clause-counted : goal.returns-clause-counted
returns-clause-counted g c =
    let long : c.len-row-end.result ≡ length c.args.marks.now.items = let e = c.len-row-end.ensures in search rules in
    let count : length c.loop-row.marks.items ≡ length c.args.marks.now.items = c.loop-row.invariant.count in
    let test : c.len-row-end.result ≤ c.loop-row.row = c.loop-row-test.false in
    let past : length c.loop-row.marks.items ≤ c.loop-row.row = omega arith in
    (all_gathered c.loop-row.invariant c.requires.count past).1

pub returns-clause-closed : goal.returns-clause-closed
returns-clause-closed g c =
    let long : c.len-row-end.result ≡ length c.args.marks.now.items = let e = c.len-row-end.ensures in search rules in
    let count : length c.loop-row.marks.items ≡ length c.args.marks.now.items = c.loop-row.invariant.count in
    let test : c.len-row-end.result ≤ c.loop-row.row = c.loop-row-test.false in
    let past : length c.loop-row.marks.items ≤ c.loop-row.row = omega arith in
    (all_gathered c.loop-row.invariant c.requires.count past).2
