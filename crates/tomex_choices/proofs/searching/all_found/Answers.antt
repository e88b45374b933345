-- What was found in all stretches is what was found on all rows.
use Rattle.std.proofs.Common.{ap, length}
use Rattle.std.proofs.lemmas.Result.{IfOk-weaker}
use Rattle.tomex_choices.proofs.AllStretches.{all_chained, parts_counted, totals_of_all}
use Rattle.tomex_choices.proofs.searching.all_found.Goals as goal

pub join_parts-requires : goal.join_parts-requires
join_parts-requires g c = parts_counted c.args.study.now _ c.in_ok-parts.parts.items c.in_ok-parts.ensures

pub returns-clause-totals : goal.returns-clause-totals
returns-clause-totals g c =
    IfOk-weaker c.join_parts.result _ _
    (λ f is. totals_of_all c.args.study.now c.args.workers _ _ _ _ f.totals.items c.requires.some_workers
    (ap length c.rows-2.ensures.value) c.in_ok-stretches.ensures.are c.as_slice-2.ensures.value c.in_ok-parts.ensures
    is)
    c.join_parts.ensures.totals

pub returns-clause-lists : goal.returns-clause-lists
returns-clause-lists g c =
    c.join_parts.ensures.lists c.args.study.now (length c.args.study.now.rows) _
    (all_chained c.args.workers _ _ _ _ c.requires.some_workers (ap length c.rows-2.ensures.value)
    c.in_ok-stretches.ensures.are c.as_slice-2.ensures.value) c.in_ok-parts.ensures
