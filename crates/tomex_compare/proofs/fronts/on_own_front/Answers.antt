-- Rows keep their numbers, whatever their cycles are.
use Rattle.std.proofs.Common.{◌∙◌, ◌==◌, ap, subst, sym, List, ℕ, length}
use Rattle.std.proofs.lemmas.Result.{IfOk-weaker}
use Rattle.tomex_pareto.specs.Front.{front_of}
use Rattle.tomex_pareto.specs.Pareto.{AreNumbered}
use Rattle.tomex_pareto.specs.declared.front_row.FrontRow.{FrontRow}
use Rattle.tomex_pareto.proofs.OnFront.{distinct_map}
use Rattle.tomex_pareto.proofs.Rows.{rows_numbered}
use Rattle.tomex_study.specs.Cycles.{cycles_of}
use Rattle.tomex_study.specs.StudyFront.{all_rows}
use Rattle.tomex_compare.specs.Groups.{AreMarks, own_front, row_with}
use Rattle.tomex_compare.proofs.fronts.on_own_front.Goals as goal

pub front-requires : goal.front-requires
front-requires g c =
    let s = c.args.surveyed.now in
    let p = c.args.build.now.program.now in
    subst AreNumbered (sym c.in_ok-rows.ensures)
    (subst (λ (T : Type 0). T) (sym (distinct_map (λ (a b : FrontRow). a.row == b.row) (row_with s p) (all_rows s)))
    (rows_numbered s.costs (cycles_of s)))

pub returns : goal.returns
unfolding own_front
returns g c =
    let made = c.as_slice.ensures.value ∙ (c.in_ok-front.ensures ∙ ap front_of c.in_ok-rows.ensures) in
    IfOk-weaker c.marks_of.result _ _
    (λ v are. subst (λ (front : List FrontRow). AreMarks front (length c.args.surveyed.now.rows) v.items) made
    (subst (λ (n : ℕ). AreMarks c.as_slice.result.now n v.items) c.rows.ensures.count are))
    c.marks_of.ensures
