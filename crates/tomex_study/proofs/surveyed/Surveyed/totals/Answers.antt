-- The list at the row's place begins with its totals.
use Rattle.std.proofs.Common.{◌<◌, ◌∙◌, ap, arith, get_or, length, subst, sym, take, List, []}
use Rattle.tomex_study.specs.Cycles.{totals_of}
use Rattle.tomex_study.specs.Program.{Workload}
use Rattle.tomex_study.specs.Study.{DesignSpace}
use Rattle.tomex_study.proofs.Rows.{totals_long, totals_taken}
use Rattle.tomex_study.proofs.surveyed.Surveyed.totals.Goals as goal

pub index-requires : goal.index-requires
index-requires g c =
    let s = c.self.inside.study.now in
    let long = totals_long s c.self.inside.totals.items c.self.invariant.totals_are in
    let within = subst (λ (t : DesignSpace). c.args.row < length t.rows) (sym c.self.view_is) c.requires in
    omega (arith, long, within)

pub shared_ref_as_front-result : goal.shared_ref_as_front-result
shared_ref_as_front-result g c =
    let many = ap (λ (ps : List Workload). length ps) c.programs.ensures.value in
    omega (arith, many, c.keeps_limits.ensures.few_programs)

pub returns : goal.returns
returns g c =
    let s = c.self.inside.study.now in
    let within = subst (λ (t : DesignSpace). c.args.row < length t.rows) (sym c.self.view_is) c.requires in
    ap (λ (ps : List Workload). take (length ps) c.index.result.now) c.programs.ensures.value
    ∙ (totals_taken s c.self.inside.totals.items c.args.row c.self.invariant.totals_are within c.index.ensures
    ∙ ap (λ (t : DesignSpace). get_or (totals_of t) c.args.row []) c.self.view_is)
