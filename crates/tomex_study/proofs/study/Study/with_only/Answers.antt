-- What `retain` keeps are the programs of the two names.
use Rattle.std.proofs.Common.{◌≡◌, ◌∙◌, ap, rules, subst, sym, true, List}
use Rattle.std.specs.Prelude.{is_some}
use Rattle.std.specs.List.{filter}
use Rattle.std.proofs.lemmas.Fn.{filter_same}
use Rattle.tomex_study.specs.Program.{Workload}
use Rattle.tomex_study.specs.Selection.{is_one_of, with_only}
use Rattle.tomex_study.specs.Study.{DesignSpace, IsStudy, design_space, program_named}
use Rattle.tomex_study.proofs.Selection.{selected}
use Rattle.tomex_study.proofs.study.Study.with_only.Goals as goal

pub invariant_of-result : goal.invariant_of-result
invariant_of-result g c =
    let in_it = c.self.inside in
    let s = design_space in_it.programs.items in_it.rows.items in_it.costs.items in_it.prices in_it.wide in
    let kept : c.retain.new.self.items ≡ filter (is_one_of c.args.one.now c.args.other.now) in_it.programs.items =
    filter_same _ _ _ (λ x b f' k. search rules) _ _ c.retain.ensures.filtered in
    let there = subst (λ (t : DesignSpace). is_some (program_named c.args.one.now t.programs) ≡ true)
    (sym c.self.view_is) c.requires in
    subst (λ (ps : List Workload). IsStudy (record s { programs = ps })) (sym kept)
    (selected c.args.one.now c.args.other.now s c.self.invariant there)

pub returns : goal.returns
returns g c =
    let in_it = c.self.inside in
    let s = design_space in_it.programs.items in_it.rows.items in_it.costs.items in_it.prices in_it.wide in
    let kept : c.retain.new.self.items ≡ filter (is_one_of c.args.one.now c.args.other.now) in_it.programs.items =
    filter_same _ _ _ (λ x b f' k. search rules) _ _ c.retain.ensures.filtered in
    ap (λ (ps : List Workload). record s { programs = ps }) kept
    ∙ ap (with_only c.args.one.now c.args.other.now) c.self.view_is
