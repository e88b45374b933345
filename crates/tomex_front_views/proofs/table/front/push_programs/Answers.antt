-- Several programs have a column each; a single one has none.
use Rattle.std.proofs.Common.{◌<◌, ◌≤◌, ◌++◌, ◌∙◌, List, ap, length, subst, sym, arith}
use Rattle.std.proofs.lemmas.Grind.{common_steps}
use Rattle.std.proofs.lemmas.List.{append-nil}
use Rattle.tomex_study.specs.Program.{Workload}
use Rattle.tomex_layout.specs.Table.{TableColumn}
use Rattle.tomex_front_views.proofs.Tables.{no_column, several_columns}
use Rattle.tomex_front_views.proofs.table.front.push_programs.Goals as goal

pub returns-in_ok-push_each_program : goal.returns-in_ok-push_each_program
returns-in_ok-push_each_program g c =
    let several : 1 < length c.args.surveyed.now.programs =
    subst (λ (ps : List Workload). 1 < length ps) (rw c.study.ensures at c.programs.ensures.value)
    c.if-programs-gt1.true in
    c.in_ok-push_each_program.ensures
    ∙ ap (λ (more : List TableColumn). c.args.columns.now.items ++ more)
    (several_columns c.args.surveyed.now c.args.rows.now several)

pub returns-else-programs-gt1 : goal.returns-else-programs-gt1
returns-else-programs-gt1 g c =
    let one : length c.args.surveyed.now.programs ≤ 1 =
    subst (λ (ps : List Workload). length ps ≤ 1) (rw c.study.ensures at c.programs.ensures.value)
    c.if-programs-gt1.false in
    sym (append-nil c.args.columns.now.items)
    ∙ ap (λ (more : List TableColumn). c.args.columns.now.items ++ more)
    (no_column c.args.surveyed.now c.args.rows.now one)

pub push_each_program-requires : goal.push_each_program-requires
push_each_program-requires = grind (arith, common_steps)
