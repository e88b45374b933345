-- The commands, one after the other.
use Rattle.std.proofs.Common.{◌≡◌, ◌∙◌, ap, ap₂, refl, true, IfOk, IsOkAnd, Result, Ok, Err}
use Rattle.clap.specs.Simple.{App, Shape, app_of, shape_of, with_subcommand}
use Rattle.clap.specs.declared.builder.command.Command.{Command}
use Rattle.tomex_command_line.specs.Grammar.{bare_app, run_shape, parts_shape, cut_shape}
use Rattle.tomex_command_line.specs.Grammar.{times_shape, stalls_shape, path_shape}
use Rattle.tomex_command_line.specs.Grammar.{pipeline_shape, loops_shape, tables_shape}
use Rattle.tomex_command_line.specs.Grammar.{animate_shape, all_shape, explore_shape}
use Rattle.tomex_command_line.specs.Grammar.{front_shape, plot_shape, rows_shape}
use Rattle.tomex_command_line.specs.Grammar.{worth_shape, choices_shape, prices_shape, weights_shape}
use Rattle.tomex_command_line.specs.Grammar.{compare_shape, functions_shape, page_shape, find_shape, explain_shape}
use Rattle.tomex_command_line.proofs.line.grammar.Goals as goal

offered : {E : Type 0} (made program command : Result Command E) (a : App) (s : Shape)
    → IfOk made (λ m. IsOkAnd program (λ p. IsOkAnd command (λ k. app_of m ≡ with_subcommand (app_of p) (shape_of k))))
    → IfOk program (λ p. app_of p ≡ a) → IfOk command (λ k. shape_of k ≡ s)
    → IfOk made (λ m. app_of m ≡ with_subcommand a s)
offered (Err _) program command a s is of is_s = tt
offered (Ok m) (Ok p) (Ok k) a s is of is_s = is ∙ ap₂ with_subcommand of is_s
offered (Ok m) (Ok p) (Err _) a s is of is_s = absurd is
offered (Ok m) (Err _) command a s is of is_s = absurd is

pub returns : goal.returns
returns c =
    let one = offered c.with_command-program.result (Ok c.without_commands.result) c.grammar.result bare_app run_shape
    c.with_command-program.ensures c.without_commands.ensures c.grammar.ensures in
    let two = offered c.with_command-program-2.result _ _ _ parts_shape c.with_command-program-2.ensures
    one c.grammar-2.ensures in
    let three = offered c.with_command-program-3.result _ _ _ cut_shape c.with_command-program-3.ensures
    two c.grammar-3.ensures in
    let four = offered c.with_command-program-4.result _ _ _ times_shape c.with_command-program-4.ensures
    three c.grammar-4.ensures in
    let five = offered c.with_command-program-5.result _ _ _ pipeline_shape c.with_command-program-5.ensures
    four c.grammar-5.ensures in
    let six = offered c.with_command-program-6.result _ _ _ tables_shape c.with_command-program-6.ensures
    five c.grammar-6.ensures in
    let seven = offered c.with_command-program-7.result _ _ _ animate_shape c.with_command-program-7.ensures
    six c.grammar-7.ensures in
    let eight = offered c.with_command-program-8.result _ _ _ stalls_shape c.with_command-program-8.ensures
    seven c.grammar-8.ensures in
    let nine = offered c.with_command-program-9.result _ _ _ path_shape c.with_command-program-9.ensures
    eight c.grammar-9.ensures in
    let ten = offered c.with_command-program-10.result _ _ _ loops_shape c.with_command-program-10.ensures
    nine c.grammar-10.ensures in
    let eleven = offered c.with_command-program-11.result _ _ _ front_shape c.with_command-program-11.ensures
    ten c.grammar-11.ensures in
    let twelve = offered c.with_command-program-12.result _ _ _ plot_shape c.with_command-program-12.ensures
    eleven c.grammar-12.ensures in
    let thirteen = offered c.with_command-program-13.result _ _ _ rows_shape c.with_command-program-13.ensures
    twelve c.grammar-13.ensures in
    let fourteen = offered c.with_command-program-14.result _ _ _ find_shape c.with_command-program-14.ensures
    thirteen c.grammar-14.ensures in
    let fifteen = offered c.with_command-program-15.result _ _ _ page_shape c.with_command-program-15.ensures
    fourteen c.grammar-15.ensures in
    let sixteen = offered c.with_command-program-16.result _ _ _ worth_shape c.with_command-program-16.ensures
    fifteen c.grammar-16.ensures in
    let seventeen = offered c.with_command-program-17.result _ _ _ choices_shape c.with_command-program-17.ensures
    sixteen c.grammar-17.ensures in
    let eighteen = offered c.with_command-program-18.result _ _ _ prices_shape c.with_command-program-18.ensures
    seventeen c.grammar-18.ensures in
    let nineteen = offered c.with_command-program-19.result _ _ _ weights_shape c.with_command-program-19.ensures
    eighteen c.grammar-19.ensures in
    let twenty = offered c.with_command-program-20.result _ _ _ compare_shape c.with_command-program-20.ensures
    nineteen c.grammar-20.ensures in
    let twenty_one = offered c.with_command-program-21.result _ _ _ functions_shape c.with_command-program-21.ensures
    twenty c.grammar-21.ensures in
    let twenty_two = offered c.with_command-program-22.result _ _ _ explore_shape c.with_command-program-22.ensures
    twenty_one c.grammar-22.ensures in
    let twenty_three = offered c.with_command-program-23.result _ _ _ all_shape c.with_command-program-23.ensures
    twenty_two c.grammar-23.ensures in
    offered c.with_command.result _ _ _ explain_shape c.with_command.ensures twenty_three c.grammar-24.ensures

-- a command is plain as its shape is
plain : {E : Type 0} (command : Result Command E) (s : Shape) → IfOk command (λ k. shape_of k ≡ s) → s.is_plain ≡ true
    → IfOk command (λ k. (shape_of k).is_plain ≡ true)
plain (Err _) s is of_s = tt
plain (Ok k) s is of_s = ap (λ (x : Shape). x.is_plain) is ∙ of_s

pub with_command-program-requires : goal.with_command-program-requires
with_command-program-requires c = plain _ run_shape c.grammar.ensures refl

pub with_command-program-requires-2 : goal.with_command-program-requires-2
with_command-program-requires-2 c = plain _ parts_shape c.grammar-2.ensures refl

pub with_command-program-requires-3 : goal.with_command-program-requires-3
with_command-program-requires-3 c = plain _ cut_shape c.grammar-3.ensures refl

pub with_command-program-requires-4 : goal.with_command-program-requires-4
with_command-program-requires-4 c = plain _ times_shape c.grammar-4.ensures refl

pub with_command-program-requires-5 : goal.with_command-program-requires-5
with_command-program-requires-5 c = plain _ pipeline_shape c.grammar-5.ensures refl

pub with_command-program-requires-6 : goal.with_command-program-requires-6
with_command-program-requires-6 c = plain _ tables_shape c.grammar-6.ensures refl

pub with_command-program-requires-7 : goal.with_command-program-requires-7
with_command-program-requires-7 c = plain _ animate_shape c.grammar-7.ensures refl

pub with_command-program-requires-8 : goal.with_command-program-requires-8
with_command-program-requires-8 c = plain _ stalls_shape c.grammar-8.ensures refl

pub with_command-program-requires-9 : goal.with_command-program-requires-9
with_command-program-requires-9 c = plain _ path_shape c.grammar-9.ensures refl

pub with_command-program-requires-10 : goal.with_command-program-requires-10
with_command-program-requires-10 c = plain _ loops_shape c.grammar-10.ensures refl

pub with_command-program-requires-11 : goal.with_command-program-requires-11
with_command-program-requires-11 c = plain _ front_shape c.grammar-11.ensures refl

pub with_command-program-requires-12 : goal.with_command-program-requires-12
with_command-program-requires-12 c = plain _ plot_shape c.grammar-12.ensures refl

pub with_command-program-requires-13 : goal.with_command-program-requires-13
with_command-program-requires-13 c = plain _ rows_shape c.grammar-13.ensures refl

pub with_command-program-requires-14 : goal.with_command-program-requires-14
with_command-program-requires-14 c = plain _ find_shape c.grammar-14.ensures refl

pub with_command-program-requires-15 : goal.with_command-program-requires-15
with_command-program-requires-15 c = plain _ page_shape c.grammar-15.ensures refl

pub with_command-program-requires-16 : goal.with_command-program-requires-16
with_command-program-requires-16 c = plain _ worth_shape c.grammar-16.ensures refl

pub with_command-program-requires-17 : goal.with_command-program-requires-17
with_command-program-requires-17 c = plain _ choices_shape c.grammar-17.ensures refl

pub with_command-program-requires-18 : goal.with_command-program-requires-18
with_command-program-requires-18 c = plain _ prices_shape c.grammar-18.ensures refl

pub with_command-program-requires-19 : goal.with_command-program-requires-19
with_command-program-requires-19 c = plain _ weights_shape c.grammar-19.ensures refl

pub with_command-program-requires-20 : goal.with_command-program-requires-20
with_command-program-requires-20 c = plain _ compare_shape c.grammar-20.ensures refl

pub with_command-program-requires-21 : goal.with_command-program-requires-21
with_command-program-requires-21 c = plain _ functions_shape c.grammar-21.ensures refl

pub with_command-program-requires-22 : goal.with_command-program-requires-22
with_command-program-requires-22 c = plain _ explore_shape c.grammar-22.ensures refl

pub with_command-program-requires-23 : goal.with_command-program-requires-23
with_command-program-requires-23 c = plain _ all_shape c.grammar-23.ensures refl

pub with_command-requires : goal.with_command-requires
with_command-requires c = plain _ explain_shape c.grammar-24.ensures refl
