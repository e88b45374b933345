-- If no command is named, or its values are refused, no line is asked for.
use Rattle.std.proofs.Common.{◌∙◌, ap, sym, option_map, Some}
use Rattle.std.proofs.lemmas.Result.{IfErr-weaker}
use Rattle.clap.specs.Words.{Text, found_of, subcommand_rows_of}
use Rattle.clap.specs.Walk.{rows_of}
use Rattle.tomex_command_line.specs.Asked.{no_command, no_line, nothing}
use Rattle.tomex_command_line.proofs.Found.{found_is, none_found}
use Rattle.tomex_command_line.proofs.PassedOn.{wider}
use Rattle.tomex_arguments.proofs.WhyRefused.{refused_if}
use Rattle.tomex_command_line.proofs.line.line_of.Goals.{in-Some+in_default-command_named, in_default}
use Rattle.tomex_command_line.proofs.line.line_of.Goals as goal

pub returns-clause-refused : goal.returns-clause-refused
returns-clause-refused c = elim c.match-subcommand.branch [
  | in-Some+in_default-command_named w ↦
      refused_if _ c.refusal_of.result c.refusal_of.ensures (no_command _ _
      (found_is c.args.matches.now _ _ w.in-Some.ensures.name w.in-Some.ensures.rows)
      w.in_default-command_named.ensures)
  | in_default w ↦
      let none = none_found (subcommand_rows_of c.args.matches.now)
      (sym (ap (option_map (λ p. rows_of (found_of p.1.now))) w.in_default.is) ∙ c.subcommand.ensures.rows) in
      refused_if _ c.refusal_of.result c.refusal_of.ensures (nothing none)
]

pub returns-in-Some-command_named-clause-refused : goal.returns-in-Some-command_named-clause-refused
returns-in-Some-command_named-clause-refused c =
    let rows = rows_of (found_of c.in-Some.found.now) in
    let is = found_is c.args.matches.now _ _ c.in-Some.ensures.name c.in-Some.ensures.rows
    ∙ ap (λ (name : Text). Some (name, rows)) c.in-Some-command_named.ensures in
    IfErr-weaker c.line_with.result _ _
    (λ fault refused. wider _ _ fault refused (no_line c.in-Some-command_named.command rows is))
    c.line_with.ensures.refused
