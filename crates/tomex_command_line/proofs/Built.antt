-- A command with two builds, given what it was before.
use Rattle.std.proofs.Common.{◌≡◌, ◌∙◌, ap, IfOk, IsOkAnd, Result, Ok, Err}
use Rattle.clap.specs.Words.{App, app_of}
use Rattle.clap.specs.declared.builder.command.Command.{Command}
use Rattle.tomex_command_line.specs.Grammar.{with_builds}

pub built : {E : Type 0} (made command : Result Command E) (a : App)
    → IfOk made (λ m. IsOkAnd command (λ k. app_of m ≡ with_builds (app_of k))) → IfOk command (λ k. app_of k ≡ a)
    → IfOk made (λ m. app_of m ≡ with_builds a)
built (Err _) command a is was = tt
built (Ok m) (Ok k) a is was = is ∙ ap with_builds was
built (Ok m) (Err _) a is was = absurd is
