-- A command with one more argument, given what it was before.
use Rattle.std.proofs.Common.{◌≡◌, ◌∙◌, ap₂, IfOk, IsOkAnd, Result, Ok, Err}
use Rattle.clap.specs.Words.{App, Rule, app_of, with_rule}
use Rattle.clap.specs.declared.builder.command.Command.{Command}

pub taken : {E : Type 0} (made command : Result Command E) {arg r : Rule} (a : App)
    → IfOk made (λ m. IsOkAnd command (λ k. app_of m ≡ with_rule (app_of k) arg)) → IfOk command (λ k. app_of k ≡ a)
    → arg ≡ r → IfOk made (λ m. app_of m ≡ with_rule a r)
taken (Err _) command a is was is_r = tt
taken (Ok m) (Ok k) a is was is_r = is ∙ ap₂ with_rule was is_r
taken (Ok m) (Err _) a is was is_r = absurd is
