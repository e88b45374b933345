-- The two arguments, one after the other.
use Rattle.std.proofs.Common.{◌≡◌, ◌∙◌, ap, ap₂, IfOk, IsOkAnd, Result, Ok, Err}
use Rattle.clap.specs.Words.{Rule, app_of, with_rule}
use Rattle.clap.specs.declared.builder.command.Command.{Command}
use Rattle.tomex_command_line.proofs.line.builds.on_builds.Goals as goal

two : {E : Type 0} (made between before : Result Command E) {a b r s : Rule}
    → IfOk made (λ m. IsOkAnd between (λ k. app_of m ≡ with_rule (app_of k) b))
    → IfOk between (λ m. IsOkAnd before (λ k. app_of m ≡ with_rule (app_of k) a)) → a ≡ r → b ≡ s
    → IfOk made (λ m. IsOkAnd before (λ k. app_of m ≡ with_rule (with_rule (app_of k) r) s))
two (Err _) between before second first is_r is_s = tt
two (Ok m) (Err _) before second first is_r is_s = absurd second
two (Ok m) (Ok k) (Err _) second first is_r is_s = absurd first
two (Ok m) (Ok k) (Ok l) second first is_r is_s = second ∙ ap₂ with_rule (first ∙ ap (with_rule (app_of l)) is_r) is_s

pub returns : goal.returns
returns c =
    two c.with_argument.result c.with_argument-command.result _ c.with_argument.ensures c.with_argument-command.ensures
    c.word.ensures.rule c.word-2.ensures.rule
