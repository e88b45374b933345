-- The word is choices, a number within bounds, or neither.
use Rattle.std.proofs.lemmas.Grind.{common_steps}
use Rattle.std.proofs.Common.{◌≡◌, arith, ℕ, subst, Result}
use Rattle.std.specs.Str.Parse.{ParsesUnsigned}
use Rattle.std.specs.declared.num.ParseIntError.{ParseIntError}
use Rattle.tomex_command_line.proofs.ConfigWords.{not_named, without_equals}
use Rattle.tomex_command_line.proofs.PassedOn.{wider}
use Rattle.tomex_command_line.proofs.line.config.config_of.Goals as goal
use Rattle.tomex_command_line.proofs.line.config.config_of.Goals.{in_default-via-in-Ok+else-number-le-LAST_ROW}
use Rattle.tomex_command_line.proofs.line.config.config_of.Goals.{in_default-via-in_default}

pub returns-in-Ok-clause-config : goal.returns-in-Ok-clause-config
returns-in-Ok-clause-config c = record {
  word = c.in_ok-word.word.now;
  is_word = c.in_ok-word.ensures.word;
  no_choices = without_equals c.in_ok-word.word.now _ c.contains.ensures.cases c.if-contains.false;
  parsed = subst (λ (r : Result ℕ ParseIntError). ParsesUnsigned 32 10 c.in_ok-word.word.now r) c.in-Ok.is
      c.parse.ensures.value.0;
  within = c.if-number-le-LAST_ROW.true;
}

pub returns-in_default-clause-refused : goal.returns-in_default-clause-refused
returns-in_default-clause-refused c =
    wider _ _ _ c.refusal_of.ensures (λ _.
    not_named _ c.in_ok-word.word.now c.parse.result c.in_ok-word.ensures.word
    (without_equals c.in_ok-word.word.now _ c.contains.ensures.cases c.if-contains.false) c.parse.ensures.value.0
    (λ n is within. elim c.in_default.branch [
      | in_default-via-in-Ok+else-number-le-LAST_ROW w ↦
          let same : n ≡ w.in-Ok.number = cc (is, w.in-Ok.is) in
          let above = w.if-number-le-LAST_ROW.false in
          omega (arith, same, within, above)
      | in_default-via-in_default w ↦ w.in_default.not-Ok n is
    ]))

pub returns-then-contains-clause-config : goal.returns-then-contains-clause-config
returns-then-contains-clause-config = grind (arith, common_steps)
