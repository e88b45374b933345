use Rattle.std.proofs.Common.{◌≡◌, ◌+◌, ◌*◌, ◌^◌, min, take, arith, ap, ◌∙◌, sym, ℕ}
use Rattle.std.specs.Char.{digit_value}
use Rattle.std.specs.Str.Parse.{digits_value}
use Rattle.std.proofs.lemmas.Int.Digits.{digits_value_more}
use Rattle.std.proofs.Common.{get_or}
use Rattle.tomex_asm_tokens.proofs.Capped.{capped}
use Rattle.tomex_asm_tokens.proofs.numeral.value_of.Goals as goal

pub loop-digit-preserved : goal.loop-digit-preserved
loop-digit-preserved c =
    let i = c.loop-digit.digit-index in
    let more = digits_value_more c.args.base c.args.digits.now i c.loop-digit-test.true in
    let value : c.loop-digit.value * c.from.result + c.from-in-loop-digit.result
    ≡ min (digits_value c.args.base (take i c.args.digits.now)) (2 ^ 32) * c.args.base
    + digit_value (get_or c.args.digits.now i 0) = cc in
    record {
      number =
          c.min-value.ensures ∙ ap (λ (n : ℕ). min n (2 ^ 32)) value
          ∙ capped (digits_value c.args.base (take i c.args.digits.now)) c.args.base _ (2 ^ 32) c.requires.one
          ∙ ap (λ (n : ℕ). min n (2 ^ 32)) (sym more);
      bound = omega arith;
    }
