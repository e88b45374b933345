use Rattle.std.proofs.Common.{◌≡◌, ℕ, ◌+◌, ◌*◌, ◌%◌, take, ap, ◌∙◌, sym, arith}
use Rattle.std.specs.Str.Parse.{digits_value}
use Rattle.std.proofs.lemmas.Int.Digits.{digits_value_more}
use Rattle.tomex_asm_tokens.proofs.strings.octal_value.Goals as goal

reduced : (v n d : ℕ) → v ≡ n % 256 → (v * 8 % 256 + d) % 256 ≡ (n * 8 + d) % 256
reduced v n d e = omega arith

pub loop-digit-preserved : goal.loop-digit-preserved
loop-digit-preserved c =
    let i = c.loop-digit.digit-index in
    let before = digits_value 8 (take i c.args.digits.now) in
    reduced c.loop-digit.value before c.digit_value.result c.loop-digit.invariant
    ∙ ap (λ (d : ℕ). (before * 8 + d) % 256) c.digit_value.ensures.value
    ∙ ap (λ (n : ℕ). n % 256) (sym (digits_value_more 8 c.args.digits.now i c.loop-digit-test.true))
