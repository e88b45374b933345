-- The rows of the code are those of the definition.
use Rattle.std.proofs.Common.{◌≡◌, ◌∙◌, sym, ap, Bool, true, false, cond, Some, codes}
use Rattle.tomex_asm_text.specs.declared.directive.Directive.TheVariants as directives
use Rattle.tomex_asm_tokens.specs.Registers.{named}
use Rattle.tomex_asm_text.specs.Directives.{begins_text, directive_named, directive_names}
use Rattle.tomex_asm_text.proofs.directive.directive_named.Goals as goal

pub returns-then-begins_text : goal.returns-then-begins_text
unfolding directive_named
returns-then-begins_text c =
    let e : begins_text (codes ".cfi_") c.args.word.now ≡ true = sym c.begins_text.ensures ∙ c.if-begins_text.true in
    sym (ap (λ (b : Bool). cond b (Some directives.Ignored) (named directive_names c.args.word.now)) e)

pub returns-else-begins_text : goal.returns-else-begins_text
unfolding directive_named
returns-else-begins_text c =
    let e : begins_text (codes ".cfi_") c.args.word.now ≡ false = sym c.begins_text.ensures ∙ c.if-begins_text.false in
    c.named.ensures
    ∙ sym (ap (λ (b : Bool). cond b (Some directives.Ignored) (named directive_names c.args.word.now)) e)
