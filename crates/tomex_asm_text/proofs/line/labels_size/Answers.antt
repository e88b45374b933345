use Rattle.std.proofs.Common.{sym, ◌∙◌, arith}
use Rattle.std.proofs.lemmas.List.{length-drop, length-take}
use Rattle.tomex_asm_tokens.specs.declared.token.Token.{Token}
use Rattle.tomex_asm_text.proofs.Sizes.{labels_go, labels_end, labels_break}
use Rattle.tomex_asm_text.proofs.line.labels_size.Goals as goal

pub loop-size-preserved : goal.loop-size-preserved
loop-size-preserved c =
    record {
      within = omega (arith, length-drop {A = Token}, length-take {A = Token});
      labels =
          labels_go c.args.line.now c.loop-size.size c.args.tokens.now _ _ c.in-len2-up.len_at_least
          (sym c.is_mark.ensures ∙ c.if-not-is_mark.false) (sym c.label_fault.ensures ∙ c.in_default-label_fault.is)
          c.loop-size.invariant.labels;
    }

pub returns-in_default-clause-value : goal.returns-in_default-clause-value
returns-in_default-clause-value c =
    labels_end c.args.line.now c.loop-size.size c.args.tokens.now c.in_default.len_below c.loop-size.invariant.labels

pub returns-then-not-is_mark-clause-value : goal.returns-then-not-is_mark-clause-value
returns-then-not-is_mark-clause-value c =
    labels_break c.args.line.now c.loop-size.size c.args.tokens.now _ c.in-len2-up.len_at_least
    (sym c.is_mark.ensures ∙ c.if-not-is_mark.true) c.loop-size.invariant.labels
