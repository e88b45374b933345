use Rattle.std.proofs.Common.{◌∙◌, sym, ap, refl}
use Rattle.std.proofs.lemmas.Result.{err_from_is_err_and}
use Rattle.tomex_asm_tokens.proofs.Lines.{with_front, tokens_skip, tokens_blank, tokens_refused, tokens_end}
use Rattle.tomex_asm_tokens.proofs.lexing.read_tokens.Goals as goal
use Rattle.tomex_asm_tokens.proofs.lexing.read_tokens.Goals.{then-at-next-via-then-at-next}
use Rattle.tomex_asm_tokens.proofs.lexing.read_tokens.Goals.{then-at-next-via-else-at-next+then-is_blank}

pub loop-at-preserved-then-at-next : goal.loop-at-preserved-then-at-next
loop-at-preserved-then-at-next g c =
    elim c.then-at-next.branch [
      | then-at-next-via-then-at-next w ↦
          ap (with_front c.loop-at.out.items)
          (sym (tokens_skip c.loop-at.next c.loop-at.at c.args.line.now c.loop-at-test.true w.if-at-next.true))
          ∙ c.loop-at.invariant
      | then-at-next-via-else-at-next+then-is_blank w ↦
          ap (with_front c.loop-at.out.items)
          (sym (tokens_blank c.loop-at.next c.loop-at.at _ c.args.line.now c.loop-at-test.true w.if-at-next.false refl
          (sym w.is_blank.ensures ∙ w.if-is_blank.true)))
          ∙ c.loop-at.invariant
    ]

pub returns-in_err-token : goal.returns-in_err-token
returns-in_err-token g c =
    let p = err_from_is_err_and c.from_residual.result c.from_residual.ensures.1 in
    rw (p.1, p.2)
    (tokens_refused c.loop-at.out.items c.loop-at.next c.loop-at.at _ c.args.line.now _ c.loop-at-test.true
    c.if-at-next.false refl (sym c.is_blank.ensures ∙ c.if-is_blank.false) c.in_err-token.ensures c.loop-at.invariant)

pub returns : goal.returns
returns g c =
    tokens_end c.loop-at.out.items c.loop-at.next c.loop-at.at c.args.line.now c.loop-at-test.false c.loop-at.invariant
