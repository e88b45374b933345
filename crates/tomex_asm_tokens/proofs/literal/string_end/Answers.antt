use Rattle.std.proofs.Common.{◌∙◌, sym, refl}
use Rattle.tomex_asm_tokens.proofs.Lines.{string_skips, string_escapes, string_goes}
use Rattle.tomex_asm_tokens.proofs.literal.string_end.Goals as goal
use Rattle.tomex_asm_tokens.proofs.literal.string_end.Goals.{then-byte-eq92+else-length-eq0, else-byte-eq92}

pub loop-place-preserved-then-place-next : goal.loop-place-preserved-then-place-next
loop-place-preserved-then-place-next c =
    sym (string_skips c.args.begin c.loop-place.next c.loop-place.place c.args.rest.now
    c.loop-place-test.true c.if-place-next.true)
    ∙ c.loop-place.invariant

pub loop-place-preserved : goal.loop-place-preserved
loop-place-preserved c =
    elim c.if-byte-eq92.branch [
      | then-byte-eq92+else-length-eq0 w ↦
          sym (string_escapes c.args.begin c.loop-place.next c.loop-place.place _ _ _ c.args.rest.now
          c.loop-place-test.true
          c.if-place-next.false refl c.if-byte-eq34.false w.if-byte-eq92.true w.escape_length-length.ensures.value
          w.if-length-eq0.false w.next-is)
          ∙ c.loop-place.invariant
      | else-byte-eq92 w ↦
          sym (string_goes c.args.begin c.loop-place.next c.loop-place.place _ _ c.args.rest.now c.loop-place-test.true
          c.if-place-next.false refl c.if-byte-eq34.false w.if-byte-eq92.false w.next-is)
          ∙ c.loop-place.invariant
    ]
