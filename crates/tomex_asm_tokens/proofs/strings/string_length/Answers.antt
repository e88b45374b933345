use Rattle.std.proofs.Common.{◌+◌, length, ap, refl, arith}
use Rattle.std.proofs.lemmas.List.{take_rest}
use Rattle.tomex_asm_tokens.proofs.Meant.{meant_skips, meant_escape, meant_goes}
use Rattle.tomex_asm_tokens.proofs.strings.string_length.Goals as goal
use Rattle.tomex_asm_tokens.proofs.strings.string_length.Goals.{then-byte-eq92, else-byte-eq92}

pub loop-place-preserved-then-place-next : goal.loop-place-preserved-then-place-next
loop-place-preserved-then-place-next c =
    let same = ap length (meant_skips c.loop-place.next c.loop-place.place c.args.inner.now c.loop-place-test.true
    c.if-place-next.true) in
    let all = c.loop-place.invariant.all in
    record { few = omega arith; all = omega arith }

pub loop-place-preserved : goal.loop-place-preserved
loop-place-preserved c =
    let few = c.loop-place.invariant.few in
    let all = c.loop-place.invariant.all in
    elim c.if-byte-eq92.branch [
      | then-byte-eq92 w ↦
          let next = w.next-is in
          let same = ap length (meant_escape c.loop-place.next c.if-byte-eq92.next c.loop-place.place _ _ _
          c.args.inner.now _ c.loop-place-test.true c.if-place-next.false refl w.if-byte-eq92.true
          (take_rest c.args.inner.now (c.loop-place.place + 1)) w.escape_length.ensures.value refl next) in
          record { few = omega arith; all = omega arith }
      | else-byte-eq92 w ↦
          let same = ap length (meant_goes c.loop-place.next c.if-byte-eq92.next c.loop-place.place _ c.args.inner.now
          c.loop-place-test.true c.if-place-next.false refl w.if-byte-eq92.false w.next-is) in
          record { few = omega arith; all = omega arith }
    ]
