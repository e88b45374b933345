use Rattle.tomex_asm_tokens.proofs.BareBytes.{bare_all}
use Rattle.tomex_asm_tokens.proofs.bare.without_comments.Goals as goal

pub returns : goal.returns
returns g c =
    bare_all c.loop-place.bytes.items c.loop-place.mode c.loop-place.place c.args.text.now c.loop-place-test.false
    c.loop-place.invariant
