use Rattle.tomex_asm_tokens.proofs.Ends.{last_before, none_before, none_at_all}
use Rattle.tomex_asm_tokens.proofs.bare.last_end.Goals as goal

pub returns-then-begins_end : goal.returns-then-begins_end
returns-then-begins_end c = λ k.
    last_before c.loop-place.place c.args.text.now c.begins_end.result c.loop-place-test.true c.loop-place.auto.place
    c.begins_end.ensures c.if-begins_end.true c.loop-place.invariant k

pub loop-place-preserved : goal.loop-place-preserved
loop-place-preserved c =
    none_before c.loop-place.place c.args.text.now c.begins_end.result c.loop-place-test.true c.loop-place.auto.place
    c.begins_end.ensures c.if-begins_end.false c.loop-place.invariant

pub returns : goal.returns
returns c = λ k. none_at_all c.loop-place.place c.args.text.now c.loop-place-test.false c.loop-place.invariant k
