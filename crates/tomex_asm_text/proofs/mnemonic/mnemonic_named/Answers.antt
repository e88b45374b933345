-- The rows of the code are those of the definition.
use Rattle.std.proofs.Common.{◌∙◌, ap, Option}
use Rattle.tomex_rvdec.specs.declared.op.Op.{Op}
use Rattle.tomex_asm_text.specs.Mnemonics.{real_or, mnemonic_named}
use Rattle.tomex_asm_text.proofs.mnemonic.mnemonic_named.Goals as goal

pub returns-in-Some : goal.returns-in-Some
unfolding mnemonic_named
returns-in-Some c = ap (λ (o : Option Op). real_or o c.args.word.now) c.in-Some.ensures

pub returns-in-None : goal.returns-in-None
unfolding mnemonic_named
returns-in-None c = c.named.ensures ∙ ap (λ (o : Option Op). real_or o c.args.word.now) c.in-None.ensures
