-- The rows of the code are those of the definition.
use Rattle.std.specs.Fmt.{digits}
use Rattle.tomex_asm_tokens.specs.Registers.{register_named}
use Rattle.tomex_asm_tokens.proofs.registers.register_named.Goals as goal

pub returns : goal.returns
unfolding register_named digits
returns c = c.named.ensures
