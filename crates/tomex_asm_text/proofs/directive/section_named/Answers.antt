-- The rows of the code are those of the definition.
use Rattle.tomex_asm_text.specs.Directives.{section_named}
use Rattle.tomex_asm_text.proofs.directive.section_named.Goals as goal

pub returns : goal.returns
unfolding section_named
returns c = c.section_in.ensures
