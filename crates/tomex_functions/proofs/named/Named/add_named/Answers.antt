-- The name has what it had with the share more, and each other name what it had.
use Rattle.std.proofs.Common.{arith}
use Rattle.std.proofs.lemmas.Map.Text.{text_keys}
use Rattle.tomex_functions.proofs.named.Named.add_named.Goals as goal

pub returns-clause-names : goal.returns-clause-names
returns-clause-names c = λ q. grind (arith, text_keys)
