-- The configuration's numbers are compared.
use Rattle.std.proofs.Common.{◌∙◌, ℕ, ap, List}
use Rattle.tomex_plateaus.specs.Plateaus.{fits}
use Rattle.tomex_plateaus.proofs.plateau.Plateau.has.Goals as goal

pub returns : goal.returns
returns c = c.has_numbers.ensures ∙ ap (λ (numbers : List ℕ). fits numbers c.args.self.now) c.numbers_of.ensures
