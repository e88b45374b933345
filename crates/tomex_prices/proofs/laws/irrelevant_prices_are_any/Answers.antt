use Rattle.tomex_prices.proofs.StatedAndEqual.{all_hold}
use Rattle.tomex_prices.proofs.laws.irrelevant_prices_are_any.Goals as goal

pub returns : goal.returns
returns c = all_hold
