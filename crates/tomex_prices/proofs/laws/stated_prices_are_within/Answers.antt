use Rattle.tomex_prices.proofs.StatedAndEqual.{holds_stated}
use Rattle.tomex_prices.proofs.laws.stated_prices_are_within.Goals as goal

pub returns : goal.returns
returns c = holds_stated
