use Rattle.tomex_weights.proofs.AnyMix.{stays_at_any_mix}
use Rattle.tomex_weights.proofs.laws.best_rows_stay_at_any_mix.Goals as goal

pub returns : goal.returns
returns c = stays_at_any_mix
