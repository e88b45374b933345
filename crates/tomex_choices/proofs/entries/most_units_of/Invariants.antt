-- Of each latency so far.
use Rattle.std.proofs.Common.{◌≡◌, ◌<◌, ◌≤◌, ℕ, All, get_or, length}
use Rattle.tomex_choices.specs.Asking.{most_at}
use Rattle.tomex_choices.proofs.Options.{no_units}
use Rattle.tomex_choices.proofs.entries.most_units_of.Given as goal

abbrev pub invariant-loop-latency : goal.invariant-loop-latency
invariant-loop-latency l = record {
  long : length l.options ≡ 65;
  each : (k : ℕ) → k < l.latency → get_or l.options k no_units ≡ most_at l.rows l.unit k;
  prices : All (λ m. m.price ≤ 1000000) l.options;
}
