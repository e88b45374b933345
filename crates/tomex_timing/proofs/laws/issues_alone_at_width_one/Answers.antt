-- A step that has issued by some cycle doesn't issue later.
use Rattle.tomex_timing.proofs.Width.{issues_alone, issues_rise}
use Rattle.tomex_timing.proofs.laws.issues_alone_at_width_one.Goals as goal

pub returns : goal.returns
returns c = record { test = issues_alone; rise = issues_rise }
