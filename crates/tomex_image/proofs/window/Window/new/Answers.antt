use Rattle.std.proofs.Common.{rules}
use Rattle.tomex_image.proofs.window.Window.new.Goals as goal

pub invariant_of-result : goal.invariant_of-result
invariant_of-result c = search rules fits 100

pub returns-then-from-clause-some : goal.returns-then-from-clause-some
returns-then-from-clause-some c = search rules fits 100
