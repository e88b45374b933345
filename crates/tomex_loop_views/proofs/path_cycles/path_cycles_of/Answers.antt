-- The sums fit.
use Rattle.std.proofs.Common.{arith, ◌≡◌, ◌∙◌}
use Rattle.std.proofs.lemmas.Grind.{common_steps}
use Rattle.tomex_loop_views.specs.PathCycles.{cycles_for}
use Rattle.tomex_loop_views.proofs.PathKeys.{cycles_fit}
use Rattle.tomex_loop_views.proofs.path_cycles.path_cycles_of.Goals as goal

pub sums_by_key-requires-clause-few : goal.sums_by_key-requires-clause-few
sums_by_key-requires-clause-few g c =
    let is : c.deref.result.now ≡ cycles_for c.args.reason c.args.links.now =
    c.deref.ensures.value ∙ c.in_ok-cycles.ensures in
    rw is (cycles_fit c.args.reason c.args.links.now c.requires.short)

pub sums_by_key-requires-clause-pairs : goal.sums_by_key-requires-clause-pairs
sums_by_key-requires-clause-pairs = grind (arith, common_steps)
