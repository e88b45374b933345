-- Each turn takes a visit.
use Rattle.std.proofs.Common.{None, map, get_or, rules}
use Rattle.std.specs.Option.{option_map}
use Rattle.tomex_loop_sums.specs.Columns.{RepeatsOf}
use Rattle.tomex_loop_sums.proofs.Each.{each_push}
use Rattle.tomex_loop_sums.proofs.turns.patterns_in.Goals as goal

pub loop-visit-preserved : goal.loop-visit-preserved
loop-visit-preserved g c = record {
  count = search rules;
  patterns = each_push (λ n x. RepeatsOf (map (λ group. group.items) c.args.rounds.now)
      (get_or c.args.visits.now n None) (option_map (λ counts. counts.items) x)) c.loop-visit.patterns.items _
      c.in_ok-pattern_in.field-0 None
      c.loop-visit.visit-index c.in_ok-push.ensures.items c.loop-visit.invariant.count
      c.in_ok-pattern_in.ensures c.loop-visit.invariant.patterns;
}
