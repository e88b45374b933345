-- Each turn counts the rounds of a loop.
use Rattle.std.proofs.lemmas.Grind.{common_steps}
use Rattle.std.proofs.Common.{◌≡◌, ◌∙◌, [], None, arith, get_or, map, rules, sym}
use Rattle.std.specs.Vec.{with_items}
use Rattle.std.proofs.lemmas.List.{get_or-map, get_or-set_other}
use Rattle.tomex_loop_sums.specs.Columns.{CountsAre}
use Rattle.tomex_loop_sums.proofs.Each.{each_push}
use Rattle.tomex_loop_sums.proofs.turns.counts_of.Goals as goal

pub loop-group-preserved : goal.loop-group-preserved
loop-group-preserved g c =
    let same = c.loop-group.invariant.left c.loop-group.group-index c.group-item.result (omega arith) in
    let read = get_or-map (λ group. group.items) c.args.groups.now c.loop-group.group-index c.group-item.result []
    c.loop-group-test.true in
    record {
      count = search rules;
      left = λ k d l. get_or-set_other c.loop-group.groups c.loop-group.group-index k
          (with_items (get_or c.loop-group.groups c.loop-group.group-index c.group-item.result)
          c.count_rounds.new.cycles) d
          (λ (e : k ≡ c.loop-group.group-index). absurd (omega (arith, e, l)))
          ∙ c.loop-group.invariant.left k d (omega (arith, l));
      counts = each_push (λ n x. CountsAre (get_or (map (λ group. group.items) c.args.groups.now) n []) x)
          c.loop-group.counts.items c.push.new.self.items c.count_rounds.result None c.loop-group.group-index
          c.in_ok-push.ensures.items c.loop-group.invariant.count
          (rw (read, sym same, sym c.deref_mut.ensures.value) c.count_rounds.ensures) c.loop-group.invariant.counts;
    }

pub offset_bounds-groups-group-index : goal.offset_bounds-groups-group-index
offset_bounds-groups-group-index = grind (arith, common_steps)
