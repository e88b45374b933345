-- One more program has its list; at the end all have one.
use Rattle.tomex_plateaus.proofs.Knowing.{all_fresh, fresh_steps, one_list}
use Rattle.tomex_plateaus.proofs.knowledge.Knowledge.new.Goals as goal

pub loop-program-preserved : goal.loop-program-preserved
loop-program-preserved g c =
    one_list c.args.programs.now c.loop-program.program-index c.program-item.result c.loop-program.lists.items
    c.push.new.self.items c.in_ok-list.list c.run.result.now
    c.in_ok-push.ensures.items c.loop-program-test.true c.program-item.is c.in_ok-list.ensures c.run.ensures.steps
    c.loop-program.invariant

pub invariant_of-result : goal.invariant_of-result
invariant_of-result g c = record {
  few = c.requires.few;
  ends = c.requires.ends;
  steps = fresh_steps c.args.programs.now c.loop-program.lists.items (all_fresh c.args.programs.now
      c.loop-program.program-index _ c.loop-program-test.false c.loop-program.invariant);
}

pub returns-clause-nothing : goal.returns-clause-nothing
returns-clause-nothing g c = all_fresh c.args.programs.now c.loop-program.program-index _ c.loop-program-test.false
    c.loop-program.invariant
