use Rattle.tomex_tags.proofs.wait_sets.WaitSets.enter.Goals as goal

pub returns-clause-entered : goal.returns-clause-entered
returns-clause-entered c = record {
  lacking = rw c.lacks_address.ensures at c.join.ensures;
  waiting = rw c.is_waiting.ensures at c.join-2.ensures;
  writing = rw (c.is_some.ensures, c.dest-dest.ensures.value) at c.join-3.ensures;
}
