use Rattle.std.proofs.Common.{◌-◌, ◌∙◌, ap, arith, sym}
use Rattle.tomex_samples.specs.Groups.{next_leaders}
use Rattle.tomex_samples.proofs.Renewed.{no_rounds, rounds_more}
use Rattle.tomex_samples.proofs.rounds.leaders_after.Goals as goal

pub loop-round-preserved : goal.loop-round-preserved
loop-round-preserved g c = record {
  leaders = λ run of.
      rounds_more run c.loop-round._round c.loop-round.leaders.items c.in_ok-next.next.items (omega arith)
      (c.in_ok-next.ensures.leaders run of ∙ ap (next_leaders run) c.as_slice.ensures.value)
      ∙ c.loop-round.invariant.leaders run of;
  some = c.in_ok-next.ensures.some;
  can = c.in_ok-next.ensures.can;
}

pub returns-clause-leaders : goal.returns-clause-leaders
returns-clause-leaders g c = λ run of.
    sym (no_rounds run (10 - c.loop-round._round) c.loop-round.leaders.items (omega arith))
    ∙ c.loop-round.invariant.leaders run of
