-- A put that took something continues what was written so far.
use Rattle.std.proofs.Common.{rules, ◌∙◌}
use Rattle.tomex_streams.proofs.Pieces.{take-then_take, appends_both}
use Rattle.tomex_streams.proofs.sink.write_all_of.Goals as goal

pub loop-written-preserved : goal.loop-written-preserved
loop-written-preserved g c =
    let before = c.loop-written.invariant in
    record {
      within = search rules;
      took = appends_both _ (g.W.Sink.seen c.loop-written.sink).taken _ _ _ (take-then_take _ _ _) before.took
          c.in-Ok.ensures.ok;
      fine = c.in-Ok.ensures.fine (λ none. absurd (c.in-Ok.count-test.1 none)) ∙ before.fine;
    }

pub returns-in-Err-clause-all : goal.returns-in-Err-clause-all
returns-in-Err-clause-all g c = search rules fits 100
