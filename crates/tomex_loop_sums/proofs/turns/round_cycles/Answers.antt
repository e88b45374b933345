-- The cycles of one round more.
use Rattle.std.proofs.Common.{◌∙◌, ap, map, None}
use Rattle.std.proofs.lemmas.List.{take_all}
use Rattle.tomex_loops.specs.declared.visit.Round.{Round}
use Rattle.tomex_loop_sums.specs.ByLoop.{round_cycles}
use Rattle.tomex_timing.specs.declared.times.Times.{Times}
use Rattle.tomex_loop_sums.proofs.Sofar.{round_more}
use Rattle.tomex_loop_sums.proofs.turns.round_cycles.Goals as goal

pub loop-round-preserved : goal.loop-round-preserved
loop-round-preserved g c =
    let first : Round = record { visit = 0; from = 0; to = 0 } in
    let none : Times =
    record { issue = 0; address = None; start = 0; finish = 0; end = 0; station = None } in
    let i = c.loop-round.round-index in
    let here = c.loop-round-test.true in
    round_more c.args.times.now c.args.rounds.now i _ first none _ _ here (c.requires.to i first here)
    (c.requires.from i first here) c.saturating_sub.ensures c.loop-round.invariant c.in_ok-push.ensures.items

pub returns : goal.returns
returns g c =
    c.loop-round.invariant
    ∙ ap (round_cycles (map (λ t. t.issue) c.args.times.now))
    (take_all c.loop-round.round-index c.args.rounds.now c.loop-round-test.false)

pub bounds-times-round-in-loop-round : goal.bounds-times-round-in-loop-round
bounds-times-round-in-loop-round g c =
    c.requires.to c.loop-round.round-index (record { visit = 0; from = 0; to = 0 }) c.loop-round-test.true

pub bounds-times-round : goal.bounds-times-round
bounds-times-round g c =
    c.requires.from c.loop-round.round-index (record { visit = 0; from = 0; to = 0 }) c.loop-round-test.true
