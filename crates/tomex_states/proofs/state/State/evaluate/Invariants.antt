-- The state shows the steps so far, and their demands are noted.
use Rattle.std.proofs.Common.{List}
use Rattle.tomex_rvexec.specs.declared.step.Step.{Step}
use Rattle.tomex_timing.specs.Recent.{AreFacts}
use Rattle.tomex_alike.specs.Laws.{history_to}
use Rattle.tomex_states.specs.States.{AreNoted, ShowsState}
use Rattle.tomex_states.proofs.state.State.evaluate.Given as goal

abbrev pub invariant-loop-place : goal.invariant-loop-place
invariant-loop-place g l = (steps : List Step) → AreFacts steps l.facts
    → ShowsState l.config (history_to l.config steps l.first) l.fn.self → record {
      state : ShowsState l.config (history_to l.config steps l.place) l.self;
      noted : AreNoted l.config (history_to l.config steps l.first) l.fn.demands
          → AreNoted l.config (history_to l.config steps l.place) l.demands;
    }
