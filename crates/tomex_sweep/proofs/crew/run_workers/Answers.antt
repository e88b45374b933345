-- The workers can run, and what the threads own and share may cross to them.
use mir.Syntax.{of_param}
use denote.Exit.{unseen}
use denote.Param.Send.{Quiet-if}
use Rattle.tomex_sweep.proofs.crew.run_workers.Goals as goal

pub scoped-requires : goal.scoped-requires
scoped-requires g c =
    let b = c.type_bounds in
    record {
      at = λ _. (
        c.requires,
        (
          record {
            owned = b.send-J.owned;
            leaving = λ k. Quiet-if (k (of_param 1)) unseen unseen (λ x w. tt) (λ x w. tt);
          },
          record {
            owned = b.send-A.owned;
            leaving = λ k. Quiet-if (k (of_param 2)) unseen unseen (λ x w. tt) (λ x w. tt);
          },
          record { shared = b.sync-R.shared },
          record { shared = b.sync-J.shared },
          record { shared = b.sync-A.shared },
          record { shared = b.sync-G.shared },
          record { shared = b.sync-S.shared },
          record { frees = b.frees-A-Allocator.frees },
        ),
      );
    }
