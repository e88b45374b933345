use Rattle.tomex_cut.proofs.Rooms.{hook_is, no_hook}
use Rattle.tomex_cut.proofs.words.Words.hook.Goals as goal

pub returns-in_err-first-clause-none : goal.returns-in_err-first-clause-none
returns-in_err-first-clause-none g c =
    rw (c.from_residual.ensures) (λ p e show. no_hook p _ _ show
    (rw (e) c.in_err-first.ensures.none))

pub returns-clause-some : goal.returns-clause-some
returns-clause-some g c =
    λ p e show. rw (c.address_of.ensures) (hook_is p _ _ c.in_ok-first.first show (rw (e) c.in_ok-first.ensures.some))
