use Rattle.tomex_cut.proofs.Rooms.{no_place, place_is}
use Rattle.tomex_cut.proofs.words.Words.place.Goals as goal

pub returns-in_err-first-clause-none : goal.returns-in_err-first-clause-none
returns-in_err-first-clause-none g c =
    rw (c.from_residual.ensures) (λ p show. no_place p _ _ _ show c.in_err-first.ensures.none)

pub returns-clause-some : goal.returns-clause-some
returns-clause-some g c =
    λ p show. rw (c.address_of.ensures) (place_is p _ _ _ c.in_ok-first.first show c.in_ok-first.ensures.stands
    c.in_ok-first.ensures.lowest)
