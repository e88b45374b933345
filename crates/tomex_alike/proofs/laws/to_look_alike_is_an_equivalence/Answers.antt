-- Each clause is an equation.
use Rattle.tomex_alike.proofs.Same.{looks_refl, looks_sym, looks_trans}
use Rattle.tomex_alike.proofs.laws.to_look_alike_is_an_equivalence.Goals as goal

pub returns : goal.returns
returns c = record { itself = looks_refl; both = looks_sym; further = looks_trans }
