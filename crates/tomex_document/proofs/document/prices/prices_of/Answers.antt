-- The prices are read one after another.
use Rattle.std.proofs.Common.{sym, refl}
use Rattle.tomex_values.proofs.Outcomes.{goes_on}
use Rattle.tomex_document.proofs.document.prices.prices_of.Goals as goal

pub returns : goal.returns
unfolding Rattle.tomex_document.specs.Prices.prices_of
returns c =
    let known = sym (rw c.as_slice.ensures at c.in_ok-known_keys.ensures) in
    goes_on _ _ _ _ known (goes_on _ _ _ _ (sym c.in_ok-alu.ensures.read)
    (goes_on _ _ _ _ (sym c.in_ok-mul.ensures.read) (goes_on _ _ _ _ (sym c.in_ok-div.ensures.read)
    (goes_on _ _ _ _ (sym c.in_ok-load.ensures.read)
    (goes_on _ _ _ _ (sym c.in_ok-store.ensures.read) (goes_on _ _ _ _ (sym c.in_ok-bru.ensures.read)
    (goes_on _ _ _ _ (sym c.in_ok-bus.ensures.read)
    (goes_on _ _ _ _ (sym c.in_ok-width.ensures.read) (rw c.new.ensures refl)))))))))
