-- As many empty slots as there were turns.
use Rattle.std.proofs.Common.{◌≡◌, All, length}
use Rattle.std.specs.Option.{ForSome}
use Rattle.tomex_texts.specs.Places.{IsPlace}
use Rattle.tomex_texts.proofs.places.no_places.Given as goal

abbrev pub invariant-loop-slot : goal.invariant-loop-slot
invariant-loop-slot l = record {
  count : length l.places.items ≡ l._slot;
  are : All (λ place. ForSome place IsPlace) l.places.items;
}
