-- One more plateau, or another one, in a program's list.
use Rattle.std.proofs.Common.{◌<◌, ◌≤◌, ◌≡◌, ◌+◌, ◌++◌, ◌∷◌, [], ◌%◌, ℕ, List, arith, length, refl}
use Rattle.std.proofs.Math.ListN.{set, length-set}
use Rattle.std.proofs.lemmas.Bool.{le-ltb, lt-ltb}
use Rattle.std.proofs.lemmas.List.{length_push}
use Rattle.std.proofs.lemmas.List.Elements.{All-push, All-set}
use Rattle.tomex_rvexec.specs.declared.step.Step.{Step}
use Rattle.tomex_plateaus.specs.declared.plateau.Plateau.{Plateau}
use Rattle.tomex_plateaus.specs.Kept.{AreKept, Kept, kept_with, most_plateaus}
use Rattle.tomex_plateaus.specs.Plateaus.{IsPlateauOf}

pub one_more : (steps : List Step) (found all : List Plateau) (oldest : ℕ) (p : Plateau)
    → AreKept (record { steps = steps; found = found; oldest = oldest }) → IsPlateauOf steps p → length found < 8192
    → all ≡ found ++ p ∷ []
    → AreKept (record { steps = steps; found = all; oldest = oldest })
one_more steps found all oldest p kept one low is =
    let long = length_push found p in
    let few : length (found ++ p ∷ []) ≤ 8192 = omega arith in
    record {
      short = kept.short;
      are = rw is (All-push (IsPlateauOf steps) found p kept.are one);
      few = rw is few;
      place = kept.place;
    }

pub another_one : (steps : List Step) (found : List Plateau) (oldest : ℕ) (p : Plateau)
    → AreKept (record { steps = steps; found = found; oldest = oldest }) → IsPlateauOf steps p
    → AreKept (record { steps = steps; found = set found oldest p; oldest = (oldest + 1) % 8192 })
another_one steps found oldest p kept one =
    let few : length found ≤ 8192 = kept.few in
    record {
      short = kept.short;
      are = All-set (IsPlateauOf steps) found oldest p one kept.are;
      few = rw length-set few;
      place = (let l : (oldest + 1) % 8192 < 8192 = omega arith in l);
    }

-- the list with one more plateau, before it is full and after
pub kept_few : (k : Kept) (p : Plateau) → length k.found < most_plateaus
    → kept_with p k ≡ record { steps = k.steps; found = k.found ++ (p ∷ []); oldest = k.oldest }
kept_few k p low = rw (lt-ltb (length k.found) most_plateaus low) refl

pub kept_many : (k : Kept) (p : Plateau) → most_plateaus ≤ length k.found
    → kept_with p k
    ≡ record { steps = k.steps; found = set k.found k.oldest p; oldest = (k.oldest + 1) % most_plateaus }
kept_many k p many = rw (le-ltb (length k.found) most_plateaus many) refl
