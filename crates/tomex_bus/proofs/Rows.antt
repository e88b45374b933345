-- The pairs of a small wheel, computed by the definition itself.
use Rattle.std.proofs.Common.{List, ℕ, ◌≡◌, true, false, refl, replicate, slice_set}
use Rattle.tomex_bus.specs.Wheel.{is_due, ring_from}

-- number 7 is due 3 cycles ahead: 62 and 3 make place 1 of the ring
abbrev ring : List ℕ
ring = slice_set (replicate 64 0) 1 128

seven_is_due : is_due (ring_from ring 62) 3 7 ≡ true
unfolding ring_from
seven_is_due = refl

six_is_not : is_due (ring_from ring 62) 3 6 ≡ false
unfolding ring_from
six_is_not = refl

not_sooner : is_due (ring_from ring 62) 2 7 ≡ false
unfolding ring_from
not_sooner = refl

not_a_turn_later : is_due (ring_from ring 62) 67 7 ≡ false
unfolding ring_from
not_a_turn_later = refl
