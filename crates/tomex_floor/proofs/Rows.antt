-- The floors of short runs, computed by the definition itself.
use Rattle.std.proofs.Common.{◌≡◌, refl, [], ◌∷◌}
use Rattle.tomex_rvdec.specs.declared.pool.UnitId.TheVariants as units
use Rattle.tomex_config.specs.Configuration.{plain}
use Rattle.tomex_timing.proofs.Programs.{jump_past, jump_to_product, product, stored_and_loaded, with_latency}
use Rattle.tomex_floor.specs.Floor.{floors_by_width}
use Rattle.tomex_config.specs.Configuration.{latency_of}

-- the factors end in cycles 3 and 4, or both in 3
product_floors : floors_by_width (latency_of (with_latency units.Mul plain 3)) product ≡ 8 ∷ 7 ∷ 7 ∷ 7 ∷ []
product_floors = refl

-- the load's byte is one of the store's four, though not their first
shared_byte_floors : floors_by_width (latency_of (with_latency units.Mem plain 2)) (stored_and_loaded 1)
    ≡ 9 ∷ 9 ∷ 9 ∷ 9 ∷ []
shared_byte_floors = refl

-- the byte after them
next_byte_floors : floors_by_width (latency_of (with_latency units.Mem plain 2)) (stored_and_loaded 4)
    ≡ 8 ∷ 8 ∷ 8 ∷ 8 ∷ []
next_byte_floors = refl

-- an instruction after a jump to a register waits for it
jump_floors : floors_by_width (latency_of (with_latency units.Mul plain 3)) jump_to_product ≡ 9 ∷ 9 ∷ 9 ∷ 9 ∷ []
jump_floors = refl

-- an instruction after a jump to a known address doesn't
jump_past_floors : floors_by_width (latency_of (with_latency units.Mul plain 3)) jump_past ≡ 7 ∷ 7 ∷ 7 ∷ 7 ∷ []
jump_past_floors = refl
