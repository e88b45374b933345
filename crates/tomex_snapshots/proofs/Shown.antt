-- What a view reads of its snapshots.
use Rattle.std.proofs.Common.{◌≡◌, ◌∙◌, ◌<◌, ◌+◌, ◌*◌, ◌-◌, ℕ, ap, ap₂, List, [], ◌++◌, Option}
use Rattle.std.specs.Prelude.{slice_index_or}
use Rattle.std.specs.List.{flat_map}
use Rattle.std.proofs.lemmas.List.Folds.{flat_map-map}
use Rattle.tomex_rvdec.specs.Places.{place_of_pool}
use Rattle.tomex_rvdec.specs.declared.pool.PoolId.{PoolId}
use Rattle.tomex_timing.specs.Tables.{all_tags, qi_of, station_fields}
use Rattle.tomex_timing.specs.declared.tables.Busy.{Busy}
use Rattle.tomex_timing.specs.declared.tables.Tag.{Tag}
use Rattle.tomex_timing.specs.declared.times.Done.{Done}
use Rattle.tomex_snapshots.specs.Kept.{AreSnapshots, IsSnapshot}
use Rattle.tomex_snapshots.specs.Takers.{occupant, operand_takers, register_takers, takers_to}
use Rattle.tomex_snapshots.specs.declared.snapshot.Snapshot.{Snapshot}
use Rattle.tomex_snapshots.specs.declared.snapshot.Snapshots.{Snapshots}
use Rattle.tomex_snapshots.specs.declared.takers.Taker.{Taker}
use Rattle.tomex_snapshots.proofs.Noted.{at_register, at_station, held_is}

-- Qi of a register
pub register_is : (by at : ℕ) (h : List Done) (snapshot : Snapshot) (r : ℕ) (d : Option Tag) → IsSnapshot by at h
    snapshot → r < 32
    → slice_index_or snapshot.registers r d ≡ qi_of by h r
register_is by at h snapshot r d is low =
    ap (λ (xs : List (Option Tag)). slice_index_or xs r d) is.registers ∙ at_register (qi_of by h) r d low

-- a station, as tables show it
pub station_is : (t : ℕ) (h : List Done) (snapshot : Snapshot) (pool : PoolId) (n : ℕ) (d : Option Busy) → IsSnapshot
    t t h snapshot
    → n < 16
    → slice_index_or snapshot.stations (16 * place_of_pool pool + n) d
    ≡ station_fields t h (record { pool = pool; number = n })
station_is t h snapshot pool n d is low =
    ap (λ (xs : List (Option Busy)). slice_index_or xs (16 * place_of_pool pool + n) d) is.stations
    ∙ (at_station (occupant t t h) pool n d low ∙ held_is t h (record { pool = pool; number = n }))

pub takers_are : {t : ℕ} {h : List Done} (tag : Tag) (r : ℕ) {snapshots : Snapshots} {none made all : List Taker}
    {was now : Option Tag} → AreSnapshots t h snapshots → none ≡ []
    → made ≡ none ++ flat_map (operand_takers tag) snapshots.taking.stations
    → all ≡ made ++ register_takers tag r was now → was ≡ qi_of (t - 1) h r → now ≡ qi_of t h r
    → all ≡ takers_to t h tag r
unfolding takers_to
takers_are {t = t} {h = h} tag r {snapshots = snapshots} are empty operands registers is_was is_now =
    let stations : flat_map (operand_takers tag) snapshots.taking.stations
    ≡ flat_map (λ station. operand_takers tag (occupant (t - 1) t h station)) all_tags =
    ap (flat_map (operand_takers tag)) are.taking.stations
    ∙ flat_map-map (operand_takers tag) (occupant (t - 1) t h) all_tags in
    registers
    ∙ ap₂ (λ (x y : List Taker). x ++ y) (operands ∙ ap₂ (λ (x y : List Taker). x ++ y) empty stations)
    (ap₂ (λ (x y : Option Tag). register_takers tag r x y) is_was is_now)
