-- The places of stores.
use Rattle.std.proofs.Common.{ℕ, zero, suc, ◌/◌, ◌<◌, ◌≡◌, false, arith, refl, List, Option, Some, None, slice_index_or}
use Rattle.tomex_rvdec.specs.declared.pool.PoolId.TheVariants as pools
use Rattle.tomex_rvexec.specs.Steps.{is_in, is_store}
use Rattle.tomex_tags.specs.declared.station.Station.{Station}
use Rattle.tomex_tags.specs.Contents.{step_in}
use Rattle.tomex_tags.specs.Places.{pool_at}
use Rattle.tomex_tags.specs.Pools.{AreOwn}
use Rattle.tomex_tags.proofs.Listening.{own_here}

-- no store is in a place below the store buffers
pub no_store : (slots : List (Option Station)) (place : ℕ) (s : Station) → place < 64 → AreOwn slots
    → slice_index_or slots place None ≡ Some s → is_store (step_in s) ≡ false
no_store slots place s l own here =
    rw (own_here slots place s (omega arith) own here) (below (place / 16) (omega arith))
  where
    below : (n : ℕ) → n < 4 → is_in pools.Store (Some (pool_at n)) ≡ false
    below zero m = refl
    below (suc zero) m = refl
    below (suc (suc zero)) m = refl
    below (suc (suc (suc zero))) m = refl
    below (suc (suc (suc (suc n)))) m = absurd (omega arith)
