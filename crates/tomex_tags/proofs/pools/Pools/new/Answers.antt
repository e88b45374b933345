use Rattle.std.proofs.Common.{refl}
use Rattle.tomex_tags.proofs.Slots.{idle_filled}
use Rattle.tomex_tags.proofs.pools.Pools.new.Goals as goal

pub invariant_of-result : goal.invariant_of-result
invariant_of-result c = idle_filled _ c.new.ensures c.new-2.ensures c.new-3.ensures c.new-4.ensures c.new-5.ensures
    c.new-6.ensures refl c.new-7.ensures
