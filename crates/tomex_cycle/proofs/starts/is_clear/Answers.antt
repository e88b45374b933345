use Rattle.tomex_cycle.proofs.Words.{slot, clear_there}
use Rattle.tomex_cycle.proofs.IssueOrder.{clear_is}
use Rattle.tomex_cycle.proofs.Startable.{wants_clear}
use Rattle.tomex_rvdec.specs.declared.pool.UnitId.TheVariants as units
use Rattle.tomex_cycle.proofs.starts.is_clear.Goals as goal

pub returns : goal.returns
returns c older younger by = wants_clear c.args.pools.now.slots older c.args.cycle units.Mem
    (slot c.args.pools.now.slots c.args.place) c.may_access.result c.requires.waits (λ s here. clear_is
    c.may_access.result older younger c.args.place s c.args.cycle c.requires.busy by
    (clear_there c.args.pools.now c.args.place c.args.cycle s c.may_access.result here c.may_access.ensures))
