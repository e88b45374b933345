-- What one more step shows.
use Rattle.std.proofs.Common.{List, subst, sym, take, arith}
use Rattle.std.proofs.lemmas.Grind.{common_steps}
use Rattle.tomex_timing.specs.declared.times.Done.{Done}
use Rattle.tomex_snapshots.specs.Entries.{history_of}
use Rattle.tomex_snapshots.specs.Kept.{IsSnapshot}
use Rattle.tomex_snapshots.proofs.Noted.{snapshot_more, history_more}
use Rattle.tomex_snapshots.proofs.snapshot.snapshot_of.Goals as goal

pub loop-entry-preserved : goal.loop-entry-preserved
loop-entry-preserved c =
    let more = history_more c.args.entries.now c.loop-entry.entry-index c.entry-item.result c.entry-item.result
    c.loop-entry-test.true c.entry-item.is in
    subst (λ (h : List Done). IsSnapshot c.args.by c.args.at h c.note.new.self) (sym more)
    (snapshot_more c.args.by c.args.at c.entry-item.result (history_of (take c.loop-entry.entry-index
    c.args.entries.now))
    c.loop-entry.snapshot c.note.new.self c.loop-entry.invariant c.operands_are_registers.ensures.j
    c.operands_are_registers.ensures.k c.note.ensures)

pub returns : goal.returns
returns = grind (arith, common_steps)
