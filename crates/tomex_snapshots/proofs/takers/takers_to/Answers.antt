-- What the snapshots of the view show.
use Rattle.tomex_snapshots.specs.Entries.{history_of}
use Rattle.tomex_snapshots.proofs.Shown.{register_is, takers_are}
use Rattle.tomex_snapshots.proofs.takers.takers_to.Goals as goal

pub returns : goal.returns
returns c =
    let view = c.args.view.now in
    let h = history_of view.entries.now in
    takers_are c.args.tag c.args.register view.snapshots_are c.new-takers.ensures.items
    c.in_ok-push_all_operands.ensures c.in_ok-push_register.ensures
    (register_is _ _ h view.snapshots.before c.args.register _ view.snapshots_are.before c.requires)
    (register_is _ _ h view.snapshots.now c.args.register _ view.snapshots_are.now c.requires)
