-- The register has what the snapshots of the view show.
use Rattle.std.proofs.Common.{List, ℕ, subst}
use Rattle.std.specs.Prelude.{OnOk}
use Rattle.tomex_layout.specs.Growth.{Appends}
use Rattle.tomex_snapshots.specs.Entries.{history_of}
use Rattle.tomex_frames.proofs.ShownRegisters.{cell_is}
use Rattle.tomex_frames.proofs.registers.push_register_at.Goals as goal

pub returns : goal.returns
returns g c =
    let view = c.args.view.now in
    subst (λ (piece : List ℕ). OnOk c.push_register.result (Appends piece c.args.text.now c.push_register.new.text))
    (cell_is view.cycle (history_of view.entries.now) view.snapshots c.args.register _ _ view.snapshots_are c.requires)
    c.push_register.ensures
