-- One piece after the other.
use Rattle.std.proofs.Common.{length}
use Rattle.std.proofs.lemmas.Result.{on_ok_weaker}
use Rattle.tomex_frames.specs.OnPath.{IsOfRun}
use Rattle.tomex_frames.proofs.AtCycle.{before_of}
use Rattle.tomex_animate.specs.Page.{frame}
use Rattle.tomex_layout.proofs.Pieces.{◌▸◌, last_piece}
use Rattle.tomex_animate.proofs.view.push_frame.Goals as goal

pub push_head-requires-clause-place : goal.push_head-requires-clause-place
push_head-requires-clause-place g c =
    rw c.requires.place (before_of (IsOfRun (length c.args.views.now.steps.now)) c.args.cycle c.args.views.now.path.now
    c.requires.steps)

pub returns : goal.returns
unfolding frame
returns g c =
    let cycle = c.new-view.ensures.cycle in
    let entries = c.new-view.ensures.entries in
    on_ok_weaker c.write.result (λ last.
    ((rw c.requires.place at c.in_ok-push_head.ensures) ▸ (rw (cycle, entries) at c.in_ok-push_events.ensures)
    ▸ (rw (c.framed_step-framed.ensures, c.requires.place) at c.in_ok-push_status_table.ensures)
    ▸ (rw (cycle, entries) at c.in_ok-push_station_table.ensures)
    ▸ (rw (cycle, entries) at c.in_ok-push_register_status.ensures) ▸ last_piece last).is) c.write.ensures.bytes
