-- What the snapshots of the view show.
use Rattle.std.proofs.Common.{◌∙◌, ◌+◌, ◌*◌, ◌++◌, ℕ, ap, ap₂, Option}
use Rattle.std.specs.Prelude.{slice_index_or, string_bytes}
use Rattle.std.proofs.lemmas.Result.{on_ok_weaker}
use Rattle.tomex_timing.specs.declared.tables.Busy.{Busy}
use Rattle.tomex_snapshots.specs.Entries.{history_of}
use Rattle.tomex_frames.specs.Stations.{row_in, station_row}
use Rattle.tomex_snapshots.proofs.Shown.{station_is}
use Rattle.tomex_frames.proofs.stations.push_row_in.Goals as goal

pub returns : goal.returns
unfolding row_in
returns g c =
    let view = c.args.view.now in
    let h = history_of view.entries.now in
    let n = c.args.number in
    let was = ap (λ (p : ℕ). slice_index_or view.snapshots.before.stations (16 * p + n) c.index-snapshots-place.result)
    c.place.ensures.place ∙ station_is _ h view.snapshots.before c.args.pool n _ view.snapshots_are.before c.requires in
    let now = ap (λ (p : ℕ). slice_index_or view.snapshots.now.stations (16 * p + n) c.index-snapshots-place-2.result)
    c.place.ensures.place ∙ station_is _ h view.snapshots.now c.args.pool n _ view.snapshots_are.now c.requires in
    on_ok_weaker c.push_row.result (λ last. last ∙ ap₂ (λ (a b : Option Busy). string_bytes c.args.text.now
    ++ station_row (record { pool = c.args.pool; number = c.args.number }) a b) was now) c.push_row.ensures
