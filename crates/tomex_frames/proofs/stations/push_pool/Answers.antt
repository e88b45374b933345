-- One more row.
use Rattle.std.proofs.Common.{◌≡◌, ◌∙◌, ◌<◌, ◌≤◌, ◌-◌, ◌++◌, ℕ, ap, arith}
use Rattle.std.specs.Prelude.{string_bytes}
use Rattle.std.specs.List.{flat_map, range_with_len}
use Rattle.tomex_config.specs.Configuration.{stations_of}
use Rattle.tomex_snapshots.specs.Entries.{history_of}
use Rattle.tomex_frames.specs.Stations.{pool_rows, row_in}
use Rattle.tomex_snapshots.proofs.Lists.{no_number, number_more}
use Rattle.tomex_frames.proofs.stations.push_pool.Goals as goal

pub loop-number-preserved : goal.loop-number-preserved
loop-number-preserved g c =
    let count = stations_of c.args.config.now c.args.pool in
    let within : c.loop-number.number < count = rw c.stations-number-end.ensures.count at c.loop-number-test.true in
    number_more (row_in c.args.view.now.cycle (history_of c.args.view.now.entries.now) c.args.pool) c.loop-number.number
    count _ _ _ within c.in_ok-push_row_in.ensures c.loop-number.invariant

pub returns : goal.returns
unfolding pool_rows
returns g c =
    let count = stations_of c.args.config.now c.args.pool in
    let row = row_in c.args.view.now.cycle (history_of c.args.view.now.entries.now) c.args.pool in
    let past : count ≤ c.loop-number.number = rw c.stations-number-end.ensures.count at c.loop-number-test.false in
    let all : count - 0 ≡ count = omega arith in
    no_number row c.loop-number.number count _ _ past c.loop-number.invariant
    ∙ ap (λ (n : ℕ). string_bytes c.args.text.now ++ flat_map row (range_with_len 0 n)) all
