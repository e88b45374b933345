-- One more row.
use Rattle.std.proofs.Common.{◌≡◌, ◌∙◌, ◌<◌, ◌≤◌, ◌-◌, ◌++◌, ℕ, ap, arith}
use Rattle.std.specs.Prelude.{string_bytes}
use Rattle.std.specs.List.{flat_map, range_with_len}
use Rattle.tomex_config.specs.Configuration.{stations_of}
use Rattle.tomex_frames.specs.Blank.{blank_pool, blank_station}
use Rattle.tomex_snapshots.proofs.Lists.{no_number, number_more}
use Rattle.tomex_frames.proofs.blank.push_blank_pool.Goals as goal

pub loop-number-preserved : goal.loop-number-preserved
loop-number-preserved g c =
    let count = stations_of c.args.config.now c.args.pool in
    let within : c.loop-number.number < count = rw c.stations-number-end.ensures.count at c.loop-number-test.true in
    number_more (blank_station c.args.pool) c.loop-number.number count _ _ _ within
    c.in_ok-push_blank_station.ensures c.loop-number.invariant

pub returns : goal.returns
unfolding blank_pool
returns g c =
    let count = stations_of c.args.config.now c.args.pool in
    let row = blank_station c.args.pool in
    let past : count ≤ c.loop-number.number = rw c.stations-number-end.ensures.count at c.loop-number-test.false in
    let all : count - 0 ≡ count = omega arith in
    no_number row c.loop-number.number count _ _ past c.loop-number.invariant
    ∙ ap (λ (n : ℕ). string_bytes c.args.text.now ++ flat_map row (range_with_len 0 n)) all
