-- If there are any values, their counts are read.
use Rattle.std.proofs.Common.{◌≢◌, length, rules}
use Rattle.tomex_values.proofs.Items.{some_are_read}
use Rattle.tomex_values.proofs.lists.some_counts.Goals as goal

pub returns : goal.returns
returns g c =
    let some : length c.args.values.now ≢ 0 = search rules in
    rw (some_are_read c.args.place c.args.key c.args.most c.args.values.now some) c.counts_of.ensures
