-- The groups of all keys, in a list.
use Rattle.std.proofs.Common.{ℕ, ◌≡◌, ◌<◌, [], get_or, length, map}
use Rattle.tomex_loop_sums.specs.Groups.{groups_by, with_key}
use Rattle.tomex_loop_sums.proofs.GroupsBy.{both_ok, groups_are}
use Rattle.tomex_loop_sums.proofs.turns.cycles_by.Goals as goal

pub returns : goal.returns
returns g c = both_ok c.grouped.result (λ groups. length groups.items ≡ c.args.count)
    (λ groups. (n : ℕ) → n < c.args.count → get_or (map (λ group. group.items) groups.items) n []
    ≡ with_key n c.args.keys.now c.args.cycles.now)
    (λ groups. map (λ group. group.items) groups.items ≡ groups_by c.args.count c.args.keys.now c.args.cycles.now)
    (λ groups many each. groups_are (λ group. group.items) groups.items c.args.count c.args.keys.now c.args.cycles.now
    many each) c.grouped.ensures.count c.grouped.ensures.groups
