use Rattle.std.proofs.Common.{◌∙◌, Some, refl}
use Rattle.std.proofs.lemmas.List.{length-set}
use Rattle.tomex_tags.proofs.Listening.{station_listens}
use Rattle.tomex_tags.proofs.Slots.{filled_by, set_place, said_with}
use Rattle.tomex_tags.proofs.pools.Pools.take.Goals as goal

pub invariant_of-self : goal.invariant_of-self
invariant_of-self c = rw c.put.ensures
    (filled_by c.with-self-inside.result _ c.index-self-place.result c.add-2.new.self.sets c.self.invariant
    c.requires.place
    (length-set c.self.inside.issue_numbers c.args.place c.args.issue_number ∙ c.self.invariant.filled.order_count)
    c.with-self-inside.type_inv
    (said_with c.self.inside.busy c.with-self-inside.result c.args.place (Some c.args.station) refl
    c.with-self-inside.ensures) c.enter.ensures.entered c.requires.own
    (station_listens c.args.place c.args.station c.self.inside.listeners.sets c.add.new.self.sets c.add-2.new.self.sets
    c.self.invariant.listening.count c.add.ensures c.add-2.ensures))

pub returns-clause-slots : goal.returns-clause-slots
returns-clause-slots c = rw (c.put.ensures, ← c.self.view_is)
    (set_place c.self.inside.pools c.args.place c.index-self-place.result _ c.self.invariant.six c.requires.place)
