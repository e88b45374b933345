-- All cycles fit, and the state shows the history of the later place.
use Rattle.std.proofs.Common.{arith}
use Rattle.tomex_states.proofs.Bounds.{ends_fit, finishes_fit, older_fits, stations_fit}
use Rattle.tomex_states.proofs.Moved.{state_moved}
use Rattle.tomex_states.proofs.state.State.move_by.Goals as goal

pub shift-requires-clause-finishes : goal.shift-requires-clause-finishes
shift-requires-clause-finishes g c =
    let some = c.requires.shows in
    finishes_fit c.args.config.now c.args.by c.args.self.now some.0 c.requires.small some.2 c.keeps_limits.ensures
    some.1

pub shift-requires-clause-older : goal.shift-requires-clause-older
shift-requires-clause-older g c =
    let some = c.requires.shows in
    older_fits c.args.config.now c.args.by c.args.self.now some.0 c.requires.small some.2 c.requires.kept

pub shift_latest-requires-clause-ends : goal.shift_latest-requires-clause-ends
shift_latest-requires-clause-ends g c =
    let some = c.requires.shows in
    ends_fit c.args.config.now c.args.by c.args.self.now some.0 c.requires.small some.2

pub shift-requires-3 : goal.shift-requires-3
shift-requires-3 g c =
    let some = c.requires.shows in
    stations_fit c.args.config.now c.args.by c.args.self.now some.0 c.requires.small some.2

pub returns-clause-shows : goal.returns-clause-shows
returns-clause-shows g c = λ h steps are shows alike first.
    let accesses = rw c.access_from.ensures at c.in_ok-list_under_way.ensures in
    state_moved c.args.config.now c.args.by c.args.facts.now c.args.self.now _ c.keeps_limits.ensures
    (record {
      latest = c.shift_latest.ensures;
      base = c.shift-2.ensures.base;
      table = c.shift-2.ensures.moved;
      ends = c.shift-3.ensures;
      window = c.shift.ensures;
      accesses = accesses;
    })
    h steps are shows alike first

pub returns-clause-moved : goal.returns-clause-moved
returns-clause-moved = grind arith
