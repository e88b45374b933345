-- Each part's stalls are small, and so is each wait.
use Rattle.std.proofs.Common.{◌^◌, ◌≤◌, arith, rules}
use Rattle.tomex_config.specs.declared.part.Part.TheVariants.{Stations, Units, Buses, Width}
use Rattle.tomex_timing.proofs.needs.Needs.note.Goals as goal

pub after-self-requires : goal.after-self-requires
after-self-requires c =
    let n : c.args.self.now.buses.stalls ≤ 2 ^ 63 = c.requires.needs.parts Buses in
    let w : c.args.waits.now.bus ≤ 2 ^ 62 = c.requires.waits.bus in
    record { small = omega arith }

pub after-self-requires-2 : goal.after-self-requires-2
after-self-requires-2 c =
    let n : c.args.self.now.width.stalls ≤ 2 ^ 63 = c.requires.needs.parts Width in
    let w : c.args.waits.now.width ≤ 2 ^ 62 = c.requires.waits.width in
    record { small = omega arith }

pub note_station-requires-clause-needs : goal.note_station-requires-clause-needs
note_station-requires-clause-needs c = λ p. c.requires.needs.parts (Stations p)

pub note_unit-requires-clause-needs : goal.note_unit-requires-clause-needs
note_unit-requires-clause-needs c = λ u. c.requires.needs.parts (Units u)

pub returns : goal.returns
returns c = search rules fits 100
