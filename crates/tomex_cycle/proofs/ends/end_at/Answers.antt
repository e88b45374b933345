use Rattle.std.proofs.Common.{arith}
use Rattle.std.proofs.lemmas.Grind.{common_steps}
use Rattle.tomex_cycle.proofs.Words.{◌∙◌, sym}
use Rattle.tomex_cycle.proofs.EndsLoops.{ends_silent, hears_sending}
use Rattle.tomex_cycle.proofs.ends.end_at.Goals as goal

pub returns-in-Some-dest-clause-registers : goal.returns-in-Some-dest-clause-registers
returns-in-Some-dest-clause-registers c = hears_sending c.args.place c.in-Some-dest.register c.args.pools.now.slots
    c.in-Some.station c.args.registers.now c.broadcast.new.registers (sym c.at.ensures.value ∙ c.in-Some.is)
    (sym c.dest.ensures.value ∙ c.in-Some-dest.is) c.in-Some-dest.ensures.register c.broadcast.ensures.registers

pub returns-in_default-dest-clause-stations : goal.returns-in_default-dest-clause-stations
returns-in_default-dest-clause-stations c = ends_silent c.args.place c.args.pools.now c.release.new.self
    c.in-Some.station c.requires (sym c.at.ensures.value ∙ c.in-Some.is)
    (sym c.dest.ensures.value ∙ c.in_default-dest.is) c.release.ensures.slots c.release.ensures.issue_numbers

pub returns-in-Some-dest-clause-stations : goal.returns-in-Some-dest-clause-stations
returns-in-Some-dest-clause-stations = grind (arith, common_steps)
