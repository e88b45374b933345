-- A new first block gets the next number.
use Rattle.std.proofs.Common.{arith}
use Rattle.std.proofs.lemmas.Grind.{common_steps}
use Rattle.tomex_repeats.proofs.Made.{firsts_more}
use Rattle.tomex_repeats.proofs.numbers.Numbers.numbered.Goals as goal

pub returns-in_ok-push-in-Free-clause-state : goal.returns-in_ok-push-in-Free-clause-state
returns-in_ok-push-in-Free-clause-state g c =
    let r = c.requires in
    rw c.in_ok-push-in-Free.ensures.items (firsts_more c.args.facts.now c.args.masks.now c.args.self.now.slots.items
    c.args.self.now.firsts.items c.in-Free.place c.count.result _ r.state
    (record { some = r.some; few = r.long; within = r.within; known = r.known; are = r.masks }) c.count.ensures)

pub find-requires-clause-block : goal.find-requires-clause-block
find-requires-clause-block = grind (arith, common_steps)

pub returns-in_ok-push-in-Free-clause-number : goal.returns-in_ok-push-in-Free-clause-number
returns-in_ok-push-in-Free-clause-number = grind (arith, common_steps)
