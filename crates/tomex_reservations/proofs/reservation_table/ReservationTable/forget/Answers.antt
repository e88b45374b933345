-- The cycles ahead are unchanged.
use Rattle.std.proofs.Common.{◌≡◌, ◌+◌, ◌<◌, ◌-◌, ap, [], length, take, vec_len, arith}
use Rattle.std.specs.Prelude.{slice_index}
use Rattle.tomex_reservations.specs.Reservations.{free_slot}
use Rattle.tomex_reservations.proofs.Reserving.{dropped, past_end}
use Rattle.tomex_reservations.proofs.reservation_table.ReservationTable.forget.Goals as goal
use Rattle.tomex_reservations.proofs.reservation_table.ReservationTable.forget.Goals.{then-past-len, else-past-len}

pub returns-clause-same : goal.returns-clause-same
returns-clause-same g c = let before = rw (← c.self.view_is) at c.requires.later in
    rw (← c.self.view_is) (λ l t later. elim c.if-past-len.branch [
      | then-past-len w ↦
          let items = rw w.len-then-past-len.ensures at w.truncate.ensures.items in
          let e : c.if-past-len.self-inside.slots.items
          ≡ take (vec_len c.self.inside.slots - (c.args.cycle - c.self.inside.base)) w.copy_within.new.self.items =
          rw w.self-inside-is items in
          let some : c.args.cycle - c.self.inside.base < vec_len c.self.inside.slots =
          rw c.len.ensures at w.if-past-len.true in
          let long : (c.args.cycle - c.self.inside.base)
          + (vec_len c.self.inside.slots - (c.args.cycle - c.self.inside.base)) ≡ length c.self.inside.slots.items =
          omega arith in
          rw e (ap (λ s. slice_index s l)
          (dropped c.self.inside.slots.items w.copy_within.new.self.items c.self.inside.base
          c.args.cycle t (vec_len c.self.inside.slots - (c.args.cycle - c.self.inside.base)) free_slot before later long
          w.copy_within.ensures.by_index.0))
      | else-past-len w ↦
          let e : c.if-past-len.self-inside.slots.items ≡ [] = rw w.self-inside-is w.clear.ensures.items in
          rw e (ap (λ s. slice_index s l)
          (past_end c.self.inside.slots.items c.self.inside.base c.args.cycle t free_slot (omega (arith, c.len.ensures))
          later))
    ])
