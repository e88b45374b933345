-- What is taken of one line leaves the others as they were: the unit's line is not the buses'.
use Rattle.std.proofs.lemmas.Grind.{common_steps}
use Rattle.std.proofs.Common.{ℕ, ◌+◌, ◌≤◌, ◌≡◌, ◌∙◌, Bool, false, arith, refl, ap, Option, Some}
use Rattle.std.proofs.Common.{None, ◌==◌, ◌&&◌, if◌then◌else◌}
use Rattle.std.proofs.lemmas.Bool.{ne_eqb}
use Rattle.std.proofs.lemmas.Bool.Decides.{nat_tests}
use Rattle.tomex_rvdec.specs.declared.pool.UnitId.{UnitId}
use Rattle.tomex_rvdec.specs.Places.{place_of_unit}
use Rattle.tomex_config.specs.Configuration.{Configuration}
use Rattle.tomex_reservations.specs.Reservations.{Reserved, bus_line, is_left, taken_at, taken_with}
use Rattle.tomex_timing.specs.Ahead.{TakesBus, one}
use Rattle.tomex_timing.specs.History.{is_of}
use Rattle.tomex_timing.proofs.Least.{first_agree, first_from_le}
use Rattle.tomex_rvdec.proofs.Places.{unit_low}
use Rattle.tomex_timing.proofs.asking.take_slots.Goals as goal

-- equal either way round
eqb_turned : (a b : ℕ) → (a == b) ≡ (b == a)
eqb_turned a b = grind (arith, nat_tests)

one_more : (b : Bool) (n : ℕ) → (if b then n + 1 else n) ≡ n + one b
one_more b n = grind (arith, nat_tests)

-- a unit that is taken leaves the buses
buses_stay : (before after : Reserved) (unit : UnitId) (cycle t : ℕ)
    → taken_at after bus_line t ≡ taken_with before (place_of_unit unit) cycle bus_line t
    → taken_at after bus_line t ≡ taken_at before bus_line t
buses_stay before after unit cycle t with =
    let e : (bus_line == place_of_unit unit) ≡ false =
    ne_eqb bus_line (place_of_unit unit) (λ (e : bus_line ≡ place_of_unit unit). absurd (omega (arith, unit_low unit)))
    in
    with ∙ rw e refl

-- and is one more of its kind
unit_taken : (before after : Reserved) (unit u : UnitId) (cycle t : ℕ)
    → taken_at after (place_of_unit u) t ≡ taken_with before (place_of_unit unit) cycle (place_of_unit u) t
    → taken_at after (place_of_unit u) t ≡ taken_at before (place_of_unit u) t + one (is_of u (Some unit) && cycle == t)
unit_taken before after unit u cycle t with =
    with ∙ rw (eqb_turned (place_of_unit u) (place_of_unit unit), eqb_turned t cycle)
    (one_more (place_of_unit unit == place_of_unit u && cycle == t) (taken_at before (place_of_unit u) t))

-- a bus that is left with the unit taken is left without it
takes_bus : (config : Configuration) (before after : Reserved) (dest : Option ℕ) (finish end buses : ℕ)
    → ((t : ℕ) → finish ≤ t → taken_at after bus_line t ≡ taken_at before bus_line t)
    → TakesBus config after dest finish end buses → TakesBus config before dest finish end buses
takes_bus config before after None finish end buses same takes = takes
takes_bus config before after (Some r) finish end buses same takes = (
  first_agree (is_left after bus_line config.buses) (is_left before bus_line config.buses) (finish + 1) end
      (λ t l. rw (same t (omega arith)) refl) takes.0,
  takes.1 ∙ ap (λ n. n + 1)
      (same end (omega (arith, first_from_le (is_left after bus_line config.buses) (finish + 1) end takes.0))),
)

pub take_bus-requires-clause-quiet : goal.take_bus-requires-clause-quiet
take_bus-requires-clause-quiet g c = λ t late.
    buses_stay c.args.table.now c.reserve.new.self c.args.unit c.in_ok-start.start.cycle t
    (rw c.place.ensures.place at (c.in_ok-start.ensures.with 5 t (omega arith) (omega (arith, c.requires.base))))
    ∙ c.requires.results t late

pub returns-clause-end : goal.returns-clause-end
returns-clause-end g c =
    takes_bus c.args.config.now c.args.table.now c.reserve.new.self c.args.facts.now.dest _ _ _
    (λ t late. buses_stay c.args.table.now c.reserve.new.self c.args.unit c.in_ok-start.start.cycle t
    (rw c.place.ensures.place at (c.in_ok-start.ensures.with 5 t (omega arith)
    (omega (arith, c.requires.ahead, c.in_ok-start.ensures.from, c.latency.ensures.range, c.from.ensures)))))
    c.in_ok-end.ensures.takes

pub returns-clause-taken : goal.returns-clause-taken
returns-clause-taken g c = λ u t late. rw c.requires.unit
    (c.in_ok-end.ensures.units (place_of_unit u) t (unit_low u) (rw c.in_ok-start.ensures.base late)
    ∙ unit_taken c.args.table.now c.reserve.new.self c.args.unit u c.in_ok-start.start.cycle t
    (rw c.place.ensures.place at (c.in_ok-start.ensures.with (place_of_unit u) t (omega (arith, unit_low u)) late)))

pub returns-clause-sent : goal.returns-clause-sent
returns-clause-sent = grind arith

pub returns-clause-units : goal.returns-clause-units
returns-clause-units = grind (arith, common_steps)
