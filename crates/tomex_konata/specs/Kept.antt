-- The state while a log is made: the youngest writer of each register, and the events of all steps, in the order in
-- which they are written.
use Rattle.std.specs.Prelude.{◌≡◌, ℕ, ◌+◌, ◌-◌, ◌==◌, if◌then◌else◌, List, [], ◌∷◌, ◌++◌, IsPermutation}
use Rattle.std.specs.Prelude.{map, max, min, Option, Some, None, slice_index_or, slice_set, unwrap_or}
use Rattle.std.specs.List.{filter, flat_map, list_any, slice_get}
use Rattle.std.specs.List.Sorted.{IsNonDecreasingBy}
use Rattle.tomex_rvexec.specs.declared.step.Operand.{Operand}
use Rattle.tomex_timing.specs.declared.times.Times.{Times}
use Rattle.tomex_konata.specs.declared.entries.Entry.{Entry}
use Rattle.tomex_konata.specs.declared.entries.Producer.{Producer}
use Rattle.tomex_konata.specs.declared.events.Event.{Event}
use Rattle.tomex_konata.specs.declared.events.Kind.{Kind}
use Rattle.tomex_konata.specs.declared.events.Kind.TheVariants.{Change, Out}
use Rattle.tomex_konata.specs.Konata.{next_since, out_lines, step_lines, with_cycle}

-- the youngest writer of an operand, by a table of those of all registers
abbrev pub writer_in : List (Option Producer) → Option Operand → Option Producer
writer_in writers None = None
writer_in writers (Some o) = slice_index_or writers o.register None

-- the table after a step that writes this register
abbrev pub writers_after : List (Option Producer) → Option ℕ → Producer → List (Option Producer)
writers_after writers None p = writers
writers_after writers (Some register) p = slice_set writers register (Some p)

-- the next cycle, but none after the last
abbrev pub next_cycle : ℕ → ℕ → ℕ
next_cycle cycle last = min (cycle + 1) last

-- the cycle in which a step gets an operand: that of its issue if it has the operand by then
abbrev pub ready_cycle : Times → Option Producer → ℕ
ready_cycle at None = at.issue
ready_cycle at (Some p) = max p.end at.issue

-- the cycles in which a step may have lines, except the one in which it goes out
abbrev pub change_cycles : ℕ → Entry → List ℕ
change_cycles last e =
    min e.at.issue last ∷ next_cycle e.at.issue last
    ∷ min (unwrap_or e.at.address e.at.issue) last ∷ next_cycle (unwrap_or e.at.address e.at.issue) last
    ∷ min e.at.start last ∷ next_cycle e.at.finish last ∷ min e.at.end last
    ∷ min (ready_cycle e.at e.j) last ∷ min (ready_cycle e.at e.k) last ∷ []

-- each number once
abbrev pub once : List ℕ → List ℕ
once [] = []
once (c ∷ cs) = if list_any (λ d. d == c) cs then once cs else c ∷ once cs

abbrev pub change_in : ℕ → ℕ → Event
change_in id cycle = record { cycle = cycle; kind = Change; id = id }

abbrev pub changes_of : ℕ → Entry → List Event
changes_of last e = map (change_in e.id) (once (change_cycles last e))

abbrev pub out_of : Entry → Event
out_of e = record { cycle = e.at.end + 1; kind = Out; id = e.id }

-- the changes of all steps, then the steps that go out
abbrev pub events_of : ℕ → List Entry → List Event
events_of last es = flat_map (changes_of last) es ++ map out_of es

-- the same events cycle by cycle, those of a cycle in their order
pub record ArePut (before after : List Event) : Type 0 where
  pub same : IsPermutation before after
  pub rise : IsNonDecreasingBy (λ v. v.cycle) after
  pub keep : (t : ℕ) → filter (λ v. v.cycle == t) after ≡ filter (λ v. v.cycle == t) before

-- the lines of an event, after `gone` steps have gone out
abbrev pub event_lines : ℕ → ℕ → ℕ → Kind → Entry → List ℕ
event_lines number gone t Change e = step_lines number t e
event_lines number gone t Out e = out_lines gone e

abbrev pub lines_at : ℕ → ℕ → Event → Option Entry → List ℕ
lines_at number gone v None = []
lines_at number gone v (Some e) = event_lines number gone v.cycle v.kind e

abbrev pub steps_out_after : ℕ → Kind → ℕ
steps_out_after gone Change = gone
steps_out_after gone Out = gone + 1

-- the text of some events, after `gone` steps have gone out; the last cycle with lines was `since`
abbrev pub events_text : ℕ → List Entry → ℕ → ℕ → List Event → List ℕ
events_text number es since gone [] = []
events_text number es since gone (v ∷ vs) =
    with_cycle (v.cycle - since) (lines_at number gone v (slice_get es v.id))
    ++ events_text number es (next_since since v.cycle (lines_at number gone v (slice_get es v.id)))
    (steps_out_after gone v.kind) vs
