-- The link has what its parts give.
use Rattle.std.proofs.Common.{ℕ, ◌+◌, ◌≡◌, ◌∙◌, ap, refl, subst, List, length, Option}
use Rattle.tomex_rvdec.specs.declared.pool.UnitId.{UnitId}
use Rattle.tomex_config.specs.Configuration.{Configuration}
use Rattle.tomex_timing.specs.declared.times.Done.{Done}
use Rattle.tomex_timing.specs.Needs.{waits_of}
use Rattle.tomex_path.specs.declared.event.Event.{Event}
use Rattle.tomex_path.specs.declared.event.Holder.{Holder}
use Rattle.tomex_path.specs.declared.hold.Hold.{Hold}
use Rattle.tomex_path.specs.declared.link.Link.{Link}
use Rattle.tomex_path.specs.declared.note.Seen.{Seen}
use Rattle.tomex_path.specs.declared.reason.Reason.{Reason}
use Rattle.tomex_path.specs.Holds.{cycle_at, event_of, hold_of}
use Rattle.tomex_path.specs.Path.{hold_by, link_of, operation_in, waited}
use Rattle.tomex_path.specs.Seen.{noted_wait}
use Rattle.tomex_path.proofs.NoteSteps.{wait_is}
use Rattle.tomex_path.proofs.link.link_of.Goals as goal

abbrev made : ℕ → Reason → ℕ → ℕ → ℕ → Option UnitId → Link
made step reason waits from to operation =
    record { step = step; reason = reason; waits = waits; from = from; to = to; operation = operation }

is_link : (config : Configuration) (by : Holder) (older : List Done) (d : Done) (number w t : ℕ) (k : Hold)
    (o : Option UnitId) → number ≡ length older + 1 → t ≡ cycle_at (event_of by) d.at
    → w ≡ waited (waits_of config older d) k.reason → o ≡ operation_in d k.from t → k ≡ hold_by config by older d
    → made number k.reason w k.from t o ≡ link_of config by older d
is_link config by older d number w t k o e1 e2 e3 e4 e5 = rw (e4, e1, e2, e3, e5) refl

pub returns-clause-link : goal.returns-clause-link
returns-clause-link c = λ config older d e n.
    is_link config c.args.by older d c.args.number c.waited.result c.cycle-to.result c.hold_of-hold.result
    c.operation_in.result n
    (subst (λ (s : Seen). c.cycle-to.result ≡ cycle_at c.event-event.result s.at) e c.cycle-to.ensures
    ∙ ap (λ (v : Event). cycle_at v d.at) c.event-event.ensures)
    (subst (λ (s : Seen). c.waited.result ≡ noted_wait s c.hold_of-hold.result.reason) e c.waited.ensures
    ∙ wait_is config older d c.event-event.result c.hold_of-hold.result (c.hold_of-hold.ensures config older d e))
    (c.operation_in.ensures config older d e)
    (c.hold_of-hold.ensures config older d e
    ∙ ap (λ (v : Event). hold_of v older d (waits_of config older d)) c.event-event.ensures)

pub returns-clause-by : goal.returns-clause-by
returns-clause-by c = λ config older d e.
    ap (λ (k : Hold). k.by) (c.hold_of-hold.ensures config older d e)
    ∙ ap (λ (v : Event). (hold_of v older d (waits_of config older d)).by) c.event-event.ensures
