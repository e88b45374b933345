-- Without a pool, or without a station, the issue comes in its turn.
use Rattle.std.proofs.Common.{◌≡◌, ◌∙◌, ap, refl, sym, Option, Some, None}
use Rattle.std.specs.Prelude.{ℕ}
use Rattle.tomex_rvdec.specs.declared.pool.PoolId.{PoolId}
use Rattle.tomex_timing.specs.Tables.{tag_at}
use Rattle.tomex_path.specs.declared.note.Seen.{Seen}
use Rattle.tomex_path.specs.Holds.{hold_station}
use Rattle.tomex_path.proofs.hold.station_of.Goals as goal
use Rattle.tomex_path.proofs.hold.station_of.Goals.{in_default-via-in-Some+in_default, in_default-via-in_default}

no_pool : (x : Option PoolId) (n : Option ℕ) → x ≡ None → tag_at x n ≡ None
no_pool None n e = refl
no_pool (Some p) n e = absurd (cc)

no_number : (x : Option PoolId) (n : Option ℕ) → n ≡ None → tag_at x n ≡ None
no_number None n e = refl
no_number (Some p) None e = refl
no_number (Some p) (Some n) e = absurd (cc)

pub returns-in_default : goal.returns-in_default
returns-in_default c = λ config older d e. elim c.in_default.branch [
  | in_default-via-in-Some+in_default w ↦
      c.turn_of.ensures config older d e
      ∙ sym (ap (hold_station older d) (no_number _ d.at.station
      (sym (ap (λ (s : Seen). s.at.station) e) ∙ w.in_default.is-1)))
  | in_default-via-in_default w ↦
      c.turn_of.ensures config older d e
      ∙ sym (ap (hold_station older d) (no_pool _ d.at.station
      (sym (ap (λ (s : Seen). s.facts.pool) e) ∙ w.in_default.is-0)))
]
