-- The event that holds another one comes in the cycle before, and the link between them is not empty: what it takes for
-- the links of a path to follow each other.
use Rattle.std.proofs.Common.{ℕ, ◌+◌, ◌≤◌, ◌≡◌, sym, subst, List}
use Rattle.tomex_timing.specs.declared.times.Done.{Done}
use Rattle.tomex_path.specs.declared.hold.Hold.{Hold}
pub use Rattle.tomex_path.specs.Laws.{first_at, holder_at}

-- a hold is met for an event in cycle t
pub record IsMet (older : List Done) (k : Hold) (t : ℕ) : Type 0 where
  pub before : holder_at k.by older + 1 ≡ k.from
  pub within : k.from ≤ t

-- the same of an equal hold

pub met_as : {older : List Done} {k l : Hold} {t : ℕ} → k ≡ l → IsMet older l t → IsMet older k t
met_as {older} {k} {l} {t} e met = subst (λ m. IsMet older m t) (sym e) met

pub from_as : {k l : Hold} {s : ℕ} → k ≡ l → k.from ≤ s → l.from ≤ s
from_as {k} {l} {s} e low = subst (λ (m : Hold). m.from ≤ s) e low
