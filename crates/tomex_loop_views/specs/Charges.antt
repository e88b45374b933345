-- Cycles of a path by reason, the most first, and then in the order of the reasons.
use Rattle.std.specs.Prelude.{ℕ, zero, suc, nat_lt, if◌then◌else◌, List, [], ◌∷◌}
use Rattle.tomex_path.specs.declared.reason.Reason.{Reason}
use Rattle.tomex_path.specs.Laws.{all_reasons}
use Rattle.tomex_loop_views.specs.declared.charges.Charge.{Charge}

-- after those that have no fewer cycles
abbrev pub inserted : Charge → List Charge → List Charge
inserted c [] = c ∷ []
inserted c (x ∷ charges) = if nat_lt x.cycles c.cycles then c ∷ x ∷ charges else x ∷ inserted c charges

-- with those of one more reason, if it has any
abbrev pub with_reason : Reason → ℕ → List Charge → List Charge
with_reason reason zero charges = charges
with_reason reason (suc n) charges = inserted (record { reason = reason; cycles = suc n }) charges

abbrev pub with_reasons : (Reason → ℕ) → List Reason → List Charge → List Charge
with_reasons cycles [] charges = charges
with_reasons cycles (reason ∷ reasons) charges =
    with_reasons cycles reasons (with_reason reason (cycles reason) charges)

-- the reasons that have cycles
abbrev pub charges_by : (Reason → ℕ) → List Charge
charges_by cycles = with_reasons cycles all_reasons []
