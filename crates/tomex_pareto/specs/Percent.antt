-- A row's cost is a sum over parts: the amount of each, as often as the row has it. By which percentage all amounts may
-- be wrong at once, each in its own direction, such that a row stays undominated.
use Rattle.std.specs.Prelude.{ℕ, ◌-◌, ◌*◌, ◌/◌, ◌≤◌, ◌+◌, ◌&&◌, if◌then◌else◌, min, nat_le, nat_lt, sum_by}
use Rattle.std.specs.Prelude.{List, [], ◌∷◌}
use Rattle.std.specs.Int.{abs_diff}
use Rattle.tomex_pareto.specs.declared.front_row.FrontRow.{FrontRow}

-- the parts that two rows don't have in common: each amount as often as one of them has the part more than the other
abbrev pub difference_of : {P R : Type 0} → (P → ℕ) → (P → R → ℕ) → List P → R → R → ℕ
difference_of amount times all a b = sum_by (λ p. amount p * abs_diff (times p a) (times p b)) all

-- how much more a rival costs, in percent of their difference, rounded down. A rival that takes fewer cycles must cost
-- 1 more; one that takes more cycles, or differs in no part, sets no bound: 100
abbrev pub percent_by : ℕ → FrontRow → FrontRow → ℕ
percent_by apart r j =
    let premium = if nat_lt j.cycles r.cycles then 1 else 0 in
    if nat_le j.cycles r.cycles && nat_lt 0 apart then (100 * (j.cost - r.cost) - premium) / apart else 100

-- the least percentage of all rivals
abbrev pub least_of : (FrontRow → ℕ) → List FrontRow → ℕ
least_of percent [] = 100
least_of percent (j ∷ js) = min (percent j) (least_of percent js)

-- no part's factor, in hundredths, is wrong by more percent than this
abbrev pub AreWithin : {P : Type 0} → ℕ → (P → ℕ) → Type 0
AreWithin {P} percent factors = (p : P) → (100 ≤ factors p + percent) × (factors p ≤ 100 + percent)
