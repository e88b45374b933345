-- The cycles of rows with one weight replaced.
use Rattle.std.proofs.Common.{◌≡◌, ◌∙◌, ◌+◌, ◌-◌, ◌*◌, ◌<◌, ◌≤◌, ℕ, zero, suc, ap, arith, refl}
use Rattle.std.proofs.Common.{List, [], ◌∷◌, get_or, length, map}
use Rattle.std.proofs.lemmas.List.Sums.{sum_by-cons}
use Rattle.std.proofs.Math.Nat.{mul_assoc}
use Rattle.tomex_config.specs.Configuration.{Configuration, plain}
use Rattle.tomex_pareto.specs.Front.{rows_from}
use Rattle.tomex_pareto.specs.declared.front_row.FrontRow.{FrontRow}
use Rattle.tomex_pareto.specs.Spans.{as_cycles}
use Rattle.tomex_study.specs.Cycles.{cycles_of, cycles_of_run, cycles_on, totals_on}
use Rattle.tomex_study.specs.Program.{Workload}
use Rattle.tomex_study.specs.Study.{DesignSpace, config_at}
use Rattle.tomex_study.specs.StudyFront.{all_rows}
use Rattle.tomex_weights.specs.Reweighted.{in_hundredths, reweighted, with_weight}
use Rattle.tomex_weights.specs.Spans.{by_weight, rows_by_weight}

-- a program's part of the cycles of a configuration, and how often its weight counts

abbrev pub times_of : List Workload → ℕ → Configuration → ℕ
times_of ps place config = get_or (totals_on ps config) place 0

abbrev pub part_of : List Workload → ℕ → Configuration → ℕ
part_of ps place config = get_or (map (λ p. p.weight) ps) place 0 * times_of ps place config

pub part_within : (ps : List Workload) (place : ℕ) (config : Configuration) → place < length ps
    → part_of ps place config ≤ cycles_on ps config
unfolding cycles_on totals_on
part_within [] place config low = absurd (omega arith)
part_within (p ∷ ps) zero config low = rw sum_by-cons (omega arith)
part_within (p ∷ ps) (suc place) config low =
    let rest : part_of ps place config ≤ cycles_on ps config = part_within ps place config (omega arith) in
    rw sum_by-cons (omega arith)

-- sums in hundredths

abbrev own : Configuration → Workload → ℕ
own config p = p.weight * cycles_of_run config p

pub hundredfold : (ps : List Workload) (config : Configuration)
    → cycles_on (map in_hundredths ps) config ≡ 100 * cycles_on ps config
unfolding cycles_on
hundredfold [] config = refl
hundredfold (p ∷ ps) config =
    let one = mul_assoc 100 p.weight (cycles_of_run config p) in
    let rest : cycles_on (map in_hundredths ps) config ≡ 100 * cycles_on ps config = hundredfold ps config in
    rw (sum_by-cons (own config) (in_hundredths p) (map in_hundredths ps), sum_by-cons (own config) p ps)
    (omega (arith, one, rest))

replaced : (ps : List Workload) (place q : ℕ) (config : Configuration) → place < length ps
    → cycles_on (with_weight place q (map in_hundredths ps)) config + 100 * part_of ps place config
    ≡ 100 * cycles_on ps config + q * times_of ps place config
unfolding cycles_on totals_on
replaced [] place q config low = absurd (omega arith)
replaced (p ∷ ps) zero q config low =
    let rest : cycles_on (map in_hundredths ps) config ≡ 100 * cycles_on ps config = hundredfold ps config in
    rw (sum_by-cons (own config) (record p { weight = q }) (map in_hundredths ps), sum_by-cons (own config) p ps)
    (omega (arith, rest))
replaced (p ∷ ps) (suc place) q config low =
    let one = mul_assoc 100 p.weight (cycles_of_run config p) in
    let rest : cycles_on (with_weight place q (map in_hundredths ps)) config + 100 * part_of ps place config
    ≡ 100 * cycles_on ps config + q * times_of ps place config = replaced ps place q config (omega arith) in
    rw (
      sum_by-cons (own config) (in_hundredths p) (with_weight place q (map in_hundredths ps)),
      sum_by-cons (own config) p ps,
    ) (omega (arith, one, rest))

-- so the cycles are a line in the weight
cycles_line : (ps : List Workload) (place q : ℕ) (config : Configuration) → place < length ps
    → cycles_on (with_weight place q (map in_hundredths ps)) config
    ≡ 100 * (cycles_on ps config - part_of ps place config) + q * times_of ps place config
cycles_line ps place q config low =
    omega (arith, replaced ps place q config low, part_within ps place config low)

-- the rows of the reweighted study

module _ (s : DesignSpace) (place q : ℕ) (low : place < length s.programs) where
  abbrev new_cycles : Configuration → ℕ
  new_cycles = cycles_on (with_weight place q (map in_hundredths s.programs))

  rows_line : (n : ℕ) (costs : List ℕ) (cs : List Configuration)
      → ((i : ℕ) → i < length cs → config_at s (n + i) ≡ get_or cs i plain)
      → rows_from n costs (map new_cycles cs)
      ≡ map (as_cycles q) (map (by_weight s place) (rows_from n costs (map (cycles_on s.programs) cs)))
  rows_line n [] cs at = refl
  rows_line n (c ∷ costs) [] at = refl
  rows_line n (c ∷ costs) (config ∷ cs) at =
      let here : config_at s n ≡ config =
      ap (config_at s) (let z : n ≡ n + 0 = omega arith in z) ∙ at 0 (omega arith) in
      let one : new_cycles config ≡ 100 * (cycles_on s.programs config - part_of s.programs place (config_at s n))
      + q * times_of s.programs place (config_at s n) =
      rw here (cycles_line s.programs place q config low) in
      let rest = rows_line (suc n) costs cs (λ i less.
      ap (config_at s) (let z : suc n + i ≡ n + suc i = omega arith in z) ∙ at (suc i) (omega arith)) in
      ap (λ (y : ℕ). record { row = n; cost = c; cycles = y } ∷ rows_from (suc n) costs (map new_cycles cs)) one
      ∙ ap (λ (rows : List FrontRow). as_cycles q (by_weight s place (record {
        row = n;
        cost = c;
        cycles = cycles_on s.programs config;
      })) ∷ rows) rest

pub rows_reweighted : (s : DesignSpace) (place q : ℕ) → place < length s.programs
    → all_rows (reweighted s place q) ≡ map (as_cycles q) (rows_by_weight s place)
unfolding cycles_of
rows_reweighted s place q low =
    rows_line s place q low 0 s.costs s.rows (λ i less. ap (config_at s) (let z : 0 + i ≡ i = omega arith in z))
