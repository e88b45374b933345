-- The cycles that a row has made at a look, counted program by program.
use Rattle.std.proofs.Common.{◌≡◌, ℕ, ◌+◌, ◌-◌, ◌*◌, ◌<◌, ◌≤◌, arith, ap, sym, ◌∙◌, List, length, drop, get_or, All}
use Rattle.std.proofs.Common.{min, subst, zero-add}
use Rattle.std.proofs.Common.{Some, None, refl}
use Rattle.std.specs.Prelude.{sum, ◌/◌}
use Rattle.std.proofs.lemmas.Bool.{le-ltb, lt-ltb}
use Rattle.tomex_config.specs.Configuration.{Configuration, IsWithinLimits}
use Rattle.tomex_timing.specs.Run.{total}
use Rattle.tomex_study.specs.Program.{Workload, IsProgram}
use Rattle.tomex_study.specs.Cycles.{cycles_on, totals_on}
use Rattle.tomex_plateaus.specs.Looks.{plain_on, weighted_cycles}
use Rattle.tomex_plateaus.specs.Looks.{last_look, made_at_last_look}
use Rattle.tomex_study.proofs.Bounds.{cycles_bound, total_bound, weighs_most}
use Rattle.tomex_plateaus.proofs.Totals.{plain_bound, plain_sum, total_at, weighed_all}
use Rattle.tomex_plateaus.proofs.Totals.{weighed_past}
use Rattle.tomex_plateaus.proofs.Totals.{weighed_step, weighed_within}

-- the cycles of the programs so far, and the rest
abbrev pub IsCounting : List Workload → List ℕ → ℕ → ℕ → ℕ → ℕ → Type 0
IsCounting programs totals made i cycles left = (config : Configuration) → totals ≡ totals_on programs config
    → cycles + weighted_cycles (drop i programs) config left ≡ weighted_cycles programs config made

pub one_counted : (programs : List Workload) (totals : List ℕ) (made i cycles left t : ℕ) (p : Workload)
    → IsCounting programs totals made i cycles left → i < length programs → p ≡ get_or programs i p
    → t ≡ get_or totals i 0
    → IsCounting programs totals made (i + 1) (cycles + p.weight * min left t) (left - t)
one_counted programs totals made i cycles left t p before low at is = λ config same.
    let its : t ≡ total config p.image = is ∙ total_at programs config totals i p same low at in
    let step = weighed_step programs i p config left low at in
    let was = before config same in
    rw its (omega (arith, step, was))

-- a program's part is small, and so is the count with it
pub part_small : (programs : List Workload) {totals : List ℕ} (made i cycles left : ℕ) {t : ℕ} {p : Workload}
    (config : Configuration) → IsCounting programs totals made i cycles left → i < length programs
    → p ≡ get_or programs i p → t ≡ get_or totals i 0 → length programs ≤ 8 → All IsProgram programs
    → IsWithinLimits config → totals ≡ totals_on programs config
    → (p.weight * min left t ≤ 17563648000) × (cycles + p.weight * min left t ≤ 140509184000)
part_small programs {totals} made i cycles left {t} {p} config before low at is few ends lawful same =
    let its : t ≡ total config p.image = is ∙ total_at programs config totals i p same low at in
    let step = weighed_step programs i p config left low at in
    let was = before config same in
    let within = weighed_within programs config made in
    let most = cycles_bound programs config lawful ends few in
    let small : total config p.image ≤ 17563648 = total_bound config p.image lawful in
    let program : IsProgram p = subst IsProgram (sym at) (ends i p low) in
    let one = weighs_most p.weight (min left t) 17563648 program.most_weight (omega arith) in
    let same_part : p.weight * min left t ≡ p.weight * min left (total config p.image) =
    ap (λ (n : ℕ). p.weight * min left n) its in
    (one, omega (arith, step, was, within, most, same_part))

pub none_counted : (programs : List Workload) (totals : List ℕ) (made : ℕ) → IsCounting programs totals made 0 0 made
none_counted programs totals made = λ config same. zero-add (weighted_cycles programs config made)

pub all_counted : (programs : List Workload) (totals : List ℕ) (made i cycles left : ℕ)
    → IsCounting programs totals made i cycles left → length programs ≤ i
    → (config : Configuration) → totals ≡ totals_on programs config → cycles ≡ weighted_cycles programs config made
all_counted programs totals made i cycles left counting past = λ config same.
    let none : weighted_cycles (drop i programs) config left ≡ 0 = weighed_past programs i config left past in
    let all = counting config same in
    omega (arith, none, all)

-- the sum of the totals is small
pub sum_small : (programs : List Workload) (config : Configuration) (totals : List ℕ) → IsWithinLimits config
    → length programs ≤ 8 → totals ≡ totals_on programs config → sum totals ≤ 140509184
sum_small programs config totals lawful few same =
    rw (plain_sum programs config totals same) (plain_bound programs config lawful few)

-- all of a row's cycles
pub row_is : (programs : List Workload) (config : Configuration) (plain n : ℕ) → plain ≡ plain_on programs config
    → n ≡ weighted_cycles programs config plain → n ≡ cycles_on programs config
row_is programs config plain n same is =
    is ∙ (ap (weighted_cycles programs config) same ∙ weighed_all programs config)

-- those at the last look, if there is one
pub seen_late : (programs : List Workload) (config : Configuration) (plain n : ℕ) → plain ≡ plain_on programs config
    → 1024 < plain → n ≡ weighted_cycles programs config (1024 * ((plain - 1) / 1024))
    → Some n ≡ made_at_last_look programs config
seen_late programs config plain n same late is =
    let at : n ≡ weighted_cycles programs config (last_look (plain_on programs config)) =
    is ∙ ap (λ (k : ℕ). weighted_cycles programs config (last_look k)) same in
    rw (lt-ltb 1024 (plain_on programs config) (omega arith)) (ap (λ (k : ℕ). Some k) at)

pub over_early : (programs : List Workload) (config : Configuration) (plain : ℕ) → plain ≡ plain_on programs config
    → plain ≤ 1024 → None ≡ made_at_last_look programs config
over_early programs config plain same early =
    rw (le-ltb 1024 (plain_on programs config) (omega arith)) refl
