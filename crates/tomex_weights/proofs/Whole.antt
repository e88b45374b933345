-- A whole weight is that of a study's file: a front doesn't change if all cycles are in hundredths.
use Rattle.std.proofs.Common.{◌≡◌, ◌∙◌, ◌*◌, ◌<◌, ◌≤◌, ◌==◌, ◌&&◌, ◌||◌, ℕ, zero, suc, ap, arith, inl, inr, not}
use Rattle.std.proofs.Common.{refl, sym, nat_le, nat_lt, Bool, List, [], ◌∷◌, get_or, length, map}
use Rattle.std.specs.List.{filter, list_any}
use Rattle.std.proofs.lemmas.Bool.{cases_Bool}
use Rattle.std.proofs.lemmas.Bool.Decides.{nat_tests}
use Rattle.std.proofs.lemmas.List.{get_or-map}
use Rattle.tomex_config.specs.Configuration.{Configuration}
use Rattle.tomex_pareto.specs.Front.{by_cost, comes_before, dominates, front_of, is_on, is_undominated, put, rows_from}
use Rattle.tomex_pareto.specs.declared.front_row.FrontRow.{FrontRow}
use Rattle.tomex_study.specs.Cycles.{cycles_of, cycles_on}
use Rattle.tomex_study.specs.Program.{Workload}
use Rattle.tomex_study.specs.Study.{DesignSpace, IsStudy}
use Rattle.tomex_study.specs.StudyFront.{front_of_study}
use Rattle.tomex_weights.specs.Laws.{HoldsStated, HoldsWhole}
use Rattle.tomex_weights.specs.Reweighted.{in_hundredths, reweighted, weight_at, with_weight, with_whole}
use Rattle.tomex_weights.proofs.Reweighing.{hundredfold}
use Rattle.tomex_weights.proofs.Within.{on_within}

-- a row with its cycles in hundredths
abbrev fine : FrontRow → FrontRow
fine r = record { row = r.row; cost = r.cost; cycles = 100 * r.cycles }

-- the same rows dominate

fine_tests : (a b c d : ℕ) → (nat_le a b && nat_le (100 * c) (100 * d) && (nat_lt a b || nat_lt (100 * c) (100 * d)))
    ≡ (nat_le a b && nat_le c d && (nat_lt a b || nat_lt c d))
fine_tests a b c d = grind (arith, nat_tests)

any_fine : (r : FrontRow) (rows : List FrontRow)
    → list_any (λ q. dominates q (fine r)) (map fine rows) ≡ list_any (λ q. dominates q r) rows
any_fine r [] = refl
any_fine r (x ∷ xs) = rw (fine_tests x.cost r.cost x.cycles r.cycles, any_fine r xs) refl

filter_fine : (rows xs : List FrontRow)
    → filter (is_undominated (map fine rows)) (map fine xs) ≡ map fine (filter (is_undominated rows) xs)
filter_fine rows [] = refl
filter_fine rows (x ∷ xs) = elim (cases_Bool (is_undominated rows x)) [
  | inl e ↦ rw (ap not (any_fine x rows), e, filter_fine rows xs) refl
  | inr e ↦ rw (ap not (any_fine x rows), e, filter_fine rows xs) refl
]

put_fine : (r : FrontRow) (rows : List FrontRow) → put (fine r) (map fine rows) ≡ map fine (put r rows)
put_fine r [] = refl
put_fine r (x ∷ xs) = elim (cases_Bool (comes_before r x)) [
  | inl e ↦ rw e refl
  | inr e ↦ rw (e, put_fine r xs) refl
]

by_cost_fine : (rows : List FrontRow) → by_cost (map fine rows) ≡ map fine (by_cost rows)
by_cost_fine [] = refl
by_cost_fine (r ∷ rs) = ap (put (fine r)) (by_cost_fine rs) ∙ put_fine r (by_cost rs)

front_fine : (rows : List FrontRow) → front_of (map fine rows) ≡ map fine (front_of rows)
unfolding front_of
front_fine rows = ap by_cost (filter_fine rows rows) ∙ by_cost_fine (filter (is_undominated rows) rows)

on_fine : (rows : List FrontRow) (n : ℕ) → is_on (map fine rows) n ≡ is_on rows n
on_fine [] n = refl
on_fine (r ∷ rs) n = ap (λ (b : Bool). r.row == n || b) (on_fine rs n)

-- the rows of a study whose weights are in hundredths

rows_fine : (ps : List Workload) (n : ℕ) (costs : List ℕ) (cs : List Configuration)
    → rows_from n costs (map (cycles_on (map in_hundredths ps)) cs)
    ≡ map fine (rows_from n costs (map (cycles_on ps) cs))
rows_fine ps n [] cs = refl
rows_fine ps n (c ∷ costs) [] = refl
rows_fine ps n (c ∷ costs) (config ∷ cs) = rw (hundredfold ps config, rows_fine ps (suc n) costs cs) refl

whole_in_hundredths : (place w : ℕ) (ps : List Workload)
    → with_weight place (100 * w) (map in_hundredths ps) ≡ map in_hundredths (with_weight place w ps)
whole_in_hundredths place w [] = refl
whole_in_hundredths zero w (p ∷ ps) = refl
whole_in_hundredths (suc place) w (p ∷ ps) =
    ap (λ (qs : List Workload). in_hundredths p ∷ qs) (whole_in_hundredths place w ps)

on_whole : (s : DesignSpace) (place w n : ℕ)
    → is_on (front_of_study (reweighted s place (100 * w))) n ≡ is_on (front_of_study (with_whole s place w)) n
unfolding front_of_study cycles_of
on_whole s place w n =
    let ps = with_weight place w s.programs in
    let rows = rows_from 0 s.costs (map (cycles_on ps) s.rows) in
    ap (λ (qs : List Workload). is_on (front_of (rows_from 0 s.costs (map (cycles_on qs) s.rows))) n)
    (whole_in_hundredths place w s.programs)
    ∙ (ap (λ (xs : List FrontRow). is_on (front_of xs) n) (rows_fine ps 0 s.costs s.rows)
    ∙ (ap (λ (xs : List FrontRow). is_on xs n) (front_fine rows) ∙ on_fine (front_of rows) n))

pub holds_whole : HoldsWhole
holds_whole s place w r is low some few one =
    sym (on_within s place (100 * w) r is low (omega (arith, some)) (omega (arith, few)) one) ∙ on_whole s place w r.row

-- the stated weight

program_like : (ps : List Workload) (place : ℕ) → place < length ps → Workload
program_like [] place low = absurd (omega arith)
program_like (p ∷ ps) place low = p

weight_stays : (place : ℕ) (ps : List Workload) → with_weight place (get_or (map (λ p. p.weight) ps) place 0) ps ≡ ps
weight_stays place [] = refl
weight_stays zero (p ∷ ps) = refl
weight_stays (suc place) (p ∷ ps) = ap (λ (qs : List Workload). p ∷ qs) (weight_stays place ps)

pub weight_range : (s : DesignSpace) (place : ℕ) → IsStudy s → place < length s.programs
    → (1 ≤ weight_at s place) × (weight_at s place ≤ 1000)
weight_range s place is low =
    let d = program_like s.programs place low in
    let at = get_or-map (λ (p : Workload). p.weight) s.programs place d 0 low in
    let its = is.ends place d low in
    (rw at its.some_weight, rw at its.most_weight)

pub holds_stated : HoldsStated
holds_stated s place r is low one =
    let range = weight_range s place is low in
    holds_whole s place (weight_at s place) r is low range.0 range.1 one
    ∙ ap (λ (ps : List Workload). is_on (front_of_study (record s { programs = ps })) r.row)
    (weight_stays place s.programs)
