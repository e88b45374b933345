-- Any mix: a row stays on the front if each row that costs less takes more cycles for each program, and each that costs
-- as much no fewer.
use Rattle.std.proofs.Common.{◌≡◌, ◌∙◌, ◌+◌, ◌*◌, ◌<◌, ◌≤◌, inl, inr, ℕ, arith, List, [], ◌∷◌, All, length}
use Rattle.std.specs.Prelude.{slice_index_or, sum_by}
use Rattle.std.specs.List.{AllByRecursion, Contains}
use Rattle.std.proofs.lemmas.Bool.{cases_lt, le-ltb, lt-ltb}
use Rattle.std.proofs.lemmas.List.Elements.{Contains-get_or, recursion_from_All}
use Rattle.std.proofs.lemmas.List.Sums.{sum_by-cons}
use Rattle.std.proofs.Math.Nat.{mul-le-mul_left, mul-lt-mul_of_pos_left}
use Rattle.tomex_pareto.specs.declared.front_row.FrontRow.{FrontRow}
use Rattle.tomex_pareto.proofs.Pareto.{among, has_contains}
use Rattle.tomex_pareto.specs.Spans.{swapped}
use Rattle.tomex_pareto.proofs.NewCosts.{on_costed}
use Rattle.tomex_pareto.proofs.Swapped.{swapped_back}
use Rattle.tomex_study.specs.Cycles.{total_at}
use Rattle.tomex_study.specs.Program.{Workload}
use Rattle.tomex_study.specs.Study.{DesignSpace, IsStudy}
use Rattle.tomex_study.specs.StudyFront.{all_rows}
use Rattle.tomex_weights.specs.AllWeights.{Factors, StaysAtAnyMix}
use Rattle.tomex_weights.proofs.Percentage.{new_cost, on_is}
use Rattle.tomex_weights.proofs.Recycled.{turned}

-- sums of terms each of which is less, or no more

less_sums : {X : Type 0} (f g : X → ℕ) (xs : List X) → AllByRecursion (λ x. f x < g x) xs
    → sum_by f xs + length xs ≤ sum_by g xs
less_sums f g [] all = omega arith
less_sums f g (x ∷ xs) all =
    let one = all.0 in
    let rest = less_sums f g xs all.1 in
    rw (sum_by-cons f x xs, sum_by-cons g x xs) (omega (arith, one, rest))

few_sums : {X : Type 0} (f g : X → ℕ) (xs : List X) → AllByRecursion (λ x. f x ≤ g x) xs → sum_by f xs ≤ sum_by g xs
few_sums f g [] all = omega arith
few_sums f g (x ∷ xs) all =
    let one = all.0 in
    let rest = few_sums f g xs all.1 in
    rw (sum_by-cons f x xs, sum_by-cons g x xs) (omega (arith, one, rest))

module _ (s : DesignSpace) (factors : Factors) (is : IsStudy s) (r j : FrontRow) where
  abbrev part : FrontRow → Workload → ℕ
  part x p = factors p * (p.weight * total_at s p x.row)

  pub less : ((p : Workload) → Contains s.programs p → 1 ≤ factors p)
      → ((p : Workload) → Contains s.programs p → total_at s p r.row < total_at s p j.row)
      → sum_by (part r) s.programs + 1 ≤ sum_by (part j) s.programs
  less some fewer =
      let each : All (λ (p : Workload). part r p < part j p) s.programs = λ k d within.
      let p = slice_index_or s.programs k d in
      let one = Contains-get_or s.programs k d within in
      mul-lt-mul_of_pos_left (mul-lt-mul_of_pos_left (fewer p one) (is.ends k d within).some_weight) (some p one) in
      let sums = less_sums (part r) (part j) s.programs (recursion_from_All _ s.programs each) in
      omega (arith, sums, is.some_programs)

  pub no_more : ((p : Workload) → Contains s.programs p → total_at s p r.row ≤ total_at s p j.row)
      → sum_by (part r) s.programs ≤ sum_by (part j) s.programs
  no_more fewer =
      few_sums (part r) (part j) s.programs (recursion_from_All _ s.programs (λ k d within.
      let p = slice_index_or s.programs k d in
      mul-le-mul_left (factors p)
      (mul-le-mul_left p.weight (fewer p (Contains-get_or s.programs k d within)))))

pub stays_at_any_mix : StaysAtAnyMix
stays_at_any_mix s factors r is one best some =
    on_is factors s is r (among (all_rows s) r one)
    ∙ on_costed (new_cost factors s is) (turned s) (swapped r) (λ j there fast.
    let rival = swapped j in
    let back : Contains (all_rows s) rival =
    has_contains (all_rows s) rival (swapped_back (all_rows s) j there) in
    elim (cases_lt j.cycles r.cost) [
      | inl cheap ↦
          let more = less s factors is r rival some (λ p it. best.cheaper rival p back it cheap) in
          rw (lt-ltb j.cycles r.cost cheap) more
      | inr dear ↦
          let same : rival.cost ≡ r.cost = omega (arith, fast, dear) in
          let more = no_more s factors is r rival (λ p it. best.equal rival p back it same) in
          rw (le-ltb j.cycles r.cost dear) (omega (arith, more))
    ])
