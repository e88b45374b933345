-- Weights that move together, each by a share of the way to an end of its span.
use Rattle.std.proofs.Common.{◌≡◌, ◌∙◌, ◌+◌, ◌-◌, ◌*◌, ◌<◌, ◌≤◌, ℕ, suc, ap, arith, refl, subst, sym, true}
use Rattle.std.proofs.Common.{List, [], ◌∷◌, get_or, length, map}
use Rattle.std.specs.Prelude.{sum_by}
use Rattle.std.specs.List.{Contains, range_with_len}
use Rattle.std.proofs.lemmas.List.Elements.{All-from_get_or}
use Rattle.std.proofs.lemmas.List.FromFn.{get_or-range_with_len, length-range_with_len}
use Rattle.std.proofs.lemmas.List.Sums.{sum_by-cons}
use Rattle.std.proofs.Math.Nat.{mul_assoc}
use Rattle.tomex_config.specs.Configuration.{Configuration, plain}
use Rattle.tomex_pareto.specs.Front.{front_of, is_on, rows_from}
use Rattle.tomex_pareto.specs.declared.front_row.FrontRow.{FrontRow}
use Rattle.tomex_pareto.proofs.OnFront.{on_front}
use Rattle.tomex_pareto.proofs.Pareto.{free_undominated, has_contains}
use Rattle.tomex_pareto.proofs.Rows.{rows_apart}
use Rattle.tomex_pareto.specs.declared.spans.ValueSpan.{ValueSpan}
use Rattle.tomex_pareto.specs.Spans.{measure_at, span, stays, swapped}
use Rattle.tomex_pareto.proofs.SpanEnds.{some_end, stays_is}
use Rattle.tomex_pareto.proofs.NewCosts.{free_keeps, on_costed, premium}
use Rattle.tomex_pareto.proofs.Settled.{settled_holds, settled_some}
use Rattle.tomex_pareto.proofs.Shares.{Counts, DoCount, one_counts, slack, stays_less}
use Rattle.tomex_pareto.proofs.Swapped.{free_swapped, swapped_back}
use Rattle.tomex_study.specs.Cycles.{cycles_of, cycles_of_run, cycles_on, totals_on}
use Rattle.tomex_study.specs.Program.{Workload}
use Rattle.tomex_study.specs.Study.{DesignSpace, IsStudy, config_at}
use Rattle.tomex_study.specs.StudyFront.{all_rows, front_of_study}
use Rattle.tomex_weights.specs.Spans.{greatest_weight}
use Rattle.tomex_weights.specs.Reweighted.{in_hundredths, own_cycles, weight_at}
use Rattle.tomex_weights.specs.Spans.{by_weight, rows_by_weight, span_of}
use Rattle.tomex_weights.specs.Together.{IsShareOfWay, IsStatedAtStated, StaysByShares, Weights, reweighted_by}
use Rattle.tomex_weights.specs.Together.{stated_weights, with_all}
use Rattle.tomex_weights.proofs.Recycled.{on_recycled, recycled, turned}
use Rattle.tomex_study.proofs.StudyFronts.{front_free}
use Rattle.tomex_weights.proofs.Reweighing.{hundredfold, part_within}
use Rattle.tomex_weights.proofs.SmallRows.{row_of}
use Rattle.tomex_weights.proofs.Whole.{holds_stated, weight_range}
use Rattle.tomex_weights.proofs.Within.{line_there}

-- the places of the programs, and a sum of weights, each as often as a row has it

abbrev places : DesignSpace → List ℕ
places s = range_with_len 0 (length s.programs)

abbrev own : Configuration → Workload → ℕ
own config p = p.weight * cycles_of_run config p

sums_by_place : (weights : Weights) (n : ℕ) (ps : List Workload) (config : Configuration) (times : ℕ → ℕ)
    → ((i : ℕ) → i < length ps → times (n + i) ≡ get_or (totals_on ps config) i 0)
    → cycles_on (with_all weights n ps) config
    ≡ sum_by (λ place. weights place * times place) (range_with_len n (length ps))
unfolding cycles_on totals_on
sums_by_place weights n [] config times at = refl
sums_by_place weights n (p ∷ ps) config times at =
    let here : times n ≡ cycles_of_run config p =
    ap times (let z : n ≡ n + 0 = omega arith in z) ∙ at 0 (omega arith) in
    let rest = sums_by_place weights (n + 1) ps config times (λ i less.
    ap times (let z : n + 1 + i ≡ n + suc i = omega arith in z) ∙ at (suc i) (omega arith)) in
    sum_by-cons (own config) (record p { weight = weights n }) (with_all weights (n + 1) ps)
    ∙ (ap (λ (t : ℕ). weights n * t + sum_by (own config) (with_all weights (n + 1) ps)) (sym here)
    ∙ (ap (λ (x : ℕ). weights n * times n + x) rest
    ∙ sym (sum_by-cons (λ place. weights place * times place) n (range_with_len (n + 1) (length ps)))))

sums : (weights : Weights) (s : DesignSpace) (row : ℕ)
    → cycles_on (with_all weights 0 s.programs) (config_at s row)
    ≡ sum_by (λ place. weights place * own_cycles s place row) (places s)
sums weights s row = sums_by_place weights 0 s.programs (config_at s row) (λ place. own_cycles s place row)
    (λ i less. ap (λ (k : ℕ). own_cycles s k row) (let z : 0 + i ≡ i = omega arith in z))

-- with the stated weights

stated_from : (weights : Weights) (n : ℕ) (ps : List Workload)
    → ((i : ℕ) → i < length ps → weights (n + i) ≡ 100 * get_or (map (λ p. p.weight) ps) i 0)
    → with_all weights n ps ≡ map in_hundredths ps
stated_from weights n [] at = refl
stated_from weights n (p ∷ ps) at =
    let here : weights n ≡ 100 * p.weight =
    ap weights (let z : n ≡ n + 0 = omega arith in z) ∙ at 0 (omega arith) in
    let rest = stated_from weights (n + 1) ps (λ i less.
    ap weights (let z : n + 1 + i ≡ n + suc i = omega arith in z) ∙ at (suc i) (omega arith)) in
    ap (λ (w : ℕ). record p { weight = w } ∷ with_all weights (n + 1) ps) here
    ∙ ap (λ (qs : List Workload). in_hundredths p ∷ qs) rest

stated_all : (s : DesignSpace) → with_all (stated_weights s) 0 s.programs ≡ map in_hundredths s.programs
stated_all s = stated_from (stated_weights s) 0 s.programs
    (λ i less. ap (λ (k : ℕ). 100 * weight_at s k) (let z : 0 + i ≡ i = omega arith in z))

pub stated_at_stated : IsStatedAtStated
stated_at_stated s = ap (λ (ps : List Workload). record s { programs = ps }) (stated_all s)

stated_sum : (s : DesignSpace) (r : FrontRow) → IsStudy s → Contains (all_rows s) r
    → sum_by (λ place. stated_weights s place * own_cycles s place r.row) (places s) ≡ 100 * r.cycles
stated_sum s r is one =
    sym (sums (stated_weights s) s r.row)
    ∙ (ap (λ (ps : List Workload). cycles_on ps (config_at s r.row)) (stated_all s)
    ∙ (hundredfold s.programs (config_at s r.row) ∙ ap (λ (n : ℕ). 100 * n) (sym (row_of s r is one).cycles)))

-- all rows with other weights

abbrev new_cycles : Weights → DesignSpace → FrontRow → ℕ
new_cycles weights s x = cycles_on (with_all weights 0 s.programs) (config_at s x.row)

module _ (weights : Weights) (s : DesignSpace) where
  abbrev with_weights : Configuration → ℕ
  with_weights = cycles_on (with_all weights 0 s.programs)

  rows_by : (n : ℕ) (costs : List ℕ) (cs : List Configuration)
      → ((i : ℕ) → i < length cs → config_at s (n + i) ≡ get_or cs i plain)
      → rows_from n costs (map with_weights cs)
      ≡ map (recycled (new_cycles weights s)) (rows_from n costs (map (cycles_on s.programs) cs))
  rows_by n [] cs at = refl
  rows_by n (c ∷ costs) [] at = refl
  rows_by n (c ∷ costs) (config ∷ cs) at =
      let here : config_at s n ≡ config =
      ap (config_at s) (let z : n ≡ n + 0 = omega arith in z) ∙ at 0 (omega arith) in
      let rest = rows_by (suc n) costs cs (λ i less.
      ap (config_at s) (let z : suc n + i ≡ n + suc i = omega arith in z) ∙ at (suc i) (omega arith)) in
      ap (λ (y : Configuration). record { row = n; cost = c; cycles = with_weights y }
      ∷ rows_from (suc n) costs (map with_weights cs)) (sym here)
      ∙ ap (λ (rows : List FrontRow). record { row = n; cost = c; cycles = with_weights (config_at s n) } ∷ rows) rest

rows_reweighted_by : (weights : Weights) (s : DesignSpace)
    → all_rows (reweighted_by weights s) ≡ map (recycled (new_cycles weights s)) (all_rows s)
unfolding cycles_of
rows_reweighted_by weights s = rows_by weights s 0 s.costs s.rows
    (λ i less. ap (config_at s) (let z : 0 + i ≡ i = omega arith in z))

-- a row of the front, and a rival that costs no more; both with their cycles as costs

module _ (s : DesignSpace) (weights : Weights) (shares : ℕ → ℕ) (whole : ℕ) (r j : FrontRow) (is : IsStudy s)
    (on : Contains (front_of_study s) r) (there : Contains (all_rows s) j) (cheap : j.cost ≤ r.cost) where
  one : Contains (all_rows s) r
  one = has_contains (all_rows s) r (front_free s r on).0

  abbrev extra : ℕ
  extra = premium (swapped r) (swapped j)

  abbrev gap : ℕ
  gap = 100 * j.cycles - 100 * r.cycles - extra

  is_on_stated : is_on (front_of_study s) r.row ≡ true
  unfolding front_of_study
  is_on_stated =
      let free = front_free s r on in
      on_front (all_rows s) r (rows_apart 0 s.costs (cycles_of s)) free.0
      ∙ free_undominated (all_rows s) r free.1

  -- a row's measure at a stated weight is a hundred times its cycles
  measure_is : (x : FrontRow) (place : ℕ) → Contains (all_rows s) x → place < length s.programs
      → measure_at (stated_weights s place) (by_weight s place x) ≡ 100 * x.cycles
  measure_is x place in_all low =
      let w = weight_at s place in
      let t = own_cycles s place x.row in
      let its = row_of s x is in_all in
      let part : w * t ≤ x.cycles = rw its.cycles (part_within s.programs place (config_at s x.row) low) in
      scaled w t x.cycles part
    where
      scaled : (w t c : ℕ) → w * t ≤ c → 100 * (c - w * t) + 100 * w * t ≡ 100 * c
      scaled w t c part = omega (arith, part, mul_assoc 100 w t)

  place_counts : (place : ℕ) → place < length s.programs
      → IsShareOfWay (span_of s place r) (stated_weights s place) (weights place) (shares place) whole
      → Counts (stated_weights s place) (weights place) (own_cycles s place r.row) (own_cycles s place j.row) whole
      (shares place) gap
  place_counts place low moves =
      let now = stated_weights s place in
      let line = by_weight s place r in
      let rows = rows_by_weight s place in
      let range = weight_range s place is low in
      let above : 1 ≤ now = omega (arith, range.0) in
      let all = span 1 greatest_weight line rows in
      let held = sym (settled_holds all now) ∙ (holds_stated s place r is low one ∙ is_on_stated) in
      let here : stays now rows line ≡ true = sym (stays_is 1 greatest_weight now rows line above
      (omega (arith, range.1))) ∙ held in
      let some = some_end 1 greatest_weight now rows line above here in
      let last : suc (all.end - 1) ≡ all.end = omega (arith, some) in
      let way = subst (λ (span : ValueSpan). IsShareOfWay span now (weights place) (shares place) whole)
      (settled_some all now held) moves in
      rw (slack_is place low) at (one_counts 1 greatest_weight now (all.end - 1) line (by_weight s place j) rows above
      here last (line_there s place j there) cheap (weights place) whole (shares place) way.up way.down)
    where
      slack_is : (place : ℕ) → place < length s.programs
          → slack (stated_weights s place) (by_weight s place r) (by_weight s place j) ≡ gap
      slack_is place low = rw (measure_is r place one low, measure_is j place there low) refl

  -- so the rival still takes more
  stays_slower : ((place : ℕ) → place < length s.programs
      → IsShareOfWay (span_of s place r) (stated_weights s place) (weights place) (shares place) whole)
      → 0 < whole → sum_by shares (places s) ≤ whole → r.cycles + extra ≤ j.cycles
      → new_cycles weights s r + extra ≤ new_cycles weights s j
  stays_slower moves some few slow =
      rw (sums weights s r.row, sums weights s j.row)
      (stays_less (stated_weights s) weights (λ place. own_cycles s place r.row) (λ place. own_cycles s place j.row)
      shares whole gap (places s) (100 * r.cycles) (100 * j.cycles) extra
      (All-from_get_or (DoCount (stated_weights s) weights (λ place. own_cycles s place r.row)
      (λ place. own_cycles s place j.row) shares whole gap) (places s) 0
      (λ k low. let here = inside k low in place_counts _ here (moves _ here)))
      some few (stated_sum s r is one) (stated_sum s j is there) (omega (arith, slow)) refl)
    where
      inside : (k : ℕ) → k < length (places s) → get_or (places s) k 0 < length s.programs
      inside k low =
          let n = length s.programs in
          let long : k < n = rw (length-range_with_len 0 n) at low in
          rw (get_or-range_with_len 0 n k 0 long) (omega (arith, long))

pub stays_by_shares : StaysByShares
unfolding front_of_study
stays_by_shares s weights shares whole r is one some few moves =
    let free = front_free s r one in
    let cost = new_cycles weights s in
    ap (λ (rows : List FrontRow). is_on (front_of rows) r.row) (rows_reweighted_by weights s)
    ∙ (on_recycled cost s r free.0
    ∙ on_costed cost (turned s) (swapped r) (λ j there cheap.
    stays_slower s weights shares whole r (swapped j) is one
    (has_contains (all_rows s) (swapped j) (swapped_back (all_rows s) j there)) cheap moves some few
    (free_keeps (swapped r) j (free_swapped (all_rows s) r free.1 j there) cheap)))
