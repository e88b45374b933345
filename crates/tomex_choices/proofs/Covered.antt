-- Nothing is worth adding exactly if rows are as good as each machine that a longer or finer list has.
use Rattle.std.proofs.Common.{◌≡◌, ℕ, ◌+◌, ◌≤◌, ◌<◌, ◌==◌, arith, ap, sym, refl, subst, ◌∙◌, List, [], ◌∷◌, ◌++◌, map}
use Rattle.std.proofs.Common.{Bool, true, false, inl, inr, Option, Some, None}
use Rattle.std.specs.Prelude.{nat_lt, unwrap_or}
use Rattle.std.specs.List.{Contains, filter, list_any}
use Rattle.std.proofs.lemmas.Bool.Decides.{nat_tests}
use Rattle.std.proofs.lemmas.List.Elements.{All-contains}
use Rattle.tomex_rvdec.specs.declared.pool.UnitId.{UnitId}
use Rattle.tomex_config.specs.Configuration.{Configuration, IsWithinLimits, most_units, option_of}
use Rattle.tomex_config.specs.Cost.{cost_of}
use Rattle.tomex_config.specs.declared.config.UnitOption.{UnitOption}
use Rattle.tomex_config.specs.Configuration.{latency_of}
use Rattle.tomex_pareto.specs.declared.front_row.FrontRow.{FrontRow}
use Rattle.tomex_study.specs.Cycles.{cycles_on}
use Rattle.tomex_study.specs.Study.{DesignSpace, IsStudy}
use Rattle.tomex_study.specs.StudyFront.{all_rows}
use Rattle.tomex_config.specs.Parts.{count_of}
use Rattle.tomex_config.specs.declared.part.Part.{Part}
use Rattle.tomex_config.specs.declared.part.Part.TheVariants.{Stations, Units, Buses, Width}
use Rattle.tomex_choices.specs.Additions.{additions, has_entry, useful}
use Rattle.tomex_config.specs.Parts.{most_of}
use Rattle.tomex_survey.specs.Extremes.{least}
use Rattle.tomex_choices.specs.Laws.{CoveredIsNothingToAdd, CoveredMachinesAddNoPoints}
use Rattle.tomex_choices.specs.Laws.{AreLongerCovered, IsDearer, IsLonger, NothingToAddIsCovered}
use Rattle.tomex_choices.specs.NewMachines.{greatest_units, grown, lacking, least_price, more_units, new_machines}
use Rattle.tomex_choices.specs.NewMachines.{options_at}
use Rattle.tomex_choices.specs.Passing.{Has}
use Rattle.tomex_choices.specs.Points.{IsCovered, row_of}
use Rattle.tomex_choices.specs.Savings.{is_as_good, is_of_use}
use Rattle.tomex_choices.specs.declared.new_machine.NewMachine.{NewMachine}
use Rattle.tomex_choices.proofs.Asked.{is_grown, is_more}
use Rattle.tomex_config.proofs.Within.{count_within, option_within, other_units, own_price}
use Rattle.tomex_choices.proofs.EnoughFrom.{any_from, from_range}
use Rattle.tomex_choices.proofs.Longer.{complete_is_complete, same_again}
use Rattle.tomex_choices.proofs.Members.{from_filter, from_map, has_either, has_left, least_has}
use Rattle.tomex_choices.proofs.Needed.{as_good, none_added, none_pass, origin_of}
use Rattle.tomex_choices.proofs.Passes.{contains_from, has_from}
use Rattle.tomex_choices.proofs.Points.{HasAsGood, front_kept}

-- if nothing is worth adding, rows cover each machine

pub none_is_covered : NothingToAddIsCovered
none_is_covered s part is none d within longer =
    let x = complete_is_complete s part d within longer in
    let r = as_good s part is x.0 (has_from (new_machines s part) x.0 x.1) in
    let cheap : r.0.cost ≤ x.0.cost = r.2 in
    let fast : r.0.cycles ≤ x.0.cycles = r.3 in
    let cost : x.0.cost ≤ cost_of d s.prices = x.2 in
    let cycles : x.0.cycles ≡ cycles_on s.programs d = x.3 in
    record {
      row = r.0;
      is_row = contains_from (all_rows s) r.0
          (subst (λ (rows : List FrontRow). Has rows r.0) (none_added s part none) r.1);
      cost = omega arith;
      cycles = omega (arith, cycles);
    }

-- each new machine is such a machine

low_or_none : (prices : List ℕ) (o : Option ℕ) → least prices ≡ o → ((n : ℕ) → Has prices n → n ≤ 1000000)
    → unwrap_or o 0 ≤ 1000000
low_or_none prices None is low = omega arith
low_or_none prices (Some n) is low = low n (least_has prices n is)

price_low : (rows : List Configuration) (unit : UnitId) (latency : ℕ)
    → ((c : Configuration) → Has rows c → IsWithinLimits c) → least_price rows unit latency ≤ 1000000
unfolding least_price
price_low rows unit latency limits =
    let most = filter (λ o. o.units == greatest_units rows unit latency) (options_at rows unit latency) in
    low_or_none (map (λ o. o.price) most) (least (map (λ o. o.price) most)) refl (λ n h.
    let o = from_map (λ o. o.price) most n h in
    let one = from_filter (λ o. o.units == greatest_units rows unit latency) (options_at rows unit latency) o.0 o.1 in
    let its = from_filter (λ o. o.latency == latency) (map (λ c. option_of c unit) rows) o.0 one.0 in
    let c = from_map (λ c. option_of c unit) rows o.0 its.0 in
    let own = own_price c.0 unit (limits c.0 c.1) in
    let same : (option_of c.0 unit).price ≡ n = ap (λ (a : UnitOption). a.price) c.2 ∙ o.2 in
    grind (arith, nat_tests))

grown_within : (rows : List Configuration) (part : Part) (c d : Configuration) (n : ℕ)
    → ((c : Configuration) → Has rows c → IsWithinLimits c) → Has rows c → 1 ≤ n → n ≤ most_of part
    → grown rows part c n ≡ Some d → IsWithinLimits d
grown_within rows (Stations pool) c d n limits row some few is =
    let high : n ≤ 16 = few in
    subst IsWithinLimits (is_grown (list_any (λ d. count_of d (Stations pool) == n) rows) is)
    (count_within c (Stations pool) n (limits c row) (grind (arith, nat_tests)))
grown_within rows (Units unit) c d n limits row some few is =
    let high : n ≤ most_units unit = few in
    let low = price_low rows unit (latency_of c unit) limits in
    subst IsWithinLimits (is_more (nat_lt (greatest_units rows unit (latency_of c unit)) n) is)
    (option_within c unit (more_units rows unit (latency_of c unit) n) (limits c row)
    (other_units c unit n (least_price rows unit (latency_of c unit)) (limits c row) (grind (arith, nat_tests))
    (grind (arith, nat_tests))))
grown_within rows Buses c d n limits row some few is =
    let high : n ≤ 8 = few in
    subst IsWithinLimits (is_grown (list_any (λ d. count_of d Buses == n) rows) is)
    (count_within c Buses n (limits c row) (grind (arith, nat_tests)))
grown_within rows Width c d n limits row some few is =
    let high : n ≤ 4 = few in
    subst IsWithinLimits (is_grown (list_any (λ d. count_of d Width == n) rows) is)
    (count_within c Width n (limits c row) (grind (arith, nat_tests)))

no_dearer : (part : Part) (e : Configuration) → IsDearer part e e
no_dearer (Stations pool) e = refl
no_dearer (Units unit) e = ((option_of e unit).price, omega arith, sym (same_again unit e))
no_dearer Buses e = refl
no_dearer Width e = refl

none_passes : {X : Type 0} (p : X → Bool) (xs : List X) → ((x : X) → Has xs x → p x ≡ false) → filter p xs ≡ []
none_passes p [] fails = refl
none_passes p (x ∷ xs) fails = rw (fails x (inl refl)) (none_passes p xs (λ y h. fails y (inr h)))

-- so if rows cover them none is of use
module _ (s : DesignSpace) (part : Part) (is : IsStudy s) (covered : AreLongerCovered s part) where
  is_covered : (x : NewMachine) → Has (new_machines s part) x → list_any (is_as_good x) (all_rows s) ≡ true
  is_covered x h =
      let o = origin_of s part x h in
      let range = from_range 1 (most_of part) o.number o.has_number in
      let some : 1 ≤ o.number = range.0 in
      let low : o.number < 1 + most_of part = range.1 in
      let few : o.number ≤ most_of part = omega arith in
      let within = grown_within s.rows part o.row o.config o.number
      (λ c i. All-contains IsWithinLimits s.rows c is.limits (contains_from s.rows c i)) o.has_row some few
      o.is_grown in
      let longer : IsLonger s part o.config = record {
        row = o.row;
        number = o.number;
        new = o.config;
        is_row = contains_from s.rows o.row o.has_row;
        some = some;
        few = few;
        is_grown = o.is_grown;
        dearer = no_dearer part o.config;
      } in
      let r = covered o.config within longer in
      let cost : cost_of o.config s.prices ≡ x.cost = ap (λ (m : NewMachine). m.cost) o.machine in
      let cycles : cycles_on s.programs o.config ≡ x.cycles = ap (λ (m : NewMachine). m.cycles) o.machine in
      let cheap : r.row.cost ≤ x.cost = (let l = r.cost in omega (arith, cost, l)) in
      let fast : r.row.cycles ≤ x.cycles = (let l = r.cycles in omega (arith, cycles, l)) in
      let good : is_as_good x r.row ≡ true = grind (arith, nat_tests) in
      any_from (is_as_good x) (all_rows s) r.row (has_from (all_rows s) r.row r.is_row) good

  none_useful : useful s part ≡ []
  unfolding useful
  none_useful =
      none_passes (is_of_use (all_rows s) (new_machines s part)) (new_machines s part)
      (λ x h. rw (is_covered x h) refl)

  pub nothing_added : additions s part ≡ []
  unfolding additions
  nothing_added =
      ap (λ (xs : List NewMachine). filter (λ c. list_any (has_entry part c) xs) (lacking s part)) none_useful
      ∙ none_pass (lacking s part)

pub covered_is_none : CoveredIsNothingToAdd
covered_is_none s part is covered = nothing_added s part is covered

-- machines that rows cover

module _ (s : DesignSpace) (ds : List Configuration)
    (covered : (d : Configuration) → Contains ds d → IsCovered s d) where
  rows_cover : (q : FrontRow) → Has (all_rows s ++ map (row_of s) ds) q → HasAsGood (all_rows s) q
  rows_cover q h = elim (has_either (all_rows s) (map (row_of s) ds) q h) [
    | inl a ↦ (q, a, omega arith, omega arith)
    | inr b ↦
        let d = from_map (row_of s) ds q b in
        let r = covered d.0 (contains_from ds d.0 d.1) in
        let costs : cost_of d.0 s.prices ≡ q.cost = ap (λ (w : FrontRow). w.cost) d.2 in
        let takes : cycles_on s.programs d.0 ≡ q.cycles = ap (λ (w : FrontRow). w.cycles) d.2 in
        let cheap = r.cost in
        let fast = r.cycles in
        (r.row, has_from (all_rows s) r.row r.is_row, omega (arith, costs, cheap), omega (arith, takes, fast))
  ]

pub no_points_added : CoveredMachinesAddNoPoints
no_points_added s ds covered =
    front_kept (all_rows s) (all_rows s ++ map (row_of s) ds)
    (λ r h. has_left (all_rows s) (map (row_of s) ds) r h) (rows_cover s ds covered)
