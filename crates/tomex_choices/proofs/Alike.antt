-- Rows that are alike in all lists except one bring that list the same new machines.
use Rattle.std.proofs.Common.{◌≡◌, ◌≢◌, ℕ, zero, suc, ◌<◌, ◌==◌, ◌+◌, arith, ap, sym, refl, subst, ◌∙◌, List, [], ◌∷◌}
use Rattle.std.proofs.Common.{Bool, true, cond, inl, inr, length, get_or, Some, None}
use Rattle.std.specs.Prelude.{nat_lt, ◌≤◌}
use Rattle.std.specs.List.{filter, flat_map, list_any, range_with_len}
use Rattle.std.proofs.Math.ListN.{set, length-set}
use Rattle.std.proofs.lemmas.Bool.{cases_Bool}
use Rattle.std.proofs.lemmas.Bool.Decides.{nat_tests}
use Rattle.std.proofs.lemmas.List.{ext_get_or, get_or-set_other, get_or-set_same}
use Rattle.tomex_rvdec.proofs.Places.{pool_low, unit_low}
use Rattle.tomex_rvdec.specs.Places.{place_of_pool, place_of_unit}
use Rattle.tomex_rvdec.specs.declared.pool.PoolId.{PoolId}
use Rattle.tomex_rvdec.specs.declared.pool.PoolId.TheVariants as pools
use Rattle.tomex_rvdec.specs.declared.pool.UnitId.{UnitId}
use Rattle.tomex_rvdec.specs.declared.pool.UnitId.TheVariants as units
use Rattle.tomex_config.specs.Configuration.{Configuration, IsWithinLimits, option_of, plain_option, same_option}
use Rattle.tomex_config.specs.Configuration.{config_of, is_between, with_option}
use Rattle.tomex_config.specs.declared.config.UnitOption.{UnitOption}
use Rattle.tomex_config.specs.Configuration.{latency_of}
use Rattle.tomex_study.specs.Program.{Workload}
use Rattle.tomex_study.specs.Study.{DesignSpace}
use Rattle.tomex_config.specs.Parts.{count_of}
use Rattle.tomex_timing.specs.Run.{total}
use Rattle.tomex_config.specs.declared.part.Part.{Part}
use Rattle.tomex_config.specs.declared.part.Part.TheVariants.{Stations, Units, Buses, Width}
use Rattle.tomex_config.specs.Parts.{part_at, same_entry}
use Rattle.tomex_choices.specs.Asking.{are_alike, are_alike_in, changes_at, last_change}
use Rattle.tomex_config.specs.Parts.{latency_in, most_of, same_latency}
use Rattle.tomex_choices.specs.Enough.{total_with}
use Rattle.tomex_survey.specs.Extremes.{greatest}
use Rattle.tomex_choices.specs.NewMachines.{brought_by, greatest_units, grown, machine_if, more_units}
use Rattle.tomex_config.specs.Parts.{with_count}
use Rattle.tomex_choices.specs.Passing.{Has}
use Rattle.tomex_config.proofs.Within.{count_within}
use Rattle.tomex_choices.proofs.EnoughFrom.{all_at, from_range, in_range}
use Rattle.tomex_choices.proofs.SameTotals.{same_total}

-- a part's place

abbrev pub place_of : Part → ℕ
place_of (Stations pool) = place_of_pool pool
place_of (Units unit) = 6 + place_of_unit unit
place_of Buses = 11
place_of Width = 12

pub at_place : (part : Part) → part_at (place_of part) ≡ part
at_place (Stations pools.Alu) = refl
at_place (Stations pools.Mul) = refl
at_place (Stations pools.Div) = refl
at_place (Stations pools.Load) = refl
at_place (Stations pools.Store) = refl
at_place (Stations pools.Bru) = refl
at_place (Units units.Alu) = refl
at_place (Units units.Mul) = refl
at_place (Units units.Div) = refl
at_place (Units units.Mem) = refl
at_place (Units units.Bru) = refl
at_place Buses = refl
at_place Width = refl

place_low : (part : Part) → place_of part < 13
place_low (Stations pool) = let l = pool_low pool in omega arith
place_low (Units unit) = let l = unit_low unit in omega arith
place_low Buses = omega arith
place_low Width = omega arith

pool_at : (k : ℕ) → k < 6 → (pool : PoolId) × (place_of_pool pool ≡ k)
pool_at zero low = (pools.Alu, refl)
pool_at (suc zero) low = (pools.Mul, refl)
pool_at (suc (suc zero)) low = (pools.Div, refl)
pool_at (suc (suc (suc zero))) low = (pools.Load, refl)
pool_at (suc (suc (suc (suc zero)))) low = (pools.Store, refl)
pool_at (suc (suc (suc (suc (suc zero))))) low = (pools.Bru, refl)
pool_at (suc (suc (suc (suc (suc (suc k)))))) low = absurd (omega arith)

unit_at : (k : ℕ) → k < 5 → (unit : UnitId) × (place_of_unit unit ≡ k)
unit_at zero low = (units.Alu, refl)
unit_at (suc zero) low = (units.Mul, refl)
unit_at (suc (suc zero)) low = (units.Div, refl)
unit_at (suc (suc (suc zero))) low = (units.Mem, refl)
unit_at (suc (suc (suc (suc zero)))) low = (units.Bru, refl)
unit_at (suc (suc (suc (suc (suc k))))) low = absurd (omega arith)

pub places : (place : ℕ) → place < 13 → place_of (part_at place) ≡ place
places zero low = refl
places (suc zero) low = refl
places (suc (suc zero)) low = refl
places (suc (suc (suc zero))) low = refl
places (suc (suc (suc (suc zero)))) low = refl
places (suc (suc (suc (suc (suc zero))))) low = refl
places (suc (suc (suc (suc (suc (suc zero)))))) low = refl
places (suc (suc (suc (suc (suc (suc (suc zero))))))) low = refl
places (suc (suc (suc (suc (suc (suc (suc (suc zero)))))))) low = refl
places (suc (suc (suc (suc (suc (suc (suc (suc (suc zero))))))))) low = refl
places (suc (suc (suc (suc (suc (suc (suc (suc (suc (suc zero)))))))))) low = refl
places (suc (suc (suc (suc (suc (suc (suc (suc (suc (suc (suc zero))))))))))) low = refl
places (suc (suc (suc (suc (suc (suc (suc (suc (suc (suc (suc (suc zero)))))))))))) low = refl
places (suc (suc (suc (suc (suc (suc (suc (suc (suc (suc (suc (suc (suc k))))))))))))) low = absurd (omega arith)

abbrev option : ℕ → ℕ → ℕ → UnitOption
option u l c = record { units = u; latency = l; price = c }

equal_options : (o p : UnitOption) → o.units ≡ p.units → o.latency ≡ p.latency → o.price ≡ p.price → o ≡ p
equal_options o p u l c =
    let f : option o.units o.latency o.price ≡ option p.units p.latency p.price = rw (u, l, c) refl in f

-- lists that are the same except for one item, which is replaced

same_items : {X : Type 0} (d : X) (xs ys : List X) (k : ℕ) (x : X) → length xs ≡ length ys → k < length xs
    → ((j : ℕ) → j < length xs → j ≢ k → get_or xs j d ≡ get_or ys j d) → set xs k x ≡ set ys k x
same_items d xs ys k x long low same =
    let many = length-set xs k x in
    let more = length-set ys k x in
    ext_get_or d (set xs k x) (set ys k x) (omega (arith, many, more, long)) (λ j small. elim (cases_Bool (j == k)) [
      | inl e ↦
          let at : j ≡ k = grind (arith, nat_tests) in
          subst (λ (n : ℕ). get_or (set xs k x) n d ≡ get_or (set ys k x) n d) (sym at)
          (get_or-set_same xs k x d low ∙ sym (get_or-set_same ys k x d (omega (arith, long))))
      | inr e ↦
          let apart : j ≢ k = λ at. grind (arith, nat_tests) in
          get_or-set_other xs k j x d apart
          ∙ (same j (omega (arith, many)) apart ∙ sym (get_or-set_other ys k j x d apart))
    ])

-- tests and lists that agree

same_flat_map : {X Y : Type 0} (f g : X → List Y) (xs : List X) → ((x : X) → f x ≡ g x) → flat_map f xs ≡ flat_map g xs
same_flat_map f g [] same = refl
same_flat_map f g (x ∷ xs) same = rw (same x, same_flat_map f g xs same) refl

same_any : {X : Type 0} (p q : X → Bool) (xs : List X) → ((x : X) → p x ≡ q x) → list_any p xs ≡ list_any q xs
same_any p q [] same = refl
same_any p q (x ∷ xs) same = rw (same x, same_any p q xs same) refl

same_filter : {X : Type 0} (p q : X → Bool) (xs : List X) → ((x : X) → Has xs x → p x ≡ q x) → filter p xs ≡ filter q xs
same_filter p q [] same = refl
same_filter p q (x ∷ xs) same = rw (same x (inl refl), same_filter p q xs (λ y h. same y (inr h))) refl

-- what rows that are alike have in common

module _ (place : ℕ) (a b : Configuration) (alike : are_alike place a b ≡ true) (low : place < 13) where
  alike_at : (k : ℕ) → k < 13 → are_alike_in place a b k ≡ true
  unfolding are_alike
  alike_at k small = all_at (are_alike_in place a b) (range_with_len 0 13) k alike (in_range 0 13 k (omega arith) small)

  other_entry : (part : Part) → place_of part ≢ place → same_entry a b part ≡ true
  other_entry part apart =
      let e = alike_at (place_of part) (place_low part) in
      elim (cases_Bool (place_of part == place)) [
        | inl t ↦ absurd (apart (grind (arith, nat_tests)))
        | inr t ↦
            let f : same_entry a b (part_at (place_of part)) ≡ true =
            subst (λ (z : Bool). cond z (same_latency (part_at (place_of part)) a b)
            (same_entry a b (part_at (place_of part))) ≡ true) t e in
            subst (λ (p : Part). same_entry a b p ≡ true) (at_place part) f
      ]

  own_latency : latency_in (part_at place) a ≡ latency_in (part_at place) b
  own_latency =
      let e = alike_at place low in
      let t : (place == place) ≡ true = grind (arith, nat_tests) in
      let f : same_latency (part_at place) a b ≡ true =
      subst (λ (z : Bool). cond z (same_latency (part_at place) a b) (same_entry a b (part_at place)) ≡ true) t e in
      grind (arith, nat_tests)

  other_count : (part : Part) → place_of part ≢ place → count_of a part ≡ count_of b part
  other_count (Stations pool) apart = let e = other_entry (Stations pool) apart in grind (arith, nat_tests)
  other_count (Units unit) apart = let e = other_entry (Units unit) apart in grind (arith, nat_tests)
  other_count Buses apart = let e = other_entry Buses apart in grind (arith, nat_tests)
  other_count Width apart = let e = other_entry Width apart in grind (arith, nat_tests)

  other_option : (unit : UnitId) → place_of (Units unit) ≢ place → option_of a unit ≡ option_of b unit
  other_option unit apart =
      let e : same_option (option_of a unit) (option_of b unit) ≡ true = other_entry (Units unit) apart in
      equal_options (option_of a unit) (option_of b unit) (grind (arith, nat_tests)) (grind (arith, nat_tests))
      (grind (arith, nat_tests))

  module _ (one : IsWithinLimits a) (other : IsWithinLimits b) where
    stations_long : length a.stations ≡ length b.stations
    stations_long = let m = one.pools in let n = other.pools in omega (arith, m, n)

    units_long : length a.units ≡ length b.units
    units_long = let m = one.kinds in let n = other.kinds in omega (arith, m, n)

    station_at : (j : ℕ) → j < 6 → j ≢ place → get_or a.stations j 0 ≡ get_or b.stations j 0
    station_at j small apart =
        let p = pool_at j small in
        subst (λ (n : ℕ). get_or a.stations n 0 ≡ get_or b.stations n 0) p.1
        (other_count (Stations p.0) (λ at. apart (sym p.1 ∙ at)))

    option_at : (j : ℕ) → j < 5 → 6 + j ≢ place → get_or a.units j plain_option ≡ get_or b.units j plain_option
    option_at j small apart =
        let u = unit_at j small in
        subst (λ (n : ℕ). get_or a.units n plain_option ≡ get_or b.units n plain_option) u.1
        (other_option u.0 (λ at. apart (ap (λ (n : ℕ). 6 + n) (sym u.1) ∙ at)))

    all_stations : 6 ≤ place → a.stations ≡ b.stations
    all_stations high = ext_get_or 0 a.stations b.stations stations_long
        (λ j small. station_at j (let n = one.pools in omega (arith, n)) (λ at. omega (arith, at, small, one.pools)))

    all_options : place < 6 → a.units ≡ b.units
    all_options less = ext_get_or plain_option a.units b.units units_long
        (λ j small. option_at j (let n = one.kinds in omega (arith, n)) (λ at. omega (arith, at)))

    late_options : 11 ≤ place → a.units ≡ b.units
    late_options high = ext_get_or plain_option a.units b.units units_long
        (λ j small. option_at j (let n = one.kinds in omega (arith, n)) (λ at. omega (arith, at, small, one.kinds)))

    -- with the same entry in the list they are the same

    same_option_in : (unit : UnitId) → place ≡ place_of (Units unit) → (o : UnitOption)
        → with_option unit a o ≡ with_option unit b o
    same_option_in unit at o =
        let l = unit_low unit in
        let stations = all_stations (omega (arith, at)) in
        let options : set a.units (place_of_unit unit) o ≡ set b.units (place_of_unit unit) o =
        same_items plain_option a.units b.units (place_of_unit unit) o units_long
        (let n = one.kinds in omega (arith, n))
        (λ j small apart. option_at j (let n = one.kinds in omega (arith, n)) (λ e. apart (omega (arith, e, at)))) in
        let buses : a.buses ≡ b.buses = other_count Buses (λ e. omega (arith, e, at, l)) in
        let width : a.width ≡ b.width = other_count Width (λ e. omega (arith, e, at, l)) in
        let f : config_of a.stations (set a.units (place_of_unit unit) o) a.buses a.width
        ≡ config_of b.stations (set b.units (place_of_unit unit) o) b.buses b.width =
        rw (stations, options, buses, width) refl in
        f

    same_count_in : (part : Part) → place ≡ place_of part → ((unit : UnitId) → part ≢ Units unit) → (n : ℕ)
        → with_count a part n ≡ with_count b part n
    same_count_in (Units unit) at none n = absurd (none unit refl)
    same_count_in (Stations pool) at none n =
        let l = pool_low pool in
        let stations : set a.stations (place_of_pool pool) n ≡ set b.stations (place_of_pool pool) n =
        same_items 0 a.stations b.stations (place_of_pool pool) n stations_long
        (let m = one.pools in omega (arith, m))
        (λ j small apart. station_at j (let m = one.pools in omega (arith, m)) (λ e. apart (e ∙ at))) in
        let options = all_options (omega (arith, at)) in
        let buses : a.buses ≡ b.buses = other_count Buses (λ e. omega (arith, e, at, l)) in
        let width : a.width ≡ b.width = other_count Width (λ e. omega (arith, e, at, l)) in
        let f : config_of (set a.stations (place_of_pool pool) n) a.units a.buses a.width
        ≡ config_of (set b.stations (place_of_pool pool) n) b.units b.buses b.width =
        rw (stations, options, buses, width) refl in
        f
    same_count_in Buses at none n =
        let stations = all_stations (omega (arith, at)) in
        let options = late_options (omega (arith, at)) in
        let width : a.width ≡ b.width = other_count Width (λ e. omega (arith, e, at)) in
        let f : config_of a.stations a.units n a.width ≡ config_of b.stations b.units n b.width =
        rw (stations, options, width) refl in f
    same_count_in Width at none n =
        let stations = all_stations (omega (arith, at)) in
        let options = late_options (omega (arith, at)) in
        let buses : a.buses ≡ b.buses = other_count Buses (λ e. omega (arith, e, at)) in
        let f : config_of a.stations a.units a.buses n ≡ config_of b.stations b.units b.buses n =
        rw (stations, options, buses) refl in f

    same_grown : (rows : List Configuration) (part : Part) → part_at place ≡ part → (n : ℕ)
        → grown rows part a n ≡ grown rows part b n
    same_grown rows (Units unit) is n =
        let at : place ≡ place_of (Units unit) = sym (places place low) ∙ ap place_of is in
        let latency : latency_of a unit ≡ latency_of b unit =
        subst (λ (p : Part). latency_in p a ≡ latency_in p b) is own_latency in
        ap (λ (l : ℕ). cond (nat_lt (greatest_units rows unit l) n)
        (Some (with_option unit a (more_units rows unit l n))) None)
        latency
        ∙ ap (λ (c : Configuration). cond (nat_lt (greatest_units rows unit (latency_of b unit)) n) (Some c) None)
        (same_option_in unit at (more_units rows unit (latency_of b unit) n))
    same_grown rows (Stations pool) is n =
        ap (λ (c : Configuration). cond (list_any (λ d. count_of d (Stations pool) == n) rows) None (Some c))
        (same_count_in (Stations pool) (sym (places place low) ∙ ap place_of is) (λ unit e. cc) n)
    same_grown rows Buses is n =
        ap (λ (c : Configuration). cond (list_any (λ d. count_of d Buses == n) rows) None (Some c))
        (same_count_in Buses (sym (places place low) ∙ ap place_of is) (λ unit e. cc) n)
    same_grown rows Width is n =
        ap (λ (c : Configuration). cond (list_any (λ d. count_of d Width == n) rows) None (Some c))
        (same_count_in Width (sym (places place low) ∙ ap place_of is) (λ unit e. cc) n)

    pub same_brought : (s : DesignSpace) → brought_by s (part_at place) a ≡ brought_by s (part_at place) b
    unfolding brought_by
    same_brought s = same_flat_map _ _ (range_with_len 1 (most_of (part_at place)))
        (λ n. ap (machine_if s (part_at place) n) (same_grown s.rows (part_at place) refl n))

    same_total_with : (part : Part) → part_at place ≡ part → (p : Workload) (n : ℕ)
        → is_between 1 (most_of part) n ≡ true
        → total_with a part p n ≡ total_with b part p n
    same_total_with (Units unit) is p n fits =
        let at : place ≡ place_of (Units unit) = sym (places place low) ∙ ap place_of is in
        let latency : latency_of b unit ≡ latency_of a unit =
        sym (subst (λ (p : Part). latency_in p a ≡ latency_in p b) is own_latency) in
        let o : UnitOption = option n (latency_of b unit) (option_of b unit).price in
        let q : UnitOption = option n (latency_of a unit) (option_of a unit).price in
        let same : with_option unit a o ≡ with_option unit b o = same_option_in unit at o in
        let within : IsWithinLimits (with_option unit a o) =
        subst IsWithinLimits (sym same) (count_within b (Units unit) n other fits) in
        sym (same_total a unit q o one.kinds refl latency p.image (count_within a (Units unit) n one fits) within)
        ∙ ap (λ (c : Configuration). total c p.image) same
    same_total_with (Stations pool) is p n fits =
        ap (λ (c : Configuration). total c p.image)
        (same_count_in (Stations pool) (sym (places place low) ∙ ap place_of is) (λ unit e. cc) n)
    same_total_with Buses is p n fits =
        ap (λ (c : Configuration). total c p.image)
        (same_count_in Buses (sym (places place low) ∙ ap place_of is) (λ unit e. cc) n)
    same_total_with Width is p n fits =
        ap (λ (c : Configuration). total c p.image)
        (same_count_in Width (sym (places place low) ∙ ap place_of is) (λ unit e. cc) n)

    same_changes : (programs : List Workload) (n : ℕ) → 1 ≤ n → n ≤ most_of (part_at place)
        → changes_at programs (part_at place) a n ≡ changes_at programs (part_at place) b n
    same_changes programs n some few =
        let most : 1 ≤ most_of (part_at place) = omega arith in
        same_any _ _ programs (λ p.
        let x = same_total_with (part_at place) refl p n (grind (arith, nat_tests)) in
        let y = same_total_with (part_at place) refl p (most_of (part_at place)) (grind (arith, nat_tests)) in
        rw (x, y) refl)

    pub same_change : (programs : List Workload)
        → last_change programs (part_at place) a ≡ last_change programs (part_at place) b
    unfolding last_change
    same_change programs =
        ap greatest (same_filter _ _ (range_with_len 1 (most_of (part_at place))) (λ n h.
        let r = from_range 1 (most_of (part_at place)) n h in
        let l : 1 ≤ n = r.0 in
        let m : n < 1 + most_of (part_at place) = r.1 in
        same_changes programs n l (omega arith)))
