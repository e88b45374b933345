-- Of new machines those with a choice that is worth adding are all that is needed.
use Rattle.std.proofs.Common.{◌≡◌, ℕ, ◌+◌, ◌≤◌, ◌==◌, ◌&&◌, ◌||◌, arith, ap, sym, refl, subst, ◌∙◌, List, [], ◌∷◌}
use Rattle.std.proofs.Common.{Bool, true, false, not, inl, inr, ◌⊎◌, cond, map, Option, Some, None}
use Rattle.std.specs.Prelude.{nat_le, nat_lt}
use Rattle.std.specs.List.{filter, flat_map, list_any, range_with_len}
use Rattle.std.proofs.lemmas.Bool.{both_ways, cases_Bool, false_from_ne_true}
use Rattle.std.proofs.lemmas.Bool.Decides.{nat_tests}
use Rattle.std.proofs.lemmas.List.{append-nil, get_or-set_same}
use Rattle.std.proofs.lemmas.List.Elements.{All-contains}
use Rattle.tomex_rvdec.specs.Places.{place_of_pool, place_of_unit}
use Rattle.tomex_config.specs.Configuration.{Configuration, IsWithinLimits, plain_option, with_option}
use Rattle.tomex_config.specs.declared.config.UnitOption.{UnitOption}
use Rattle.tomex_config.specs.Configuration.{latency_of}
use Rattle.tomex_pareto.specs.declared.front_row.FrontRow.{FrontRow}
use Rattle.tomex_study.specs.Study.{DesignSpace, IsStudy}
use Rattle.tomex_study.specs.StudyFront.{all_rows}
use Rattle.tomex_config.specs.Parts.{count_of}
use Rattle.tomex_config.specs.declared.part.Part.{Part}
use Rattle.tomex_config.specs.declared.part.Part.TheVariants.{Stations, Units, Buses, Width}
use Rattle.tomex_choices.specs.Additions.{additions, has_entry, useful}
use Rattle.tomex_config.specs.Parts.{firsts, latency_in, most_of, same_latency}
use Rattle.tomex_choices.specs.Laws.{AdditionsSaveAsMuch, NothingToAddSavesNothing, added_machines}
use Rattle.tomex_choices.specs.NewMachines.{brought_by, configurations_if, greatest_units, grown, lacking, machine_if}
use Rattle.tomex_choices.specs.NewMachines.{machine_of, more_units, new_machines}
use Rattle.tomex_config.specs.Parts.{with_count}
use Rattle.tomex_choices.specs.Passing.{Has, IsUnbeaten}
use Rattle.tomex_choices.specs.Savings.{as_row, beats, complete, fewest, is_as_good, is_of_use}
use Rattle.tomex_choices.specs.declared.new_machine.NewMachine.{NewMachine}
use Rattle.tomex_rvdec.proofs.Places.{pool_low}
use Rattle.tomex_rvdec.proofs.Places.{unit_low}
use Rattle.tomex_choices.proofs.EnoughFrom.{any_at, any_from}
use Rattle.tomex_choices.proofs.Finding.{from_flat_map, has_flat_map}
use Rattle.tomex_choices.proofs.Members.{from_filter, from_map, has_either, has_filter, has_left, has_map, has_right}
use Rattle.tomex_choices.proofs.Members.{same_least}
use Rattle.tomex_choices.proofs.Passes.{contains_from}
use Rattle.tomex_choices.proofs.SameSavings.{bought, from_bought, has_bought}
use Rattle.tomex_choices.proofs.WeighedLists.{unbeaten_any}

-- for each new machine there is one that none beats, which costs no more and takes no more cycles: of those that are
-- so the one with the least sum, then number

abbrev comes_first : NewMachine → NewMachine → Bool
comes_first x y =
    nat_lt (x.cost + x.cycles) (y.cost + y.cycles)
    || (x.cost + x.cycles == y.cost + y.cycles && nat_lt x.number y.number)

itself : (x : NewMachine) → comes_first x x ≡ false
itself x = grind (arith, nat_tests)

earlier : (x y z : NewMachine) → comes_first y x ≡ true → comes_first y z ≡ false → comes_first x z ≡ false
earlier x y z e f = grind (arith, nat_tests)

no_earlier : (x y z : NewMachine) → comes_first x y ≡ false → comes_first y z ≡ false → comes_first x z ≡ false
no_earlier x y z e f = grind (arith, nat_tests)

-- one of those that pass, before or at m
pub record FirstOf (p : NewMachine → Bool) (m : NewMachine) (xs : List NewMachine) : Type 0 where
  pub one : NewMachine
  pub has : (m ≡ one) ⊎ Has xs one
  pub passes : p one ≡ true
  pub start : comes_first m one ≡ false
  pub first : (y : NewMachine) → Has xs y → p y ≡ true → comes_first y one ≡ false

first_of : (p : NewMachine → Bool) (m : NewMachine) (xs : List NewMachine) → p m ≡ true → FirstOf p m xs
first_of p m [] passes =
    record { one = m; has = inl refl; passes = passes; start = itself m; first = λ y h. absurd h }
first_of p m (x ∷ xs) passes = elim (cases_Bool (p x)) [
  | inl e ↦ elim (cases_Bool (comes_first x m)) [
    | inl t ↦ instead t (first_of p x xs e)
    | inr t ↦ keeps (λ q. t) (first_of p m xs passes)
  ]
  | inr e ↦ keeps (λ q. absurd (both_ways _ e q)) (first_of p m xs passes)
]
  where
    instead : comes_first x m ≡ true → FirstOf p x xs → FirstOf p m (x ∷ xs)
    instead t w = record {
      one = w.one;
      has = inr (elim w.has [ inl i ↦ inl i | inr h ↦ inr h ]);
      passes = w.passes;
      start = earlier m x w.one t w.start;
      first = λ y h q. elim h [
        | inl i ↦ subst (λ (z : NewMachine). comes_first z w.one ≡ false) i w.start
        | inr j ↦ w.first y j q
      ];
    }

    keeps : (p x ≡ true → comes_first x m ≡ false) → FirstOf p m xs → FirstOf p m (x ∷ xs)
    keeps t w = record {
      one = w.one;
      has = elim w.has [ inl i ↦ inl i | inr h ↦ inr (inr h) ];
      passes = w.passes;
      start = w.start;
      first = λ y h q. elim h [
        | inl i ↦
            subst (λ (z : NewMachine). comes_first z w.one ≡ false) i
            (no_earlier x m w.one (t (ap p i ∙ q)) w.start)
        | inr j ↦ w.first y j q
      ];
    }

abbrev is_no_worse : NewMachine → NewMachine → Bool
is_no_worse x y = nat_le y.cost x.cost && nat_le y.cycles x.cycles

-- one that none beats
pub record Unbeaten (new : List NewMachine) (x : NewMachine) : Type 0 where
  pub one : NewMachine
  pub has : Has new one
  pub free : IsUnbeaten new one
  pub cost : one.cost ≤ x.cost
  pub cycles : one.cycles ≤ x.cycles

beaten_first : (x y z : NewMachine) → is_no_worse x y ≡ true → beats y z ≡ true
    → (is_no_worse x z ≡ true) × (comes_first z y ≡ true)
beaten_first x y z e f = (grind (arith, nat_tests), grind (arith, nat_tests))

unbeaten_of : (new : List NewMachine) (x : NewMachine) → Has new x → Unbeaten new x
unbeaten_of new x h =
    let w = first_of (is_no_worse x) x new (grind (arith, nat_tests)) in
    let passes : is_no_worse x w.one ≡ true = w.passes in
    record {
      one = w.one;
      has = elim w.has [ inl i ↦ subst (Has new) i h | inr j ↦ j ];
      free = λ y i. false_from_ne_true _ (λ e.
          let b = beaten_first x w.one y passes e in
          both_ways _ (w.first y i b.0) b.1);
      cost = grind (arith, nat_tests);
      cycles = grind (arith, nat_tests);
    }

-- the choice of a new machine that is of use is worth adding

same_too : (part : Part) (a b c : Configuration) → same_latency part a b ≡ true → same_latency part b c ≡ true
    → same_latency part a c ≡ true
same_too part a b c e f = grind (arith, nat_tests)

own_latency : (part : Part) (a : Configuration) → same_latency part a a ≡ true
own_latency part a = grind (arith, nat_tests)

-- a first row with a row's latency
first_with : (part : Part) (rows : List Configuration) (c : Configuration) → Has rows c
    → (d : Configuration) × Has (firsts (same_latency part) rows) d × Has rows d × (same_latency part d c ≡ true)
first_with part [] c h = absurd h
first_with part (r ∷ rows) c (inl e) =
    (r, inl refl, inl refl, subst (λ (d : Configuration). same_latency part r d ≡ true) e (own_latency part r))
first_with part (r ∷ rows) c (inr h) =
    let w = first_with part rows c h in
    elim (cases_Bool (same_latency part r w.0)) [
      | inl e ↦ (r, inl refl, inl refl, same_too part r w.0 c e w.3)
      | inr e ↦ (
        w.0,
        inr (has_filter (λ d. not (same_latency part r d)) (firsts (same_latency part) rows) w.0 w.1 (ap not e)),
        inr w.2,
        w.3,
      )
    ]

-- with that it has the same entry
abbrev HasGrown : List Configuration → Part → Configuration → Configuration → ℕ → Type 0
HasGrown rows part a d n =
    (e : Configuration) × (grown rows part a n ≡ Some e) × (count_of e part ≡ n)
    × (latency_in part e ≡ latency_in part d)

not_grown : (b : Bool) (d e : Configuration) → cond b None (Some d) ≡ Some e → b ≡ false
not_grown true d e is = absurd (let f : None ≡ Some e = is in cc)
not_grown false d e is = refl

is_less : (b : Bool) (d e : Configuration) → cond b (Some d) None ≡ Some e → (b ≡ true) × (d ≡ e)
is_less true d e s = (refl, let f : Some d ≡ Some e = s in cc)
is_less false d e s = absurd (let f : None ≡ Some e = s in cc)

grown_too : (rows : List Configuration) (part : Part) (a c d : Configuration) (n : ℕ) → IsWithinLimits a
    → IsWithinLimits c → same_latency part a c ≡ true → grown rows part c n ≡ Some d → HasGrown rows part a d n
grown_too rows (Stations pool) a c d n within other same is =
    let none = not_grown (list_any (λ x. count_of x (Stations pool) == n) rows) (with_count c (Stations pool) n) d is in
    let low = pool_low pool in
    let pools = within.pools in (
      with_count a (Stations pool) n,
      rw none refl,
      get_or-set_same a.stations (place_of_pool pool) n 0 (omega arith),
      refl,
    )
grown_too rows (Units unit) a c d n within other same is =
    let latency : latency_of a unit ≡ latency_of c unit = grind (arith, nat_tests) in
    let w = is_less (nat_lt (greatest_units rows unit (latency_of c unit)) n)
    (with_option unit c (more_units rows unit (latency_of c unit) n)) d is in
    let more : nat_lt (greatest_units rows unit (latency_of a unit)) n ≡ true =
    ap (λ (l : ℕ). nat_lt (greatest_units rows unit l) n) latency ∙ w.0 in
    let low = unit_low unit in
    let kinds = within.kinds in
    let others = other.kinds in
    let own : UnitOption = more_units rows unit (latency_of a unit) n in
    let its : UnitOption = more_units rows unit (latency_of c unit) n in (
      with_option unit a own,
      rw more refl,
      ap (λ (o : UnitOption). o.units)
          (get_or-set_same a.units (place_of_unit unit) own plain_option (omega arith)),
      ap (λ (o : UnitOption). o.latency)
          (get_or-set_same a.units (place_of_unit unit) own plain_option (omega arith))
          ∙ (latency
          ∙ (sym (ap (λ (o : UnitOption). o.latency)
          (get_or-set_same c.units (place_of_unit unit) its plain_option (omega arith)))
          ∙ ap (λ (x : Configuration). latency_of x unit) w.1)),
    )
grown_too rows Buses a c d n within other same is =
    let none = not_grown (list_any (λ x. count_of x Buses == n) rows) (with_count c Buses n) d is in
    (with_count a Buses n, rw none refl, refl, refl)
grown_too rows Width a c d n within other same is =
    let none = not_grown (list_any (λ x. count_of x Width == n) rows) (with_count c Width n) d is in
    (with_count a Width n, rw none refl, refl, refl)

-- where a new machine comes from
pub record Origin (s : DesignSpace) (part : Part) (x : NewMachine) : Type 0 where
  pub row : Configuration
  pub number : ℕ
  pub config : Configuration
  pub has_row : Has s.rows row
  pub has_number : Has (range_with_len 1 (most_of part)) number
  pub is_grown : grown s.rows part row number ≡ Some config
  pub machine : machine_of s part number config ≡ x

origin_if : (s : DesignSpace) (part : Part) (n : ℕ) (o : Option Configuration) (x : NewMachine)
    → Has (machine_if s part n o) x → (d : Configuration) × (o ≡ Some d) × (machine_of s part n d ≡ x)
origin_if s part n None x h = absurd h
origin_if s part n (Some d) x (inl e) = (d, refl, e)
origin_if s part n (Some d) x (inr h) = absurd h

pub origin_of : (s : DesignSpace) (part : Part) (x : NewMachine) → Has (new_machines s part) x → Origin s part x
unfolding new_machines brought_by
origin_of s part x h =
    let w = from_flat_map (brought_by s part) s.rows x h in
    let v = from_flat_map (λ n. machine_if s part n (grown s.rows part w.0 n)) (range_with_len 1 (most_of part)) x
    w.2 in
    let o = origin_if s part v.0 (grown s.rows part w.0 v.0) x v.2 in
    record {
      row = w.0;
      number = v.0;
      config = o.0;
      has_row = w.1;
      has_number = v.1;
      is_grown = o.1;
      machine = o.2;
    }

-- a choice that the list lacks, with the machine's entry
lacks : (s : DesignSpace) (part : Part) (x : NewMachine) → IsStudy s → Origin s part x
    → (e : Configuration) × Has (lacking s part) e × (has_entry part e x ≡ true)
unfolding lacking
lacks s part x is o =
    let limits = λ (c : Configuration) (h : Has s.rows c).
    All-contains IsWithinLimits s.rows c is.limits (contains_from s.rows c h) in
    let f = first_with part s.rows o.row o.has_row in
    let g = grown_too s.rows part f.0 o.row o.config o.number (limits f.0 f.2) (limits o.row o.has_row) f.3
    o.is_grown in
    let here : Has (configurations_if (grown s.rows part f.0 o.number)) g.0 =
    subst (λ (z : Option Configuration). Has (configurations_if z) g.0) (sym g.1) (inl refl) in
    let number : x.number ≡ o.number = ap (λ (m : NewMachine). m.number) (sym o.machine) in
    let latency : x.latency ≡ latency_in part o.config = ap (λ (m : NewMachine). m.latency) (sym o.machine) in
    let count : count_of g.0 part ≡ o.number = g.2 in
    let same : latency_in part g.0 ≡ latency_in part o.config = g.3 in (
      g.0,
      has_flat_map (λ c. flat_map (λ n. configurations_if (grown s.rows part c n)) (range_with_len 1 (most_of part)))
          (firsts (same_latency part) s.rows) f.0 g.0 f.1
          (has_flat_map (λ n. configurations_if (grown s.rows part f.0 n)) (range_with_len 1 (most_of part)) o.number
          g.0 o.has_number here),
      grind (arith, nat_tests),
    )

useful_added : (s : DesignSpace) (part : Part) (x : NewMachine) → IsStudy s → Has (new_machines s part) x
    → is_of_use (all_rows s) (new_machines s part) x ≡ true → Has (added_machines s part) x
unfolding additions useful
useful_added s part x is h helps =
    let e = lacks s part x is (origin_of s part x h) in
    let of_use : Has (useful s part) x =
    has_filter (is_of_use (all_rows s) (new_machines s part)) (new_machines s part) x h helps in
    let added : Has (additions s part) e.0 =
    has_filter (λ c. list_any (has_entry part c) (useful s part)) (lacking s part) e.0 e.1
    (any_from (has_entry part e.0) (useful s part) x of_use e.2) in
    has_filter (λ x. list_any (λ c. has_entry part c x) (additions s part)) (new_machines s part) x h
    (any_from (λ c. has_entry part c x) (additions s part) e.0 added e.2)

-- so each new machine has a row or an added machine that is as good
module _ (s : DesignSpace) (part : Part) (is : IsStudy s) where
  abbrev new : List NewMachine
  new = new_machines s part

  abbrev those : List FrontRow
  those = complete (all_rows s) (added_machines s part)

  pub as_good : (x : NewMachine) → Has new x → (r : FrontRow) × Has those r × (r.cost ≤ x.cost) × (r.cycles ≤ x.cycles)
  as_good x h =
      let y = unbeaten_of new x h in
      let cheap = y.cost in
      let fast = y.cycles in
      elim (cases_Bool (list_any (is_as_good y.one) (all_rows s))) [
        | inl e ↦
            let w = any_at (is_as_good y.one) (all_rows s) e in
            let good : is_as_good y.one w.0 ≡ true = w.2 in
            let cost : w.0.cost ≤ y.one.cost = grind (arith, nat_tests) in
            let cycles : w.0.cycles ≤ y.one.cycles = grind (arith, nat_tests) in
            (w.0, has_left (all_rows s) (map as_row (added_machines s part)) w.0 w.1, omega arith, omega arith)
        | inr e ↦
            let free = unbeaten_any new y.one y.free in
            let helps : is_of_use (all_rows s) new y.one ≡ true = rw (e, free) refl in (
              as_row y.one,
              has_right (all_rows s) (map as_row (added_machines s part)) (as_row y.one)
                  (has_map as_row (added_machines s part) y.one (useful_added s part y.one is y.has helps)),
              cheap,
              fast,
            )
      ]

  fewer : (cost n : ℕ) → Has (bought (complete (all_rows s) new) cost) n → (m : ℕ) × Has (bought those cost) m × (m ≤ n)
  fewer cost n h =
      let w = from_bought (complete (all_rows s) new) cost n h in
      let low : w.0.cost ≤ cost = w.2 in
      let cycles : w.0.cycles ≡ n = w.3 in
      elim (has_either (all_rows s) (map as_row new) w.0 w.1) [
        | inl a ↦ (
          w.0.cycles,
          has_bought those cost w.0 (has_left (all_rows s) (map as_row (added_machines s part)) w.0 a) low,
          omega (arith, cycles),
        )
        | inr b ↦
            let x = from_map as_row new w.0 b in
            let r = as_good x.0 x.1 in
            let costs : x.0.cost ≡ w.0.cost = ap (λ (q : FrontRow). q.cost) x.2 in
            let takes : x.0.cycles ≡ w.0.cycles = ap (λ (q : FrontRow). q.cycles) x.2 in
            let cheap : r.0.cost ≤ x.0.cost = r.2 in
            let fast : r.0.cycles ≤ x.0.cycles = r.3 in
            (r.0.cycles, has_bought those cost r.0 r.1 (omega (arith, costs)), omega (arith, takes, cycles))
      ]

  no_fewer : (cost m : ℕ) → Has (bought those cost) m
      → (n : ℕ) × Has (bought (complete (all_rows s) new) cost) n × (n ≤ m)
  no_fewer cost m h =
      let w = from_bought those cost m h in
      let cycles : w.0.cycles ≡ m = w.3 in
      elim (has_either (all_rows s) (map as_row (added_machines s part)) w.0 w.1) [
        | inl a ↦ (
          w.0.cycles,
          has_bought (complete (all_rows s) new) cost w.0 (has_left (all_rows s) (map as_row new) w.0 a) w.2,
          omega (arith, cycles),
        )
        | inr b ↦
            let x = from_map as_row (added_machines s part) w.0 b in
            let one = from_filter (λ x. list_any (λ c. has_entry part c x) (additions s part)) new x.0 x.1 in
            let in_new : Has (map as_row new) w.0 = subst (Has (map as_row new)) x.2 (has_map as_row new x.0 one.0) in (
              w.0.cycles,
              has_bought (complete (all_rows s) new) cost w.0 (has_right (all_rows s) (map as_row new) w.0 in_new) w.2,
              omega (arith, cycles),
            )
      ]

  pub same_fewest : (cost : ℕ) → fewest those cost ≡ fewest (complete (all_rows s) new) cost
  same_fewest cost =
      sym (same_least (bought (complete (all_rows s) new) cost) (bought those cost) (fewer cost) (no_fewer cost))

pub these_save_as_much : AdditionsSaveAsMuch
these_save_as_much s part cost is = same_fewest s part is cost

pub none_pass : {X : Type 0} (xs : List X) → filter (λ x. false) xs ≡ []
none_pass [] = refl
none_pass (x ∷ xs) = none_pass xs

pub none_added : (s : DesignSpace) (part : Part) → additions s part ≡ []
    → complete (all_rows s) (added_machines s part) ≡ all_rows s
none_added s part none =
    let no_machines : added_machines s part ≡ [] =
    ap (λ (cs : List Configuration). filter (λ x. list_any (λ c. has_entry part c x) cs) (new_machines s part)) none
    ∙ none_pass (new_machines s part) in
    ap (λ (xs : List NewMachine). complete (all_rows s) xs) no_machines ∙ append-nil (all_rows s)

pub nothing_saved : NothingToAddSavesNothing
nothing_saved s part cost is none =
    sym (same_fewest s part is cost) ∙ ap (λ (rows : List FrontRow). fewest rows cost) (none_added s part none)
