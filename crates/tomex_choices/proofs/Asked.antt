-- One number of a part is asked, and all of them.
use Rattle.std.proofs.Common.{◌≡◌, ℕ, suc, ◌+◌, ◌==◌, arith, ap, sym, refl, subst, ◌∙◌, List, []}
use Rattle.std.proofs.Common.{◌∷◌}
use Rattle.std.proofs.Common.{Bool, true, false, inl, inr, ◌⊎◌, cond, length, Option, Some, None}
use Rattle.std.specs.Prelude.{max, nat_lt}
use Rattle.std.specs.List.{filter, flat_map, list_any, range_with_len}
use Rattle.std.proofs.lemmas.Bool.{cases_Bool}
use Rattle.std.proofs.lemmas.List.{length-map}
use Rattle.tomex_config.specs.Configuration.{Configuration, IsWithinLimits, option_of, with_option}
use Rattle.tomex_config.specs.Configuration.{latency_of}
use Rattle.tomex_study.specs.Cycles.{totals_on}
use Rattle.tomex_study.specs.Program.{Workload}
use Rattle.tomex_study.specs.Study.{DesignSpace}
use Rattle.tomex_config.specs.Parts.{count_of}
use Rattle.tomex_timing.specs.Run.{total}
use Rattle.tomex_config.specs.declared.part.Part.{Part}
use Rattle.tomex_config.specs.declared.part.Part.TheVariants.{Stations, Units, Buses, Width}
use Rattle.tomex_choices.specs.Asking.{IsAsked, IsNumberAsked, changes_at, differ, last_change}
use Rattle.tomex_config.specs.Parts.{most_of}
use Rattle.tomex_survey.specs.Extremes.{greatest}
use Rattle.tomex_choices.specs.NewMachines.{brought_by, greatest_units, grown, machine_if, more_units}
use Rattle.tomex_config.specs.Parts.{with_count}
use Rattle.tomex_choices.specs.Passing.{Has}
use Rattle.tomex_choices.specs.declared.found.ListFound.{ListFound}
use Rattle.tomex_choices.specs.declared.new_machine.NewMachine.{NewMachine}
use Rattle.tomex_choices.proofs.Members.{has_either, has_left, has_right}
use Rattle.tomex_choices.proofs.SameTotals.{same_total}

-- a new machine takes the cycles of the configuration that has its number

pub is_grown : {c d : Configuration} (b : Bool) → cond b None (Some c) ≡ Some d → c ≡ d
is_grown {c} {d} true e = absurd (let f : None ≡ Some d = e in cc)
is_grown {c} {d} false e = let f : Some c ≡ Some d = e in cc

pub is_more : {c d : Configuration} (b : Bool) → cond b (Some c) None ≡ Some d → c ≡ d
is_more {c} {d} false e = absurd (let f : None ≡ Some d = e in cc)
is_more {c} {d} true e = let f : Some c ≡ Some d = e in cc

grown_total : (rows : List Configuration) (part : Part) (c d : Configuration) (n : ℕ) (p : Workload)
    → length c.units ≡ 5
    → IsWithinLimits (with_count c part n) → IsWithinLimits d → grown rows part c n ≡ Some d
    → total d p.image ≡ total (with_count c part n) p.image
grown_total rows (Units unit) c d n p kinds one other is =
    let same : with_option unit c (more_units rows unit (latency_of c unit) n) ≡ d =
    is_more (nat_lt (greatest_units rows unit (latency_of c unit)) n) is in
    ap (λ (z : Configuration). total z p.image) (sym same)
    ∙ same_total c unit (record { units = n; latency = latency_of c unit; price = (option_of c unit).price })
    (more_units rows unit (latency_of c unit) n) kinds refl refl p.image one (subst IsWithinLimits (sym same) other)
grown_total rows (Stations pool) c d n p kinds one other is =
    ap (λ (z : Configuration). total z p.image)
    (sym (is_grown (list_any (λ d. count_of d (Stations pool) == n) rows) is))
grown_total rows Buses c d n p kinds one other is =
    ap (λ (z : Configuration). total z p.image) (sym (is_grown (list_any (λ d. count_of d Buses == n) rows) is))
grown_total rows Width c d n p kinds one other is =
    ap (λ (z : Configuration). total z p.image) (sym (is_grown (list_any (λ d. count_of d Width == n) rows) is))

pub grown_totals : (rows : List Configuration) (programs : List Workload) (part : Part) (c d : Configuration) (n : ℕ)
    → length c.units ≡ 5 → IsWithinLimits (with_count c part n) → IsWithinLimits d → grown rows part c n ≡ Some d
    → totals_on programs d ≡ totals_on programs (with_count c part n)
unfolding totals_on
grown_totals rows [] part c d n kinds one other is = refl
grown_totals rows (p ∷ ps) part c d n kinds one other is =
    rw (grown_total rows part c d n p kinds one other is, grown_totals rows ps part c d n kinds one other is) refl

-- the programs' totals differ if some program's do

pub differ_is : (programs : List Workload) (part : Part) (c : Configuration) (n : ℕ)
    → differ (totals_on programs (with_count c part n)) (totals_on programs (with_count c part (most_of part)))
    ≡ changes_at programs part c n
unfolding totals_on
differ_is [] part c n = refl
differ_is (p ∷ ps) part c n = rw (differ_is ps part c n) refl

-- the totals of a configuration

pub many_totals : (programs : List Workload) (c : Configuration) → length (totals_on programs c) ≡ length programs
unfolding totals_on
many_totals programs c = length-map programs (λ p. total c p.image)

pub change_asked : (programs : List Workload) (part : Part) (c : Configuration) (n : ℕ) (own most : List ℕ)
    → own ≡ totals_on programs (with_count c part n) → most ≡ totals_on programs (with_count c part (most_of part))
    → differ own most ≡ changes_at programs part c n
change_asked programs part c n own most is are = rw (is, are) (differ_is programs part c n)

-- an option that is no value
pub none_of : {X : Type 0} (o : Option X) → ((x : X) → o ≡ Some x → ⊥) → o ≡ None
none_of None never = refl
none_of (Some x) never = absurd (never x refl)

-- one more number, from the most down

abbrev gives : DesignSpace → Part → Configuration → ℕ → List NewMachine
gives s part c n = machine_if s part n (grown s.rows part c n)

-- what is found after the numbers from one on, as many as this
pub record AreNumbersAsked {A : Type 0} (s : DesignSpace) (part : Part) (c : Configuration) (from many : ℕ)
    (old new : ListFound A) : Type 0 where
  pub all : (x : NewMachine)
      → Has old.machines.items x ⊎ Has (flat_map (gives s part c) (range_with_len from many)) x
      → Has new.machines.items x
  pub only : (x : NewMachine) → Has new.machines.items x
      → Has old.machines.items x ⊎ Has (flat_map (gives s part c) (range_with_len from many)) x
  pub change : new.last_change
      ≡ max old.last_change (greatest (filter (changes_at s.programs part c) (range_with_len from many)))

pub none_asked : {A : Type 0} (s : DesignSpace) (part : Part) (c : Configuration) (from : ℕ) (old : ListFound A)
    → AreNumbersAsked s part c from 0 old old
none_asked s part c from old = record {
  all = λ x h. elim h [ inl a ↦ a | inr b ↦ absurd b ];
  only = λ x h. inl h;
  change = omega arith;
}

changed : (b : Bool) (before n old rest : ℕ) → before ≡ max old rest
    → cond b (max before n) before ≡ max old (cond b (max n rest) rest)
changed true before n old rest is = omega (arith, is)
changed false before n old rest is = is

greatest_filter : (p : ℕ → Bool) (n : ℕ) (ns : List ℕ)
    → greatest (filter p (n ∷ ns)) ≡ cond (p n) (max n (greatest (filter p ns))) (greatest (filter p ns))
greatest_filter p n ns = elim (cases_Bool (p n)) [ inl e ↦ rw e refl | inr e ↦ rw e refl ]

pub number_asked : {A : Type 0} (s : DesignSpace) (part : Part) (c : Configuration) (n many : ℕ)
    (old before new : ListFound A) → AreNumbersAsked s part c (n + 1) many old before
    → IsNumberAsked s part c n before new → AreNumbersAsked s part c n (suc many) old new
number_asked s part c n many old before new so_far asked = record {
  all = λ x h. subst (λ (xs : List NewMachine). Has xs x) (sym asked.machines) (elim h [
    | inl a ↦ has_left before.machines.items (gives s part c n) x (so_far.all x (inl a))
    | inr b ↦ elim (has_either (gives s part c n) (flat_map (gives s part c) (range_with_len (n + 1) many)) x b) [
      | inl i ↦ has_right before.machines.items (gives s part c n) x i
      | inr j ↦ has_left before.machines.items (gives s part c n) x (so_far.all x (inr j))
    ]
  ]);
  only = λ x h. elim (has_either before.machines.items (gives s part c n) x
      (subst (λ (xs : List NewMachine). Has xs x) asked.machines h)) [
        | inl a ↦ elim (so_far.only x a) [
          | inl i ↦ inl i
          | inr j ↦ inr (has_right (gives s part c n) (flat_map (gives s part c) (range_with_len (n + 1) many)) x j)
        ]
        | inr b ↦ inr (has_left (gives s part c n) (flat_map (gives s part c) (range_with_len (n + 1) many)) x b)
      ];
  change = asked.change
      ∙ (changed (changes_at s.programs part c n) before.last_change n old.last_change
      (greatest (filter (changes_at s.programs part c) (range_with_len (n + 1) many))) so_far.change
      ∙ ap (max old.last_change)
      (sym (greatest_filter (changes_at s.programs part c) n (range_with_len (n + 1) many))));
}

pub all_asked : {A : Type 0} (s : DesignSpace) (part : Part) (c : Configuration) (old new : ListFound A)
    → AreNumbersAsked s part c 1 (most_of part) old new → IsAsked s part c old new
unfolding brought_by last_change
all_asked s part c old new asked = record { all = asked.all; only = asked.only; change = asked.change }
