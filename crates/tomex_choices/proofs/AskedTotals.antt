-- A configuration that is asked with a number of a part has the same totals with the numbers on its plateaus.
use Rattle.std.proofs.Common.{◌≡◌, ◌∙◌, ◌<◌, ◌≤◌, ℕ, zero, suc, arith, ap, sym, refl, subst, List, [], ◌∷◌, length, set}
use Rattle.std.proofs.Common.{get_or, take, inl, inr}
use Rattle.std.proofs.lemmas.Bool.{cases_eq}
use Rattle.std.proofs.lemmas.List.{get_or-set_same}
use Rattle.tomex_rvdec.specs.Places.{place_of_pool, place_of_unit}
use Rattle.tomex_rvdec.proofs.Places.{pool_low, unit_low}
use Rattle.tomex_config.specs.Configuration.{Configuration, IsWithinLimits, option_of, plain_option}
use Rattle.tomex_config.specs.declared.config.UnitOption.{UnitOption}
use Rattle.tomex_config.specs.declared.part.Part.{Part}
use Rattle.tomex_config.specs.declared.part.Part.TheVariants.{Stations, Units, Buses, Width}
use Rattle.tomex_config.specs.Parts.{count_of, with_count}
use Rattle.tomex_study.specs.Cycles.{totals_on}
use Rattle.tomex_study.specs.Program.{Workload}
use Rattle.tomex_plateaus.specs.Knowledge.{AreTotalsFrom}
use Rattle.tomex_choices.specs.Asking.{AreAskedTotals}
use Rattle.tomex_choices.specs.declared.asking.AskedTotals.{AskedTotals}

set_again : {X : Type 0} (xs : List X) (k : ℕ) (a b : X) → set (set xs k a) k b ≡ set xs k b
set_again [] k a b = refl
set_again (x ∷ xs) zero a b = refl
set_again (x ∷ xs) (suc k) a b = ap (λ (l : List _). x ∷ l) (set_again xs k a b)

-- the last number counts
with_last : (c : Configuration) (part : Part) (m n : ℕ) → IsWithinLimits c
    → with_count (with_count c part m) part n ≡ with_count c part n
with_last c (Stations a) m n good =
    ap (λ (xs : List ℕ). record c { stations = xs }) (set_again c.stations (place_of_pool a) m n)
with_last c (Units a) m n good =
    let low = unit_low a in
    let own : UnitOption = option_of c a in
    let o : UnitOption = record { units = m; latency = own.latency; price = own.price } in
    let is : get_or (set c.units (place_of_unit a) o) (place_of_unit a) plain_option ≡ o =
    get_or-set_same c.units (place_of_unit a) o plain_option (omega (arith, good.kinds)) in
    ap (λ (p : UnitOption). record c {
      units = set (set c.units (place_of_unit a) o) (place_of_unit a)
          (record { units = n; latency = p.latency; price = p.price });
    }) is
    ∙ ap (λ (xs : List UnitOption). record c { units = xs })
    (set_again c.units (place_of_unit a) o (record { units = n; latency = own.latency; price = own.price }))
with_last c Buses m n good = refl
with_last c Width m n good = refl

count_with : (c : Configuration) (part : Part) (m : ℕ) → IsWithinLimits c → count_of (with_count c part m) part ≡ m
count_with c (Stations a) m good =
    let low = pool_low a in
    get_or-set_same c.stations (place_of_pool a) m 0 (omega (arith, good.pools))
count_with c (Units a) m good =
    let low = unit_low a in
    ap (λ (o : UnitOption). o.units)
    (get_or-set_same c.units (place_of_unit a)
    (record { units = m; latency = (option_of c a).latency; price = (option_of c a).price }) plain_option
    (omega (arith, good.kinds)))
count_with c Buses m good = refl
count_with c Width m good = refl

pub asked_down : (programs : List Workload) (c other : Configuration) (part : Part) (number reach low : ℕ)
    (totals : List ℕ) → IsWithinLimits c → other ≡ with_count c part number
    → take (length programs) totals ≡ totals_on programs other → AreTotalsFrom programs other part reach
    → ((n : ℕ) → low ≤ n → n < number → reach ≤ n)
    → AreAskedTotals programs c part number (record { totals = totals; low = low })
asked_down programs c other part number reach low totals good is are from reached n some above within =
    elim (cases_eq n number) [
      | inl e ↦ are ∙ ap (totals_on programs) (is ∙ ap (with_count c part) (sym e))
      | inr apart ↦
          let below : n < number = omega (arith, within, apart) in
          let count : count_of other part ≡ number =
          ap (λ (d : Configuration). count_of d part) is ∙ count_with c part number good in
          let same : with_count other part n ≡ with_count c part n =
          ap (λ (d : Configuration). with_count d part n) is ∙ with_last c part number n good in
          are ∙ sym (from n some (reached n above below) (omega (arith, below, count))) ∙ ap (totals_on programs) same
    ]

-- so they are for lower numbers
pub asked_still : (programs : List Workload) (c : Configuration) (part : Part) (number next : ℕ) (asked : AskedTotals)
    → next ≤ number → AreAskedTotals programs c part number asked → AreAskedTotals programs c part next asked
asked_still programs c part number next asked less are n some above within = are n some above (omega arith)

-- the same for equal programs and parts
pub asked_as : (programs ps : List Workload) (c : Configuration) (p q : Part) (number next : ℕ) (asked : AskedTotals)
    → ps ≡ programs → p ≡ q → next ≤ number → AreAskedTotals ps c p number asked
    → AreAskedTotals programs c q next asked
asked_as programs ps c p q number next asked same part less are =
    asked_still programs c q number next asked less
    (subst (λ (xs : List Workload). AreAskedTotals xs c q number asked) same
    (subst (λ (x : Part). AreAskedTotals ps c x number asked) part are))

-- the totals with one of the numbers
pub totals_with : (programs ps : List Workload) (c : Configuration) (p q : Part) (number : ℕ) (asked : AskedTotals)
    → ps ≡ programs → p ≡ q → 1 ≤ number → asked.low ≤ number → AreAskedTotals ps c p number asked
    → take (length programs) asked.totals ≡ totals_on programs (with_count c q number)
totals_with programs ps c p q number asked same part some above are =
    asked_as programs ps c p q number number asked same part (omega arith) are number some above (omega arith)
