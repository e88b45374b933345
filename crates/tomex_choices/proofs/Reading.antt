-- What is read of a list says which choices it lacks.
use Rattle.std.proofs.Common.{◌≡◌, ℕ, ◌<◌, ◌≤◌, arith, ap, sym, refl, subst, ◌∙◌, List, Bool, true, false, cond}
use Rattle.std.proofs.Common.{get_or, map, Some, None}
use Rattle.std.specs.Prelude.{nat_lt}
use Rattle.std.specs.List.{range_with_len}
use Rattle.std.proofs.lemmas.Bool.Decides.{nat_tests}
use Rattle.std.proofs.lemmas.List.FromFn.{get_or-map-range_with_len}
use Rattle.tomex_rvdec.specs.declared.pool.UnitId.{UnitId}
use Rattle.tomex_rvdec.specs.declared.pool.UnitId.TheVariants as units
use Rattle.tomex_config.specs.Configuration.{Configuration, is_between, with_option}
use Rattle.tomex_config.specs.declared.config.UnitOption.{UnitOption}
use Rattle.tomex_config.specs.Configuration.{latency_of}
use Rattle.tomex_config.specs.declared.part.Part.{Part}
use Rattle.tomex_config.specs.declared.part.Part.TheVariants.{Stations, Units, Buses, Width}
use Rattle.tomex_config.specs.Parts.{part_at}
use Rattle.tomex_choices.specs.Asking.{AreMostUnits, IsRead, ListOf, has_number, most_at}
use Rattle.tomex_config.specs.Parts.{most_of}
use Rattle.tomex_choices.specs.NewMachines.{greatest_units, grown, more_units}
use Rattle.tomex_config.specs.Parts.{with_count}
use Rattle.tomex_choices.specs.declared.entries.MostUnits.{MostUnits}

pub not_units : (rows : List Configuration) (part : Part) (options : List MostUnits)
    → ((unit : UnitId) → part ≡ Units unit → ⊥) → AreMostUnits rows part options
not_units rows (Stations pool) options none = tt
not_units rows (Units unit) options none = absurd (none unit refl)
not_units rows Buses options none = tt
not_units rows Width options none = tt

-- no part has more than 16
pub few_of : (part : Part) → most_of part ≤ 16
few_of (Stations pool) = omega arith
few_of (Units units.Alu) = omega arith
few_of (Units units.Mul) = omega arith
few_of (Units units.Div) = omega arith
few_of (Units units.Mem) = omega arith
few_of (Units units.Bru) = omega arith
few_of Buses = omega arith
few_of Width = omega arith

-- the most units of a latency

module _ (l v : ListOf) (numbers : List Bool) (options : List MostUnits) (read : IsRead v numbers options)
    (same : v ≡ l) where
  most_read : (unit : UnitId) (latency : ℕ) (d : MostUnits) → part_at l.place ≡ Units unit → latency < 65
      → get_or options latency d ≡ most_at l.rows unit latency
  most_read unit latency d of low =
      let are : AreMostUnits v.rows (Units unit) options =
      subst (λ (p : Part). AreMostUnits v.rows p options) (ap (λ (z : ListOf). part_at z.place) same ∙ of)
      read.options_are in
      let all : options ≡ map (most_at v.rows unit) (range_with_len 0 65) = are in
      ap (λ (os : List MostUnits). get_or os latency d) all
      ∙ (get_or-map-range_with_len (most_at v.rows unit) 0 65 latency latency d low (omega arith)
      ∙ ap (λ (z : ListOf). most_at z.rows unit latency) same)

  pub not_more : (unit : UnitId) (latency number : ℕ) (c : Configuration) (d : MostUnits)
      → part_at l.place ≡ Units unit → latency ≡ latency_of c unit → latency < 65
      → number ≤ (get_or options latency d).units → None ≡ grown l.rows (Units unit) c number
  not_more unit latency number c d of is low few =
      let most = ap (λ (m : MostUnits). m.units) (most_read unit latency d of low) in
      let own : number ≤ greatest_units l.rows unit latency = omega (arith, most, few) in
      let own_too : number ≤ greatest_units l.rows unit (latency_of c unit) =
      subst (λ (n : ℕ). number ≤ greatest_units l.rows unit n) is own in
      let t : nat_lt (greatest_units l.rows unit (latency_of c unit)) number ≡ false = grind (arith, nat_tests) in
      rw t refl

  pub is_more : (unit : UnitId) (latency number own : ℕ) (c r : Configuration) (d : MostUnits)
      → part_at l.place ≡ Units unit → latency ≡ latency_of c unit → own ≡ latency_of c unit → latency < 65
      → (get_or options latency d).units < number
      → r ≡ with_option unit c
      (record { units = number; latency = own; price = (get_or options latency d).price })
      → Some r ≡ grown l.rows (Units unit) c number
  is_more unit latency number own c r d of is own_is low more made =
      let most = most_read unit latency d of low in
      let units = ap (λ (m : MostUnits). m.units) most in
      let above : greatest_units l.rows unit latency < number = omega (arith, units, more) in
      let above_too : greatest_units l.rows unit (latency_of c unit) < number =
      subst (λ (n : ℕ). greatest_units l.rows unit n < number) is above in
      let t : nat_lt (greatest_units l.rows unit (latency_of c unit)) number ≡ true = grind (arith, nat_tests) in
      let option : record { units = number; latency = own; price = (get_or options latency d).price }
      ≡ more_units l.rows unit (latency_of c unit) number =
      ap (λ (n : ℕ). own_option number n (get_or options latency d).price) own_is
      ∙ ap (own_option number (latency_of c unit))
      (ap (λ (m : MostUnits). m.price) most ∙ ap (λ (n : ℕ). (most_at l.rows unit n).price) is) in
      rw t (ap (λ (z : Configuration). Some z) (made ∙ ap (with_option unit c) option))
    where
      own_option : ℕ → ℕ → ℕ → UnitOption
      own_option n m p = record { units = n; latency = m; price = p }

  -- the numbers of other parts

  number_read : (number k : ℕ) (d : Bool) → is_between 1 (most_of (part_at l.place)) number ≡ true → k ≡ number
      → get_or numbers k d ≡ has_number l.rows (part_at l.place) number
  number_read number k d within is =
      let most = few_of (part_at l.place) in
      let few : number ≤ most_of (part_at l.place) = grind (arith, nat_tests) in
      ap (λ (n : ℕ). get_or numbers n d) is
      ∙ (ap (λ (bs : List Bool). get_or bs number d) read.numbers_are
      ∙ (get_or-map-range_with_len (has_number v.rows (part_at v.place)) 0 17 number number d (omega arith)
      (omega arith)
      ∙ ap (λ (z : ListOf). has_number z.rows (part_at z.place) number) same))

  lacked : (part : Part) (c : Configuration) (number : ℕ) → ((unit : UnitId) → part ≡ Units unit → ⊥)
      → grown l.rows part c number ≡ cond (has_number l.rows part number) None (Some (with_count c part number))
  lacked (Stations pool) c number none = refl
  lacked (Units unit) c number none = absurd (none unit refl)
  lacked Buses c number none = refl
  lacked Width c number none = refl

  pub not_lacked : (c : Configuration) (number k : ℕ) (d : Bool)
      → ((unit : UnitId) → part_at l.place ≡ Units unit → ⊥)
      → is_between 1 (most_of (part_at l.place)) number ≡ true → k ≡ number → get_or numbers k d ≡ true
      → None ≡ grown l.rows (part_at l.place) c number
  not_lacked c number k d none within is has =
      let h : has_number l.rows (part_at l.place) number ≡ true = sym (number_read number k d within is) ∙ has in
      sym (lacked (part_at l.place) c number none
      ∙ ap (λ (b : Bool). cond b None (Some (with_count c (part_at l.place) number))) h)

  pub is_lacked : (c r : Configuration) (number k : ℕ) (d : Bool)
      → ((unit : UnitId) → part_at l.place ≡ Units unit → ⊥)
      → is_between 1 (most_of (part_at l.place)) number ≡ true → k ≡ number → get_or numbers k d ≡ false
      → r ≡ with_count c (part_at l.place) number → Some r ≡ grown l.rows (part_at l.place) c number
  is_lacked c r number k d none within is has made =
      let h : has_number l.rows (part_at l.place) number ≡ false = sym (number_read number k d within is) ∙ has in
      ap (λ (z : Configuration). Some z) made
      ∙ sym (lacked (part_at l.place) c number none
      ∙ ap (λ (b : Bool). cond b None (Some (with_count c (part_at l.place) number))) h)
