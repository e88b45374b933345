-- The greatest saving is that of the new machines that none beats.
use Rattle.std.proofs.Common.{◌≡◌, ℕ, ◌≤◌, ◌<◌, ◌+◌, ◌-◌, ◌*◌, ◌/◌, arith, ap, sym, refl, subst, ◌∙◌, List, [], ◌∷◌}
use Rattle.std.proofs.Common.{cond, map, Bool, true, inl, inr, Option, Some, None}
use Rattle.std.specs.Prelude.{nat_le, nat_lt, option_to_list}
use Rattle.std.specs.List.{filter}
use Rattle.std.proofs.lemmas.Bool.{cases_Bool}
use Rattle.std.proofs.lemmas.Bool.Decides.{nat_tests}
use Rattle.std.proofs.lemmas.Nat.{le-div}
use Rattle.std.proofs.Math.Nat.{div-mul-le_self, div-le_of_le-mul, mul-add, mul-le-mul_right}
use Rattle.tomex_pareto.specs.declared.front_row.FrontRow.{FrontRow}
use Rattle.tomex_survey.specs.Extremes.{least}
use Rattle.tomex_choices.specs.Passing.{AreUnbeaten, Has}
use Rattle.tomex_choices.specs.Savings.{as_row, complete, costs_asked, fewest, greatest_saving, saving_among, saving_at}
use Rattle.tomex_choices.specs.Savings.{saving_if, thousandths}
use Rattle.tomex_choices.specs.declared.new_machine.NewMachine.{NewMachine}
use Rattle.tomex_study.specs.declared.list_report.Saving.{Saving}
use Rattle.tomex_choices.proofs.Greatest.{same_greatest}
use Rattle.tomex_choices.proofs.Members.{from_filter, from_map, has_either, has_filter, has_left, has_map, has_right}
use Rattle.tomex_choices.proofs.Members.{least_has, least_is, same_least}

-- the fewest cycles that a cost buys

abbrev pub is_bought : ℕ → FrontRow → Bool
is_bought cost r = nat_le r.cost cost

abbrev pub bought : List FrontRow → ℕ → List ℕ
bought rows cost = map (λ r. r.cycles) (filter (is_bought cost) rows)

pub has_bought : (rows : List FrontRow) (cost : ℕ) (r : FrontRow) → Has rows r → r.cost ≤ cost
    → Has (bought rows cost) r.cycles
has_bought rows cost r h low =
    has_map (λ r. r.cycles) (filter (is_bought cost) rows) r
    (has_filter (is_bought cost) rows r h (grind (arith, nat_tests)))

pub from_bought : (rows : List FrontRow) (cost n : ℕ) → Has (bought rows cost) n
    → (r : FrontRow) × Has rows r × (r.cost ≤ cost) × (r.cycles ≡ n)
from_bought rows cost n h =
    let w = from_map (λ r. r.cycles) (filter (is_bought cost) rows) n h in
    let v = from_filter (is_bought cost) rows w.0 w.1 in
    let e : nat_le w.0.cost cost ≡ true = v.1 in
    (w.0, v.0, grind (arith, nat_tests), w.2)

-- complete with all new machines, or with those that none beats

module _ (rows : List FrontRow) (new kept : List NewMachine) (are : AreUnbeaten new kept) where
  fewer : (cost n : ℕ) → Has (bought (complete rows new) cost) n
      → (m : ℕ) × Has (bought (complete rows kept) cost) m × (m ≤ n)
  fewer cost n h =
      let w = from_bought (complete rows new) cost n h in
      let low : w.0.cost ≤ cost = w.2 in
      let cycles : w.0.cycles ≡ n = w.3 in
      elim (has_either rows (map as_row new) w.0 w.1) [
        | inl a ↦ (
          w.0.cycles,
          has_bought (complete rows kept) cost w.0 (has_left rows (map as_row kept) w.0 a) low,
          omega (arith, cycles),
        )
        | inr b ↦
            let x = from_map as_row new w.0 b in
            let y = are.covers x.0 x.1 in
            let costs : x.0.cost ≡ w.0.cost = ap (λ (r : FrontRow). r.cost) x.2 in
            let takes : x.0.cycles ≡ w.0.cycles = ap (λ (r : FrontRow). r.cycles) x.2 in
            let cheap : y.0.cost ≤ x.0.cost = y.2 in
            let fast : y.0.cycles ≤ x.0.cycles = y.3 in
            let here : y.0.cost ≤ cost = omega (arith, costs) in (
              y.0.cycles,
              has_bought (complete rows kept) cost (as_row y.0)
                  (has_right rows (map as_row kept) (as_row y.0) (has_map as_row kept y.0 y.1)) here,
              omega (arith, takes, cycles),
            )
      ]

  no_fewer : (cost m : ℕ) → Has (bought (complete rows kept) cost) m
      → (n : ℕ) × Has (bought (complete rows new) cost) n × (n ≤ m)
  no_fewer cost m h =
      let w = from_bought (complete rows kept) cost m h in
      let cycles : w.0.cycles ≡ m = w.3 in
      elim (has_either rows (map as_row kept) w.0 w.1) [
        | inl a ↦ (
          w.0.cycles,
          has_bought (complete rows new) cost w.0 (has_left rows (map as_row new) w.0 a) w.2,
          omega (arith, cycles),
        )
        | inr b ↦
            let x = from_map as_row kept w.0 b in
            let one : Has (map as_row new) w.0 =
            subst (Has (map as_row new)) x.2 (has_map as_row new x.0 (are.only x.0 x.1).0) in (
              w.0.cycles,
              has_bought (complete rows new) cost w.0 (has_right rows (map as_row new) w.0 one) w.2,
              omega (arith, cycles),
            )
      ]

  same_fewest : (cost : ℕ) → fewest (complete rows new) cost ≡ fewest (complete rows kept) cost
  same_fewest cost =
      same_least (bought (complete rows new) cost) (bought (complete rows kept) cost) (fewer cost) (no_fewer cost)

  same_at : (cost : ℕ) → saving_at rows new cost ≡ saving_at rows kept cost
  same_at cost = ap (saving_if cost (fewest rows cost)) (same_fewest cost)

-- what a saving at a cost is made of
pub parts_of : (cost : ℕ) (now new : Option ℕ) (v : Saving) → saving_if cost now new ≡ Some v
    → (now ≡ Some v.now) × (new ≡ Some v.new) × (v.new < v.now) × (v.cost ≡ cost)
parts_of cost None new v e = absurd (let f : None ≡ Some v = e in cc)
parts_of cost (Some now) None v e = absurd (let f : None ≡ Some v = e in cc)
parts_of cost (Some now) (Some new) v e = elim (cases_Bool (nat_lt new now)) [
  | inl t ↦
      let f : Some own ≡ Some v = subst (λ (b : Bool). cond b (Some own) None ≡ Some v) t e in
      let g : own ≡ v = (cc) in
      let n : now ≡ v.now = ap (λ (z : Saving). z.now) g in
      let m : new ≡ v.new = ap (λ (z : Saving). z.new) g in
      let c : cost ≡ v.cost = ap (λ (z : Saving). z.cost) g in
      let l : new < now = grind (arith, nat_tests) in
      (ap (λ (k : ℕ). Some k) n, ap (λ (k : ℕ). Some k) m, omega (arith, n, m, l), sym c)
  | inr t ↦ absurd (let f : None ≡ Some v = subst (λ (b : Bool). cond b (Some own) None ≡ Some v) t e in cc)
]
  where
    own : Saving
    own = record { cost = cost; now = now; new = new }

-- it grows with what the cost buys now
greater_share : (now later new : ℕ) → new < now → now ≤ later
    → (now - new) * 1000 / now ≤ (later - new) * 1000 / later
greater_share now later new low more =
    let q : ℕ = (now - new) * 1000 / now in
    let e : q * now ≤ (now - new) * 1000 = div-mul-le_self ((now - new) * 1000) now in
    let most : q ≤ 1000 = div-le_of_le-mul now (let f : (now - new) * 1000 ≤ now * 1000 = omega arith in f) in
    let rest : q * (later - now) ≤ 1000 * (later - now) = mul-le-mul_right (later - now) most in
    let split : q * later ≡ q * now + q * (later - now) = by_parts q now later more in
    le-div q ((later - new) * 1000) later (omega arith) (omega (arith, e, rest, split))
  where
    by_parts : (q a b : ℕ) → a ≤ b → q * b ≡ q * a + q * (b - a)
    by_parts q a b l =
        let e : a + (b - a) ≡ b = omega arith in
        ap (λ (n : ℕ). q * n) (sym e) ∙ mul-add q a (b - a)

-- a saving at a cost, if a lesser cost buys the new cycles already, and a row
earlier : (rows : List FrontRow) (all : List FrontRow) (cost before : ℕ) (v : Saving) (a b : ℕ) → before ≤ cost
    → saving_if cost (fewest rows cost) (fewest all cost) ≡ Some v → fewest rows before ≡ Some a
    → fewest all before ≡ Some b → v.now ≤ a → b ≡ v.new
    → (w : Saving) × (saving_if before (fewest rows before) (fewest all before) ≡ Some w)
    × (thousandths v ≤ thousandths w) × (w.cost ≤ v.cost)
earlier rows all cost before v a b low is now new more same =
    let p = parts_of cost (fewest rows cost) (fewest all cost) v is in
    let less : v.new < v.now = p.2 in
    let t : nat_lt b a ≡ true = grind (arith, nat_tests, less) in
    let own : v.cost ≡ cost = p.3 in (
      record { cost = before; now = a; new = b },
      rw (now, new, t) refl,
      subst (λ (n : ℕ). (v.now - v.new) * 1000 / v.now ≤ (a - n) * 1000 / a) (sym same)
          (greater_share v.now a v.new less more),
      omega (arith, own),
    )

module _ (rows : List FrontRow) (new kept : List NewMachine) (are : AreUnbeaten new kept) where
  abbrev all : List FrontRow
  all = complete rows new

  -- at a cost that buys a row and an unbeaten machine that is as good as the one that makes the saving
  at_before : (cost before : ℕ) (v : Saving) (r : FrontRow) (y : NewMachine) → saving_at rows new cost ≡ Some v
      → before ≤ cost → Has rows r → r.cost ≤ before → Has kept y → y.cost ≤ before → y.cycles ≤ v.new
      → (w : Saving) × (saving_at rows new before ≡ Some w) × (thousandths v ≤ thousandths w) × (w.cost ≤ v.cost)
  at_before cost before v r y is low row buys one cheap fast =
      let p = parts_of cost (fewest rows cost) (fewest all cost) v is in
      let now = least_is (bought rows before) r.cycles (has_bought rows before r row buys) in
      let its = from_bought rows before now.0 (least_has (bought rows before) now.0 now.1) in
      let its_low : its.0.cost ≤ before = its.2 in
      let its_cycles : its.0.cycles ≡ now.0 = its.3 in
      let later = least_is (bought rows cost) its.0.cycles (has_bought rows cost its.0 its.1 (omega arith)) in
      let s : Some v.now ≡ Some later.0 = sym p.0 ∙ later.1 in
      let s2 : v.now ≡ later.0 = (cc) in
      let s3 : later.0 ≤ its.0.cycles = later.2 in
      let in_all : Has all (as_row y) =
      has_right rows (map as_row new) (as_row y) (has_map as_row new y (are.only y one).0) in
      let few = least_is (bought all before) y.cycles (has_bought all before (as_row y) in_all cheap) in
      let few_low : few.0 ≤ y.cycles = few.2 in
      let theirs = from_bought all before few.0 (least_has (bought all before) few.0 few.1) in
      let t_low : theirs.0.cost ≤ before = theirs.2 in
      let t_cycles : theirs.0.cycles ≡ few.0 = theirs.3 in
      let least_new = least_is (bought all cost) theirs.0.cycles
      (has_bought all cost theirs.0 theirs.1 (omega arith)) in
      let t : Some v.new ≡ Some least_new.0 = sym p.1 ∙ least_new.1 in
      let t2 : v.new ≡ least_new.0 = (cc) in
      let t3 : least_new.0 ≤ theirs.0.cycles = least_new.2 in
      earlier rows all cost before v now.0 few.0 low is now.1 few.1 (omega (arith, s2, s3, its_cycles))
      (omega (arith, t2, t3, t_cycles, few_low, fast))

  -- whatever the cost, one of the costs of unbeaten machines or of the cheapest row is as good, and no greater
  pub found_earlier : (cost : ℕ) (v : Saving) → saving_at rows new cost ≡ Some v
      → (d : ℕ) × (w : Saving) × Has (costs_asked rows kept) d × (saving_at rows new d ≡ Some w)
      × (thousandths v ≤ thousandths w) × (w.cost ≤ v.cost)
  found_earlier cost v is =
      let p = parts_of cost (fewest rows cost) (fewest all cost) v is in
      let less : v.new < v.now = p.2 in
      let row = from_bought rows cost v.now (least_has (bought rows cost) v.now p.0) in
      let row_low : row.0.cost ≤ cost = row.2 in
      let cheapest = least_is (map (λ r. r.cost) rows) row.0.cost (has_map (λ r. r.cost) rows row.0 row.1) in
      let cheap_low : cheapest.0 ≤ row.0.cost = cheapest.2 in
      let first = from_map (λ r. r.cost) rows cheapest.0 (least_has (map (λ r. r.cost) rows) cheapest.0 cheapest.1) in
      let first_cost : first.0.cost ≡ cheapest.0 = first.2 in
      let made = from_bought all cost v.new (least_has (bought all cost) v.new p.1) in
      let made_low : made.0.cost ≤ cost = made.2 in
      let made_cycles : made.0.cycles ≡ v.new = made.3 in
      elim (has_either rows (map as_row new) made.0 made.1) [
        | inl a ↦
            let its = least_is (bought rows cost) made.0.cycles (has_bought rows cost made.0 a made_low) in
            let s : Some v.now ≡ Some its.0 = sym p.0 ∙ its.1 in
            let s2 : v.now ≡ its.0 = (cc) in
            let s3 : its.0 ≤ made.0.cycles = its.2 in
            absurd (omega (arith, s2, s3, made_cycles, less))
        | inr b ↦
            let x = from_map as_row new made.0 b in
            let y = are.covers x.0 x.1 in
            let costs : x.0.cost ≡ made.0.cost = ap (λ (r : FrontRow). r.cost) x.2 in
            let takes : x.0.cycles ≡ made.0.cycles = ap (λ (r : FrontRow). r.cycles) x.2 in
            let y_cheap : y.0.cost ≤ x.0.cost = y.2 in
            let y_fast : y.0.cycles ≤ x.0.cycles = y.3 in
            let fast : y.0.cycles ≤ v.new = omega (arith, takes, made_cycles) in
            elim (cases_Bool (nat_le cheapest.0 y.0.cost)) [
              | inl t ↦
                  let here : cheapest.0 ≤ y.0.cost = grind (arith, nat_tests) in
                  let w = at_before cost y.0.cost v first.0 y.0 is (omega (arith, costs)) first.1
                  (omega (arith, first_cost))
                  y.1 (omega arith) fast in (
                    y.0.cost,
                    w.0,
                    has_right _ (map (λ x. x.cost) kept) y.0.cost (has_map (λ x. x.cost) kept y.0 y.1),
                    w.1,
                    w.2,
                    w.3,
                  )
              | inr t ↦
                  let here : y.0.cost < cheapest.0 = grind (arith, nat_tests) in
                  let w = at_before cost cheapest.0 v first.0 y.0 is (omega arith) first.1 (omega (arith, first_cost))
                  y.1 (omega arith) fast in
                  let one : Has (option_to_list (least (map (λ r. r.cost) rows))) cheapest.0 =
                  subst (λ (o : Option ℕ). Has (option_to_list o) cheapest.0) (sym cheapest.1) (inl refl) in
                  (cheapest.0, w.0, has_left _ (map (λ x. x.cost) kept) cheapest.0 one, w.1, w.2, w.3)
            ]
      ]

  asked : (d : ℕ) → Has (costs_asked rows kept) d → Has (costs_asked rows new) d
  asked d h = elim (has_either (option_to_list (least (map (λ r. r.cost) rows))) (map (λ x. x.cost) kept) d h) [
    | inl a ↦ has_left _ (map (λ x. x.cost) new) d a
    | inr b ↦
        let x = from_map (λ x. x.cost) kept d b in
        has_right (option_to_list (least (map (λ r. r.cost) rows))) (map (λ x. x.cost) new) d
        (subst (Has (map (λ x. x.cost) new)) x.2 (has_map (λ x. x.cost) new x.0 (are.only x.0 x.1).0))
  ]

  same_savings : (cs : List ℕ) → map (saving_at rows new) cs ≡ map (saving_at rows kept) cs
  same_savings [] = refl
  same_savings (c ∷ cs) = rw (same_at rows new kept are c, same_savings cs) refl

  pub same_saving : saving_among rows kept ≡ saving_among rows new
  same_saving =
      ap greatest_saving (sym (same_savings (costs_asked rows kept)))
      ∙ sym (same_greatest (saving_at rows new) (costs_asked rows new) (costs_asked rows kept)
      (λ c v e. (parts_of c (fewest rows c) (fewest all c) v e).3) asked (λ c v h e. found_earlier c v e))
