-- After histories that look alike, steps that are the same take as much of each part and wait for it as long.
use Rattle.std.proofs.Common.{ℕ, zero, suc, ◌+◌, ◌-◌, ◌<◌, ◌≡◌, ◌∙◌, Bool, true, false, arith, refl, sym, ap, inl, inr}
use Rattle.std.proofs.Common.{List, nat_lt, ◌&&◌, max, is_some, count_by, cond}
use Rattle.std.specs.List.{range_with_len}
use Rattle.std.proofs.lemmas.Bool.{cases_Bool, ltb-true}
use Rattle.std.proofs.lemmas.List.Sums.{sum_by-cons}
use Rattle.tomex_rvdec.specs.Operands.{unit_at}
use Rattle.tomex_rvexec.specs.Steps.{step_pool, step_unit, step_dest, j_of, k_of, is_in}
use Rattle.tomex_rvexec.specs.declared.step.Step.{Step}
use Rattle.tomex_config.specs.Configuration.{Configuration, IsWithinLimits}
use Rattle.tomex_timing.specs.Ahead.{one}
use Rattle.tomex_config.specs.declared.part.Part.{Part}
use Rattle.tomex_config.specs.declared.part.Part.TheVariants.{Stations, Units, Buses, Width}
use Rattle.tomex_timing.specs.declared.times.Done.{Done}
use Rattle.tomex_timing.specs.declared.times.Times.{Times}
use Rattle.tomex_timing.specs.History.{is_of, cycle_of, source_end}
use Rattle.tomex_timing.specs.Needs.{taken_by, waits_for, waits_of, lacks_unit, lacks_width, lacks_station, issue_waits}
use Rattle.tomex_timing.specs.Needs.{start_waits}
use Rattle.tomex_timing.specs.Recurrence.{IsTimed, AreTimed, are_conflicts_finished, has_operands}
use Rattle.tomex_timing.proofs.Charges.{station_waits, width_waits}
use Rattle.tomex_timing.proofs.Limits.{unit_is}
use Rattle.tomex_timing.proofs.Orders.{result_end}
use Rattle.tomex_timing.proofs.Tests.{operation, unit_of, can_end_is}
use Rattle.tomex_timing.specs.Issue.{first_issue}
use Rattle.tomex_alike.specs.Alike.{AreAsFar, IsSameStep, LooksLike, results_in, starts_in}
use Rattle.tomex_alike.specs.Laws.{done}
use Rattle.tomex_alike.proofs.Next.{far, issued_far, shifted}
use Rattle.tomex_alike.proofs.Shift.{lt_shift}
use Rattle.tomex_alike.proofs.Start.{address_far, clear_far, ready_far, j_far, k_far}

-- two tests that pass in the same places of two ranges count as many
range_far : (p q : ℕ → Bool) (n a b : ℕ) → ((t : ℕ) → p (a + t) ≡ q (b + t))
    → count_by p (range_with_len a n) ≡ count_by q (range_with_len b n)
range_far p q zero a b same = refl
range_far p q (suc n) a b same =
    let e : a + 0 ≡ a = omega arith in
    let f : b + 0 ≡ b = omega arith in
    let here : p a ≡ q b = rw (e, f) at (same 0) in
    let rest : count_by p (range_with_len (a + 1) n) ≡ count_by q (range_with_len (b + 1) n) =
    range_far p q n (a + 1) (b + 1) (λ t. next t) in
    sum_by-cons (λ x. one (p x)) a (range_with_len (a + 1) n)
    ∙ (rw (here, rest) refl ∙ sym (sum_by-cons (λ x. one (q x)) b (range_with_len (b + 1) n)))
  where
    next : (t : ℕ) → p (a + 1 + t) ≡ q (b + 1 + t)
    next t =
        let e : a + (1 + t) ≡ a + 1 + t = omega arith in
        let f : b + (1 + t) ≡ b + 1 + t = omega arith in
        rw (e, f) at (same (1 + t))

three_parts : (o o' m m' c c' : Bool) → o ≡ o' → m ≡ m' → (m ≡ true → c ≡ c') → (o && m && c) ≡ (o' && m' && c')
three_parts true o' true m' c c' e f k = rw (← e, ← f) (k refl)
three_parts true o' false m' c c' e f k = rw (← e, ← f) refl
three_parts false o' m m' c c' e f k = rw (← e) refl

module _ (config : Configuration) (w : ℕ) (g h : List Done) (good : IsWithinLimits config) (in_g : AreTimed config g)
    (in_h : AreTimed config h) (like : LooksLike config w g h) (x y : Step) (same : IsSameStep w g h x y) (a b : Times)
    (p : IsTimed config g x a) (q : IsTimed config h y b) where
  address : cycle_of a.address - first_issue config g ≡ cycle_of b.address - first_issue config h
  address = address_far config w g h good in_g in_h like x y same a b p q

  times : AreAsFar (first_issue config g) (first_issue config h) a b
  times = far config w g h good in_g in_h like x y same a b p q

  station_wait : issue_waits g (done x a) (lacks_station config g) ≡ issue_waits h (done y b) (lacks_station config h)
  station_wait =
      station_waits config g (done x a) good in_g times.issue.first
      ∙ times.issue.far ∙ sym (station_waits config h (done y b) good in_h times.issue.second)

  width_wait : issue_waits g (done x a) (lacks_width config g) ≡ issue_waits h (done y b) (lacks_width config h)
  width_wait =
      width_waits config g (done x a) good in_g times.issue.first
      ∙ like.width ∙ sym (width_waits config h (done y b) good in_h times.issue.second)

  bus_wait : a.end - (a.finish + 1) ≡ b.end - (b.finish + 1)
  bus_wait =
      let e = times.end in
      let f = times.finish in
      omega (arith, e.first, e.second, e.far, f.first, f.second, f.far)

  clear_at : (t : ℕ) → cycle_of a.address < a.issue + 1 + t
      → are_conflicts_finished g x (a.issue + 1 + t) ≡ are_conflicts_finished h y (b.issue + 1 + t)
  clear_at t l =
      let r = ready_far config w g h good in_g in_h like x y same a b p q in
      let i = times.issue in
      let e : max a.issue (cycle_of a.address) + 1 + (a.issue + 1 + t - (max a.issue (cycle_of a.address) + 1))
      ≡ a.issue + 1 + t = omega arith in
      let f : max b.issue (cycle_of b.address) + 1 + (a.issue + 1 + t - (max a.issue (cycle_of a.address) + 1))
      ≡ b.issue + 1 + t = omega (arith, r.first, r.second, r.far, i.first, i.second, i.far) in
      rw (e, f) at (clear_far config w g h good in_g in_h like x y same a b p q
      (a.issue + 1 + t - (max a.issue (cycle_of a.address) + 1)))

  lacks_alike : (t : ℕ) → lacks_unit g (done x a) (a.issue + 1 + t) ≡ lacks_unit h (done y b) (b.issue + 1 + t)
  lacks_alike t =
      let j = lt_shift _ _ (source_end g (j_of x)) (source_end h (j_of y)) _ _ t
      (j_far config w g h good in_g in_h like x y same a b p q) times.issue in
      let k = lt_shift _ _ (source_end g (k_of x)) (source_end h (k_of y)) _ _ t
      (k_far config w g h good in_g in_h like x y same a b p q) times.issue in
      three_parts (has_operands g x (a.issue + 1 + t)) (has_operands h y (b.issue + 1 + t))
      (nat_lt (cycle_of a.address) (a.issue + 1 + t)) (nat_lt (cycle_of b.address) (b.issue + 1 + t))
      (are_conflicts_finished g x (a.issue + 1 + t)) (are_conflicts_finished h y (b.issue + 1 + t))
      (rw (j, k) refl)
      (lt_shift _ _ (cycle_of a.address) (cycle_of b.address) _ _ t address times.issue)
      (λ e. clear_at t (ltb-true (cycle_of a.address) (a.issue + 1 + t) e))

  unit_wait : start_waits (done x a) (lacks_unit g (done x a)) ≡ start_waits (done y b) (lacks_unit h (done y b))
  unit_wait =
      let i = times.issue in
      let s = times.start in
      let e : a.start - (a.issue + 1) ≡ b.start - (b.issue + 1) =
      omega (arith, i.first, i.second, i.far, s.first, s.second, s.far) in
      rw e (range_far (lacks_unit g (done x a)) (lacks_unit h (done y b)) (b.start - (b.issue + 1)) (a.issue + 1)
      (b.issue + 1) lacks_alike)

  unit_same : step_unit x ≡ step_unit y
  unit_same = ap unit_at same.pool

  -- it waits for each part as long
  pub waits_alike : (part : Part) → waits_for part (done x a) (waits_of config g (done x a))
      ≡ waits_for part (done y b) (waits_of config h (done y b))
  waits_alike (Stations pool) = ap (λ n. cond (is_in pool (step_pool x)) n 0) station_wait
      ∙ ap (λ o. cond (is_in pool o) (issue_waits h (done y b) (lacks_station config h)) 0) same.pool
  waits_alike (Units unit) = ap (λ n. cond (is_of unit (step_unit x)) n 0) unit_wait
      ∙ ap (λ o. cond (is_of unit o) (start_waits (done y b) (lacks_unit h (done y b))) 0) unit_same
  waits_alike Buses = bus_wait
  waits_alike Width = width_wait

  late_start : is_some (step_unit x) ≡ true → first_issue config g < a.start
  late_start some =
      let l = (operation (unit_of x some).1 p).can.after_issue in
      let i = times.issue in
      omega (arith, i.first, l)

  late_end : is_some (step_dest x) ≡ true → first_issue config g < a.end
  late_end some =
      let l = (can_end_is config g a.finish a.end (result_end p some).0).after_finish in
      let i = times.finish in
      omega (arith, i.first, l)

  -- and takes as much of it
  pub taken_alike : (part : Part) → taken_by part g (done x a) ≡ taken_by part h (done y b)
  taken_alike (Stations pool) = rw (times.station, same.pool) refl
  taken_alike (Units unit) = elim (cases_Bool (is_of unit (step_unit x))) [
    | inl e ↦
        let some : is_some (step_unit x) ≡ true = rw (unit_is unit (step_unit x) e) refl in
        let e' : is_of unit (step_unit y) ≡ true = rw same.pool at e in
        rw (e, e') (ap (λ c. c + 1) (shifted config w g h good in_g in_h like x y same a b p q (starts_in unit g)
        (starts_in unit h) (like.starts unit) a.start b.start (late_start some) times.start))
    | inr e ↦ let e' : is_of unit (step_unit y) ≡ false = rw same.pool at e in rw (e, e') refl
  ]
  taken_alike Buses = elim (cases_Bool (is_some (step_dest x))) [
    | inl e ↦
        let e' : is_some (step_dest y) ≡ true = rw same.dest at e in
        rw (e, e') (ap (λ c. c + 1) (shifted config w g h good in_g in_h like x y same a b p q (results_in g)
        (results_in h) like.results a.end b.end (late_end e) times.end))
    | inr e ↦ let e' : is_some (step_dest y) ≡ false = rw same.dest at e in rw (e, e') refl
  ]
  taken_alike Width =
      ap (λ c. c + 1) (issued_far config w g h good in_g in_h like a.issue b.issue times.issue)
