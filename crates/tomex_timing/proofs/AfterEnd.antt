-- After the greatest end of a history nothing in it blocks a next step.
use Rattle.std.proofs.Common.{ℕ, ◌+◌, ◌<◌, ◌≤◌, ◌≡◌, Bool, true, false, arith, refl, List, [], ◌∷◌, Option, Some, None}
use Rattle.std.proofs.Common.{inl, inr, zero, suc, nat_le, ◌==◌, ◌&&◌, is_some, count_by, All, IfSome, IsTrue}
use Rattle.std.specs.List.{list_all, AllByRecursion}
use Rattle.std.proofs.lemmas.Bool.{cases_Bool, lt-leb, ne_eqb, and_right}
use Rattle.std.proofs.lemmas.List.Elements.{All-from_recursion, All-weaker}
use Rattle.std.proofs.lemmas.List.Sums.{sum_by-cons}
use Rattle.tomex_rvdec.specs.Meaning.{form_of}
use Rattle.tomex_rvdec.specs.Operands.{dest_at, unless_zero}
use Rattle.tomex_rvdec.specs.declared.op.Form.{Form}
use Rattle.tomex_rvdec.specs.declared.op.Form.TheVariants as forms
use Rattle.tomex_rvdec.specs.declared.pool.PoolId.{PoolId}
use Rattle.tomex_rvdec.specs.declared.pool.UnitId.{UnitId}
use Rattle.tomex_rvexec.specs.Steps.{step_pool, step_unit, step_dest, j_of, k_of, is_branch, is_in, is_number}
use Rattle.tomex_rvexec.specs.declared.step.Operand.{Operand}
use Rattle.tomex_rvexec.specs.declared.step.Step.{Step}
use Rattle.tomex_config.specs.Configuration.{Configuration, IsWithinLimits, stations_of}
use Rattle.tomex_timing.specs.declared.times.Done.{Done}
use Rattle.tomex_timing.specs.History.{is_of, is_memory, cycle_of, writer_end, source_end, last_issue, last_address}
use Rattle.tomex_timing.specs.Station.{is_held}
use Rattle.tomex_timing.specs.Recurrence.{can_issue, can_address, can_start, can_end, conflicts}
use Rattle.tomex_timing.proofs.Limits.{stations_low, units_low, buses_low, width_low}
use Rattle.tomex_timing.proofs.Tests.{can_address_from, can_end_from, can_issue_from, can_start_from}

-- no time of the step lies past the cycle
pub record IsDoneBy (g : ℕ) (d : Done) : Type 0 where
  pub issue : d.at.issue ≤ g
  pub address : cycle_of d.at.address ≤ g
  pub start : d.at.start ≤ g
  pub finish : d.at.finish ≤ g
  pub end : d.at.end ≤ g

abbrev pub AllBy : ℕ → List Done → Type 0
AllBy g h = AllByRecursion (IsDoneBy g) h

pub last_issue_by : (g : ℕ) (older : List Done) → AllBy g older → last_issue older ≤ g
last_issue_by g [] h = omega arith
last_issue_by g (d ∷ older) h = h.0.issue

pub last_address_by : (g : ℕ) (older : List Done) → AllBy g older → last_address older ≤ g
last_address_by g [] h = omega arith
last_address_by g (d ∷ older) h = elim (cases_Bool (is_memory d.step)) [
  | inl e ↦ rw e h.0.address
  | inr e ↦ rw e (last_address_by g older h.1)
]

-- x0 is never written
not_zero : (n : ℕ) → is_number (unless_zero n) 0 ≡ false
not_zero zero = refl
not_zero (suc n) = let e : (suc n == 0) ≡ false = ne_eqb (suc n) 0 (λ (e : suc n ≡ 0). absurd (omega arith)) in rw e e

no_writer : (form : Form) (rd : ℕ) → is_number (dest_at form rd) 0 ≡ false
no_writer forms.Register rd = not_zero rd
no_writer forms.Immediate rd = not_zero rd
no_writer forms.Offset rd = not_zero rd
no_writer forms.Shift rd = not_zero rd
no_writer forms.Store rd = refl
no_writer forms.Branch rd = refl
no_writer forms.Upper rd = not_zero rd
no_writer forms.Jump rd = not_zero rd
no_writer forms.Fence rd = refl
no_writer forms.Whole rd = refl

pub never_zero : (s : Step) → is_number (step_dest s) 0 ≡ false
never_zero s = no_writer (form_of s.instr.op) s.instr.rd

pub writer_of_zero : (older : List Done) → writer_end older 0 ≡ 0
writer_of_zero [] = refl
writer_of_zero (d ∷ older) = rw (never_zero d.step) (writer_of_zero older)

pub writer_end_by : (g : ℕ) (older : List Done) (r : ℕ) → AllBy g older → writer_end older r ≤ g
writer_end_by g [] r h = omega arith
writer_end_by g (d ∷ older) r h = elim (cases_Bool (is_number (step_dest d.step) r)) [
  | inl e ↦ rw e h.0.end
  | inr e ↦ rw e (writer_end_by g older r h.1)
]

pub source_end_by : (g : ℕ) (older : List Done) (o : Option Operand) → AllBy g older → source_end older o ≤ g
source_end_by g older None h = omega arith
source_end_by g older (Some o) h = writer_end_by g older o.register h

-- a test that nothing of the list passes counts none
pub count_none : {X : Type 0} (p : X → Bool) (P : X → Type 0) → ((x : X) → P x → p x ≡ false) → (xs : List X)
    → AllByRecursion P xs → count_by p xs ≡ 0
count_none p P never [] h = refl
count_none p P never (x ∷ xs) h = rw (sum_by-cons, never x h.0, count_none p P never xs h.1) refl

pub all_pass : {X : Type 0} (p : X → Bool) (P : X → Type 0) → ((x : X) → P x → p x ≡ true) → (xs : List X)
    → AllByRecursion P xs → list_all p xs ≡ true
all_pass p P always [] h = refl
all_pass p P always (x ∷ xs) h = rw (always x h.0) (all_pass p P always xs h.1)

-- so nothing starts or ends later
pub starts_none : (h : List Done) (unit : UnitId) (g t : ℕ) → AllBy g h → g < t
    → count_by (λ d. is_of unit (step_unit d.step) && d.at.start == t) h ≡ 0
starts_none h unit g t by l =
    count_none (λ (d : Done). is_of unit (step_unit d.step) && d.at.start == t) (IsDoneBy g)
    (λ d k. and_right (is_of unit (step_unit d.step)) (d.at.start == t)
    (ne_eqb d.at.start t (λ (e : d.at.start ≡ t). absurd (omega (arith, k.start))))) h by

pub results_none : (h : List Done) (g t : ℕ) → AllBy g h → g < t
    → count_by (λ d. is_some (step_dest d.step) && d.at.end == t) h ≡ 0
results_none h g t by l =
    count_none (λ (d : Done). is_some (step_dest d.step) && d.at.end == t) (IsDoneBy g)
    (λ d k. and_right (is_some (step_dest d.step)) (d.at.end == t)
    (ne_eqb d.at.end t (λ (e : d.at.end ≡ t). absurd (omega (arith, k.end))))) h by

-- and each step has finished
finished_by : (p : Done → Bool) (older : List Done) (g t : ℕ) → AllBy g older → g < t
    → All (λ d. IsTrue (p d) → d.at.finish < t) older
finished_by p older g t h l = All-weaker (IsDoneBy g) (λ d. IsTrue (p d) → d.at.finish < t)
    (λ d by is. omega (arith, by.finish)) older (All-from_recursion (IsDoneBy g) older h)

station_left_after : (config : Configuration) (older : List Done) (x : Option PoolId) (g t : ℕ) → IsWithinLimits config
    → AllBy g older → g < t → IfSome x (λ pool. count_by (is_held pool t) older < stations_of config pool)
station_left_after config older None g t good h l = tt
station_left_after config older (Some pool) g t good h l =
    rw (count_none (is_held pool t) (IsDoneBy g) (λ d by. and_right (is_in pool (step_pool d.step)) (nat_le t d.at.end)
    (lt-leb t d.at.end (omega (arith, by.end)))) older h) (stations_low config pool good)

pub can_issue_after : (config : Configuration) (older : List Done) (s : Step) (g : ℕ) → IsWithinLimits config
    → AllBy g older → can_issue config older s (g + 1) ≡ true
can_issue_after config older s g good h = can_issue_from config older s (g + 1) (record {
  first = omega arith;
  in_order = omega (arith, last_issue_by g older h);
  slot_left = rw (count_none (λ (d : Done). d.at.issue == g + 1) (IsDoneBy g)
      (λ d by. ne_eqb d.at.issue (g + 1) (λ (e : d.at.issue ≡ g + 1). absurd (omega (arith, by.issue)))) older h)
      (width_low config good);
  branches_finished = finished_by (λ d. is_branch d.step) older g (g + 1) h (omega arith);
  station_left = station_left_after config older (step_pool s) g (g + 1) good h (omega arith);
})

pub can_address_after : (older : List Done) (s : Step) (issue g : ℕ) → AllBy g older → issue ≤ g + 1
    → can_address older s issue (g + 2) ≡ true
can_address_after older s issue g h i = can_address_from older s issue (g + 2) (record {
  after_issue = omega arith;
  after_base = omega (arith, source_end_by g older (j_of s) h);
  in_order = omega (arith, last_address_by g older h);
})

pub can_start_after : (config : Configuration) (older : List Done) (s : Step) (unit : UnitId) (issue address g : ℕ)
    → IsWithinLimits config → AllBy g older → issue ≤ g + 1 → address ≤ g + 2
    → can_start config older s unit issue address (g + 3) ≡ true
can_start_after config older s unit issue address g good h i a =
    can_start_from config older s unit issue address (g + 3) (record {
      after_issue = omega arith;
      after_address = omega arith;
      after_j = omega (arith, source_end_by g older (j_of s) h);
      after_k = omega (arith, source_end_by g older (k_of s) h);
      conflicts_finished = finished_by (λ d. conflicts d.step s) older g (g + 3) h (omega arith);
      unit_left = rw (starts_none older unit g (g + 3) h (omega arith)) (units_low config unit good);
    })

pub can_end_after : (config : Configuration) (older : List Done) (finish g t : ℕ) → IsWithinLimits config
    → AllBy g older → g < t → finish < t → can_end config older finish t ≡ true
can_end_after config older finish g t good h l f = can_end_from config older finish t
    (record { after_finish = f; bus_left = rw (results_none older g t h l) (buses_low config good) })
