-- The same step in a second run of the same steps: where a test of the first run finds a step, its event in the second
-- run is no later than what the second run's tests ask for.
use Rattle.std.proofs.Common.{ℕ, zero, suc, ◌+◌, ◌<◌, ◌≤◌, ◌≡◌, true, false, arith, max, refl, inl, inr}
use Rattle.std.proofs.Common.{List, [], ◌∷◌, Option, Some, None, ◌==◌, ◌&&◌, count_by}
use Rattle.std.specs.Prelude.{if◌then◌else◌, nat_lt}
use Rattle.std.proofs.lemmas.Bool.{and_parts, cases_Bool, cases_lt, cases_order, eq-eqb, eqb-true, le-leb, le-ltb}
use Rattle.std.proofs.lemmas.Bool.{lt-ltb}
use Rattle.std.proofs.lemmas.List.Sums.{sum_by-cons}
use Rattle.tomex_rvexec.specs.Steps.{is_branch, is_in, is_number, step_dest, step_pool}
use Rattle.tomex_config.specs.Configuration.{Configuration}
use Rattle.tomex_timing.specs.Ahead.{one}
use Rattle.tomex_timing.specs.declared.tables.Tag.{Tag}
use Rattle.tomex_timing.specs.declared.times.Done.{Done}
use Rattle.tomex_timing.specs.History.{greatest_end, is_memory, last_address, last_issue}
use Rattle.tomex_timing.specs.Recurrence.{AreTimed, conflicts}
use Rattle.tomex_timing.specs.Station.{is_held}
use Rattle.tomex_timing.proofs.Width.{issue_from, none_later}
use Rattle.tomex_floor.specs.Floor.{issue_back, last_finish}
use Rattle.tomex_path.specs.declared.event.Holder.{Holder}
use Rattle.tomex_path.specs.declared.event.Holder.TheVariants as holders
use Rattle.tomex_path.specs.Holds.{access_of, cycle_at, event_of, passes}
use Rattle.tomex_path.proofs.Chain.{holder_at}
use Rattle.tomex_path.proofs.Operands.{end_of}

-- two histories of the same steps
abbrev pub AreSame : List Done → List Done → Type 0
AreSame [] [] = Unit {0}
AreSame [] (b ∷ g) = true ≡ false
AreSame (d ∷ h) [] = true ≡ false
AreSame (d ∷ h) (b ∷ g) = (d.step ≡ b.step) × AreSame h g

-- the cycle in the second run of the event of the step that passes in the first
abbrev pub second_at : Holder → List Done → List Done → ℕ
second_at by [] g = 0
second_at by (d ∷ h) [] = 0
second_at by (d ∷ h) (b ∷ g) = if passes by h d then cycle_at (event_of by) b.at else second_at by h g

pub last_second : (h g : List Done) → second_at holders.Last h g ≤ greatest_end g
last_second [] g = omega arith
last_second (d ∷ h) [] = omega arith
last_second (d ∷ h) (b ∷ g) =
    let rest = last_second h g in
    elim (cases_Bool (nat_lt (greatest_end h) d.at.end)) [
      | inl e ↦ rw e (omega arith)
      | inr e ↦ rw e (omega (arith, rest))
    ]

module _ (other : Configuration) where
  pub issued_second : (t : ℕ) (h g : List Done) → AreTimed other g → second_at (holders.FirstIssue t) h g ≤ last_issue g
  issued_second t [] g timed = omega arith
  issued_second t (d ∷ h) [] timed = omega arith
  issued_second t (d ∷ h) (b ∷ g) timed =
      let rest = issued_second t h g timed.1 in
      let order : last_issue g ≤ b.at.issue = issue_from other g b.step b.at.issue timed.0.issue.0 in
      elim (cases_Bool (d.at.issue == t && nat_lt (last_issue h) t)) [
        | inl e ↦ rw e (omega arith)
        | inr e ↦ rw e (omega (arith, rest))
      ]

  further : (t n : ℕ) (h g : List Done) (b : Done) → AreTimed other (b ∷ g)
      → n < 1 + count_by (λ x. x.at.issue == t) h
      → ((m : ℕ) → m < count_by (λ x. x.at.issue == t) h → second_at (holders.FirstIssue t) h g ≤ issue_back g m)
      → second_at (holders.FirstIssue t) h g ≤ issue_back (b ∷ g) n
  further t zero h g b timed few back =
      let k = issued_second t h g timed.1 in
      let order : last_issue g ≤ b.at.issue = issue_from other g b.step b.at.issue timed.0.issue.0 in
      omega arith
  further t (suc m) h g b timed few back = back m (omega arith)

  -- the first of several that issue in a cycle is as far back as there are others
  pub width_second : (config : Configuration) (t n : ℕ) (h g : List Done) → AreTimed config h → AreTimed other g
      → AreSame h g → last_issue h ≤ t → n < count_by (λ x. x.at.issue == t) h
      → second_at (holders.FirstIssue t) h g ≤ issue_back g n
  width_second config t n [] g timed other_timed same l few = absurd (omega arith)
  width_second config t n (d ∷ h) [] timed other_timed same l few = absurd (cc)
  width_second config t n (d ∷ h) (b ∷ g) timed other_timed same l few = elim (cases_order d.at.issue t) [
    | inr (inl k) ↦
        let none : count_by (λ x. x.at.issue == t) (d ∷ h) ≡ 0 = none_later config (d ∷ h) t timed k in
        absurd (omega arith)
    | inr (inr k) ↦ absurd (omega arith)
    | inl e ↦ elim (cases_lt (last_issue h) t) [
      | inl below ↦
          let none : count_by (λ x. x.at.issue == t) h ≡ 0 = none_later config h t timed.1 below in
          let all : n < 1 + count_by (λ x. x.at.issue == t) h = rw (sum_by-cons, eq-eqb d.at.issue t e) at few in
          let first : n ≡ 0 = omega arith in
          rw (eq-eqb d.at.issue t e, lt-ltb (last_issue h) t below, first) (omega arith)
      | inr above ↦
          let all : n < 1 + count_by (λ x. x.at.issue == t) h = rw (sum_by-cons, eq-eqb d.at.issue t e) at few in
          let order : last_issue h ≤ d.at.issue = issue_from config h d.step d.at.issue timed.0.issue.0 in
          rw (eq-eqb d.at.issue t e, le-ltb (last_issue h) t above)
          (further t n h g b other_timed all
          (λ m few. width_second config t m h g timed.1 other_timed.1 same.1 (omega arith) few))
    ]
  ]

-- if none issues first in a cycle
pub none_second : (t : ℕ) (h g : List Done) → 0 < t → holder_at (holders.FirstIssue t) h ≡ 0
    → second_at (holders.FirstIssue t) h g ≡ 0
none_second t [] g low none = refl
none_second t (d ∷ h) [] low none = refl
none_second t (d ∷ h) (b ∷ g) low none = elim (cases_Bool (d.at.issue == t && nat_lt (last_issue h) t)) [
  | inl e ↦
      let two = and_parts (d.at.issue == t) (nat_lt (last_issue h) t) e in
      let f : d.at.issue ≡ t = eqb-true d.at.issue t two.0 in
      let z : d.at.issue ≡ 0 = rw e at none in
      absurd (omega arith)
  | inr e ↦ rw e (none_second t h g low (rw e at none))
]

-- if no station of a pool is held in a cycle, each step of the pool has ended
pub station_second : (tag : Tag) (t : ℕ) (h g : List Done) → 0 < t → AreSame h g
    → count_by (is_held tag.pool t) g ≡ 0 → second_at (holders.Station tag) h g < t
station_second tag t [] g low same none = low
station_second tag t (d ∷ h) [] low same none = absurd (cc)
station_second tag t (d ∷ h) (b ∷ g) low same none =
    let sum : count_by (is_held tag.pool t) (b ∷ g) ≡ one (is_held tag.pool t b) + count_by (is_held tag.pool t) g =
    sum_by-cons (λ x. one (is_held tag.pool t x)) b g in
    let rest = station_second tag t h g low same.1 (omega arith) in
    elim (cases_Bool (is_in tag.pool (step_pool d.step) && is_number d.at.station tag.number)) [
      | inr e ↦ rw e rest
      | inl e ↦
          let own = and_parts (is_in tag.pool (step_pool d.step)) (is_number d.at.station tag.number) e in
          let there : is_in tag.pool (step_pool b.step) ≡ true = rw same.0 at own.0 in
          elim (cases_lt b.at.end t) [
            | inl l ↦ rw e l
            | inr l ↦
                let held : one (is_held tag.pool t b) ≡ 1 = rw (there, le-leb t b.at.end l) refl in
                absurd (omega arith)
          ]
    ]

pub branch_second : (h g : List Done) → AreSame h g → second_at holders.Branch h g ≤ last_finish is_branch g
branch_second [] g same = omega arith
branch_second (d ∷ h) [] same = absurd (cc)
branch_second (d ∷ h) (b ∷ g) same =
    let rest = branch_second h g same.1 in
    elim (cases_Bool (is_branch b.step)) [
      | inl e ↦ rw (same.0, e) (omega arith)
      | inr e ↦ rw (same.0, e) (omega (arith, rest))
    ]

pub memory_second : (h g : List Done) → AreSame h g → second_at holders.Memory h g ≤ last_address g
memory_second [] g same = omega arith
memory_second (d ∷ h) [] same = absurd (cc)
memory_second (d ∷ h) (b ∷ g) same =
    let rest = memory_second h g same.1 in
    elim (cases_Bool (is_memory b.step)) [
      | inl e ↦ rw (same.0, e) (omega arith)
      | inr e ↦ rw (same.0, e) rest
    ]

pub conflict_second : (x : Done) (t : ℕ) (h g : List Done) → AreSame h g
    → second_at (holders.Conflict (access_of x) t) h g ≤ last_finish (λ s. conflicts s x.step) g
conflict_second x t [] g same = omega arith
conflict_second x t (d ∷ h) [] same = absurd (cc)
conflict_second x t (d ∷ h) (b ∷ g) same =
    let rest = conflict_second x t h g same.1 in
    elim (cases_Bool (conflicts b.step x.step)) [
      | inl e ↦ elim (cases_Bool (d.at.finish == t)) [
        | inl f ↦ rw (same.0, e, f) (omega arith)
        | inr f ↦ rw (same.0, e, f) (omega (arith, rest))
      ]
      | inr e ↦ rw (same.0, e) (omega (arith, rest))
    ]

pub writer_second : (a c : Option ℕ) (h g : List Done) → AreSame h g
    → second_at (holders.Writer a c) h g ≤ max (end_of g a) (end_of g c)
writer_second a c [] g same = omega arith
writer_second a c (d ∷ h) [] same = absurd (cc)
writer_second None None (d ∷ h) (b ∷ g) same = writer_second None None h g same.1
writer_second (Some r) None (d ∷ h) (b ∷ g) same =
    let rest = writer_second (Some r) None h g same.1 in
    elim (cases_Bool (is_number (step_dest b.step) r)) [
      | inl e ↦ rw (same.0, e) (omega arith)
      | inr e ↦ rw (same.0, e) (omega (arith, rest))
    ]
writer_second None (Some r) (d ∷ h) (b ∷ g) same =
    let rest = writer_second None (Some r) h g same.1 in
    elim (cases_Bool (is_number (step_dest b.step) r)) [
      | inl e ↦ rw (same.0, e) (omega arith)
      | inr e ↦ rw (same.0, e) (omega (arith, rest))
    ]
writer_second (Some r) (Some s) (d ∷ h) (b ∷ g) same =
    let rest = writer_second (Some r) (Some s) h g same.1 in
    elim (cases_Bool (is_number (step_dest b.step) r)) [
      | inl e ↦ rw (same.0, e) (omega arith)
      | inr e ↦ elim (cases_Bool (is_number (step_dest b.step) s)) [
        | inl f ↦ rw (same.0, e, f) (omega arith)
        | inr f ↦ rw (same.0, e, f) (omega (arith, rest))
      ]
    ]
