-- Pairs of operations of one kind, of which the second waits only for the first: the last result of all is the last
-- pair's, and a branch that waits for it finishes when all has ended.
use Rattle.std.proofs.Common.{◌<◌, ◌≤◌, ◌≡◌, arith, true, false, List, [], ◌∷◌}
use Rattle.std.proofs.Common.{None, Some, is_some}
use Rattle.tomex_rvdec.specs.declared.pool.UnitId.{UnitId}
use Rattle.tomex_rvdec.specs.declared.pool.UnitId.TheVariants.{Bru}
use Rattle.tomex_rvexec.specs.Steps.{is_branch, j_of, k_of, step_dest, step_unit}
use Rattle.tomex_config.specs.Configuration.{Configuration, IsWithinLimits}
use Rattle.tomex_timing.specs.declared.times.Done.{Done}
use Rattle.tomex_timing.specs.History.{greatest_end, is_memory, last_issue, source_end}
use Rattle.tomex_timing.specs.Recurrence.{AreTimed, IsTimed}
use Rattle.tomex_timing.proofs.Bound.{in_reach, timed_by}
use Rattle.tomex_timing.proofs.Tests.{can_issue_is, operation}
use Rattle.tomex_drained.specs.Drained.{IsDrained}
use Rattle.tomex_drained.proofs.Drained.{branches_drain}
use Rattle.tomex_drained.proofs.Order.{ends_no_later}

-- d1 has no operands; d2 has its result, and no other
pub record IsPair (unit : UnitId) (d2 d1 : Done) (h : List Done) : Type 0 where
  pub unit1 : step_unit d1.step ≡ Some unit
  pub unit2 : step_unit d2.step ≡ Some unit
  pub plain1 : is_memory d1.step ≡ false
  pub plain2 : is_memory d2.step ≡ false
  pub result1 : is_some (step_dest d1.step) ≡ true
  pub result2 : is_some (step_dest d2.step) ≡ true
  pub j1 : source_end h (j_of d1.step) ≡ 0
  pub k1 : source_end h (k_of d1.step) ≡ 0
  pub j2 : source_end (d1 ∷ h) (j_of d2.step) ≡ d1.at.end
  pub k2 : source_end (d1 ∷ h) (k_of d2.step) ≡ 0

abbrev pub ArePairs : UnitId → List Done → Type 0
ArePairs unit [] = Unit {0}
ArePairs unit (d ∷ []) = ⊥
ArePairs unit (d2 ∷ d1 ∷ h) = IsPair unit d2 d1 h × ArePairs unit h

in_turn : (config : Configuration) (h : List Done) (d : Done) → IsTimed config h d.step d.at → last_issue h ≤ d.at.issue
in_turn config h d p = (can_issue_is config h d.step d.at.issue p.issue.0).in_order

-- an operation ends no earlier than it starts
ends : (config : Configuration) (unit : UnitId) (d : Done) (h : List Done) → IsWithinLimits config
    → AreTimed config h → IsTimed config h d.step d.at → d.at.start ≤ d.at.end
ends config unit d h good timed p =
    let r = in_reach config h d.step d.at (greatest_end h) good (timed_by config h good timed) p in
    omega (arith, r.order, r.finish, r.end)

-- the second ends after the first
second_after : (config : Configuration) (unit : UnitId) (d2 d1 : Done) (h : List Done) → IsWithinLimits config
    → AreTimed config (d2 ∷ d1 ∷ h) → IsPair unit d2 d1 h → d1.at.end < d2.at.end
second_after config unit d2 d1 h good timed pair =
    let start = (operation pair.unit2 timed.0).can.after_j in
    let by = ends config unit d2 (d1 ∷ h) good timed.1 timed.0 in
    omega (arith, start, by, pair.j2)

pub pairs_end : (config : Configuration) (unit : UnitId) (d2 d1 : Done) (h : List Done) → IsWithinLimits config
    → AreTimed config (d2 ∷ d1 ∷ h) → ArePairs unit (d2 ∷ d1 ∷ h) → greatest_end (d2 ∷ d1 ∷ h) ≤ d2.at.end
pairs_end config unit d2 d1 [] good timed pairs =
    let l = second_after config unit d2 d1 [] good timed pairs.0 in omega (arith, l)
pairs_end config unit d2 d1 (c ∷ []) good timed pairs = absurd pairs.1
pairs_end config unit d2 d1 (c2 ∷ c1 ∷ h) good timed pairs =
    let rest = pairs_end config unit c2 c1 h good timed.1.1 pairs.1 in
    let l = second_after config unit d2 d1 (c2 ∷ c1 ∷ h) good timed pairs.0 in
    let u = pairs.0 in
    let v = pairs.1.0 in
    let i1 = in_turn config (c2 ∷ c1 ∷ h) d1 timed.1.0 in
    let i2 = in_turn config (c1 ∷ h) c2 timed.1.1.0 in
    let i3 = in_turn config (d1 ∷ c2 ∷ c1 ∷ h) d2 timed.0 in
    let first : c1.at.end ≤ d1.at.end =
    ends_no_later config (c2 ∷ c1 ∷ []) h c1.step d1.step c1.at d1.at unit v.unit1 u.unit1 v.plain1 timed.1.1.1.0
    timed.1.0 (omega (arith, i1, i2)) (omega (arith, u.j1, v.j1)) (omega (arith, u.k1, v.k1)) u.result1 in
    let second : c2.at.end ≤ d2.at.end =
    ends_no_later config (d1 ∷ c2 ∷ []) (c1 ∷ h) c2.step d2.step c2.at d2.at unit v.unit2 u.unit2 v.plain2 timed.1.1.0
    timed.0 (omega (arith, i1, i3)) (omega (arith, first, u.j2, v.j2)) (omega (arith, u.k2, v.k2)) u.result2 in
    omega (arith, rest, l, second)

-- Pairs, an operation without operands and without a result (JAL), one more pair, and a branch that waits for it.
pub record IsPrologue (unit : UnitId) (b d2 d1 m c2 c1 : Done) (h : List Done) : Type 0 where
  pub pairs : ArePairs unit (c2 ∷ c1 ∷ h)
  pub of_unit : step_unit m.step ≡ Some unit
  pub plain : is_memory m.step ≡ false
  pub j : source_end (c2 ∷ c1 ∷ h) (j_of m.step) ≡ 0
  pub k : source_end (c2 ∷ c1 ∷ h) (k_of m.step) ≡ 0
  pub last : IsPair unit d2 d1 (m ∷ c2 ∷ c1 ∷ h)
  pub branch : is_branch b.step ≡ true
  pub branch_unit : step_unit b.step ≡ Some Bru
  pub no_result : step_dest b.step ≡ None
  pub waits : source_end (d2 ∷ d1 ∷ m ∷ c2 ∷ c1 ∷ h) (j_of b.step) ≡ d2.at.end

pub prologue_drains : (config : Configuration) (unit : UnitId) (b d2 d1 m c2 c1 : Done) (h : List Done)
    → IsWithinLimits config → AreTimed config (b ∷ d2 ∷ d1 ∷ m ∷ c2 ∷ c1 ∷ h) → IsPrologue unit b d2 d1 m c2 c1 h
    → IsDrained (b ∷ d2 ∷ d1 ∷ m ∷ c2 ∷ c1 ∷ h)
prologue_drains config unit b d2 d1 m c2 c1 h good timed is =
    let of_d2 = timed.1.0 in
    let of_d1 = timed.1.1.0 in
    let of_m = timed.1.1.1.0 in
    let below = timed.1.1.1.1 in
    let rest = pairs_end config unit c2 c1 h good below is.pairs in
    let u = is.last in
    let v = is.pairs.0 in
    let l = second_after config unit d2 d1 (m ∷ c2 ∷ c1 ∷ h) good timed.1 u in
    let i1 = in_turn config (c1 ∷ h) c2 below.0 in
    let i2 = in_turn config (c2 ∷ c1 ∷ h) m of_m in
    let i3 = in_turn config (m ∷ c2 ∷ c1 ∷ h) d1 of_d1 in
    let i4 = in_turn config (d1 ∷ m ∷ c2 ∷ c1 ∷ h) d2 of_d2 in
    let first : c1.at.end ≤ d1.at.end =
    ends_no_later config (m ∷ c2 ∷ c1 ∷ []) h c1.step d1.step c1.at d1.at unit v.unit1 u.unit1 v.plain1 below.1.0 of_d1
    (omega (arith, i1, i2, i3)) (omega (arith, u.j1, v.j1)) (omega (arith, u.k1, v.k1)) u.result1 in
    let second : c2.at.end ≤ d2.at.end =
    ends_no_later config (d1 ∷ m ∷ c2 ∷ []) (c1 ∷ h) c2.step d2.step c2.at d2.at unit v.unit2 u.unit2 v.plain2 below.0
    of_d2 (omega (arith, i2, i3, i4)) (omega (arith, first, u.j2, v.j2)) (omega (arith, u.k2, v.k2)) u.result2 in
    let jump : m.at.end ≤ d1.at.end =
    ends_no_later config (m ∷ []) (c2 ∷ c1 ∷ h) m.step d1.step m.at d1.at unit is.of_unit u.unit1 is.plain of_m of_d1
    (omega (arith, i3)) (omega (arith, is.j, u.j1)) (omega (arith, is.k, u.k1)) u.result1 in
    let start = (operation is.branch_unit timed.0).can.after_j in
    let r = in_reach config (d2 ∷ d1 ∷ m ∷ c2 ∷ c1 ∷ h) b.step b.at (greatest_end (d2 ∷ d1 ∷ m ∷ c2 ∷ c1 ∷ h)) good
    (timed_by config (d2 ∷ d1 ∷ m ∷ c2 ∷ c1 ∷ h) good timed.1) timed.0 in
    let all : greatest_end (d2 ∷ d1 ∷ m ∷ c2 ∷ c1 ∷ h) ≤ b.at.finish =
    omega (arith, rest, l, first, second, jump, start, r.order, is.waits) in
    branches_drain config (b ∷ d2 ∷ d1 ∷ m ∷ c2 ∷ c1 ∷ h) timed (is.branch, is.no_result, all)
