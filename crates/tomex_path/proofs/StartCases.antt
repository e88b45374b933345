-- What a start comes after: its issue, its address, an access, an operand, or an operation that has a unit.
use Rattle.std.proofs.Common.{◌+◌, ◌-◌, ◌<◌, ◌≤◌, ◌≡◌, Bool, true, false, arith, refl, inl, inr}
use Rattle.std.proofs.Common.{List, ◌∷◌, Some, None, nat_lt, not, ◌&&◌}
use Rattle.std.proofs.lemmas.Bool.{cases_Bool, cases_lt, lt-ltb, le-ltb, and_parts, and_from, MatchBool-at_false}
use Rattle.tomex_rvdec.specs.declared.pool.UnitId.{UnitId}
use Rattle.tomex_rvexec.specs.Steps.{step_unit}
use Rattle.tomex_config.specs.Configuration.{Configuration, IsWithinLimits}
use Rattle.tomex_timing.specs.declared.times.Done.{Done}
use Rattle.tomex_timing.specs.History.{cycle_of, is_memory}
use Rattle.tomex_timing.specs.Needs.{lacks_address, lacks_memory, lacks_unit, waits_of}
use Rattle.tomex_timing.specs.Recurrence.{AreTimed, IsLeast, are_conflicts_finished, can_address, can_start}
use Rattle.tomex_timing.specs.Recurrence.{has_operands, has_unit}
use Rattle.tomex_timing.proofs.Accounts.{start_account}
use Rattle.tomex_timing.proofs.Bands.{none_pass}
use Rattle.tomex_timing.proofs.Bools.{last_fails}
use Rattle.tomex_timing.proofs.Tests.{at_once, cases_unit, operation}
use Rattle.tomex_path.proofs.Cases.{StartCase, StartsAfterIssue}
use Rattle.tomex_path.proofs.LastWaits.{no_operands_earlier, some_wait, unfinished_earlier}
use Rattle.tomex_path.proofs.Operands.{operand_before}
use Rattle.tomex_path.proofs.Starts.{access_before, unit_before}

pub no_wait : (config : Configuration) (d : Done) (older : List Done) → d.at.start ≤ d.at.issue + 1
    → StartsAfterIssue config d older
no_wait config d older l =
    let a = start_account config older d in
    let w = waits_of config older d in
    record {
      is = rw (
        le-ltb 0 w.unit (omega arith),
        le-ltb 0 w.memory (omega arith),
        le-ltb 0 w.address (omega arith),
        le-ltb 0 w.operand (omega arith),
      ) refl;
      before = l;
    }

cut : (a b : Bool) → ((a && false) && b) ≡ false
cut true b = refl
cut false b = refl

off : (a : Bool) → (a && false) ≡ false
off true = refl
off false = refl

pub start_case : (config : Configuration) (d : Done) (older : List Done) → IsWithinLimits config
    → AreTimed config (d ∷ older) → StartCase config d older
start_case config d older good timed = elim (cases_unit d.step) [
  | inl none ↦ let at = at_once none timed.0 in inl (no_wait config d older (omega (arith, at.start)))
  | inr u ↦ elim (cases_lt (d.at.issue + 1) d.at.start) [
    | inr early ↦ inl (no_wait config d older early)
    | inl late ↦ waited u.0 u.1 late
  ]
]
  where
    waited : (unit : UnitId) → step_unit d.step ≡ Some unit → d.at.issue + 1 < d.at.start
        → StartCase config d older
    waited unit is late =
        let op = operation is timed.0 in
        let w = waits_of config older d in
        let account = start_account config older d in
        let there : has_operands older d.step d.at.start ≡ true =
        and_from _ _ (lt-ltb _ _ op.can.after_j) (lt-ltb _ _ op.can.after_k) in
        let all = and_parts (nat_lt d.at.issue d.at.start && nat_lt (cycle_of d.at.address) d.at.start
        && has_operands older d.step d.at.start && are_conflicts_finished older d.step d.at.start)
        (has_unit config older unit d.at.start) op.start.0 in
        let here = and_parts (nat_lt d.at.issue d.at.start && nat_lt (cycle_of d.at.address) d.at.start
        && has_operands older d.step d.at.start) (are_conflicts_finished older d.step d.at.start) all.0 in
        elim (cases_Bool (has_operands older d.step (d.at.start - 1))) [
          | inr o ↦
              let zu : w.unit ≡ 0 = none_pass (lacks_unit older d) (d.at.issue + 1) d.at.start (λ s a b.
              rw (no_operands_earlier older d.step s (d.at.start - 1) (omega arith) o) refl) in
              let zm : w.memory ≡ 0 = none_pass (lacks_memory older d) (d.at.issue + 1) d.at.start (λ s a b.
              rw (no_operands_earlier older d.step s (d.at.start - 1) (omega arith) o) refl) in
              let za : w.address ≡ 0 = none_pass (lacks_address older d) (d.at.issue + 1) d.at.start (λ s a b.
              rw (no_operands_earlier older d.step s (d.at.start - 1) (omega arith) o) refl) in
              let before = operand_before older d (omega arith) o there in
              inr (inr (inr (inl (record {
                is = rw (zu, zm, za, lt-ltb 0 w.operand (omega arith)) refl;
                before = before;
              }))))
          | inl o ↦ elim (cases_lt (cycle_of d.at.address) (d.at.start - 1)) [
            | inr a ↦
                let zu : w.unit ≡ 0 = none_pass (lacks_unit older d) (d.at.issue + 1) d.at.start (λ s x y.
                rw (le-ltb (cycle_of d.at.address) s (omega arith))
                (cut (has_operands older d.step s) (are_conflicts_finished older d.step s))) in
                let zm : w.memory ≡ 0 = none_pass (lacks_memory older d) (d.at.issue + 1) d.at.start (λ s x y.
                rw (le-ltb (cycle_of d.at.address) s (omega arith))
                (cut (has_operands older d.step s) (not (are_conflicts_finished older d.step s)))) in
                let pa : 0 < w.address = some_wait (lacks_address older d) (d.at.issue + 1) d.at.start late
                (rw (o, le-ltb (cycle_of d.at.address) (d.at.start - 1) a) refl) in
                elim (cases_Bool (is_memory d.step)) [
                  | inl m ↦ inr (inl (record {
                    is = rw (zu, zm, lt-ltb 0 w.address pa) refl;
                    memory = m;
                    before = omega (arith, op.can.after_address);
                  }))
                  | inr m ↦
                      let z : d.at.address ≡ None =
                      MatchBool-at_false (IsLeast (can_address older d.step d.at.issue) (cycle_of d.at.address)) _ m
                      timed.0.address in
                      let y : cycle_of d.at.address ≡ 0 = rw z refl in
                      absurd (omega arith)
                ]
            | inl a ↦ elim (cases_Bool (are_conflicts_finished older d.step (d.at.start - 1))) [
              | inr m ↦
                  let zu : w.unit ≡ 0 = none_pass (lacks_unit older d) (d.at.issue + 1) d.at.start (λ s x y.
                  rw (unfinished_earlier older d.step s (d.at.start - 1) (omega arith) m)
                  (off (has_operands older d.step s && nat_lt (cycle_of d.at.address) s))) in
                  let pm : 0 < w.memory = some_wait (lacks_memory older d) (d.at.issue + 1) d.at.start late
                  (rw (o, lt-ltb (cycle_of d.at.address) (d.at.start - 1) a, m) refl) in
                  let before = access_before older d d.at.start (omega arith) m here.1 in
                  inr (inr (inl (record { is = rw (zu, lt-ltb 0 w.memory pm) refl; before = before })))
              | inl m ↦
                  let pu : 0 < w.unit = some_wait (lacks_unit older d) (d.at.issue + 1) d.at.start late
                  (rw (o, lt-ltb (cycle_of d.at.address) (d.at.start - 1) a, m) refl) in
                  let fails : can_start config older d.step unit d.at.issue (cycle_of d.at.address) (d.at.start - 1)
                  ≡ false = op.start.1 (d.at.start - 1) (omega arith) in
                  let full : has_unit config older unit (d.at.start - 1) ≡ false =
                  last_fails (((nat_lt d.at.issue (d.at.start - 1) && nat_lt (cycle_of d.at.address) (d.at.start - 1))
                  && has_operands older d.step (d.at.start - 1))
                  && are_conflicts_finished older d.step (d.at.start - 1))
                  (has_unit config older unit (d.at.start - 1)) (rw (
                    lt-ltb d.at.issue (d.at.start - 1) (omega arith),
                    lt-ltb (cycle_of d.at.address) (d.at.start - 1) a,
                    o,
                    m,
                  ) refl) fails in
                  let before = unit_before config older unit d.at.start good (omega arith) full in
                  inr (inr (inr (inr (record {
                    unit = unit;
                    own = is;
                    waits = pu;
                    is = rw (lt-ltb 0 w.unit pu, is) refl;
                    before = before;
                  }))))
            ]
          ]
        ]
