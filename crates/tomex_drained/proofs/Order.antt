-- Of two operations of one kind, the one that issues earlier, and whose operands come no later, starts no later, and
-- its result ends no later.
use Rattle.std.proofs.Common.{ℕ, ◌<◌, ◌≤◌, ◌≡◌, ◌&&◌, ◌==◌, arith, refl, Bool, true, false, inl, inr}
use Rattle.std.proofs.Common.{List, [], ◌∷◌, ◌++◌, Some, count_by, is_some, IsTrue}
use Rattle.std.specs.List.{AllByRecursion}
use Rattle.std.proofs.lemmas.Bool.{both_ways, cases_Bool, MatchBool-at_false, MatchBool-at_true}
use Rattle.std.proofs.lemmas.List.Elements.{All-from_recursion}
use Rattle.std.proofs.lemmas.List.Sums.{sum_by-cons}
use Rattle.tomex_rvdec.specs.declared.pool.UnitId.{UnitId}
use Rattle.tomex_rvexec.specs.Steps.{j_of, k_of, step_dest, step_unit}
use Rattle.tomex_rvexec.specs.declared.step.Step.{Step}
use Rattle.tomex_config.specs.Configuration.{Configuration}
use Rattle.tomex_timing.specs.Ahead.{one}
use Rattle.tomex_timing.specs.declared.times.Done.{Done}
use Rattle.tomex_timing.specs.declared.times.Times.{Times}
use Rattle.tomex_timing.specs.History.{cycle_of, is_memory, is_of, source_end}
use Rattle.tomex_timing.specs.Recurrence.{can_end, can_start, conflicts, IsLeast, IsTimed}
use Rattle.tomex_timing.proofs.Least.{least_le}
use Rattle.tomex_timing.proofs.Tests.{can_end_from, can_end_is, can_start_from, operation, IsOperation}
use Rattle.tomex_timing.proofs.Apart.{later_apart}
use Rattle.tomex_alike.proofs.Start.{no_address}

count_low : (p : Done → Bool) (more older : List Done) → count_by p older ≤ count_by p (more ++ older)
count_low p [] older = omega arith
count_low p (d ∷ more) older =
    let rest = count_low p more older in
    rw (sum_by-cons (λ (x : Done). one (p x)) d (more ++ older)) (omega (arith, rest))

-- what is no access conflicts with nothing
apart : (x : Step) → is_memory x ≡ false → (t : ℕ) (older : List Done)
    → AllByRecursion (λ d. IsTrue (conflicts d.step x) → d.at.finish < t) older
apart x e t [] = tt
apart x e t (d ∷ older) = (λ c. absurd (both_ways _ (later_apart d.step x e) c), apart x e t older)

module _ (config : Configuration) (more older : List Done) (x y : Step) (a b : Times) (unit : UnitId)
    (of_x : step_unit x ≡ Some unit) (of_y : step_unit y ≡ Some unit) (plain : is_memory x ≡ false)
    (p : IsTimed config older x a) (q : IsTimed config (more ++ older) y b) (issue : a.issue ≤ b.issue)
    (j : source_end older (j_of x) ≤ source_end (more ++ older) (j_of y))
    (k : source_end older (k_of x) ≤ source_end (more ++ older) (k_of y)) where
  first : IsOperation config older x unit a
  first = operation of_x p

  second : IsOperation config (more ++ older) y unit b
  second = operation of_y q

  pub starts_no_later : a.start ≤ b.start
  starts_no_later =
      let can = second.can in
      let none : cycle_of a.address ≡ 0 = rw (no_address older x a.issue a.address plain p.address) refl in
      let units = count_low (λ d. is_of unit (step_unit d.step) && d.at.start == b.start) more older in
      least_le (can_start config older x unit a.issue (cycle_of a.address)) a.start b.start first.start
      (can_start_from config older x unit a.issue (cycle_of a.address) b.start (record {
        after_issue = omega (arith, can.after_issue);
        after_address = omega (arith, can.after_issue, none);
        after_j = omega (arith, can.after_j);
        after_k = omega (arith, can.after_k);
        conflicts_finished = All-from_recursion (λ d. IsTrue (conflicts d.step x) → d.at.finish < b.start) older
            (apart x plain b.start older);
        unit_left = omega (arith, can.unit_left, units);
      }))

  pub finishes_no_later : a.finish ≤ b.finish
  finishes_no_later = let s = starts_no_later in omega (arith, s, first.finish, second.finish)

  pub ends_no_later : is_some (step_dest y) ≡ true → a.end ≤ b.end
  ends_no_later result =
      let f : a.finish ≤ b.finish = finishes_no_later in
      let least : IsLeast (can_end config (more ++ older) b.finish) b.end =
      MatchBool-at_true _ (b.end ≡ b.finish) result second.end in
      let can = can_end_is config (more ++ older) b.finish b.end least.0 in
      let buses = count_low (λ d. is_some (step_dest d.step) && d.at.end == b.end) more older in
      elim (cases_Bool (is_some (step_dest x))) [
        | inl e ↦
            least_le (can_end config older a.finish) a.end b.end (MatchBool-at_true _ (a.end ≡ a.finish) e first.end)
            (can_end_from config older a.finish b.end (record {
              after_finish = omega (arith, can.after_finish);
              bus_left = omega (arith, can.bus_left, buses);
            }))
        | inr e ↦
            let at_once : a.end ≡ a.finish =
            MatchBool-at_false (IsLeast (can_end config older a.finish) a.end) (a.end ≡ a.finish) e first.end in
            omega (arith, can.after_finish)
      ]
