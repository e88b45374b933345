-- The cycles of a stall that lie on the path are among all cycles of that stall.
use Rattle.std.proofs.Common.{ℕ, ◌+◌, ◌≤◌, ◌≡◌, Bool, true, false, ap, arith, cond, refl, sym, ◌∙◌, List, [], ◌∷◌}
use Rattle.std.proofs.Common.{inl, inr, sum_by}
use Rattle.std.proofs.lemmas.Bool.{cases_Bool}
use Rattle.std.proofs.lemmas.List.Sums.{sum_by-cons}
use Rattle.tomex_config.specs.Configuration.{Configuration, IsWithinLimits}
use Rattle.tomex_path.specs.Holds.{passes}
use Rattle.tomex_path.specs.Laws.{had_for, is_reason}
use Rattle.tomex_path.specs.Path.{hold_by, link_of, links, path_of, waited}
use Rattle.tomex_path.specs.declared.event.Holder.{Holder}
use Rattle.tomex_path.specs.declared.event.Holder.TheVariants.{Last}
use Rattle.tomex_path.specs.declared.link.Link.{Link}
use Rattle.tomex_path.specs.declared.reason.Reason.{Reason}
use Rattle.tomex_path.specs.declared.reason.Reason.TheVariants as reasons
use Rattle.tomex_path.proofs.PathStalls.{path_within_stalls, sum_turned}
use Rattle.tomex_path_views.specs.ByReason.{links_with}
use Rattle.tomex_rvdec.specs.declared.pool.PoolId.TheVariants as pools
use Rattle.tomex_rvdec.specs.declared.pool.UnitId.TheVariants as units
use Rattle.tomex_timing.specs.Needs.{stalls, stalls_by, waits_of}
use Rattle.tomex_timing.specs.Recurrence.{AreTimed}
use Rattle.tomex_timing.specs.Search.{history}
use Rattle.tomex_config.specs.declared.part.Part.{Part}
use Rattle.tomex_config.specs.declared.part.Part.TheVariants as parts
use Rattle.tomex_timing.specs.declared.need.Waits.{Waits}
use Rattle.tomex_timing.specs.declared.times.Done.{Done}
use Rattle.tomex_timing.proofs.Histories.{are_timed}
use Rattle.tomex_study.specs.Program.{steps_of}
use Rattle.tomex_page.specs.Laws.{OnPathIsWithin, cycles_for}
use Rattle.tomex_page.specs.Runs.{needs_in, needs_on, path_on}
use Rattle.tomex_page.specs.Stalls.{on_path}

abbrev waits_with : Reason → Link → ℕ
waits_with r = had_for r (λ l. l.waits)

-- a sum over the links with a reason, with one link more
one_link : (r : Reason) (l : Link) (path : List Link) → sum_by (λ k. k.waits) (links_with r (l ∷ path))
    ≡ waits_with r l + sum_by (λ k. k.waits) (links_with r path)
one_link r l path = go (is_reason r l.reason)
  where
    go : (b : Bool) → sum_by (λ k. k.waits) (cond b (l ∷ links_with r path) (links_with r path))
        ≡ cond b l.waits 0 + sum_by (λ k. k.waits) (links_with r path)
    go true = sum_by-cons (λ (k : Link). k.waits) l (links_with r path)
    go false = omega arith

with_reason : (r : Reason) (path : List Link) → sum_by (λ l. l.waits) (links_with r path) ≡ sum_by (waits_with r) path
with_reason r [] = refl
with_reason r (l ∷ path) =
    one_link r l path
    ∙ (ap (λ (n : ℕ). waits_with r l + n) (with_reason r path) ∙ sym (sum_by-cons (waits_with r) l path))

-- what is no part, and may be waited for
abbrev IsCause : Reason → Type 0
IsCause (reasons.For part) = ⊥
IsCause r = Unit {0}

-- a link with such a reason has that reason's wait
same_wait : (r own : Reason) (w : Waits) → IsCause r → is_reason r own ≡ true → waited w own ≡ waited w r
same_wait (reasons.For part) own w cause is = absurd cause
same_wait reasons.Branch reasons.Branch w cause is = refl
same_wait reasons.Operand reasons.Operand w cause is = refl
same_wait reasons.Address reasons.Address w cause is = refl
same_wait reasons.Memory reasons.Memory w cause is = refl
same_wait reasons.Order reasons.Order w cause is = refl
same_wait _ _ w cause is = absurd (cc)

among_cause : (config : Configuration) (r : Reason) → IsCause r → (by : Holder) (h : List Done)
    → sum_by (waits_with r) (links config by h) ≤ stalls_by (λ w. waited w r) config h
among_cause config r cause by [] = omega arith
among_cause config r cause by (d ∷ older) = elim (cases_Bool (passes by older d)) [
  | inl first ↦
      let k = hold_by config by older d in
      let rest = among_cause config r cause k.by older in
      let sum = sum_by-cons (waits_with r) (link_of config by older d) (links config k.by older) in
      elim (cases_Bool (is_reason r k.reason)) [
        | inl is ↦
            let own : waits_with r (link_of config by older d) ≡ waited (waits_of config older d) r =
            rw is (same_wait r k.reason (waits_of config older d) cause is) in
            rw first (omega (arith, rest, sum, own))
        | inr not ↦
            let own : waits_with r (link_of config by older d) ≡ 0 = rw not refl in
            rw first (omega (arith, rest, sum, own))
      ]
  | inr skipped ↦
      let rest = among_cause config r cause by older in
      rw skipped (omega (arith, rest))
]

of_cause : (config : Configuration) (r : Reason) → IsCause r → (h : List Done)
    → on_path (path_of config h) r ≤ stalls_by (λ w. waited w r) config h
of_cause config r cause h =
    rw (with_reason r (path_of config h) ∙ sum_turned (waits_with r) (links config Last h))
    (among_cause config r cause Last h)

of_part : (config : Configuration) (part : Part) (h : List Done) → IsWithinLimits config → AreTimed config h
    → on_path (path_of config h) (reasons.For part) ≤ stalls config part h
of_part config part h good timed =
    rw (with_reason (reasons.For part) (path_of config h)) (path_within_stalls config h part good timed)

within : (config : Configuration) (h : List Done) (r : Reason) → IsWithinLimits config → AreTimed config h
    → on_path (path_of config h) r ≤ cycles_for (needs_in config h) r
within config h (reasons.For (parts.Stations pools.Alu)) good timed = of_part config _ h good timed
within config h (reasons.For (parts.Stations pools.Mul)) good timed = of_part config _ h good timed
within config h (reasons.For (parts.Stations pools.Div)) good timed = of_part config _ h good timed
within config h (reasons.For (parts.Stations pools.Load)) good timed = of_part config _ h good timed
within config h (reasons.For (parts.Stations pools.Store)) good timed = of_part config _ h good timed
within config h (reasons.For (parts.Stations pools.Bru)) good timed = of_part config _ h good timed
within config h (reasons.For (parts.Units units.Alu)) good timed = of_part config _ h good timed
within config h (reasons.For (parts.Units units.Mul)) good timed = of_part config _ h good timed
within config h (reasons.For (parts.Units units.Div)) good timed = of_part config _ h good timed
within config h (reasons.For (parts.Units units.Mem)) good timed = of_part config _ h good timed
within config h (reasons.For (parts.Units units.Bru)) good timed = of_part config _ h good timed
within config h (reasons.For parts.Buses) good timed = of_part config _ h good timed
within config h (reasons.For parts.Width) good timed = of_part config _ h good timed
within config h reasons.Branch good timed = of_cause config reasons.Branch tt h
within config h reasons.Operand good timed = of_cause config reasons.Operand tt h
within config h reasons.Address good timed = of_cause config reasons.Address tt h
within config h reasons.Memory good timed = of_cause config reasons.Memory tt h
within config h reasons.Order good timed = of_order h (of_cause config reasons.Order tt h)
  where
    none : (xs : List Done) → stalls_by (λ w. 0) config xs ≡ 0
    none [] = refl
    none (d ∷ older) = let rest = none older in omega (arith, rest)

    of_order : (xs : List Done) → on_path (path_of config xs) reasons.Order ≤ stalls_by (λ w. 0) config xs
        → on_path (path_of config xs) reasons.Order ≤ 0
    of_order xs less = rw (none xs) at less

pub on_path_is_within : OnPathIsWithin
unfolding needs_on path_on
on_path_is_within config p reason good =
    within config (history config (steps_of p)) reason good (are_timed config (steps_of p) good)
