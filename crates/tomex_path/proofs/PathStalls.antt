-- What a path waits for is among the stalls.
use Rattle.std.proofs.Common.{ℕ, ◌+◌, ◌<◌, ◌≤◌, ◌≡◌, Bool, true, false, arith, refl, ◌∙◌, inl, inr, ap, sym, subst}
use Rattle.std.proofs.Common.{List, [], ◌∷◌, ◌++◌, Option, Some, None, reverse, sum_by}
use Rattle.std.specs.Prelude.{if◌then◌else◌, ◌||◌}
use Rattle.std.specs.List.{list_any}
use Rattle.std.proofs.lemmas.Bool.{cases_Bool}
use Rattle.std.proofs.lemmas.List.{reverse-append}
use Rattle.std.proofs.lemmas.List.Sums.{sum_by-append, sum_by-cons}
use Rattle.tomex_rvdec.specs.declared.pool.PoolId.{PoolId}
use Rattle.tomex_rvdec.specs.declared.pool.UnitId.{UnitId}
use Rattle.tomex_rvexec.specs.Steps.{step_pool, step_unit}
use Rattle.tomex_config.specs.Configuration.{Configuration, IsWithinLimits}
use Rattle.tomex_config.specs.declared.part.Part.{Part}
use Rattle.tomex_config.specs.declared.part.Part.TheVariants as parts
use Rattle.tomex_timing.specs.declared.tables.Tag.{Tag}
use Rattle.tomex_timing.specs.declared.times.Done.{Done}
use Rattle.tomex_timing.specs.History.{is_memory, last_issue}
use Rattle.tomex_timing.specs.Needs.{stalls, waits_for, waits_of}
use Rattle.tomex_timing.specs.Recurrence.{AreTimed}
use Rattle.tomex_timing.specs.Tables.{tag_at}
use Rattle.tomex_path.specs.declared.event.Event.{Event}
use Rattle.tomex_path.specs.declared.event.Event.TheVariants as events
use Rattle.tomex_path.specs.declared.event.Holder.{Holder}
use Rattle.tomex_path.specs.declared.event.Holder.TheVariants.{Last}
use Rattle.tomex_path.specs.declared.hold.Hold.{Hold}
use Rattle.tomex_path.specs.declared.link.Link.{Link}
use Rattle.tomex_path.specs.declared.reason.Reason.{Reason}
use Rattle.tomex_path.specs.declared.reason.Reason.TheVariants as reasons
use Rattle.tomex_path.specs.Holds.{cycle_at, event_of, hold_of, passes}
use Rattle.tomex_path.specs.Laws.{NamedPartsStall, PathIsWithinStalls, is_for, waited_for}
use Rattle.tomex_path.specs.Path.{hold_by, link_of, links, waited}
use Rattle.tomex_path.proofs.Addresses.{address_case, end_case}
use Rattle.tomex_path.proofs.Cases.{address_hold, end_hold, issue_hold, start_hold}
use Rattle.tomex_path.proofs.StartCases.{start_case}
use Rattle.tomex_path.proofs.StationEnds.{issue_cases}
use Rattle.tomex_path.proofs.Whole.{has_address, later}

pub tag_pool : (x : Option PoolId) (n : Option ℕ) (tag : Tag) → tag_at x n ≡ Some tag → x ≡ Some tag.pool
tag_pool None n tag e = absurd (cc)
tag_pool (Some pool) None tag e = absurd (cc)
tag_pool (Some pool) (Some n) tag e = ap pool_in e
  where
    pool_in : Option Tag → Option PoolId
    pool_in None = None
    pool_in (Some t) = Some t.pool

-- the wait for a reason, if it is for the part, is among the step's waits for it, and is some
pub record IsAmong (config : Configuration) (part : Part) (d : Done) (older : List Done) (r : Reason) : Type 0 where
  pub within : (if is_for r part then waited (waits_of config older d) r else 0)
      ≤ waits_for part d (waits_of config older d)
  pub some : is_for r part ≡ true → 0 < waited (waits_of config older d) r

module _ (config : Configuration) (d : Done) (older : List Done) where
  -- the same of an equal hold
  among_as : {part : Part} {k l : Hold} → k ≡ l → IsAmong config part d older l.reason
      → IsAmong config part d older k.reason
  among_as {part} {k} {l} e among = subst (λ (m : Hold). IsAmong config part d older m.reason) (sym e) among

  -- what is no wait for the part
  other : (part : Part) (r : Reason) → is_for r part ≡ false → IsAmong config part d older r
  other part r e = record { within = rw e (omega arith); some = λ f. absurd (cc) }

  station : (part : Part) (tag : Tag) → step_pool d.step ≡ Some tag.pool → 0 < (waits_of config older d).station
      → IsAmong config part d older (reasons.For (parts.Stations tag.pool))
  station (parts.Stations p) tag own pos = record { within = rw own (omega arith); some = λ f. pos }
  station (parts.Units u) tag own pos = other (parts.Units u) (reasons.For (parts.Stations tag.pool)) refl
  station parts.Buses tag own pos = other parts.Buses (reasons.For (parts.Stations tag.pool)) refl
  station parts.Width tag own pos = other parts.Width (reasons.For (parts.Stations tag.pool)) refl

  unit : (part : Part) (u : UnitId) → step_unit d.step ≡ Some u → 0 < (waits_of config older d).unit
      → IsAmong config part d older (reasons.For (parts.Units u))
  unit (parts.Units p) u own pos = record { within = rw own (omega arith); some = λ f. pos }
  unit (parts.Stations p) u own pos = other (parts.Stations p) (reasons.For (parts.Units u)) refl
  unit parts.Buses u own pos = other parts.Buses (reasons.For (parts.Units u)) refl
  unit parts.Width u own pos = other parts.Width (reasons.For (parts.Units u)) refl

  bus : (part : Part) → 0 < (waits_of config older d).bus → IsAmong config part d older (reasons.For parts.Buses)
  bus parts.Buses pos = record { within = omega arith; some = λ f. pos }
  bus (parts.Units u) pos = other (parts.Units u) (reasons.For parts.Buses) refl
  bus (parts.Stations p) pos = other (parts.Stations p) (reasons.For parts.Buses) refl
  bus parts.Width pos = other parts.Width (reasons.For parts.Buses) refl

  width : (part : Part) → 0 < (waits_of config older d).width → IsAmong config part d older (reasons.For parts.Width)
  width parts.Width pos = record { within = omega arith; some = λ f. pos }
  width (parts.Units u) pos = other (parts.Units u) (reasons.For parts.Width) refl
  width (parts.Stations p) pos = other (parts.Stations p) (reasons.For parts.Width) refl
  width parts.Buses pos = other parts.Buses (reasons.For parts.Width) refl

  module _ (good : IsWithinLimits config) (timed : AreTimed config (d ∷ older)) (part : Part) where
    issue_among : IsAmong config part d older (issue_hold config d older).reason
    issue_among = elim (issue_cases config d older good timed) [
      | inl c ↦ among_as c.is (station part c.tag (tag_pool (step_pool d.step) d.at.station c.tag c.own) c.waits)
      | inr (inl c) ↦ among_as c.is (width part c.waits)
      | inr (inr (inl c)) ↦ among_as c.is (other part reasons.Branch refl)
      | inr (inr (inr (inl c))) ↦ among_as c.is (other part reasons.Order refl)
      | inr (inr (inr (inr c))) ↦ among_as c.is (other part reasons.Order refl)
    ]

    address_among : is_memory d.step ≡ true → IsAmong config part d older (address_hold config d older).reason
    address_among memory = elim (address_case config d older timed memory) [
      | inl c ↦ among_as c.is issue_among
      | inr (inl c) ↦ among_as c.is (other part reasons.Operand refl)
      | inr (inr c) ↦ among_as c.is (other part reasons.Address refl)
    ]

    start_among : IsAmong config part d older (start_hold config d older).reason
    start_among = elim (start_case config d older good timed) [
      | inl c ↦ among_as c.is issue_among
      | inr (inl c) ↦ among_as c.is (address_among c.memory)
      | inr (inr (inl c)) ↦ among_as c.is (other part reasons.Memory refl)
      | inr (inr (inr (inl c))) ↦ among_as c.is (other part reasons.Operand refl)
      | inr (inr (inr (inr c))) ↦ among_as c.is (unit part c.unit c.own c.waits)
    ]

    end_among : IsAmong config part d older (end_hold config d older).reason
    end_among = elim (end_case config d older good timed) [
      | inl c ↦ among_as c.is start_among
      | inr c ↦ among_as c.is (bus part c.waits)
    ]

    event_among : (e : Event) → last_issue older < cycle_at e d.at
        → IsAmong config part d older (hold_of e older d (waits_of config older d)).reason
    event_among events.Issue l = issue_among
    event_among events.Address l = address_among (has_address config good d older timed (omega arith))
    event_among events.Start l = start_among
    event_among events.Finish l = start_among
    event_among events.End l = end_among

module _ (config : Configuration) (good : IsWithinLimits config) (part : Part) where
  among_stalls : (by : Holder) (h : List Done) → AreTimed config h
      → sum_by (waited_for part) (links config by h) ≤ stalls config part h
  among_stalls by [] timed = omega arith
  among_stalls by (d ∷ older) timed = elim (cases_Bool (passes by older d)) [
    | inl first ↦
        let k = hold_by config by older d in
        let own = event_among config d older good timed part (event_of by) (later config good older d timed by first) in
        let rest = among_stalls k.by older timed.1 in
        let sum = sum_by-cons (waited_for part) (link_of config by older d) (links config k.by older) in
        rw first (omega (arith, own.within, rest, sum))
    | inr skipped ↦
        let rest = among_stalls by older timed.1 in
        rw skipped (omega (arith, rest))
  ]

  -- a link for the part has waited
  some_named : (by : Holder) (h : List Done) → AreTimed config h
      → list_any (λ l. is_for l.reason part) (links config by h) ≡ true
      → 0 < sum_by (waited_for part) (links config by h)
  some_named by [] timed e = absurd (cc)
  some_named by (d ∷ older) timed e = elim (cases_Bool (passes by older d)) [
    | inl first ↦
        let k = hold_by config by older d in
        let own = event_among config d older good timed part (event_of by) (later config good older d timed by first) in
        elim (cases_Bool (is_for k.reason part)) [
          | inl named ↦
              let pos = own.some named in
              let sum = sum_by-cons (waited_for part) (link_of config by older d) (links config k.by older) in
              let whole : waited_for part (link_of config by older d) ≡ waited (waits_of config older d) k.reason =
              rw named refl in
              rw first (omega (arith, pos, sum, whole))
          | inr not_named ↦
              let there = rw (first, not_named) at e in
              let rest = some_named k.by older timed.1 there in
              let sum = sum_by-cons (waited_for part) (link_of config by older d) (links config k.by older) in
              rw first (omega (arith, rest, sum))
        ]
    | inr skipped ↦ rw skipped (some_named by older timed.1 (rw skipped at e))
  ]

pub sum_turned : (f : Link → ℕ) (ls : List Link) → sum_by f (reverse ls) ≡ sum_by f ls
sum_turned f [] = refl
sum_turned f (l ∷ ls) =
    let more : reverse (l ∷ ls) ≡ reverse ls ++ (l ∷ []) = reverse-append (l ∷ []) ls in
    let rest : sum_by f (reverse ls) ≡ sum_by f ls = sum_turned f ls in
    let both = sum_by-append f (reverse ls) (l ∷ []) in
    let one = sum_by-cons f l [] in
    let own = sum_by-cons f l ls in
    ap (λ xs. sum_by f xs) more ∙ sums (sum_by f (reverse ls ++ (l ∷ []))) (sum_by f (reverse ls)) (sum_by f (l ∷ []))
    (f l) (sum_by f (l ∷ ls)) (sum_by f ls) both rest one own
  where
    sums : (a b c d e x : ℕ) → a ≡ b + c → b ≡ x → c ≡ d + 0 → e ≡ d + x → a ≡ e
    sums a b c d e x p q r s = omega arith

any_more : (p : Link → Bool) (xs : List Link) (l : Link) → list_any p (xs ++ (l ∷ [])) ≡ (p l || list_any p xs)
any_more p [] l = refl
any_more p (x ∷ xs) l = rw (any_more p xs l) (swapped (p x) (p l) (list_any p xs))
  where
    swapped : (a b c : Bool) → (a || (b || c)) ≡ (b || (a || c))
    swapped true true c = refl
    swapped true false c = refl
    swapped false b c = refl

any_turned : (p : Link → Bool) (ls : List Link) → list_any p (reverse ls) ≡ list_any p ls
any_turned p [] = refl
any_turned p (l ∷ ls) =
    rw (reverse-append (l ∷ []) ls) (any_more p (reverse ls) l ∙ ap (λ b. p l || b) (any_turned p ls))

pub path_within_stalls : PathIsWithinStalls
path_within_stalls config h part good timed =
    rw (sum_turned (waited_for part) (links config Last h)) (among_stalls config good part Last h timed)

pub named_stall : NamedPartsStall
named_stall config h part good timed named =
    let sum = among_stalls config good part Last h timed in
    let some = some_named config good part Last h timed
    (rw (any_turned (λ l. is_for l.reason part) (links config Last h)) at named) in
    omega arith
