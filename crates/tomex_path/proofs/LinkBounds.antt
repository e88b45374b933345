-- The links of a path are within the steps and the cycles of its run, and no more than the steps.
use Rattle.std.proofs.Common.{ℕ, ◌+◌, ◌<◌, ◌≤◌, ◌≡◌, arith, List, [], ◌∷◌, All, inl, inr, length, reverse}
use Rattle.std.proofs.lemmas.Bool.{cases_Bool}
use Rattle.std.proofs.lemmas.List.{reverse-append}
use Rattle.std.proofs.lemmas.List.Elements.{All-cons, All-head, All-nil, All-push, All-tail}
use Rattle.tomex_config.specs.Configuration.{Configuration, IsWithinLimits}
use Rattle.tomex_rvexec.specs.declared.step.Step.{Step}
use Rattle.tomex_config.specs.declared.part.Part.TheVariants.{Stations, Units, Buses, Width}
use Rattle.tomex_timing.specs.declared.need.Waits.{Waits}
use Rattle.tomex_timing.specs.declared.times.Done.{Done}
use Rattle.tomex_timing.specs.declared.times.Times.{Times}
use Rattle.tomex_timing.specs.History.{greatest_end}
use Rattle.tomex_timing.specs.Needs.{waits_of}
use Rattle.tomex_timing.specs.Recurrence.{AreTimed}
use Rattle.tomex_timing.specs.Waiting.{AreWithin}
use Rattle.tomex_timing.specs.Search.{history, times_in, total_of}
use Rattle.tomex_timing.proofs.Histories.{are_timed, length-history, total_of-history}
use Rattle.tomex_timing.proofs.Orders.{reach}
use Rattle.tomex_timing.proofs.WaitLists.{waits_within}
use Rattle.tomex_path.specs.declared.event.Holder.{Holder}
use Rattle.tomex_path.specs.declared.event.Holder.TheVariants.{Last}
use Rattle.tomex_path.specs.declared.reason.Reason.{Reason}
use Rattle.tomex_path.specs.declared.reason.Reason.TheVariants as reasons
use Rattle.tomex_path.specs.Holds.{passes}
use Rattle.tomex_path.specs.declared.link.Link.{Link}
use Rattle.tomex_path.specs.Laws.{IsChain}
use Rattle.tomex_path.specs.Path.{hold_by, link_of, links, path_of, waited}
use Rattle.tomex_path.specs.Within.{IsWithin}
use Rattle.tomex_path.proofs.Turned.{RiseTo, path_adds_up, path_rises_to}

chain_order : (ls : List Link) (from to : ℕ) → IsChain from to ls → from ≤ to + 1
chain_order [] from to c = omega arith
chain_order (l ∷ ls) from to c =
    let first : l.from ≡ from = c.0 in
    let order : l.from ≤ l.to = c.1 in
    omega (arith, chain_order ls (l.to + 1) to c.2)

-- no more steps rise than there are between two
rise_few : (ls : List Link) (m n : ℕ) → RiseTo m n ls → m + length ls < n
rise_few [] m n r = let l : m < n = r in omega arith
rise_few (l ∷ ls) m n r =
    let low : m < l.step = r.0 in
    omega (arith, rise_few ls l.step n r.1)

waited_within : (n : ℕ) (w : Waits) (r : Reason) → AreWithin n w → waited w r ≤ n
waited_within n w (reasons.For (Stations pool)) a = a.station
waited_within n w (reasons.For (Units unit)) a = a.unit
waited_within n w (reasons.For Buses) a = a.bus
waited_within n w (reasons.For Width) a = a.width
waited_within n w reasons.Branch a = a.branch
waited_within n w reasons.Operand a = a.operand
waited_within n w reasons.Address a = a.address
waited_within n w reasons.Memory a = a.memory
waited_within n w reasons.Order a = omega arith

-- no step has waited for longer than the run takes
waits_short : (config : Configuration) (by : Holder) (h : List Done) (n : ℕ) → IsWithinLimits config
    → AreTimed config h → greatest_end h ≤ n → All (λ l. l.waits ≤ n) (links config by h)
waits_short config by [] n good timed end = All-nil (λ (l : Link). l.waits ≤ n)
waits_short config by (d ∷ h) n good timed end = elim (cases_Bool (passes by h d)) [
  | inl e ↦
      let k = hold_by config by h d in
      rw e (All-cons (λ (l : Link). l.waits ≤ n) (link_of config by h d) (links config k.by h)
      (waited_within n (waits_of config h d) k.reason
      (waits_within config h d n (reach config d h good timed) (omega arith)))
      (waits_short config k.by h n good timed.1 (omega arith)))
  | inr e ↦ rw e (waits_short config by h n good timed.1 (omega arith))
]

-- what holds of each link from the last one back holds of each from the first one on
all_back : (P : Link → Type 0) (ls : List Link) → All P ls → All P (reverse ls)
all_back P [] a = All-nil P
all_back P (l ∷ ls) a =
    rw (reverse-append (l ∷ []) ls)
    (All-push P (reverse ls) l (all_back P ls (All-tail P l ls a)) (All-head P l ls a))

-- links from one cycle to another, whose steps are after m and before n
are_within : (ls : List Link) (from to m n : ℕ) → 1 ≤ from → IsChain from to ls → RiseTo m (n + 1) ls
    → All (λ l. l.waits ≤ to) ls → All (IsWithin n to) ls
are_within [] from to m n low c r w = All-nil (IsWithin n to)
are_within (l ∷ ls) from to m n low c r w =
    let first : l.from ≡ from = c.0 in
    let order : l.from ≤ l.to = c.1 in
    let later : l.to + 1 ≤ to + 1 = chain_order ls (l.to + 1) to c.2 in
    let step : m < l.step = r.0 in
    let last : l.step + length ls < n + 1 = rise_few ls l.step (n + 1) r.1 in
    All-cons (IsWithin n to) l ls
    (record {
      first = omega arith;
      last = omega arith;
      from = omega arith;
      order = order;
      to = omega arith;
      waits = All-head (λ (l : Link). l.waits ≤ to) l ls w;
    })
    (are_within ls (l.to + 1) to l.step n (omega arith) c.2 r.1 (All-tail (λ (l : Link). l.waits ≤ to) l ls w))

module _ (config : Configuration) (steps : List Step) (times : List Times) (ls : List Link)
    (good : IsWithinLimits config) (timed : times ≡ times_in config steps)
    (are : ls ≡ path_of config (history config steps)) where
  pub links_chain : IsChain 1 (total_of times) ls
  links_chain = rw (timed, are, total_of-history (history config steps))
      (path_adds_up config (history config steps) good (are_timed config steps good)).0

  rises : RiseTo 0 (length steps + 1) ls
  rises = rw (are, ← length-history config steps) (path_rises_to config (history config steps))

  short : All (λ l. l.waits ≤ total_of times) ls
  short = rw (timed, are, total_of-history (history config steps))
      (all_back (λ (l : Link). l.waits ≤ greatest_end (history config steps))
      (links config Last (history config steps))
      (waits_short config Last (history config steps) (greatest_end (history config steps)) good
      (are_timed config steps good) (omega arith)))

  pub links_within : All (IsWithin (length steps) (total_of times)) ls
  links_within = are_within ls 1 (total_of times) 0 (length steps) (omega arith) links_chain rises short

  pub links_few : length ls ≤ length steps
  links_few = omega (arith, rise_few ls 0 (length steps + 1) rises)
