-- The entries of a run: how the times and the waits of each are related.
use Rattle.std.proofs.Common.{ℕ, ◌+◌, ◌<◌, ◌≤◌, ◌≡◌, ◌∙◌, ap, subst, Bool, true, false, arith, refl, inl, inr}
use Rattle.std.proofs.Common.{Option, Some, None, List, [], ◌∷◌, ◌++◌, length, map, max, reverse}
use Rattle.std.specs.Prelude.{All, ◌&&◌, is_some, not}
use Rattle.std.proofs.lemmas.Bool.{MatchBool-at_false, cases_Bool, le-ltb}
use Rattle.std.proofs.lemmas.List.{map-append, reverse-append, reverse-reverse}
use Rattle.std.proofs.lemmas.List.Elements.{All-nil, All-push}
use Rattle.tomex_rvdec.specs.declared.pool.UnitId.{UnitId}
use Rattle.tomex_rvexec.specs.Steps.{step_pool, step_unit}
use Rattle.tomex_rvexec.specs.declared.step.Step.{Step}
use Rattle.tomex_config.specs.Configuration.{Configuration, IsWithinLimits}
use Rattle.tomex_timing.specs.Ahead.{one}
use Rattle.tomex_timing.specs.History.{cycle_of, greatest_end, is_memory, last_issue}
use Rattle.tomex_timing.specs.Needs.{cycles_that, lacks_address, lacks_operand, waits_in, waits_of}
use Rattle.tomex_timing.specs.Recurrence.{AreTimed, IsLeast, IsTimed, can_address, has_operands}
use Rattle.tomex_timing.specs.Search.{history, times_in, times_of, total_of}
use Rattle.tomex_timing.specs.declared.need.Waits.{Waits}
use Rattle.tomex_timing.specs.declared.times.Done.{Done}
use Rattle.tomex_timing.specs.declared.times.Times.{Times}
use Rattle.tomex_timing.proofs.Accounts.{issue_account, start_account}
use Rattle.tomex_timing.proofs.Bands.{four_ways}
use Rattle.tomex_timing.proofs.Bound.{issue_low, memory_unit}
use Rattle.tomex_timing.proofs.Histories.{are_timed, history_more, length-times_in, times_more, total_is}
use Rattle.tomex_timing.proofs.Orders.{address_rises, reach, start_later}
use Rattle.tomex_timing.proofs.WaitLists.{length-waits_in, waits_more}
use Rattle.tomex_timing.proofs.Width.{issue_from}
use Rattle.tomex_snapshots.specs.Entries.{entries_from, entries_of}
use Rattle.tomex_snapshots.specs.declared.entries.Entry.{Entry}
use Rattle.tomex_frames.proofs.Counts.{cut, same}
use Rattle.tomex_frames.proofs.Waits.{IsPlaced}

-- a step, given what is older
abbrev pub entry_at : ℕ → Configuration → List Done → Done → Entry
entry_at number config older d = record {
  number = number;
  from = max 1 (last_issue older);
  step = d.step;
  at = d.at;
  waits = waits_of config older d;
}

abbrev never : ℕ → Bool
never t = false

never_passes : (from to : ℕ) → cycles_that never from to ≡ 0
never_passes from to = same never false from to (λ t l m. refl)

address_ways : (o : Bool) → one (not o) + one (o && not false) + one false + one false ≡ 1
address_ways true = refl
address_ways false = refl

-- up to its address cycle a step has no operand or no address
address_within : (config : Configuration) (older : List Done) (d : Done) (a : ℕ) → cycle_of d.at.address ≡ a
    → d.at.issue < a → a < d.at.start
    → a ≤ d.at.issue + (waits_of config older d).operand + (waits_of config older d).address
address_within config older d a is later sooner =
    let two = four_ways (lacks_operand older d) (lacks_address older d) never never (d.at.issue + 1) (a + 1)
    (λ t l m. rw (is, le-ltb a t (omega arith)) (address_ways (has_operands older d.step t))) in
    let none = never_passes (d.at.issue + 1) (a + 1) in
    let operand = cut (lacks_operand older d) (d.at.issue + 1) (a + 1) d.at.start (omega arith) (omega arith) in
    let address = cut (lacks_address older d) (d.at.issue + 1) (a + 1) d.at.start (omega arith) (omega arith) in
    omega arith

begun : (config : Configuration) (older : List Done) (d : Done) (unit : Option UnitId) → step_unit d.step ≡ unit
    → IsTimed config older d.step d.at → d.at.issue ≤ d.at.start
begun config older d None e timed =
    let s : d.at.start ≡ d.at.issue = rw e at timed.start in
    omega arith
begun config older d (Some u) e timed =
    let later = start_later config d older timed (ap is_some e) in
    omega (arith, later)

address_between : (config : Configuration) (older : List Done) (d : Done) (a : ℕ) → IsTimed config older d.step d.at
    → d.at.address ≡ Some a → (d.at.issue < a) × (a < d.at.start)
    × (a ≤ d.at.issue + (waits_of config older d).operand + (waits_of config older d).address)
address_between config older d a timed is = elim (cases_Bool (is_memory d.step)) [
  | inl memory ↦
      let at : cycle_of d.at.address ≡ a = ap cycle_of is in
      let rises = address_rises config d older timed memory in
      let starts = start_later config d older timed (memory_unit (step_pool d.step) memory) in
      let later : d.at.issue < a = omega (arith, rises, at) in
      let sooner : a < d.at.start = omega (arith, starts, at) in
      (later, sooner, address_within config older d a at later sooner)
  | inr other ↦
      let none : d.at.address ≡ None =
      MatchBool-at_false (IsLeast (can_address older d.step d.at.issue) (cycle_of d.at.address)) _ other
      timed.address in
      absurd (cc)
]

pub placed : (config : Configuration) (older : List Done) (d : Done) (number last : ℕ) → IsWithinLimits config
    → AreTimed config (d ∷ older) → d.at.end ≤ last → IsPlaced last (entry_at number config older d)
placed config older d number last good timed within =
    let low : 0 < d.at.issue = issue_low config older d.step d.at.issue timed.0.issue.0 in
    let later : last_issue older ≤ d.at.issue = issue_from config older d.step d.at.issue timed.0.issue.0 in
    let times = reach config d older good timed in
    record {
      low = omega arith;
      order = omega arith;
      issue = issue_account config older d;
      begun = begun config older d (step_unit d.step) refl timed.0;
      start = start_account config older d;
      finish = times.order;
      end = times.finish;
      bus = refl;
      within = within;
      address = λ a is. address_between config older d a timed.0 is;
    }

-- the issue of the last of some steps
abbrev from_after : ℕ → List Times → ℕ
from_after from [] = from
from_after from (at ∷ times) = from_after at.issue times

from_after_more : (from : ℕ) (times : List Times) (at : Times) → from_after from (times ++ (at ∷ [])) ≡ at.issue
from_after_more from [] at = refl
from_after_more from (x ∷ times) at = from_after_more x.issue times at

entries_push : (xs : List Step) (times : List Times) (waits : List Waits) (number from : ℕ) (x : Step) (at : Times)
    (w : Waits) → length times ≡ length xs → length waits ≡ length xs
    → entries_from number from (xs ++ (x ∷ [])) (times ++ (at ∷ [])) (waits ++ (w ∷ []))
    ≡ entries_from number from xs times waits
    ++ (record { number = number + length xs; from = from_after from times; step = x; at = at; waits = w } ∷ [])
entries_push [] [] [] number from x at w a b =
    ap (λ (n : ℕ). record { number = n; from = from; step = x; at = at; waits = w } ∷ []) (omega arith)
entries_push [] (t ∷ times) waits number from x at w a b = absurd (omega (arith, a))
entries_push [] [] (v ∷ waits) number from x at w a b = absurd (omega (arith, b))
entries_push (y ∷ xs) [] waits number from x at w a b = absurd (omega (arith, a))
entries_push (y ∷ xs) (t ∷ times) [] number from x at w a b = absurd (omega (arith, b))
entries_push (y ∷ xs) (t ∷ times) (v ∷ waits) number from x at w a b =
    let rest = entries_push xs times waits (number + 1) t.issue x at w (omega (arith, a)) (omega (arith, b)) in
    let n : number + 1 + length xs ≡ number + length (y ∷ xs) = omega arith in
    ap (λ (es : List Entry). record { number = number; from = from; step = y; at = t; waits = v } ∷ es)
    (rest ∙ ap (λ (m : ℕ). entries_from (number + 1) t.issue xs times waits
    ++ (record { number = m; from = from_after t.issue times; step = x; at = at; waits = w } ∷ [])) n)

from_is : (config : Configuration) (h : List Done) → AreTimed config h
    → from_after 1 (map (λ d. d.at) (reverse h)) ≡ max 1 (last_issue h)
from_is config [] timed = refl
from_is config (d ∷ h) timed =
    let low : 0 < d.at.issue = issue_low config h d.step d.at.issue timed.0.issue.0 in
    let own : from_after 1 (map (λ (d : Done). d.at) (reverse h) ++ (d.at ∷ [])) ≡ d.at.issue =
    from_after_more 1 (map (λ d. d.at) (reverse h)) d.at in
    ap (λ (r : List Done). from_after 1 (map (λ d. d.at) r)) (reverse-append (d ∷ []) h)
    ∙ (ap (from_after 1) (map-append (λ (d : Done). d.at) (reverse h) (d ∷ [])) ∙ (own ∙ omega arith))

-- one step more of a run
pub entries_more : (config : Configuration) (xs : List Step) (x : Step) → IsWithinLimits config
    → entries_of config (xs ++ (x ∷ [])) ≡ entries_of config xs ++ (entry_at (1 + length xs) config (history config xs)
    (record { step = x; at = times_of config (history config xs) x }) ∷ [])
entries_more config xs x good =
    let at : Times = times_of config (history config xs) x in
    let w : Waits = waits_of config (history config xs) (record { step = x; at = at }) in
    let pushed = entries_push xs (times_in config xs) (waits_in config xs) 1 1 x at w (length-times_in config xs)
    (length-waits_in config xs) in
    let from : from_after 1 (times_in config xs) ≡ max 1 (last_issue (history config xs)) =
    from_is config (history config xs) (are_timed config xs good) in
    rw (times_more config xs x, waits_more config xs x) pushed
    ∙ ap (λ (n : ℕ). entries_of config xs
    ++ (record { number = 1 + length xs; from = n; step = x; at = at; waits = w } ∷ [])) from

placed_back : (config : Configuration) (ys : List Step) (last : ℕ) → IsWithinLimits config
    → greatest_end (history config (reverse ys)) ≤ last → All (IsPlaced last) (entries_of config (reverse ys))
placed_back config [] last good within = All-nil (IsPlaced last)
placed_back config (y ∷ ys) last good within =
    let xs : List Step = reverse ys in
    let h : List Done = history config xs in
    let d : Done = record { step = y; at = times_of config h y } in
    let more : reverse (y ∷ ys) ≡ xs ++ (y ∷ []) = reverse-append (y ∷ []) ys in
    let whole : history config (reverse (y ∷ ys)) ≡ d ∷ h = ap (history config) more ∙ history_more config xs y in
    let timed : AreTimed config (d ∷ h) = subst (AreTimed config) whole (are_timed config (reverse (y ∷ ys)) good) in
    let bound : greatest_end (d ∷ h) ≤ last = subst (λ (z : List Done). greatest_end z ≤ last) whole within in
    let own = placed config h d (1 + length xs) last good timed (omega (arith, bound)) in
    let others = placed_back config ys last good (omega (arith, bound)) in
    rw (more, entries_more config xs y good)
    (All-push (IsPlaced last) (entries_of config xs) (entry_at (1 + length xs) config h d) others own)

-- all entries of a run
pub placed_run : (config : Configuration) (steps : List Step) → IsWithinLimits config
    → All (IsPlaced (total_of (times_in config steps))) (entries_of config steps)
placed_run config steps good =
    let back : reverse (reverse steps) ≡ steps = reverse-reverse steps in
    let whole : greatest_end (history config (reverse (reverse steps))) ≤ total_of (times_in config steps) =
    rw back (omega (arith, total_is config steps)) in
    rw back at (placed_back config (reverse steps) (total_of (times_in config steps)) good whole)
