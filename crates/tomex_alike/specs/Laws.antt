-- Laws on histories that look alike: what follows them is the same, so a run that comes back to a state repeats itself.
use Rattle.std.specs.Prelude.{ℕ, ◌+◌, ◌-◌, ◌<◌, ◌≤◌, ◌≡◌, List, [], ◌∷◌, Option, Some, None, drop, length, take}
use Rattle.std.specs.Prelude.{slice_index_or}
use Rattle.tomex_rvexec.specs.declared.step.Step.{Step}
use Rattle.tomex_config.specs.Configuration.{Configuration, IsWithinLimits}
use Rattle.tomex_timing.specs.Ahead.{one}
use Rattle.tomex_config.specs.declared.part.Part.{Part}
use Rattle.tomex_timing.specs.declared.times.Done.{Done}
use Rattle.tomex_timing.specs.declared.times.Times.{Times}
use Rattle.tomex_timing.specs.History.{greatest_end, is_memory}
use Rattle.tomex_timing.specs.Issue.{first_issue}
use Rattle.tomex_timing.specs.Needs.{peak, stalls, taken_by, waits_for, waits_of}
use Rattle.tomex_timing.specs.Recurrence.{AreTimed, IsTimed}
use Rattle.tomex_timing.specs.Search.{history, times_in, times_of}
use Rattle.tomex_alike.specs.Alike.{AreAsFar, IsAsFar, IsSameStep, LooksLike, lateness}

-- To look alike is an equivalence.

-- a history looks like itself, if no later access can meet one that isn't compared
abbrev pub LooksLikeItself : Type 0
LooksLikeItself = (config : Configuration) (w : ℕ) (g : List Done) → ((i : ℕ) → w ≤ i → lateness config g i ≡ 0)
    → LooksLike config w g g

-- if it looks like another, that one looks like it
abbrev pub LooksLikeBothWays : Type 0
LooksLikeBothWays = (config : Configuration) (w : ℕ) (g h : List Done) → LooksLike config w g h → LooksLike config w h g

-- and it looks like each that the other one looks like
abbrev pub LooksLikeFurther : Type 0
LooksLikeFurther = (config : Configuration) (w : ℕ) (f g h : List Done) → LooksLike config w f g
    → LooksLike config w g h → LooksLike config w f h

-- One step.

-- a step with its times
abbrev pub done : Step → Times → Done
done s at = record { step = s; at = at }

-- After g and h two steps x and y get times that are as far after the first cycles in which they may issue. They take
-- as much of each part and wait for it as long. With them the histories look alike again.
pub record IsRepeated (config : Configuration) (w : ℕ) (g h : List Done) (x y : Step) (a b : Times) : Type 0 where
  pub times : AreAsFar (first_issue config g) (first_issue config h) a b
  pub alike : LooksLike config (w + one (is_memory x)) (done x a ∷ g) (done y b ∷ h)
  pub first : IsAsFar (first_issue config g) (first_issue config h) (first_issue config (done x a ∷ g))
      (first_issue config (done y b ∷ h))
  pub taken : (part : Part) → taken_by part g (done x a) ≡ taken_by part h (done y b)
  pub waits : (part : Part) → waits_for part (done x a) (waits_of config g (done x a))
      ≡ waits_for part (done y b) (waits_of config h (done y b))

-- so it is with the same steps after histories that look alike
abbrev pub StepsRepeat : Type 0
StepsRepeat = (config : Configuration) (w : ℕ) (g h : List Done) (x y : Step) (a b : Times) → IsWithinLimits config
    → AreTimed config g → AreTimed config h → LooksLike config w g h → IsSameStep w g h x y → IsTimed config g x a
    → IsTimed config h y b → IsRepeated config w g h x y a b

-- A block of steps.

-- the history after one more step
abbrev pub next : Configuration → List Done → Step → List Done
next config h s = done s (times_of config h s) ∷ h

-- the history after a block
abbrev pub after : Configuration → List Done → List Step → List Done
after config h [] = h
after config h (s ∷ steps) = after config (next config h s) steps

-- the accesses to compare after a block: w before it, and its own
abbrev pub window : ℕ → List Step → ℕ
window w [] = w
window w (s ∷ steps) = window (w + one (is_memory s)) steps

-- the steps of two blocks are the same, one by one
abbrev pub AreSameSteps : Configuration → ℕ → List Done → List Done → List Step → List Step → Type 0
AreSameSteps config w g h [] [] = Unit {0}
AreSameSteps config w g h (x ∷ xs) (y ∷ ys) =
    IsSameStep w g h x y
    × AreSameSteps config (w + one (is_memory x)) (next config g x) (next config h y) xs ys
AreSameSteps config w g h _ _ = ⊥

-- A block after g leaves g', and one after h leaves h'. These look alike. The first cycles in which the next step may
-- issue are as far after those before the blocks, and so are the totals. The blocks add as many stalls of each part. If
-- no more of a part is taken up to g' than up to h, then no more of it is taken up to h' than up to h.
pub record AreRepeated (config : Configuration) (w : ℕ) (g h g' h' : List Done) : Type 0 where
  pub alike : LooksLike config w g' h'
  pub first : IsAsFar (first_issue config g) (first_issue config h) (first_issue config g') (first_issue config h')
  pub total : IsAsFar (first_issue config g) (first_issue config h) (greatest_end g' + 1) (greatest_end h' + 1)
  pub stalls : (part : Part) → stalls config part h' + stalls config part g
      ≡ stalls config part g' + stalls config part h
  pub peak : (part : Part) → peak part g' ≤ peak part h → peak part h' ≡ peak part h

-- so it is with blocks of the same steps after histories that look alike
abbrev pub BlocksRepeat : Type 0
BlocksRepeat = (config : Configuration) (w : ℕ) (g h : List Done) (xs ys : List Step) → IsWithinLimits config
    → AreTimed config g → AreTimed config h → LooksLike config w g h → AreSameSteps config w g h xs ys
    → AreRepeated config (window w xs) g h (after config g xs) (after config h ys)

-- A run that comes back to a state.

-- the history of the steps before a place
abbrev pub history_to : Configuration → List Step → ℕ → List Done
history_to config steps i = history config (take i steps)

-- the first cycle in which the step at a place may issue
abbrev pub first_issue_at : Configuration → List Step → ℕ → ℕ
first_issue_at config steps i = first_issue config (history_to config steps i)

-- the accesses to compare n steps after a place: w before it, and those since
abbrev pub window_to : ℕ → List Step → ℕ → ℕ → ℕ
window_to w steps p n = window w (take n (drop p steps))

-- At place i a run is in the state of an earlier place p, with the same instructions and conflicts in the next n steps.
pub record ComesBack (config : Configuration) (w : ℕ) (steps : List Step) (p i n : ℕ) : Type 0 where
  pub earlier : p < i
  pub there : i + n ≤ length steps
  pub state : LooksLike config w (history_to config steps p) (history_to config steps i)
  pub same : (k : ℕ) (z : Step) → k < n
      → IsSameStep (window_to w steps p k) (history_to config steps (p + k)) (history_to config steps (i + k))
      (slice_index_or steps (p + k) z) (slice_index_or steps (i + k) z)

-- an address n cycles later, if there is one
abbrev pub address_later : ℕ → Option ℕ → Option ℕ
address_later n None = None
address_later n (Some t) = Some (t + n)

-- the same times, n cycles later
abbrev pub later : ℕ → Times → Times
later n at = record {
  issue = at.issue + n;
  address = address_later n at.address;
  start = at.start + n;
  finish = at.finish + n;
  end = at.end + n;
  station = at.station;
}

-- The run is at place i c cycles later than at place p. Each of the n steps from i on has the times of the step that is
-- as many places after p, c cycles later. After these steps the run is in the same state again: its next step may
-- issue, and it would end, c cycles later.
pub record RepeatsItself (config : Configuration) (w : ℕ) (steps : List Step) (p i n c : ℕ) : Type 0 where
  pub since : first_issue_at config steps i ≡ first_issue_at config steps p + c
  pub times : (k : ℕ) (z : Times) → k < n → slice_index_or (times_in config steps) (i + k) z
      ≡ later c (slice_index_or (times_in config steps) (p + k) z)
  pub state : LooksLike config (window_to w steps p n) (history_to config steps (p + n))
      (history_to config steps (i + n))
  pub first : first_issue_at config steps (i + n) ≡ first_issue_at config steps (p + n) + c
  pub total : greatest_end (history_to config steps (i + n)) ≡ greatest_end (history_to config steps (p + n)) + c

-- a run that comes back to a state, relative to the first cycle in which the next step may issue, with the same
-- instructions and conflicts ahead, repeats itself cycle for cycle
abbrev pub RunsRepeat : Type 0
RunsRepeat = (config : Configuration) (w : ℕ) (steps : List Step) (p i n : ℕ) → IsWithinLimits config
    → ComesBack config w steps p i n
    → RepeatsItself config w steps p i n (first_issue_at config steps i - first_issue_at config steps p)

-- The n steps from place i on take no more of a part than was taken before, and add as many stalls of it as those from
-- place p on. If no step before had waited for it, none of these does.
pub record AsksForNothingNew
    (config : Configuration) (part : Part) (steps : List Step) (p i n : ℕ) : Type 0 where
  pub taken : peak part (history_to config steps (i + n)) ≡ peak part (history_to config steps i)
  pub stalled : stalls config part (history_to config steps (i + n)) + stalls config part (history_to config steps p)
      ≡ stalls config part (history_to config steps (p + n)) + stalls config part (history_to config steps i)
  pub unstalled : stalls config part (history_to config steps i) ≡ 0
      → stalls config part (history_to config steps (i + n)) ≡ 0

-- and such a run takes no more of any part than it has taken, and waits for no part that it hadn't waited for
abbrev pub RunsAskForNothingNew : Type 0
RunsAskForNothingNew = (config : Configuration) (w : ℕ) (part : Part) (steps : List Step) (p i n : ℕ)
    → IsWithinLimits config → ComesBack config w steps p i n → AsksForNothingNew config part steps p i n
