-- The issue of one instruction, in a cycle in which others may have issued before it, and of as many as the width
-- allows.
use Rattle.std.specs.Prelude.{◌≡◌, ℕ, ◌+◌, ◌≤◌, ◌==◌, Bool, true, false, if◌then◌else◌, List, Result, Ok, count_by}
use Rattle.tomex_image.specs.Image.{Loaded}
use Rattle.tomex_rvexec.specs.declared.outcome.Fault.{Fault}
use Rattle.tomex_config.specs.Configuration.{Configuration}
use Rattle.tomex_timing.specs.declared.times.Done.{Done}
use Rattle.tomex_timing.specs.Recurrence.{can_issue_another}
use Rattle.tomex_cycle.specs.Phases.{IsIssuedTo, IsYetToIssue}
use Rattle.tomex_cycle.specs.Run.{IsNextCycle, first_timed}
use Rattle.tomex_cycle.specs.Views.{Front, clocks}

-- during the issues of cycle u, the one after t: the next step couldn't issue by t
abbrev pub IsIssuing : Loaded → Configuration → (n t u count : ℕ) → Front → Type 0
IsIssuing i config n t u count s = IsIssuedTo i config n u t (clocks u u t) count s

-- the number of steps issued after one more issue, if it is made
abbrev pub count_after : Bool → ℕ → ℕ
count_after made count = if made then count + 1 else count

-- The next step issues, or can't in the cycle. The width leaves one more issue before it.
abbrev pub IssuesNext : Loaded → Configuration → ℕ → Front → Result Bool Fault → Front → Type 0
IssuesNext i config count old result new =
    (n t u : ℕ) → IsNextCycle i config n t u → can_issue_another config (first_timed config i count) u ≡ true
    → IsIssuing i config n t u count old
    → (made : Bool) × (result ≡ Ok made) × IsIssuing i config n t u (count_after made count) new
    × (made ≡ false → count ≤ n → IsYetToIssue i config count u)

-- the number of steps of a history that issue in the cycle
abbrev pub issued_in : ℕ → List Done → ℕ
issued_in u h = count_by (λ d. d.at.issue == u) h

-- The first count steps are issued, the last made of them in cycle u.
pub record HaveIssued (i : Loaded) (config : Configuration) (n t u count made : ℕ) (s : Front) : Type 0 where
  pub now : IsIssuing i config n t u count s
  pub in_cycle : issued_in u (first_timed config i count) ≡ made

-- from one issue in the cycle to all its issues
abbrev pub IssuesOn : Loaded → Configuration → ℕ → Front → ℕ → ℕ → Front → Type 0
IssuesOn i config count old made counted new =
    (n t u : ℕ) → IsNextCycle i config n t u → HaveIssued i config n t u count 1 old
    → (count ≤ counted) × HaveIssued i config n t u counted made new

-- After one issue, more steps issue, up to the width or to one that can't.
abbrev pub IssuesMore : Loaded → Configuration → ℕ → Front → ℕ → Front → Type 0
IssuesMore i config count old counted new =
    (n t u : ℕ) → IsNextCycle i config n t u → HaveIssued i config n t u count 1 old
    → (count ≤ counted) × IsIssuing i config n t u counted new × (counted ≤ n → IsYetToIssue i config counted u)
