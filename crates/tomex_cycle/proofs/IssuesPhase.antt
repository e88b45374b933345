-- The issues of a cycle: the first, and those that the width leaves after it.
use Rattle.tomex_cycle.proofs.IssuesTest.{last_by, yet_more}
use Rattle.tomex_cycle.proofs.Words.{nat_lt, ◌&&◌, Result, Ok, Err, cases_Bool, ltb-true, ltb-false, lt-ltb, le-ltb}
use Rattle.tomex_cycle.proofs.Words.{nat_tests, le-leb, both_ways, eq-eqb, sum_by-cons, Loaded, Configuration}
use Rattle.tomex_cycle.proofs.Words.{IsWithinLimits, Fault, Step, step_pool, Done, last_issue, AreTimed}
use Rattle.tomex_cycle.proofs.Words.{are_branches_finished, can_issue, can_issue_another, times_of, has_station}
use Rattle.tomex_cycle.proofs.Words.{width_low, times_are, none_later, IsIssuing, IssuesNext, IssuesOn, IsIssuedTo}
use Rattle.tomex_cycle.proofs.Words.{IsYetToIssue, MakesIssue, RunEndsAfter, AreIssuedBy, first_timed, clocks, Front}
use Rattle.tomex_cycle.proofs.Words.{IsNextCycle, ℕ, suc, ◌+◌, ◌%◌, ◌<◌, ◌≤◌, ◌≡◌, ◌∙◌, Bool, true, false, arith, refl}
use Rattle.tomex_cycle.proofs.Words.{List, ◌∷◌, ap, inl, inr, subst, result_unwrap_or, HaveIssued, IssuesMore}
use Rattle.tomex_cycle.proofs.Words.{count_after, issued_in}
use Rattle.tomex_cycle.proofs.Runs.{next_done, run_next, run_timed, step_is}
use Rattle.tomex_cycle.proofs.Truth.{ok_not_err, ok_same}
use Rattle.tomex_cycle.proofs.Places.{issued_more}

-- none has issued in the cycle yet
none_first : (config : Configuration) (t u : ℕ) (h : List Done) → AreTimed config h → AreIssuedBy t h → u ≡ t + 1
    → issued_in u h ≡ 0
none_first config t u h timed issued e = let l : last_issue h ≤ t = last_by t h issued in
    none_later config h u timed (omega arith)

-- as long as fewer than the width have issued in it, one more may
open_slot : {i : Loaded} {config : Configuration} {n t u count made : ℕ} {s : Front}
    → HaveIssued i config n t u count made s → made < config.width
    → can_issue_another config (first_timed config i count) u ≡ true
open_slot {i} {config} {u = u} {count} {made} have l =
    let h : List Done = first_timed config i count in
    rw (le-leb (last_issue h) u (last_by u h have.now.issued), have.in_cycle, lt-ltb made config.width l) refl

-- and then none
no_slot : {i : Loaded} {config : Configuration} {n t u count made : ℕ} {s : Front}
    → HaveIssued i config n t u count made s → config.width ≤ made
    → can_issue_another config (first_timed config i count) u ≡ false
no_slot {i} {config} {u = u} {count} {made} have l =
    let h : List Done = first_timed config i count in
    rw (le-leb (last_issue h) u (last_by u h have.now.issued), have.in_cycle, le-ltb made config.width l) refl

without_slot : (config : Configuration) (u : ℕ) (h : List Done) (y : Step) → can_issue_another config h u ≡ false
    → can_issue config h y u ≡ false
without_slot config u h y gone =
    rw gone (never (nat_lt 0 u) (are_branches_finished h u) (has_station config h (step_pool y) u))
  where
    never : (a b c : Bool) → (((a && false) && b) && c) ≡ false
    never a b c = grind (arith, nat_tests)

-- the step that issues after t does so in the next cycle, if it has issued by then
issues_then : {config : Configuration} (h : List Done) (x : Step) (t u : ℕ) → IsWithinLimits config → AreTimed config h
    → ((s : ℕ) → s ≤ t → can_issue config h x s ≡ false) → (times_of config h x).issue ≤ u → u ≡ t + 1
    → (times_of config h x).issue ≡ u
issues_then {config} h x t u good timed never by e = elim (cases_Bool (nat_lt t (times_of config h x).issue)) [
  | inl l ↦ let k : t < (times_of config h x).issue = ltb-true _ _ l in omega arith
  | inr l ↦
      let k : (times_of config h x).issue ≤ t = ltb-false _ _ l in
      absurd (both_ways _ (never (times_of config h x).issue k) (times_are config h x good timed).issue.0)
]

count_first : (u : ℕ) (d : Done) (h : List Done) → d.at.issue ≡ u → issued_in u (d ∷ h) ≡ suc (issued_in u h)
count_first u d h e = rw (sum_by-cons, eq-eqb d.at.issue u e) (omega arith)

-- one more has issued in it
one_more : {i : Loaded} {config : Configuration} {n : ℕ} (count t u : ℕ) → RunEndsAfter i config n → u ≡ t + 1
    → (count ≤ n → IsYetToIssue i config count t) → AreIssuedBy u (first_timed config i (count + 1)) → count + 1 ≤ n + 1
    → issued_in u (first_timed config i (count + 1)) ≡ suc (issued_in u (first_timed config i count))
one_more {i} {config} count t u run e before issued few =
    let x = step_is count run (omega arith) in
    let next = run_next config i count x.0 x.1 in
    let by : AreIssuedBy u (next_done config (first_timed config i count) x.0 ∷ first_timed config i count) =
    rw next at issued in
    let at : (times_of config (first_timed config i count) x.0).issue ≡ u = issues_then (first_timed config i count) x.0
    t u run.lawful (run_timed i count run.lawful) (before (omega arith) x.0 x.1) by.0 e in
    rw next (count_first u (next_done config (first_timed config i count) x.0) (first_timed config i count) at)

-- what doesn't return that it has issued is taken as none
pub one_is : (result : Result Bool Fault) → result_unwrap_or result false ≡ true → result ≡ Ok true
one_is (Ok made) e = ap (λ (b : Bool). Ok b) e
one_is (Err fault) e = let z : false ≡ true = e in absurd (cc)

none_is : (result : Result Bool Fault) (made : Bool) → result_unwrap_or result false ≡ false → result ≡ Ok made
    → result ≡ Ok false
none_is (Ok more) made e is = ap (λ (b : Bool). Ok b) e
none_is (Err fault) made e is = absurd (cc)

-- The issue of one more: it is made, or it can't be, in the cycle.

pub record IsTried (i : Loaded) (config : Configuration) (n t u count : ℕ) (more : Bool) (s : Front) : Type 0 where
  pub on : IsIssuing i config n t u (count_after more count) s
  pub yet : more ≡ false → count ≤ n → IsYetToIssue i config count u

tried : {i : Loaded} {config : Configuration} {n t u count made : ℕ} {old : Front} (new : Front) (more : Bool)
    → IsNextCycle i config n t u → HaveIssued i config n t u count made old → made < config.width
    → IssuesNext i config count old (Ok more) new → IsTried i config n t u count more new
tried {i} {config} {n} {t} {u} {count} new more at have left issues =
    let d = issues n t u at (open_slot have left) have.now in
    let m : d.0 ≡ more = ok_same (Ok more) d.0 more d.1 refl in
    record {
      on = subst (λ (b : Bool). IsIssuing i config n t u (count_after b count) new) m d.2;
      yet = λ none. d.3 (m ∙ none);
    }

-- nothing faults
answers : {i : Loaded} {config : Configuration} {n t u count made : ℕ} {old : Front} (new : Front)
    (result : Result Bool Fault) → IsNextCycle i config n t u → HaveIssued i config n t u count made old
    → made < config.width → IssuesNext i config count old result new → (more : Bool) × (result ≡ Ok more)
answers {n = n} {t} {u} new result at have left issues =
    let d = issues n t u at (open_slot have left) have.now in
    (d.0, d.1)

issued_again : {i : Loaded} {config : Configuration} {n t u count made : ℕ} {old new : Front}
    → IsNextCycle i config n t u → HaveIssued i config n t u count made old → IsTried i config n t u count true new
    → HaveIssued i config n t u (count + 1) (made + 1) new
issued_again {i} {config} {n} {t} {u} {count} {made} at have more =
    let few : count + 1 ≤ n + 1 = more.on.few in
    let before : issued_in u (first_timed config i count) ≡ made = have.in_cycle in
    let counted = one_more count t u at.run at.next have.now.next more.on.issued few in
    record { now = more.on; in_cycle = omega arith }

-- no run counts as far as a word goes
word_of : {i : Loaded} {config : Configuration} {n t u count made : ℕ} (word : ℕ) {s : Front}
    → HaveIssued i config n t u count made s → n < 262144 → word ≡ count % 4294967296 → count ≡ word
word_of {n} {count} word have l e = let few : count ≤ n + 1 = have.now.few in omega (arith, e)

-- the width leaves no more
full : {i : Loaded} {config : Configuration} {n t u count made : ℕ} {s : Front} → HaveIssued i config n t u count made s
    → config.width ≤ made → u ≡ t + 1 → count ≤ n → IsYetToIssue i config count u
full {i} {config} {u = u} {count} have most e less = yet_more i config count (have.now.next less)
    (λ y is. without_slot config u (first_timed config i count) y (no_slot have most)) e

-- The turns of the loop.

pub on_first : (i : Loaded) (config : Configuration) (count : ℕ) (s : Front) → IssuesOn i config count s 1 count s
on_first i config count s n t u at have = (omega arith, have)

pub on_more : (i : Loaded) (config : Configuration) (count made counted : ℕ) {word : ℕ} {old mid new : Front}
    → IssuesOn i config count old made counted mid → made < config.width
    → IssuesNext i config counted mid (Ok true) new → word ≡ (counted + 1) % 4294967296
    → IssuesOn i config count old (made + 1) word new
on_more i config count made counted {word} {new = new} on less issues e n t u at first =
    let have = on n t u at first in
    let again = issued_again at have.1 (tried new true at have.1 less issues) in
    let same : counted + 1 ≡ word = word_of word again at.run.few e in
    (omega (arith, same), subst (λ (k : ℕ). HaveIssued i config n t u k (made + 1) new) same again)

pub on_wait : (i : Loaded) (config : Configuration) (count made : ℕ) {counted : ℕ} {old mid new : Front}
    (result : Result Bool Fault) → IssuesOn i config count old made counted mid → made < config.width
    → IssuesNext i config counted mid result new → result_unwrap_or result false ≡ false
    → IssuesMore i config count old counted new
on_wait i config count made {new = new} result on less issues none n t u at first =
    let have = on n t u at first in
    let d = answers new result at have.1 less issues in
    let more = tried new false at have.1 less (rw (none_is result d.0 none d.1) at issues) in
    (have.0, more.on, more.yet refl)

pub on_full : (i : Loaded) (config : Configuration) (count made counted : ℕ) {old s : Front}
    → IssuesOn i config count old made counted s → config.width ≤ made → IssuesMore i config count old counted s
on_full i config count made counted on most n t u at first =
    let have = on n t u at first in
    (have.0, have.1.now, full have.1 most at.next)

-- The phase.

before_one : {i : Loaded} {config : Configuration} {n count t : ℕ} (u : ℕ) {s : Front} → IsNextCycle i config n t u
    → IsIssuedTo i config n t t (clocks u u t) count s → HaveIssued i config n t u count 0 s
before_one {i} {config} {count = count} {t} u at old =
    let e : u ≡ t + 1 = at.next in
    record {
      now = record {
        few = old.few;
        shown = old.shown;
        issued = issued_more t u (first_timed config i count) (omega arith) old.issued;
        next = old.next;
      };
      in_cycle = none_first config t u (first_timed config i count) (run_timed i count at.run.lawful) old.issued e;
    }

first_made : {i : Loaded} {config : Configuration} {n t : ℕ} (u : ℕ) {count : ℕ} (word : ℕ) {old : Front} (new : Front)
    → IsNextCycle i config n t u → IsIssuedTo i config n t t (clocks u u t) count old
    → IssuesNext i config count old (Ok true) new → word ≡ (count + 1) % 4294967296
    → (count < word) × HaveIssued i config n t u word 1 new
first_made {i} {config} {n} {t} u {count} word new at old issues e =
    let have = before_one u at old in
    let made = issued_again at have (tried new true at have (width_low config at.run.lawful) issues) in
    let same : count + 1 ≡ word = word_of word made at.run.few e in
    (omega (arith, same), subst (λ (k : ℕ). HaveIssued i config n t u k 1 new) same made)

issued_to : {i : Loaded} {config : Configuration} {n t u count : ℕ} {s : Front} → IsIssuing i config n t u count s
    → (count ≤ n → IsYetToIssue i config count u) → IsIssuedTo i config n u u (clocks u u t) count s
issued_to on yet = record { few = on.few; shown = on.shown; issued = on.issued; next = yet }

-- none issues
pub phase_none : (i : Loaded) (config : Configuration) (u count : ℕ) {old new : Front}
    → IssuesNext i config count old (Ok false) new → MakesIssue i config u count old (Ok false) count new
phase_none i config u count {new = new} issues n t at old =
    let one = tried new false at (before_one u at old) (width_low config at.run.lawful) issues in
    (rw (le-ltb count count (omega arith)) refl, omega arith, issued_to one.on (one.yet refl))

-- one does, and the width is one
pub phase_one : (i : Loaded) (config : Configuration) (u count : ℕ) {word : ℕ} {old new : Front}
    → IssuesNext i config count old (Ok true) new → word ≡ (count + 1) % 4294967296 → config.width ≡ 1
    → MakesIssue i config u count old (Ok true) word new
phase_one i config u count {word} {new = new} issues w one n t at old =
    let made = first_made u word new at old issues w in
    let more : count < word = made.0 in
    (rw (lt-ltb count word more) refl, omega arith, issued_to made.1.now (full made.1 (omega arith) at.next))

-- one does, and more after it
pub phase_more : (i : Loaded) (config : Configuration) (u count : ℕ) {word counted : ℕ} {old mid new : Front}
    → IssuesNext i config count old (Ok true) mid → word ≡ (count + 1) % 4294967296
    → IssuesMore i config word mid counted new → MakesIssue i config u count old (Ok true) counted new
phase_more i config u count {word} {counted} {mid = mid} issues w more n t at old =
    let made = first_made u word mid at old issues w in
    let d = more n t u at made.1 in
    let low : count < word = made.0 in
    let high : word ≤ counted = d.0 in
    (rw (lt-ltb count counted (omega arith)) refl, omega arith, issued_to d.1 d.2)

-- and none faults
pub phase_fault : (i : Loaded) (config : Configuration) (u count : ℕ) {counted : ℕ} {old new last : Front}
    {fault : Fault} {result : Result Bool Fault} → IssuesNext i config count old (Err fault) new
    → MakesIssue i config u count old result counted last
phase_fault i config u count {new = new} {fault = fault} issues n t at old =
    let d = answers new (Err fault) at (before_one u at old) (width_low config at.run.lawful) issues in
    absurd (ok_not_err (Err fault) d.0 fault d.1 refl)
