-- A step has no lines in a cycle in which it can't change.
use Rattle.std.proofs.Common.{◌≡◌, ◌≢◌, ◌∙◌, ap, sym, refl, arith, inl, inr, ℕ, ◌+◌, ◌-◌, ◌<◌, ◌≤◌, ◌==◌, Bool}
use Rattle.std.proofs.Common.{false, cond, List, [], ◌++◌, Option, Some, None, min}
use Rattle.std.specs.Prelude.{nat_le, nat_lt, unwrap_or}
use Rattle.std.specs.List.{list_any}
use Rattle.std.proofs.lemmas.Bool.{cases_Bool, cases_order, ne_eqb, eqb-true, eqb-false, lt-ltb, le-ltb, le-leb, lt-leb}
use Rattle.std.proofs.lemmas.Bool.{leb-true, or_parts}
use Rattle.tomex_rvexec.specs.Steps.{is_number}
use Rattle.tomex_timing.specs.declared.times.Times.{Times}
use Rattle.tomex_run_views.specs.declared.stage.Stage.{Stage}
use Rattle.tomex_run_views.specs.declared.stage.Stage.TheVariants.{Issue, Address, Execute, Write, BusWait, Wait}
use Rattle.tomex_run_views.specs.Chart.{stage_in}
use Rattle.tomex_konata.specs.declared.entries.Entry.{Entry}
use Rattle.tomex_konata.specs.declared.entries.Producer.{Producer}
use Rattle.tomex_konata.specs.Konata.{is_shared, issue_lines, step_lines, turn_lines, wake_line, wake_lines}
use Rattle.tomex_konata.specs.Kept.{change_cycles, ready_cycle}

-- the cycle before doesn't differ from this one for the test
same_eq : (n t : ℕ) → n ≢ t → n + 1 ≢ t → (t - 1 == n) ≡ (t == n)
same_eq n t here next = ne_eqb (t - 1) n (omega (arith, here, next)) ∙ sym (ne_eqb t n (omega (arith, here)))

same_from : (n t : ℕ) → n ≢ t → nat_le n (t - 1) ≡ nat_le n t
same_from n t here = elim (cases_order n t) [
  | inl e ↦ absurd (here e)
  | inr (inl l) ↦ le-leb n (t - 1) (omega (arith, l)) ∙ sym (le-leb n t (omega (arith, l)))
  | inr (inr l) ↦ lt-leb n (t - 1) (omega (arith, l)) ∙ sym (lt-leb n t l)
]

same_to : (n t : ℕ) → n + 1 ≢ t → nat_le (t - 1) n ≡ nat_le t n
same_to n t next = elim (cases_order (n + 1) t) [
  | inl e ↦ absurd (next e)
  | inr (inl l) ↦ lt-leb (t - 1) n (omega (arith, l)) ∙ sym (lt-leb t n (omega (arith, l)))
  | inr (inr l) ↦ le-leb (t - 1) n (omega (arith, l)) ∙ sym (le-leb t n (omega (arith, l)))
]

same_behind : (n t : ℕ) → n + 1 ≢ t → nat_lt n (t - 1) ≡ nat_lt n t
same_behind n t next = elim (cases_order (n + 1) t) [
  | inl e ↦ absurd (next e)
  | inr (inl l) ↦ lt-ltb n (t - 1) (omega (arith, l)) ∙ sym (lt-ltb n t (omega (arith, l)))
  | inr (inr l) ↦ le-ltb n (t - 1) (omega (arith, l)) ∙ sym (le-ltb n t (omega (arith, l)))
]

same_before : (n t : ℕ) → n ≢ t → nat_lt (t - 1) n ≡ nat_lt t n
same_before n t here = elim (cases_order n t) [
  | inl e ↦ absurd (here e)
  | inr (inl l) ↦ le-ltb (t - 1) n (omega (arith, l)) ∙ sym (le-ltb t n (omega (arith, l)))
  | inr (inr l) ↦ lt-ltb (t - 1) n (omega (arith, l)) ∙ sym (lt-ltb t n l)
]

same_address : (a : Option ℕ) (d t : ℕ) → unwrap_or a d ≢ t → unwrap_or a d + 1 ≢ t
    → is_number a (t - 1) ≡ is_number a t
same_address None d t here next = refl
same_address (Some n) d t here next = ne_eqb n (t - 1) (omega (arith, here, next)) ∙ sym (ne_eqb n t here)

-- a cycle without a change
record IsStill (at : Times) (t : ℕ) : Type 0 where
  issue : at.issue ≢ t
  issued : at.issue + 1 ≢ t
  address : unwrap_or at.address at.issue ≢ t
  addressed : unwrap_or at.address at.issue + 1 ≢ t
  start : at.start ≢ t
  finished : at.finish + 1 ≢ t
  end : at.end ≢ t

stage_stays : (at : Times) (t : ℕ) → IsStill at t → t ≤ at.end → stage_in at (t - 1) ≡ stage_in at t
stage_stays at t still le =
    rw (
      same_before at.issue t still.issue,
      le-ltb at.end (t - 1) (omega (arith, le)),
      le-ltb at.end t le,
      same_eq at.issue t still.issue still.issued,
      same_address at.address at.issue t still.address still.addressed,
      same_from at.start t still.start,
      same_to at.finish t still.finished,
      same_eq at.end t still.end (omega (arith, le)),
      same_behind at.finish t still.finished,
    ) refl

no_turn : (id : ℕ) (s : Option Stage) → turn_lines id s s ≡ []
no_turn id None = refl
no_turn id (Some Issue) = refl
no_turn id (Some Address) = refl
no_turn id (Some Execute) = refl
no_turn id (Some Write) = refl
no_turn id (Some BusWait) = refl
no_turn id (Some Wait) = refl

no_turn_out : (id : ℕ) (s : Option Stage) → turn_lines id s None ≡ []
no_turn_out id None = refl
no_turn_out id (Some s) = refl

gone_out : (at : Times) (t : ℕ) → at.end < t → stage_in at t ≡ None
gone_out at t l = elim (cases_Bool (nat_lt t at.issue)) [
  | inl e ↦ rw e refl
  | inr e ↦ rw (e, lt-ltb at.end t l) refl
]

still_turn : (id : ℕ) (at : Times) (t : ℕ) → IsStill at t → turn_lines id (stage_in at (t - 1)) (stage_in at t) ≡ []
still_turn id at t still = elim (cases_order at.end t) [
  | inl e ↦ absurd (still.end e)
  | inr (inl l) ↦ ap (λ (s : Option Stage). turn_lines id (stage_in at (t - 1)) s) (gone_out at t l)
      ∙ no_turn_out id (stage_in at (t - 1))
  | inr (inr l) ↦ ap (λ (s : Option Stage). turn_lines id s (stage_in at t)) (stage_stays at t still (omega (arith, l)))
      ∙ no_turn id (stage_in at t)
]

no_wake : (id : ℕ) (at : Times) (t : ℕ) (p : Option Producer) → ready_cycle at p ≢ t → wake_line id at t p ≡ []
no_wake id at t None other = refl
no_wake id at t (Some p) other = elim (cases_Bool (p.end == t)) [
  | inl e ↦ elim (cases_Bool (nat_le at.issue t)) [
    | inl f ↦
        let same : p.end ≡ t = eqb-true p.end t e in
        let le : at.issue ≤ t = leb-true at.issue t f in
        absurd (other (omega (arith, same, le)))
    | inr f ↦ rw (e, f) refl
  ]
  | inr e ↦ rw e refl
]

-- a cycle that is none of some cycles, cut off at the last, is none of the cycles themselves
is_none : (c last t : ℕ) → t ≤ last → (min c last == t) ≡ false → c ≢ t
is_none c last t within none = let other : min c last ≢ t = eqb-false (min c last) t none in
    λ same. other (omega (arith, within, same))

nothing : (b : Bool) (lines turns wakes : List ℕ) → b ≡ false → turns ≡ [] → wakes ≡ [] → cond b lines []
    ++ (turns ++ wakes) ≡ []
nothing b lines turns wakes not turn wake = rw (not, turn, wake) refl

pub quiet : (number last t : ℕ) (e : Entry) → t ≤ last → list_any (λ c. c == t) (change_cycles last e) ≡ false
    → step_lines number t e ≡ []
unfolding step_lines
quiet number last t e within none =
    let p0 = or_parts _ _ none in
    let p1 = or_parts _ _ p0.1 in
    let p2 = or_parts _ _ p1.1 in
    let p3 = or_parts _ _ p2.1 in
    let p4 = or_parts _ _ p3.1 in
    let p5 = or_parts _ _ p4.1 in
    let p6 = or_parts _ _ p5.1 in
    let p7 = or_parts _ _ p6.1 in
    let p8 = or_parts _ _ p7.1 in
    let issue = is_none e.at.issue last t within p0.0 in
    let still : IsStill e.at t = record {
      issue = issue;
      issued = is_none (e.at.issue + 1) last t within p1.0;
      address = is_none (unwrap_or e.at.address e.at.issue) last t within p2.0;
      addressed = is_none (unwrap_or e.at.address e.at.issue + 1) last t within p3.0;
      start = is_none e.at.start last t within p4.0;
      finished = is_none (e.at.finish + 1) last t within p5.0;
      end = is_none e.at.end last t within p6.0;
    } in
    let j = no_wake e.id e.at t e.j (is_none (ready_cycle e.at e.j) last t within p7.0) in
    let k = no_wake e.id e.at t e.k (is_none (ready_cycle e.at e.k) last t within p8.0) in
    let wakes : wake_lines t e ≡ [] =
    elim (cases_Bool (is_shared e.j e.k)) [ inl s ↦ rw (j, s) refl | inr s ↦ rw (j, s, k) refl ] in
    let not_issue : (t == e.at.issue) ≡ false = ne_eqb t e.at.issue (λ same. issue (sym same)) in
    nothing (t == e.at.issue) (issue_lines (number + e.id) e) _ _ not_issue (still_turn e.id e.at t still) wakes
