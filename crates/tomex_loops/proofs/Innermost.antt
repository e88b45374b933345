-- The innermost visit of a step is the one that began last of those that it is in: as a walk goes on, visits that are
-- over stay so, and others begin and end later.
use Rattle.std.proofs.Common.{ℕ, zero, suc, ◌+◌, ◌<◌, ◌≤◌, ◌≡◌, ◌≢◌, ◌∙◌, refl, sym, ap, subst, arith, cond}
use Rattle.std.proofs.Common.{true, false, List, [], ◌∷◌, ◌++◌, length, get_or, map, set, Option, Some, None}
use Rattle.std.proofs.Common.{⊎_elim}
use Rattle.std.specs.Prelude.{IfSome, is_some, ◌==◌}
use Rattle.std.specs.List.{flat_map}
use Rattle.std.specs.Option.{option_map, unwrap_or}
use Rattle.std.proofs.Math.ListN.{get_or-eq_default}
use Rattle.std.proofs.lemmas.Bool.{cases_eq, cases_lt}
use Rattle.std.proofs.lemmas.List.{get_or_append_left, get_or_push, get_or-set_other, get_or-set_same, length_push}
use Rattle.std.proofs.lemmas.List.{length-set}
use Rattle.std.proofs.lemmas.List.Elements.{All-get_or}
use Rattle.std.proofs.lemmas.Option.{IfSome_then, MatchOption-from_none}
use Rattle.tomex_loops.specs.declared.coming.Coming.{Coming}
use Rattle.tomex_loops.specs.declared.coming.Move.{Move}
use Rattle.tomex_loops.specs.declared.coming.Move.TheVariants.{On, Call, Return}
use Rattle.tomex_loops.specs.declared.visit.Open.{Open}
use Rattle.tomex_loops.specs.declared.visit.Visit.{Visit}
use Rattle.tomex_loops.specs.Calls.{comings_of, first_of}
use Rattle.tomex_loops.specs.Loops.{Found, heads_below}
use Rattle.tomex_loops.specs.Nest.{HasStep, InnermostBeganLast, IsLastBegun, end_of}
use Rattle.tomex_loops.specs.Runs.{found_of}
use Rattle.tomex_loops.specs.Visits.{Walk, all_open, close, come, ending, enter, go_round, innermost}
use Rattle.tomex_loops.specs.Visits.{innermost_here, leave, reach, setting_out, walk_after, walk_on, walks_after}
use Rattle.tomex_loops.proofs.EachRun.{many_comings, places_low}
use Rattle.tomex_loops.proofs.Nest.{AllLower, run_lower}
use Rattle.tomex_loops.proofs.Sound.{IsKept, come_kept, leave_kept, on_kept, starts_kept}
use Rattle.tomex_loops.proofs.UnderWay.{AreGoing, IsInnermost, going_set}
use Rattle.tomex_loops.proofs.VisitNest.{AreWalked, come_laid, on_laid, open_parts, starts_laid}
use Rattle.tomex_loops.proofs.WalkSteps.{begun}

-- What becomes of visits: none changes, those that are over stay so, and others begin or end from now on.
record GoOn (now : ℕ) (visits : List Visit) (ends : List (Option ℕ)) (later : List Visit) (over : List (Option ℕ))
    : Type 0 where
  more : length visits ≤ length later
  same : (v : ℕ) (z : Visit) → v < length visits → get_or later v z ≡ get_or visits v z
  new : (v : ℕ) (z : Visit) → length visits ≤ v → v < length later → now ≤ (get_or later v z).first
  ended : (v e : ℕ) → get_or ends v None ≡ Some e → get_or over v None ≡ Some e
  going : (v : ℕ) → v < length visits → get_or ends v None ≡ None → IfSome (get_or over v None) (λ e. now ≤ e)

same_go_on : (now : ℕ) (visits : List Visit) (ends : List (Option ℕ)) → GoOn now visits ends visits ends
same_go_on now visits ends = record {
  more = omega arith;
  same = λ v z low. refl;
  new = λ v z high low. absurd (omega (arith, high, low));
  ended = λ v e is. is;
  going = λ v low is. MatchOption-from_none (get_or ends v None) (λ e. now ≤ e) is;
}

-- one that was going at first, by whether it was going then
going_then : (now next : ℕ) (one two : Option ℕ) → now ≤ next → IfSome one (λ e. now ≤ e)
    → (one ≡ None → IfSome two (λ e. next ≤ e)) → ((e : ℕ) → one ≡ Some e → two ≡ Some e)
    → IfSome two (λ e. now ≤ e)
going_then now next None two le low going ended = IfSome_then two (going refl) (λ e h. omega (arith, le, h))
going_then now next (Some e) two le low going ended =
    subst (λ (o : Option ℕ). IfSome o (λ k. now ≤ k)) (sym (ended e refl)) low

then_go_on : (now next : ℕ) (visits : List Visit) (ends : List (Option ℕ)) (some : List Visit) (few : List (Option ℕ))
    (later : List Visit) (over : List (Option ℕ)) → now ≤ next → GoOn now visits ends some few
    → GoOn next some few later over → GoOn now visits ends later over
then_go_on now next visits ends some few later over le one two = record {
  more = omega (arith, one.more, two.more);
  same = λ v z low. two.same v z (omega (arith, low, one.more)) ∙ one.same v z low;
  new = λ v z high low. ⊎_elim
      (λ (old : v < length some).
      let at : (get_or later v z).first ≡ (get_or some v z).first = ap (λ (u : Visit). u.first) (two.same v z old) in
      omega (arith, at, one.new v z high old))
      (λ (fresh : length some ≤ v). omega (arith, le, two.new v z fresh low))
      (cases_lt v (length some));
  ended = λ v e is. two.ended v e (one.ended v e is);
  going = λ v low is. going_then now next (get_or few v None) (get_or over v None) le (one.going v low is)
      (λ none. two.going v (omega (arith, low, one.more)) none) (λ e at. two.ended v e at);
}

-- one that is under way ends now
one_goes_on : (now x : ℕ) (visits : List Visit) (ends : List (Option ℕ)) → x < length ends
    → get_or ends x None ≡ None → GoOn now visits ends visits (set ends x (Some now))
one_goes_on now x visits ends low none = record {
  more = omega arith;
  same = λ v z h. refl;
  new = λ v z high h. absurd (omega (arith, high, h));
  ended = λ v e is. get_or-set_other ends x v (Some now) None
      (λ at. let never : None ≡ Some e = sym none ∙ ap (λ (k : ℕ). get_or ends k None) (sym at) ∙ is in
      absurd (cc never)) ∙ is;
  going = λ v h is. ⊎_elim
      (λ (e : v ≡ x).
      subst (λ (o : Option ℕ). IfSome o (λ k. now ≤ k))
      (sym (ap (λ (k : ℕ). get_or (set ends x (Some now)) k None) e
      ∙ get_or-set_same ends x (Some now) None low)) (omega arith))
      (λ (ne : v ≢ x). MatchOption-from_none (get_or (set ends x (Some now)) v None) (λ k. now ≤ k)
      (get_or-set_other ends x v (Some now) None ne ∙ is))
      (cases_eq v x);
}

close_goes_on : (now : ℕ) (opens rest : List Open) (visits : List Visit) (ends : List (Option ℕ))
    → length ends ≡ length visits → AreGoing ends (length visits) (opens ++ rest)
    → GoOn now visits ends visits (close now opens ends)
close_goes_on now [] rest visits ends many going = same_go_on now visits ends
close_goes_on now (v ∷ opens) rest visits ends many going =
    let top : IsInnermost ends (length visits) v.visit = going.0 in
    let next : List (Option ℕ) = set ends v.visit (Some now) in
    then_go_on now now visits ends visits next visits (close now opens next) (omega arith)
    (one_goes_on now v.visit visits ends (omega (arith, top.low, many)) top.going)
    (close_goes_on now opens rest visits next (length-set ends v.visit (Some now) ∙ many)
    (going_set ends (length visits) now v (opens ++ rest) (sym many) going))

-- one more begins
push_goes_on : (now : ℕ) (visits : List Visit) (ends : List (Option ℕ)) (y : Visit) → length ends ≡ length visits
    → y.first ≡ now → GoOn now visits ends (visits ++ y ∷ []) (ends ++ None ∷ [])
push_goes_on now visits ends y many at = record {
  more = omega (arith, length_push visits y);
  same = λ v z low. get_or_append_left visits (y ∷ []) z v low;
  new = λ v z high low.
      let is : (get_or (visits ++ y ∷ []) v z).first ≡ y.first =
      ap (λ (u : Visit). u.first) (get_or_push visits y z v (omega (arith, high, low, length_push visits y))) in
      omega (arith, is, at);
  ended = λ v e is. ⊎_elim
      (λ (low : v < length ends). get_or_append_left ends (None ∷ []) None v low ∙ is)
      (λ (high : length ends ≤ v).
      let never : None ≡ Some e = sym (get_or-eq_default ends None high) ∙ is in absurd (cc never))
      (cases_lt v (length ends));
  going = λ v low is. MatchOption-from_none (get_or (ends ++ None ∷ []) v None) (λ e. now ≤ e)
      (get_or_append_left ends (None ∷ []) None v (omega (arith, low, many)) ∙ is);
}

-- All that are over are so by now.
abbrev AreOverBy : ℕ → List (Option ℕ) → Type 0
AreOverBy now ends = (v : ℕ) → IfSome (get_or ends v None) (λ e. e ≤ now)

over_push : (now : ℕ) (ends : List (Option ℕ)) → AreOverBy now ends → AreOverBy now (ends ++ None ∷ [])
over_push now ends are v = ⊎_elim
    (λ (low : v < length ends). subst (λ (o : Option ℕ). IfSome o (λ e. e ≤ now))
    (sym (get_or_append_left ends (None ∷ []) None v low)) (are v))
    (λ (high : length ends ≤ v). MatchOption-from_none (get_or (ends ++ None ∷ []) v None) (λ e. e ≤ now) (⊎_elim
    (λ (e : length ends ≡ v). get_or_push ends None None v e)
    (λ (ne : length ends ≢ v). get_or-eq_default (ends ++ None ∷ []) None
    (omega (arith, high, ne, length_push ends None)))
    (cases_eq (length ends) v)))
    (cases_lt v (length ends))

-- an end from a later step on
end_after : (o : Option ℕ) (step count : ℕ) → step < count → IfSome o (λ e. step + 1 ≤ e) → step < unwrap_or o count
end_after None step count low late = low
end_after (Some e) step count low late = omega (arith, late)

module _ (f : Found) (n : ℕ) (lower : AllLower f.loop) where
  kept_over : (now : ℕ) (w : Walk) → IsKept f n now w → AreOverBy now w.ends
  kept_over now w kept v = ⊎_elim
      (λ (low : v < length w.visits).
      IfSome_then (get_or w.ends v None) (kept.ends v (begun 0 0 None None 0) low) (λ e p. p.1))
      (λ (high : length w.visits ≤ v). MatchOption-from_none (get_or w.ends v None) (λ e. e ≤ now)
      (get_or-eq_default w.ends None (omega (arith, high, kept.many_ends))))
      (cases_lt v (length w.visits))

  come_goes_on : (by : Move) (w : Walk) → IsKept f n w.passed w → AreWalked f n lower w
      → GoOn w.passed w.visits w.ends (come by w).visits (come by w).ends
  come_goes_on On w kept laid = same_go_on w.passed w.visits w.ends
  come_goes_on Call w kept laid = same_go_on w.passed w.visits w.ends
  come_goes_on Return w kept laid = close_goes_on w.passed w.under_way.here
      (flat_map (λ (vs : List Open). vs) w.under_way.around) w.visits w.ends kept.many_ends laid.going

  leave_goes_on : (x : ℕ) (w : Walk) → IsKept f n w.passed w → AreWalked f n lower w
      → GoOn w.passed w.visits w.ends (leave f.loop x w).visits (leave f.loop x w).ends
  leave_goes_on x w kept laid = close_goes_on w.passed (ending f.loop x w.under_way.here)
      (all_open (leave f.loop x w).under_way) w.visits w.ends kept.many_ends
      (subst (λ (vs : List Open). AreGoing w.ends (length w.visits) vs) (open_parts f.loop x w) laid.going)

  -- what holds as a step arrives at a place
  abbrev Arrives : Walk → Walk → Type 0
  Arrives w next = GoOn w.passed w.visits w.ends next.visits next.ends × AreOverBy w.passed next.ends

  stays : (w : Walk) → IsKept f n w.passed w → Arrives w w
  stays w kept = (same_go_on w.passed w.visits w.ends, kept_over w.passed w kept)

  enters : (x : ℕ) (w : Walk) → IsKept f n w.passed w → Arrives w (enter f.heads x w)
  enters x w kept =
      let y : Visit = begun x (heads_below f.heads x) (innermost w.under_way) (innermost_here w.under_way) w.passed in (
        push_goes_on w.passed w.visits w.ends y kept.many_ends refl,
        over_push w.passed w.ends (kept_over w.passed w kept),
      )

  reaches : (x : ℕ) (w : Walk) (opens : List Open) → IsKept f n w.passed w → Arrives w (reach f.heads x w opens)
  reaches x w [] kept = enters x w kept
  reaches x w (v ∷ around) kept =
      elim (v.head == x) as (λ b. Arrives w (cond b (go_round w v around) (enter f.heads x w))) [
        | true ↦ stays w kept
        | false ↦ enters x w kept
      ]

  arrives : (x : ℕ) (w : Walk) → IsKept f n w.passed w
      → Arrives w (cond (f.heads x) (reach f.heads x w w.under_way.here) w)
  arrives x w kept = elim (f.heads x) as (λ b. Arrives w (cond b (reach f.heads x w w.under_way.here) w)) [
    | true ↦ reaches x w w.under_way.here kept
    | false ↦ stays w kept
  ]

  steps_on : (w : Walk) (c : Coming) → IsKept f n w.passed w → AreWalked f n lower w → Arrives w (walk_on f w c)
  steps_on w c kept laid =
      let came : Walk = come c.by w in
      let left : Walk = leave f.loop c.place (come c.by w) in
      let came_kept : IsKept f n w.passed (come c.by w) = come_kept f n c.by w kept in
      let there = arrives c.place left (leave_kept f n c.place came came_kept) in (
        then_go_on w.passed w.passed w.visits w.ends came.visits came.ends (walk_on f w c).visits (walk_on f w c).ends
            (omega arith) (come_goes_on c.by w kept laid)
            (then_go_on w.passed w.passed came.visits came.ends left.visits left.ends
            (walk_on f w c).visits (walk_on f w c).ends (omega arith)
            (leave_goes_on c.place came came_kept (come_laid f n lower c.by w kept laid)) there.0),
        there.1,
      )

  abbrev ArePlaces : List Coming → Type 0
  ArePlaces comings = (k : ℕ) (z : Coming) → k < length comings → (get_or comings k z).place < n

  after_goes_on : (w : Walk) (comings : List Coming) → ArePlaces comings → IsKept f n w.passed w
      → AreWalked f n lower w
      → GoOn w.passed w.visits w.ends (walk_after f w comings).visits (walk_after f w comings).ends
  after_goes_on w [] low kept laid = same_go_on w.passed w.visits w.ends
  after_goes_on w (c ∷ left) low kept laid =
      let next : Walk = walk_on f w c in
      then_go_on w.passed (w.passed + 1) w.visits w.ends next.visits next.ends (walk_after f next left).visits
      (walk_after f next left).ends (omega arith) (steps_on w c kept laid).0
      (after_goes_on next left (λ k z h. low (suc k) z (omega (arith, h)))
      (on_kept f n w c (low 0 c (omega arith)) kept) (on_laid f n lower w c kept laid))

-- after a step: what was known of visits, and what becomes of them in a run of this many steps
module _ (count step : ℕ) (visits : List Visit) (ends : List (Option ℕ)) (later : List Visit) (over : List (Option ℕ))
    (within : step < count) (first : (v : ℕ) (z : Visit) → v < length visits → (get_or visits v z).first < step + 1)
    (by : AreOverBy step ends) (on : GoOn (step + 1) visits ends later over) where
  over_by_then : (v : ℕ) (o : Option ℕ) → get_or ends v None ≡ o → is_some o ≡ true → IfSome o (λ e. e ≤ step)
      → step < end_of count over v → ⊥
  over_by_then v None at is low goes = cc is
  over_by_then v (Some e) at is low goes =
      let end : unwrap_or (get_or over v None) count ≡ e =
      ap (λ (o : Option ℕ). unwrap_or o count) (on.ended v e at) in
      omega (arith, end, goes, low)

  -- a visit that is over by then, or hasn't begun, doesn't have the step
  has_not : (v : ℕ) → (v < length visits → is_some (get_or ends v None) ≡ true) → HasStep count later over v step → ⊥
  has_not v is has = ⊎_elim
      (λ (old : v < length visits). over_by_then v (get_or ends v None) refl (is old) (by v) has.goes_on)
      (λ (fresh : length visits ≤ v).
      let z : Visit = begun 0 0 None None 0 in
      omega (arith, on.new v z fresh has.one, has.begun z))
      (cases_lt v (length visits))

  began_last : (opens : List Open) → AreGoing ends (length visits) opens
      → IsLastBegun count later over step (option_map (λ (v : Open). v.visit) (first_of opens))
  began_last [] going = λ v has. has_not v (λ low. going v (omega arith) low) has
  began_last (o ∷ opens) going =
      let top : IsInnermost ends (length visits) o.visit = going.0 in
      let v : ℕ = o.visit in (
        record {
          one = omega (arith, top.low, on.more);
          begun = λ z.
              let at : (get_or later v z).first ≡ (get_or visits v z).first =
              ap (λ (u : Visit). u.first) (on.same v z top.low) in
              omega (arith, at, first v z top.low);
          goes_on = end_after (get_or over v None) step count within (on.going v top.low top.going);
        },
        λ w has. ⊎_elim
            (λ (above : v < w). absurd (has_not w (λ low. top.over w (omega (arith, above)) low) has))
            (λ (is : w ≤ v). is)
            (cases_lt v w),
      )

module _ (f : Found) (n : ℕ) (lower : AllLower f.loop) where
  each_began_last : (count : ℕ) (w : Walk) (comings : List Coming) (k step : ℕ) → ArePlaces f n lower comings
      → IsKept f n w.passed w → AreWalked f n lower w → k < length comings → w.passed + k ≡ step → step < count
      → IsLastBegun count (walk_after f w comings).visits (walk_after f w comings).ends step
      (get_or (map (λ (v : Walk). innermost v.under_way) (walks_after f w comings)) k None)
  each_began_last count w [] k step low kept laid inside is within = absurd (omega (arith, inside))
  each_began_last count w (c ∷ left) zero step low kept laid inside is within =
      let next : Walk = walk_on f w c in
      let all : Walk = walk_after f (walk_on f w c) left in
      let next_kept : IsKept f n (w.passed + 1) (walk_on f w c) = on_kept f n w c (low 0 c (omega arith)) kept in
      let next_laid : AreWalked f n lower (walk_on f w c) = on_laid f n lower w c kept laid in
      let at : w.passed ≡ step = omega (arith, is) in
      subst (λ (k : ℕ). IsLastBegun count all.visits all.ends k (innermost next.under_way)) at
      (began_last count w.passed next.visits next.ends all.visits all.ends (omega (arith, at, within))
      next_kept.begun.first (steps_on f n lower w c kept laid).1
      (after_goes_on f n lower next left (λ k z h. low (suc k) z (omega (arith, h))) next_kept next_laid)
      (all_open next.under_way) next_laid.going)
  each_began_last count w (c ∷ left) (suc k) step low kept laid inside is within =
      each_began_last count (walk_on f w c) left k step (λ k z h. low (suc k) z (omega (arith, h)))
      (on_kept f n w c (low 0 c (omega arith)) kept) (on_laid f n lower w c kept laid) (omega (arith, inside))
      (omega (arith, is)) within

pub innermost_visits_began_last : InnermostBeganLast
innermost_visits_began_last steps k low =
    let f : Found = found_of steps in
    let n : ℕ = length steps in
    let lower : AllLower (found_of steps).loop = run_lower steps in
    each_began_last f n lower n setting_out (comings_of steps) k k
    (λ k z h. All-get_or (λ (c : Coming). c.place < length steps) (comings_of steps) k z h (places_low steps))
    (starts_kept f n) (starts_laid f n lower) (omega (arith, low, many_comings steps)) (omega arith) low
