-- Two visits lie one in the other or apart: a visit ends only after all that began within it.
use Rattle.std.proofs.Common.{ℕ, suc, ◌<◌, ◌≤◌, ◌≡◌, ◌∙◌, refl, sym, ap, subst, arith, cond}
use Rattle.std.proofs.Common.{Bool, true, false, List, [], ◌∷◌, ◌++◌, length, get_or, set, Option, Some, None}
use Rattle.std.proofs.Common.{inl, inr, ⊎_elim, ◌⊎◌}
use Rattle.std.specs.Prelude.{IfSome, IsSomeAnd, ◌==◌}
use Rattle.std.specs.List.{All, flat_map}
use Rattle.std.specs.Option.{option_map, unwrap_or}
use Rattle.std.proofs.lemmas.Bool.{cases_Bool}
use Rattle.std.proofs.lemmas.List.{append-nil, append_assoc, get_or_default, length_push, length-set}
use Rattle.std.proofs.lemmas.List.Elements.{All-cons, All-get_or, All-head, All-nil, All-tail}
use Rattle.std.proofs.lemmas.Option.{IfSome_then}
use Rattle.tomex_loops.specs.declared.coming.Coming.{Coming}
use Rattle.tomex_loops.specs.declared.coming.Move.{Move}
use Rattle.tomex_loops.specs.declared.coming.Move.TheVariants.{On, Call, Return}
use Rattle.tomex_loops.specs.declared.visit.Open.{Open}
use Rattle.tomex_loops.specs.declared.visit.Visit.{Visit}
use Rattle.tomex_loops.specs.Calls.{comings_of, first_list, first_of, rest_of}
use Rattle.tomex_loops.specs.Loops.{Found, heads_below, is_in_loop}
use Rattle.tomex_loops.specs.Nest.{AreInOrder, AreOfInnerLoops, EndWithin, HasStep, IsInVisit, LiesIn}
use Rattle.tomex_loops.specs.Nest.{TakeNoMore}
use Rattle.tomex_loops.specs.Nest.{VisitsAreANest, end_of}
use Rattle.tomex_loops.specs.Runs.{ends_of, found_of, visits_of}
use Rattle.tomex_loops.specs.Sound.{AreEnds}
use Rattle.tomex_loops.specs.Visits.{Walk, all_open, close, come, ending, enter, go_round, innermost}
use Rattle.tomex_loops.specs.Visits.{innermost_here, leave, reach, setting_out, still_open, walk_after, walk_on}
use Rattle.tomex_loops.proofs.EachRun.{many_comings, places_low}
use Rattle.tomex_loops.proofs.Nest.{AllLower, lies_in, run_lower}
use Rattle.tomex_loops.proofs.Sound.{IsKept, after_kept, come_kept, ends_set, leave_kept, on_kept, starts_kept}
use Rattle.tomex_loops.proofs.UnderWay.{AreGoing, ArePairs, EndsBy, HasHead, IsInnermost, LieIn, Lies}
use Rattle.tomex_loops.proofs.UnderWay.{going_first, going_push, going_set, heads_push, if_both, inner_push}
use Rattle.tomex_loops.proofs.UnderWay.{lie_push, lie_set, lies_set, order_push, pairs_push}
use Rattle.tomex_loops.proofs.WalkSteps.{begun, opened}

-- the innermost of some visits is of a loop with a place
abbrev AreAt : (ℕ → Option ℕ) → ℕ → List Open → Type 0
AreAt loop x [] = Unit {0}
AreAt loop x (v ∷ opens) = is_in_loop loop v.head x ≡ true

at_still : (loop : ℕ → Option ℕ) (x : ℕ) (opens : List Open) → AreAt loop x (still_open loop x opens)
at_still loop x [] = tt
at_still loop x (v ∷ opens) = ⊎_elim
    (λ (yes : is_in_loop loop v.head x ≡ true).
    subst (λ (b : Bool). AreAt loop x (cond b (v ∷ opens) (still_open loop x opens))) (sym yes) yes)
    (λ (no : is_in_loop loop v.head x ≡ false).
    subst (λ (b : Bool). AreAt loop x (cond b (v ∷ opens) (still_open loop x opens))) (sym no)
    (at_still loop x opens))
    (cases_Bool (is_in_loop loop v.head x))

-- those that end, and then those that go on
both_parts : (loop : ℕ → Option ℕ) (x : ℕ) (opens : List Open)
    → opens ≡ ending loop x opens ++ still_open loop x opens
both_parts loop x [] = refl
both_parts loop x (v ∷ opens) = elim (is_in_loop loop v.head x)
    as (λ b. v ∷ opens ≡ cond b [] (v ∷ ending loop x opens) ++ cond b (v ∷ opens) (still_open loop x opens)) [
      | true ↦ refl
      | false ↦ ap (λ (vs : List Open). v ∷ vs) (both_parts loop x opens)
    ]

pub open_parts : (loop : ℕ → Option ℕ) (x : ℕ) (w : Walk)
    → all_open w.under_way ≡ ending loop x w.under_way.here ++ all_open (leave loop x w).under_way
open_parts loop x w =
    let around : List Open = flat_map (λ (vs : List Open). vs) w.under_way.around in
    ap (λ (vs : List Open). vs ++ around) (both_parts loop x w.under_way.here)
    ∙ append_assoc (ending loop x w.under_way.here) (still_open loop x w.under_way.here) around

-- those of the calls around, after the end of the latest call
pub returned : (lists : List (List Open)) → flat_map (λ (vs : List Open). vs) lists
    ≡ first_list lists ++ flat_map (λ (vs : List Open). vs) (rest_of lists)
returned [] = refl
returned (vs ∷ lists) = refl

module _ (f : Found) (n : ℕ) (lower : AllLower f.loop) where
  -- what holds of the visits that have begun, if these are under way
  pub record AreLaid (opens : List Open) (visits : List Visit) (ends : List (Option ℕ)) : Type 0 where
    pub going : AreGoing ends (length visits) opens
    pub heads : All (HasHead visits) opens
    pub order : AreInOrder visits
    pub pairs : ArePairs visits ends
    pub around : LieIn (λ v. v.around) visits ends
    pub within : LieIn (λ v. v.within) visits ends
    pub loops : AreOfInnerLoops f.loop visits

  abbrev pub AreWalked : Walk → Type 0
  AreWalked w = AreLaid (all_open w.under_way) w.visits w.ends

  -- the innermost one ends
  one_ends : (now : ℕ) (v : Open) (opens : List Open) (visits : List Visit) (ends : List (Option ℕ))
      → length ends ≡ length visits → AreEnds now visits ends → AreLaid (v ∷ opens) visits ends
      → AreLaid opens visits (set ends v.visit (Some now))
  one_ends now v opens visits ends many are laid =
      let top : IsInnermost ends (length visits) v.visit = laid.going.0 in
      record {
        going = going_set ends (length visits) now v opens (sym many) laid.going;
        heads = All-tail (HasHead visits) v opens laid.heads;
        order = laid.order;
        pairs = λ u w z order low. lies_set (λ a. a ≤ (get_or visits w z).first) ends (length visits) v.visit now u w
            (get_or visits w z).first top (sym many) (are w z low) order low (laid.pairs u w z order low);
        around = lie_set (λ v. v.around) visits ends v.visit now top many are laid.around;
        within = lie_set (λ v. v.within) visits ends v.visit now top many are laid.within;
        loops = laid.loops;
      }

  all_end : (now : ℕ) (opens rest : List Open) (visits : List Visit) (ends : List (Option ℕ))
      → length ends ≡ length visits → All (λ (v : Visit). v.first < now) visits → AreEnds now visits ends
      → AreLaid (opens ++ rest) visits ends → AreLaid rest visits (close now opens ends)
  all_end now [] rest visits ends many before are laid = laid
  all_end now (v ∷ opens) rest visits ends many before are laid =
      all_end now opens rest visits (set ends v.visit (Some now)) (length-set ends v.visit (Some now) ∙ many) before
      (ends_set now v.visit visits ends many before are) (one_ends now v (opens ++ rest) visits ends many are laid)

  -- a new one begins
  one_begins : (now : ℕ) (v : Open) (y : Visit) (opens : List Open) (visits : List Visit) (ends : List (Option ℕ))
      → length ends ≡ length visits → All (λ (v : Visit). v.first < now) visits → AreEnds now visits ends
      → v.visit ≡ length visits → v.head ≡ y.head → y.first ≡ now
      → IfSome y.around (λ u. (u < length visits) × (get_or ends u None ≡ None))
      → IfSome y.within (λ u. (u < length visits) × (get_or ends u None ≡ None))
      → IfSome y.within (λ u. (z : Visit) → LiesIn f.loop y.head (get_or visits u z).head)
      → AreLaid opens visits ends → AreLaid (v ∷ opens) (visits ++ y ∷ []) (ends ++ None ∷ [])
  one_begins now v y opens visits ends many before are number head at around within inner laid = record {
    going = going_push ends (length visits) (length (visits ++ y ∷ [])) v opens (sym many) number
        (length_push visits y) laid.going;
    heads = heads_push visits y v opens number head laid.heads;
    order = order_push now visits y before at laid.order;
    pairs = pairs_push now visits ends y many are at laid.pairs;
    around = lie_push (λ v. v.around) visits ends y many around laid.around;
    within = lie_push (λ v. v.within) visits ends y many within laid.within;
    loops = inner_push f.loop visits ends y laid.within
        (IfSome_then y.within (if_both _ _ y.within within inner) (λ u p. (p.0.0, p.1))) laid.loops;
  }

  -- the loop of a new one lies in that of the innermost one of its call
  inner_first : (x : ℕ) (visits : List Visit) (opens rest : List Open) → AreAt f.loop x opens
      → All (HasHead visits) (opens ++ rest)
      → IfSome (option_map (λ (v : Open). v.visit) (first_of opens))
      (λ u. (z : Visit) → LiesIn f.loop x (get_or visits u z).head)
  inner_first x visits [] rest at heads = tt
  inner_first x visits (v ∷ opens) rest at heads = λ z. subst (λ (k : ℕ). LiesIn f.loop x k)
      (sym ((All-head (HasHead visits) v (opens ++ rest) heads).1 z)) (lies_in f.loop lower x v.head at)

  enter_laid : (x : ℕ) (w : Walk) → IsKept f n w.passed w → AreAt f.loop x w.under_way.here → AreWalked w
      → AreWalked (enter f.heads x w)
  enter_laid x w kept at laid =
      let around : List Open = flat_map (λ (vs : List Open). vs) w.under_way.around in
      let y : Visit = begun x (heads_below f.heads x) (innermost w.under_way) (innermost_here w.under_way) w.passed in
      one_begins w.passed (opened (length w.visits) x w.passed) y (all_open w.under_way) w.visits w.ends
      kept.many_ends kept.begun.first kept.ends refl refl refl
      (going_first w.ends (length w.visits) (all_open w.under_way) []
      (subst (λ (vs : List Open). AreGoing w.ends (length w.visits) vs) (sym (append-nil (all_open w.under_way)))
      laid.going))
      (going_first w.ends (length w.visits) w.under_way.here around laid.going)
      (inner_first x w.visits w.under_way.here around at laid.heads)
      laid

  -- the innermost one goes round
  go_round_laid : (w : Walk) (v : Open) (around : List Open) → w.under_way.here ≡ v ∷ around → AreWalked w
      → AreWalked (go_round w v around)
  go_round_laid w v around is laid =
      let rest : List Open = around ++ flat_map (λ (vs : List Open). vs) w.under_way.around in
      let was : AreLaid (v ∷ around ++ flat_map (λ (vs : List Open). vs) w.under_way.around) w.visits w.ends =
      subst (λ (vs : List Open). AreLaid (vs ++ flat_map (λ (us : List Open). us) w.under_way.around) w.visits w.ends)
      is laid in
      record {
        going = was.going;
        heads = All-cons (HasHead w.visits) (opened v.visit v.head w.passed) rest
            (All-head (HasHead w.visits) v rest was.heads) (All-tail (HasHead w.visits) v rest was.heads);
        order = laid.order;
        pairs = laid.pairs;
        around = laid.around;
        within = laid.within;
        loops = laid.loops;
      }

  pub come_laid : (by : Move) (w : Walk) → IsKept f n w.passed w → AreWalked w → AreWalked (come by w)
  come_laid On w kept laid = laid
  come_laid Call w kept laid = laid
  come_laid Return w kept laid =
      subst (λ (vs : List Open). AreLaid vs w.visits (close w.passed w.under_way.here w.ends))
      (returned w.under_way.around)
      (all_end w.passed w.under_way.here (flat_map (λ (vs : List Open). vs) w.under_way.around) w.visits w.ends
      kept.many_ends kept.begun.first kept.ends laid)

  pub leave_laid : (x : ℕ) (w : Walk) → IsKept f n w.passed w → AreWalked w → AreWalked (leave f.loop x w)
  leave_laid x w kept laid = all_end w.passed (ending f.loop x w.under_way.here)
      (all_open (leave f.loop x w).under_way) w.visits w.ends kept.many_ends kept.begun.first kept.ends
      (subst (λ (vs : List Open). AreLaid vs w.visits w.ends) (open_parts f.loop x w) laid)

  reach_laid : (x : ℕ) (w : Walk) (opens : List Open) → w.under_way.here ≡ opens → IsKept f n w.passed w
      → AreAt f.loop x w.under_way.here → AreWalked w → AreWalked (reach f.heads x w opens)
  reach_laid x w [] here kept at laid = enter_laid x w kept at laid
  reach_laid x w (v ∷ around) here kept at laid =
      elim (v.head == x) as (λ b. AreWalked (cond b (go_round w v around) (enter f.heads x w))) [
        | true ↦ go_round_laid w v around here laid
        | false ↦ enter_laid x w kept at laid
      ]

  arrive_laid : (x : ℕ) (w : Walk) (b : Bool) → IsKept f n w.passed w → AreAt f.loop x w.under_way.here → AreWalked w
      → AreWalked (cond b (reach f.heads x w w.under_way.here) w)
  arrive_laid x w true kept at laid = reach_laid x w w.under_way.here refl kept at laid
  arrive_laid x w false kept at laid = laid

  pub on_laid : (w : Walk) (c : Coming) → IsKept f n w.passed w → AreWalked w → AreWalked (walk_on f w c)
  on_laid w c kept laid =
      let came : Walk = come c.by w in
      let here : IsKept f n w.passed (come c.by w) = come_kept f n c.by w kept in
      arrive_laid c.place (leave f.loop c.place came) (f.heads c.place) (leave_kept f n c.place came here)
      (at_still f.loop c.place came.under_way.here) (leave_laid c.place came here (come_laid c.by w kept laid))

  after_laid : (w : Walk) (comings : List Coming)
      → ((k : ℕ) (z : Coming) → k < length comings → (get_or comings k z).place < n)
      → IsKept f n w.passed w → AreWalked w → AreWalked (walk_after f w comings)
  after_laid w [] low kept laid = laid
  after_laid w (c ∷ left) low kept laid =
      after_laid (walk_on f w c) left (λ k z h. low (suc k) z (omega (arith, h)))
      (on_kept f n w c (low 0 c (omega arith)) kept) (on_laid w c kept laid)

  pub starts_laid : AreWalked setting_out
  starts_laid = record {
    going = λ u a b. absurd (omega (arith, b));
    heads = All-nil (HasHead []);
    order = λ v w z a b. absurd (omega (arith, b));
    pairs = λ v w z a b. absurd (omega (arith, b));
    around = λ w z a. absurd (omega (arith, a));
    within = λ w z a. absurd (omega (arith, a));
    loops = λ w z a. absurd (omega (arith, a));
  }

-- A visit that is never over ends with the run.
ends_by : (Free : ℕ → Type 0) (one two : Option ℕ) (first count : ℕ) → IfSome one (λ a. Free a ⊎ EndsBy a two)
    → IfSome two (λ e. (first ≤ e) × (e ≤ count))
    → Free (unwrap_or one count) ⊎ (unwrap_or two count ≤ unwrap_or one count)
ends_by Free None None first count lies low = inr (omega arith)
ends_by Free None (Some e) first count lies low = inr (omega (arith, low.1))
ends_by Free (Some a) None first count lies low = ⊎_elim (λ (free : Free a). inl free) (λ (by : ⊥). absurd by) lies
ends_by Free (Some a) (Some e) first count lies low = ⊎_elim (λ (free : Free a). inl free) (λ (by : e ≤ a). inr by) lies

end_within : (outer : Visit → Option ℕ) (count : ℕ) (visits : List Visit) (ends : List (Option ℕ))
    → AreEnds count visits ends → LieIn outer visits ends → EndWithin outer count visits ends
end_within outer count visits ends are lie w z low = IfSome_then (outer (get_or visits w z)) (lie w z low)
    (λ u p. ⊎_elim (λ (no : ⊥). absurd no)
    (λ (by : end_of count ends w ≤ end_of count ends u). by)
    (ends_by (λ a. ⊥) (get_or ends u None) (get_or ends w None) (get_or visits w z).first count p.1 (are w z low)))

-- a step in a visit that has another one around it
in_outer : (count : ℕ) (visits : List Visit) (ends : List (Option ℕ)) (g v step : ℕ) (z : Visit) (o : Option ℕ)
    → AreInOrder visits → HasStep count visits ends v step → IfSome o (λ u. (u < v) × Lies (λ a. ⊥) ends u v)
    → IfSome o (λ u. end_of count ends v ≤ end_of count ends u)
    → IsSomeAnd o (λ u. (get_or visits u z).head ≡ g) → IsInVisit count visits ends g step
in_outer count visits ends g v step z None order has lie low is = absurd is
in_outer count visits ends g v step z (Some u) order has lie low is =
    let one : u < length visits = omega (arith, lie.0, has.one) in
    record {
      visit = u;
      has = record {
        one = one;
        begun = λ y. omega (arith, order u v y lie.0 has.one, has.begun y);
        goes_on = omega (arith, low, has.goes_on);
      };
      loop = λ y. ap (λ (v : Visit). v.head) (get_or_default visits u y z one) ∙ is;
    }

take_no_more : (count : ℕ) (visits : List Visit) (ends : List (Option ℕ)) → AreEnds count visits ends
    → AreInOrder visits → LieIn (λ v. v.around) visits ends → TakeNoMore count visits ends
take_no_more count visits ends are order lie h g step all inside =
    let z : Visit = begun 0 0 None None 0 in
    let v : ℕ = inside.visit in
    let one : v < length visits = inside.has.one in
    in_outer count visits ends g v step z (get_or visits v z).around order inside.has (lie v z one)
    (end_within (λ u. u.around) count visits ends are lie v z one) (all v z one (inside.loop z))

pub visits_are_a_nest : VisitsAreANest
visits_are_a_nest steps =
    let f : Found = found_of steps in
    let n : ℕ = length steps in
    let comings : List Coming = comings_of steps in
    let lower : AllLower (found_of steps).loop = run_lower steps in
    let places : (k : ℕ) (z : Coming) → k < length (comings_of steps)
    → (get_or (comings_of steps) k z).place < length steps =
    λ k z h. All-get_or (λ (c : Coming). c.place < length steps) (comings_of steps) k z h (places_low steps) in
    let kept : IsKept f n n (walk_after f setting_out comings) =
    after_kept f n setting_out comings n places (omega (arith, many_comings steps)) (starts_kept f n) in
    let laid : AreWalked f n lower (walk_after f setting_out comings) =
    after_laid f n lower setting_out comings places (starts_kept f n) (starts_laid f n lower) in
    record {
      order = laid.order;
      pairs = λ v w z order low. ends_by (λ a. a ≤ (get_or (visits_of steps) w z).first)
          (get_or (ends_of steps) v None) (get_or (ends_of steps) w None) (get_or (visits_of steps) w z).first n
          (laid.pairs v w z order low) (kept.ends w z low);
      around = end_within (λ v. v.around) n (visits_of steps) (ends_of steps) kept.ends laid.around;
      within = end_within (λ v. v.within) n (visits_of steps) (ends_of steps) kept.ends laid.within;
      loops = laid.loops;
      steps = take_no_more n (visits_of steps) (ends_of steps) kept.ends laid.order laid.around;
    }
