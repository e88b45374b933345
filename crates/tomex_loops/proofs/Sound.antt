-- What holds of the visits and rounds of each run is kept by each of its steps.
use Rattle.std.proofs.Common.{ℕ, zero, suc, ◌+◌, ◌-◌, ◌<◌, ◌≤◌, ◌≡◌, ◌≢◌, ◌∙◌, refl, sym, ap, subst, arith, cond}
use Rattle.std.proofs.Common.{Bool, true, false, List, [], ◌∷◌, ◌++◌, length, get_or, map, set, Option, Some, None}
use Rattle.std.proofs.Common.{⊎_elim}
use Rattle.std.specs.Prelude.{IfSome, ◌==◌}
use Rattle.std.specs.List.{All, flat_map}
use Rattle.std.specs.List.Sorted.{IsNonDecreasingBy}
use Rattle.std.specs.Option.{option_map}
use Rattle.std.proofs.lemmas.Bool.{cases_eq, cases_lt}
use Rattle.std.proofs.lemmas.List.{append-nil, get_or_append_left, get_or_push, get_or-set_other, get_or-set_same}
use Rattle.std.proofs.lemmas.List.{length_push, length-map, length-set}
use Rattle.std.proofs.lemmas.List.Elements.{All-append, All-cons, All-head, All-nil, All-push, All-tail, All-weaker}
use Rattle.std.proofs.lemmas.List.Sorted.{IsNonDecreasingBy-push}
use Rattle.std.proofs.lemmas.Option.{IfSome_then}
use Rattle.tomex_rvexec.specs.declared.step.Step.{Step}
use Rattle.tomex_loops.specs.declared.coming.Coming.{Coming}
use Rattle.tomex_loops.specs.declared.coming.Move.{Move}
use Rattle.tomex_loops.specs.declared.coming.Move.TheVariants.{On, Call, Return}
use Rattle.tomex_loops.specs.declared.visit.Open.{Open}
use Rattle.tomex_loops.specs.declared.visit.Round.{Round}
use Rattle.tomex_loops.specs.declared.visit.Visit.{Visit}
use Rattle.tomex_loops.specs.Calls.{Calls, comings_of, first_list, first_of, rest_of}
use Rattle.tomex_loops.specs.Loops.{Found, heads_below, is_in_loop}
use Rattle.tomex_loops.specs.Runs.{Known, ends_of, found_of, heads_of, heads_to, here_of, innermost_of, rounds_of}
use Rattle.tomex_loops.specs.Runs.{visits_of}
use Rattle.tomex_loops.specs.Sound.{AreEarlier, AreEnds, AreSound, IsOneOf, IsRound}
use Rattle.tomex_loops.specs.Visits.{Walk, all_open, close, come, ending, enter, go_round, innermost}
use Rattle.tomex_loops.specs.Visits.{innermost_here, leave, reach, setting_out, still_open, walk_after, walk_on}
use Rattle.tomex_loops.specs.Visits.{walks_after}
use Rattle.tomex_loops.proofs.WalkSteps.{begun, gone_round, opened}

-- heads, and their numbers
many_heads : (heads : ℕ → Bool) (n : ℕ) → length (heads_to heads n) ≡ heads_below heads n
many_heads heads zero = refl
many_heads heads (suc n) =
    let fewer = many_heads heads n in
    elim (heads n) as (λ b. length (heads_to heads n ++ cond b (n ∷ []) []) ≡ heads_below heads n + cond b 1 0) [
      | true ↦ length_push (heads_to heads n) n ∙ ap (λ (k : ℕ). k + 1) fewer
      | false ↦ ap (λ (xs : List ℕ). length xs) (append-nil (heads_to heads n)) ∙ fewer ∙ omega arith
    ]

heads_before : (heads : ℕ → Bool) (x n : ℕ) → heads x ≡ true → x < n → heads_below heads x < heads_below heads n
heads_before heads x zero is low = absurd (omega (arith, low))
heads_before heads x (suc n) is low = ⊎_elim
    (λ (h : x < n).
    let fewer : heads_below heads x < heads_below heads n = heads_before heads x n is h in
    elim (heads n) as (λ b. heads_below heads x < heads_below heads n + cond b 1 0) [
      | true ↦ omega (arith, fewer)
      | false ↦ omega (arith, fewer)
    ])
    (λ (h : n ≤ x).
    let e : x ≡ n = omega (arith, h, low) in
    let same : heads_below heads x ≡ heads_below heads n = ap (λ (k : ℕ). heads_below heads k) e in
    subst (λ (b : Bool). heads_below heads x < heads_below heads n + cond b 1 0)
    (sym (subst (λ (k : ℕ). heads k ≡ true) e is)) (omega (arith, same)))
    (cases_lt x n)

heads_low : (heads : ℕ → Bool) (n : ℕ) → All (λ (h : ℕ). h < n) (heads_to heads n)
heads_low heads zero = All-nil (λ (h : ℕ). h < 0)
heads_low heads (suc n) = All-append (λ (h : ℕ). h < suc n) (heads_to heads n) (cond (heads n) (n ∷ []) [])
    (All-weaker (λ (h : ℕ). h < n) (λ (h : ℕ). h < suc n) (λ h low. omega (arith, low)) (heads_to heads n)
    (heads_low heads n))
    (elim (heads n) as (λ b. All (λ (h : ℕ). h < suc n) (cond b (n ∷ []) [])) [
      | true ↦ All-cons (λ (h : ℕ). h < suc n) n [] (omega arith) (All-nil (λ (h : ℕ). h < suc n))
      | false ↦ All-nil (λ (h : ℕ). h < suc n)
    ])

-- one more visit
earlier_push : (outer : Visit → Option ℕ) (visits : List Visit) (y : Visit) → AreEarlier outer visits
    → IsOneOf (length visits) (outer y) → AreEarlier outer (visits ++ y ∷ [])
earlier_push outer visits y are one v z h =
    let many = length_push visits y in
    ⊎_elim
    (λ (old : v < length visits). subst (λ (x : Visit). IsOneOf v (outer x))
    (sym (get_or_append_left visits (y ∷ []) z v old)) (are v z old))
    (λ (last : length visits ≤ v).
    let e : length visits ≡ v = omega (arith, many, h, last) in
    subst (λ (x : Visit). IsOneOf v (outer x)) (sym (get_or_push visits y z v e))
    (subst (λ (k : ℕ). IsOneOf k (outer y)) e one))
    (cases_lt v (length visits))

-- when one visit ends
abbrev EndsWell : ℕ → Visit → Option ℕ → Type 0
EndsWell now v end = IfSome end (λ e. (v.first ≤ e) × (e ≤ now))

ends_push : (now : ℕ) (visits : List Visit) (ends : List (Option ℕ)) (y : Visit) → length ends ≡ length visits
    → AreEnds now visits ends → AreEnds now (visits ++ y ∷ []) (ends ++ None ∷ [])
ends_push now visits ends y same are v z h =
    let many = length_push visits y in
    ⊎_elim
    (λ (old : v < length visits).
    subst (λ (x : Visit). EndsWell now x (get_or (ends ++ None ∷ []) v None))
    (sym (get_or_append_left visits (y ∷ []) z v old))
    (subst (λ (o : Option ℕ). EndsWell now (get_or visits v z) o)
    (sym (get_or_append_left ends (None ∷ []) None v (omega (arith, same, old)))) (are v z old)))
    (λ (last : length visits ≤ v).
    let e : length ends ≡ v = omega (arith, many, same, h, last) in
    subst (λ (o : Option ℕ). EndsWell now (get_or (visits ++ y ∷ []) v z) o)
    (sym (get_or_push ends None None v e)) tt)
    (cases_lt v (length visits))

ends_later : (now later : ℕ) (visits : List Visit) (ends : List (Option ℕ)) → now ≤ later → AreEnds now visits ends
    → AreEnds later visits ends
ends_later now later visits ends le are v z h =
    IfSome_then (get_or ends v None) (are v z h) (λ e p. (p.0, omega (arith, p.1, le)))

-- one visit ends now
pub ends_set : (now u : ℕ) (visits : List Visit) (ends : List (Option ℕ)) → length ends ≡ length visits
    → All (λ (v : Visit). v.first < now) visits → AreEnds now visits ends
    → AreEnds now visits (set ends u (Some now))
ends_set now u visits ends same before are v z h = ⊎_elim
    (λ (e : v ≡ u).
    let there : get_or (set ends u (Some now)) v None ≡ Some now =
    ap (λ (k : ℕ). get_or (set ends u (Some now)) k None) e
    ∙ get_or-set_same ends u (Some now) None (omega (arith, e, h, same)) in
    let low : (get_or visits v z).first < now = before v z h in
    subst (λ (o : Option ℕ). EndsWell now (get_or visits v z) o) (sym there) (omega (arith, low), omega arith))
    (λ (ne : v ≢ u).
    subst (λ (o : Option ℕ). EndsWell now (get_or visits v z) o) (sym (get_or-set_other ends u v (Some now) None ne))
    (are v z h))
    (cases_eq v u)

many_close : (now : ℕ) (opens : List Open) (ends : List (Option ℕ)) → length (close now opens ends) ≡ length ends
many_close now [] ends = refl
many_close now (v ∷ opens) ends = many_close now opens (set ends v.visit (Some now))
    ∙ length-set ends v.visit (Some now)

ends_close : (now : ℕ) (opens : List Open) (visits : List Visit) (ends : List (Option ℕ))
    → length ends ≡ length visits → All (λ (v : Visit). v.first < now) visits → AreEnds now visits ends
    → AreEnds now visits (close now opens ends)
ends_close now [] visits ends same before are = are
ends_close now (v ∷ opens) visits ends same before are =
    ends_close now opens visits (set ends v.visit (Some now)) (length-set ends v.visit (Some now) ∙ same) before
    (ends_set now v.visit visits ends same before are)

-- A visit under way is one of those that have begun, and so is its latest iteration.
abbrev pub IsUnderWay : ℕ → ℕ → Open → Type 0
IsUnderWay many now v = (v.visit < many) × (v.latest < now)

abbrev pub AreUnderWay : ℕ → ℕ → List Open → Type 0
AreUnderWay many now opens = All (IsUnderWay many now) opens

later_open : (many more now later : ℕ) (opens : List Open) → many ≤ more → now ≤ later → AreUnderWay many now opens
    → AreUnderWay more later opens
later_open many more now later opens a b are = All-weaker (IsUnderWay many now) (IsUnderWay more later)
    (λ v p. (omega (arith, p.0, a), omega (arith, p.1, b))) opens are

later_around : (many more now later : ℕ) (lists : List (List Open)) → many ≤ more → now ≤ later
    → All (AreUnderWay many now) lists → All (AreUnderWay more later) lists
later_around many more now later lists a b are = All-weaker (AreUnderWay many now) (AreUnderWay more later)
    (λ opens p. later_open many more now later opens a b p) lists are

all_around : (P : Open → Type 0) (lists : List (List Open)) → All (λ (xs : List Open). All P xs) lists
    → All P (flat_map (λ (xs : List Open). xs) lists)
all_around P [] are = All-nil P
all_around P (xs ∷ lists) are = All-append P xs (flat_map (λ (ys : List Open). ys) lists)
    (All-head (λ (ys : List Open). All P ys) xs lists are)
    (all_around P lists (All-tail (λ (ys : List Open). All P ys) xs lists are))

first_under_way : (many now : ℕ) (opens : List Open) → AreUnderWay many now opens
    → IsOneOf many (option_map (λ (v : Open). v.visit) (first_of opens))
first_under_way many now [] are = tt
first_under_way many now (v ∷ opens) are = (All-head (IsUnderWay many now) v opens are).0

all_first : (many now : ℕ) (lists : List (List Open)) → All (AreUnderWay many now) lists
    → AreUnderWay many now (first_list lists)
all_first many now [] are = All-nil (IsUnderWay many now)
all_first many now (xs ∷ lists) are = All-head (AreUnderWay many now) xs lists are

all_rest : (many now : ℕ) (lists : List (List Open)) → All (AreUnderWay many now) lists
    → All (AreUnderWay many now) (rest_of lists)
all_rest many now [] are = are
all_rest many now (xs ∷ lists) are = All-tail (AreUnderWay many now) xs lists are

all_still : (loop : ℕ → Option ℕ) (x : ℕ) (P : Open → Type 0) (opens : List Open) → All P opens
    → All P (still_open loop x opens)
all_still loop x P [] are = are
all_still loop x P (v ∷ opens) are =
    elim (is_in_loop loop v.head x) as (λ b. All P (cond b (v ∷ opens) (still_open loop x opens))) [
      | true ↦ are
      | false ↦ all_still loop x P opens (All-tail P v opens are)
    ]

-- steps at the first n places
abbrev pub AreWithin : ℕ → List Coming → Type 0
AreWithin n comings = (k : ℕ) (z : Coming) → k < length comings → (get_or comings k z).place < n

module _ (f : Found) (n : ℕ) where
  -- the visits that have begun before a step
  pub record HaveBegun (now : ℕ) (visits : List Visit) : Type 0 where
    pub loops : All (λ (v : Visit). v.number < length (heads_to f.heads n)) visits
    pub around : AreEarlier (λ v. v.around) visits
    pub within : AreEarlier (λ v. v.within) visits
    pub order : IsNonDecreasingBy (λ (v : Visit). v.first) visits
    pub first : All (λ (v : Visit). v.first < now) visits

  -- what holds before a step of all that is known of the steps before it
  pub record AreKept (now : ℕ) (calls : Calls Open) (visits : List Visit) (ended : List (Option ℕ)) (over : List Round)
      : Type 0 where
    pub here : AreUnderWay (length visits) now calls.here
    pub around : All (AreUnderWay (length visits) now) calls.around
    pub begun : HaveBegun now visits
    pub many_ends : length ended ≡ length visits
    pub ends : AreEnds now visits ended
    pub rounds : All (IsRound (length visits) now) over
    pub few : length visits + length over ≤ now

  abbrev pub IsKept : ℕ → Walk → Type 0
  IsKept now w = AreKept now w.under_way w.visits w.ends w.rounds

  later_begun : (now later : ℕ) (visits : List Visit) → now ≤ later → HaveBegun now visits → HaveBegun later visits
  later_begun now later visits le are = record {
    loops = are.loops;
    around = are.around;
    within = are.within;
    order = are.order;
    first = All-weaker (λ (v : Visit). v.first < now) (λ (v : Visit). v.first < later)
        (λ v h. omega (arith, h, le)) visits are.first;
  }

  later_rounds : (many more now later : ℕ) (rounds : List Round) → many ≤ more → now ≤ later
      → All (IsRound many now) rounds → All (IsRound more later) rounds
  later_rounds many more now later rounds a b are = All-weaker (IsRound many now) (IsRound more later)
      (λ r p. (omega (arith, p.0, a), p.1, omega (arith, p.2, b))) rounds are

  later_kept : (now later : ℕ) (w : Walk) → now ≤ later → IsKept now w → IsKept later w
  later_kept now later w le are = record {
    here = later_open (length w.visits) (length w.visits) now later w.under_way.here (omega arith) le are.here;
    around = later_around (length w.visits) (length w.visits) now later w.under_way.around (omega arith) le are.around;
    begun = later_begun now later w.visits le are.begun;
    many_ends = are.many_ends;
    ends = ends_later now later w.visits w.ends le are.ends;
    rounds = later_rounds (length w.visits) (length w.visits) now later w.rounds (omega arith) le are.rounds;
    few = omega (arith, are.few, le);
  }

  pub come_kept : (by : Move) (w : Walk) → IsKept w.passed w → IsKept w.passed (come by w)
  come_kept On w are = are
  come_kept Call w are = record {
    here = All-nil (IsUnderWay (length w.visits) w.passed);
    around = All-cons (AreUnderWay (length w.visits) w.passed) w.under_way.here w.under_way.around are.here are.around;
    begun = are.begun;
    many_ends = are.many_ends;
    ends = are.ends;
    rounds = are.rounds;
    few = are.few;
  }
  come_kept Return w are = record {
    here = all_first (length w.visits) w.passed w.under_way.around are.around;
    around = all_rest (length w.visits) w.passed w.under_way.around are.around;
    begun = are.begun;
    many_ends = many_close w.passed w.under_way.here w.ends ∙ are.many_ends;
    ends = ends_close w.passed w.under_way.here w.visits w.ends are.many_ends are.begun.first are.ends;
    rounds = are.rounds;
    few = are.few;
  }

  pub leave_kept : (x : ℕ) (w : Walk) → IsKept w.passed w → IsKept w.passed (leave f.loop x w)
  leave_kept x w are = record {
    here = all_still f.loop x (IsUnderWay (length w.visits) w.passed) w.under_way.here are.here;
    around = are.around;
    begun = are.begun;
    many_ends = many_close w.passed (ending f.loop x w.under_way.here) w.ends ∙ are.many_ends;
    ends = ends_close w.passed (ending f.loop x w.under_way.here) w.visits w.ends are.many_ends are.begun.first
        are.ends;
    rounds = are.rounds;
    few = are.few;
  }

  innermost_kept : (now : ℕ) (w : Walk) → IsKept now w → IsOneOf (length w.visits) (innermost w.under_way)
  innermost_kept now w are = first_under_way (length w.visits) now (all_open w.under_way)
      (All-append (IsUnderWay (length w.visits) now) w.under_way.here
      (flat_map (λ (xs : List Open). xs) w.under_way.around) are.here
      (all_around (IsUnderWay (length w.visits) now) w.under_way.around are.around))

  innermost_here_kept : (now : ℕ) (w : Walk) → IsKept now w → IsOneOf (length w.visits) (innermost_here w.under_way)
  innermost_here_kept now w are = first_under_way (length w.visits) now w.under_way.here are.here

  begin : (now : ℕ) (visits : List Visit) (y : Visit) → y.first ≡ now → y.number < length (heads_to f.heads n)
      → IsOneOf (length visits) y.around → IsOneOf (length visits) y.within → HaveBegun now visits
      → HaveBegun (now + 1) (visits ++ y ∷ [])
  begin now visits y at number around within are = record {
    loops = All-push (λ (v : Visit). v.number < length (heads_to f.heads n)) visits y are.loops number;
    around = earlier_push (λ v. v.around) visits y are.around around;
    within = earlier_push (λ v. v.within) visits y are.within within;
    order = IsNonDecreasingBy-push (λ (v : Visit). v.first) visits y are.order (λ d some.
        let before : (get_or visits (length visits - 1) d).first < now =
        are.first (length visits - 1) d (omega (arith, some)) in
        omega (arith, at, before));
    first = All-push (λ (v : Visit). v.first < now + 1) visits y
        (All-weaker (λ (v : Visit). v.first < now) (λ (v : Visit). v.first < now + 1)
        (λ v h. omega (arith, h)) visits are.first)
        (omega (arith, at));
  }

  enter_kept : (x : ℕ) (w : Walk) → f.heads x ≡ true → x < n → IsKept w.passed w
      → IsKept (w.passed + 1) (enter f.heads x w)
  enter_kept x w is low are =
      let y : Visit = begun x (heads_below f.heads x) (innermost w.under_way) (innermost_here w.under_way) w.passed in
      let v : Open = opened (length w.visits) x w.passed in
      let many : length (w.visits ++ y ∷ []) ≡ length w.visits + 1 = length_push w.visits y in
      let more : length w.visits ≤ length (w.visits ++ y ∷ []) = omega (arith, many) in
      let before : heads_below f.heads x < heads_below f.heads n = heads_before f.heads x n is low in
      record {
        here = All-cons (IsUnderWay (length (w.visits ++ y ∷ [])) (w.passed + 1)) v w.under_way.here
            (omega (arith, many), omega arith)
            (later_open (length w.visits) (length (w.visits ++ y ∷ [])) w.passed (w.passed + 1) w.under_way.here more
            (omega arith) are.here);
        around = later_around (length w.visits) (length (w.visits ++ y ∷ [])) w.passed (w.passed + 1)
            w.under_way.around more (omega arith) are.around;
        begun = begin w.passed w.visits y refl (omega (arith, before, many_heads f.heads n))
            (innermost_kept w.passed w are) (innermost_here_kept w.passed w are) are.begun;
        many_ends = length_push w.ends None ∙ ap (λ (k : ℕ). k + 1) are.many_ends ∙ sym many;
        ends = ends_later w.passed (w.passed + 1) (w.visits ++ y ∷ []) (w.ends ++ None ∷ []) (omega arith)
            (ends_push w.passed w.visits w.ends y are.many_ends are.ends);
        rounds = later_rounds (length w.visits) (length (w.visits ++ y ∷ [])) w.passed (w.passed + 1) w.rounds more
            (omega arith) are.rounds;
        few = omega (arith, many, are.few);
      }

  go_round_kept : (w : Walk) (v : Open) (around : List Open) → w.under_way.here ≡ v ∷ around → IsKept w.passed w
      → IsKept (w.passed + 1) (go_round w v around)
  go_round_kept w v around is are =
      let opens : AreUnderWay (length w.visits) w.passed (v ∷ around) =
      subst (λ (xs : List Open). AreUnderWay (length w.visits) w.passed xs) is are.here in
      let first : IsUnderWay (length w.visits) w.passed v =
      All-head (IsUnderWay (length w.visits) w.passed) v around opens in
      let again : Open = opened v.visit v.head w.passed in
      let round : Round = gone_round v.visit v.latest w.passed in
      let later : IsKept (w.passed + 1) w = later_kept w.passed (w.passed + 1) w (omega arith) are in
      record {
        here = All-cons (IsUnderWay (length w.visits) (w.passed + 1)) again around (first.0, omega arith)
            (later_open (length w.visits) (length w.visits) w.passed (w.passed + 1) around (omega arith) (omega arith)
            (All-tail (IsUnderWay (length w.visits) w.passed) v around opens));
        around = later.around;
        begun = later.begun;
        many_ends = later.many_ends;
        ends = later.ends;
        rounds = All-push (IsRound (length w.visits) (w.passed + 1)) w.rounds round later.rounds
            (first.0, first.1, omega arith);
        few = omega (arith, length_push w.rounds round, are.few);
      }

  reach_kept : (x : ℕ) (w : Walk) (opens : List Open) → f.heads x ≡ true → x < n → w.under_way.here ≡ opens
      → IsKept w.passed w → IsKept (w.passed + 1) (reach f.heads x w opens)
  reach_kept x w [] is low here are = enter_kept x w is low are
  reach_kept x w (v ∷ around) is low here are =
      elim (v.head == x) as (λ b. IsKept (w.passed + 1) (cond b (go_round w v around) (enter f.heads x w))) [
        | true ↦ go_round_kept w v around here are
        | false ↦ enter_kept x w is low are
      ]

  arrive_kept : (x : ℕ) (w : Walk) (b : Bool) → f.heads x ≡ b → x < n → IsKept w.passed w
      → IsKept (w.passed + 1) (cond b (reach f.heads x w w.under_way.here) w)
  arrive_kept x w true is low are = reach_kept x w w.under_way.here is low refl are
  arrive_kept x w false is low are = later_kept w.passed (w.passed + 1) w (omega arith) are

  pub on_kept : (w : Walk) (c : Coming) → c.place < n → IsKept w.passed w → IsKept (w.passed + 1) (walk_on f w c)
  on_kept w c low are = arrive_kept c.place (leave f.loop c.place (come c.by w)) (f.heads c.place) refl low
      (leave_kept c.place (come c.by w) (come_kept c.by w are))

  pub after_kept : (w : Walk) (comings : List Coming) (total : ℕ) → AreWithin n comings
      → w.passed + length comings ≡ total → IsKept w.passed w → IsKept total (walk_after f w comings)
  after_kept w [] total low is are = later_kept w.passed total w (omega (arith, is)) are
  after_kept w (c ∷ left) total low is are =
      after_kept (walk_on f w c) left total (λ k z h. low (suc k) z (omega (arith, h))) (omega (arith, is))
      (on_kept w c (low 0 c (omega arith)) are)

  -- visits become no fewer
  enter_more : (x : ℕ) (w : Walk) → length w.visits ≤ length (enter f.heads x w).visits
  enter_more x w =
      let y : Visit = begun x (heads_below f.heads x) (innermost w.under_way) (innermost_here w.under_way) w.passed in
      omega (arith, length_push w.visits y)

  reach_more : (x : ℕ) (w : Walk) (opens : List Open) → length w.visits ≤ length (reach f.heads x w opens).visits
  reach_more x w [] = enter_more x w
  reach_more x w (v ∷ around) =
      elim (v.head == x) as (λ b. length w.visits ≤ length (cond b (go_round w v around) (enter f.heads x w)).visits) [
        | true ↦ omega arith
        | false ↦ enter_more x w
      ]

  on_more : (w : Walk) (c : Coming) → length w.visits ≤ length (walk_on f w c).visits
  on_more w c =
      let there : Walk = leave f.loop c.place (come c.by w) in
      elim (f.heads c.place) as
      (λ b. length w.visits ≤ length (cond b (reach f.heads c.place there there.under_way.here) there).visits) [
        | true ↦ reach_more c.place there there.under_way.here
        | false ↦ omega arith
      ]

  after_more : (w : Walk) (comings : List Coming) → length w.visits ≤ length (walk_after f w comings).visits
  after_more w [] = omega arith
  after_more w (c ∷ left) = omega (arith, on_more w c, after_more (walk_on f w c) left)

  -- the innermost visit of each step is one of all visits
  all_read : (read : Calls Open → Option ℕ)
      → ((now : ℕ) (w : Walk) → IsKept now w → IsOneOf (length w.visits) (read w.under_way))
      → (w : Walk) (comings : List Coming) → AreWithin n comings → IsKept w.passed w
      → All (IsOneOf (length (walk_after f w comings).visits))
      (map (λ (v : Walk). read v.under_way) (walks_after f w comings))
  all_read read one w [] low are = All-nil (IsOneOf (length w.visits))
  all_read read one w (c ∷ left) low are =
      let next : Walk = walk_on f w c in
      let kept : IsKept (w.passed + 1) (walk_on f w c) = on_kept w c (low 0 c (omega arith)) are in
      let more = after_more (walk_on f w c) left in
      All-cons (IsOneOf (length (walk_after f (walk_on f w c) left).visits)) (read (walk_on f w c).under_way)
      (map (λ (v : Walk). read v.under_way) (walks_after f (walk_on f w c) left))
      (IfSome_then (read (walk_on f w c).under_way) (one (w.passed + 1) (walk_on f w c) kept)
      (λ u h. omega (arith, h, more)))
      (all_read read one (walk_on f w c) left (λ k z h. low (suc k) z (omega (arith, h))) kept)

  many_walks : (w : Walk) (comings : List Coming) → length (walks_after f w comings) ≡ length comings
  many_walks w [] = refl
  many_walks w (c ∷ left) = ap (λ (k : ℕ). suc k) (many_walks (walk_on f w c) left)

  pub starts_kept : IsKept 0 setting_out
  starts_kept = record {
    here = All-nil (IsUnderWay 0 0);
    around = All-nil (AreUnderWay 0 0);
    begun = record {
      loops = All-nil (λ (v : Visit). v.number < length (heads_to f.heads n));
      around = λ v z h. absurd (omega (arith, h));
      within = λ v z h. absurd (omega (arith, h));
      order = λ i j d le h. absurd (omega (arith, h));
      first = All-nil (λ (v : Visit). v.first < 0);
    };
    many_ends = refl;
    ends = λ v z h. absurd (omega (arith, h));
    rounds = All-nil (IsRound 0 0);
    few = omega arith;
  }

-- the whole run
known_is : (steps : List Step) (loops : List (Option ℕ)) → length (comings_of steps) ≡ length steps
    → AreWithin (length steps) (comings_of steps)
    → AreSound (length steps) (record {
      heads = heads_of steps;
      loops = loops;
      visits = visits_of steps;
      ends = ends_of steps;
      innermost = innermost_of steps;
      here = here_of steps;
      rounds = rounds_of steps;
    })
known_is steps loops many places =
    let f : Found = found_of steps in
    let n : ℕ = length steps in
    let comings : List Coming = comings_of steps in
    let kept : IsKept f n n (walk_after f setting_out comings) =
    after_kept f n setting_out comings n places (omega (arith, many)) (starts_kept f n) in
    record {
      heads = heads_low f.heads n;
      loops = kept.begun.loops;
      around = kept.begun.around;
      within = kept.begun.within;
      order = kept.begun.order;
      first = kept.begun.first;
      many_ends = kept.many_ends;
      ends = kept.ends;
      many_innermost = length-map (walks_after f setting_out comings) (λ (w : Walk). innermost w.under_way)
          ∙ many_walks f n setting_out comings ∙ many;
      innermost = all_read f n innermost (innermost_kept f n) setting_out comings places (starts_kept f n);
      many_here = length-map (walks_after f setting_out comings) (λ (w : Walk). innermost_here w.under_way)
          ∙ many_walks f n setting_out comings ∙ many;
      here = all_read f n innermost_here (innermost_here_kept f n) setting_out comings places (starts_kept f n);
      rounds = kept.rounds;
      few = kept.few;
    }

abbrev known : List ℕ → List (Option ℕ) → List Visit → List (Option ℕ) → List (Option ℕ) → List (Option ℕ)
    → List Round → Known
known heads loops visits ends innermost here rounds = record {
  heads = heads;
  loops = loops;
  visits = visits;
  ends = ends;
  innermost = innermost;
  here = here;
  rounds = rounds;
}

pub are_sound : (steps : List Step) (heads : List ℕ) (loops : List (Option ℕ)) (visits : List Visit)
    (ends innermost here : List (Option ℕ)) (rounds : List Round) → length (comings_of steps) ≡ length steps
    → AreWithin (length steps) (comings_of steps)
    → heads ≡ heads_of steps → visits ≡ visits_of steps → ends ≡ ends_of steps → innermost ≡ innermost_of steps
    → here ≡ here_of steps → rounds ≡ rounds_of steps
    → AreSound (length steps) (known heads loops visits ends innermost here rounds)
are_sound steps heads loops visits ends innermost here rounds many places is_heads is_visits is_ends is_innermost
    is_here is_rounds =
    rw (is_heads, is_visits, is_ends, is_innermost, is_here, is_rounds) (known_is steps loops many places)
