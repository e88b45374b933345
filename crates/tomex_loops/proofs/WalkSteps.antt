-- One step of the walk through the visits.
use Rattle.std.proofs.Common.{ℕ, ◌+◌, ◌<◌, ◌≤◌, ◌≡◌, ◌∙◌, refl, sym, ap, arith, cond, Bool, true, false, List, [], ◌∷◌}
use Rattle.std.proofs.Common.{◌++◌, length, get_or, set, take, drop, reverse, None, Option}
use Rattle.std.proofs.lemmas.List.{at_drop_more, length-take-le, set_at, take_all, take_more}
use Rattle.std.specs.Option.{option_map}
use Rattle.tomex_loops.specs.declared.coming.Coming.{Coming}
use Rattle.tomex_loops.specs.declared.visit.Open.{Open}
use Rattle.tomex_loops.specs.declared.visit.Round.{Round}
use Rattle.tomex_loops.specs.declared.visit.Visit.{Visit}
use Rattle.tomex_loops.specs.declared.visiting.Walker.{Walker}
use Rattle.tomex_loops.specs.Calls.{Calls, first_of}
use Rattle.tomex_loops.specs.Loops.{Found, heads_below}
use Rattle.tomex_loops.specs.Visits.{Walk, arrive, close, ending, enter, go_round, innermost, innermost_here, leave}
use Rattle.tomex_loops.specs.Visits.{reach, still_open, walk_after, walk_on, walks_after}
use Rattle.tomex_loops.specs.Walking.{IsWalking, ShowsWalk, begins_with}
use Rattle.tomex_loops.specs.Ways.{around_in, calls_in}
use Rattle.tomex_loops.proofs.Calls.{around_more, same_calls}
use Rattle.tomex_loops.proofs.Walking.{innermost_first, innermost_joined}

abbrev pub opened : ℕ → ℕ → ℕ → Open
opened visit head latest = record { visit = visit; head = head; latest = latest }

-- one more visit under way
pub calls_push : (base : ℕ) (bases : List ℕ) (xs : List Open) (x y : Open) (calls : Calls Open)
    → base ≤ length xs → x ≡ y
    → calls_in reverse base bases xs ≡ calls
    → calls_in reverse base bases (xs ++ x ∷ []) ≡ record calls { here = y ∷ calls.here }
calls_push base bases xs x y calls low same is = same_calls (reverse (drop base (xs ++ x ∷ []))) (y ∷ calls.here)
    (around_in reverse bases (take base (xs ++ x ∷ []))) calls.around
    (innermost_first base xs x low ∙ ap (λ (z : Open). z ∷ reverse (drop base xs)) same
    ∙ ap (λ (c : Calls Open). y ∷ c.here) is)
    (around_more reverse refl base bases xs (x ∷ []) low ∙ ap (λ (c : Calls Open). c.around) is)

-- the innermost visit, which is the last
pub last_open : (base : ℕ) (bases : List ℕ) (front : List Open) (x v : Open) (around : List Open) (calls : Calls Open)
    → base ≤ length front → calls_in reverse base bases (front ++ x ∷ []) ≡ calls → calls.here ≡ v ∷ around
    → (x ≡ v) × (calls_in reverse base bases front ≡ record calls { here = around })
last_open base bases front x v around calls low is here =
    let both : x ∷ reverse (drop base front) ≡ v ∷ around = sym (innermost_first base front x low)
    ∙ ap (λ (c : Calls Open). c.here) is ∙ here in
    let rest : reverse (drop base front) ≡ around = cc both in
    let first : x ≡ v = cc both in (
      first,
      same_calls (reverse (drop base front)) around
          (around_in reverse bases (take base front)) calls.around rest
          (sym (around_more reverse refl base bases front (x ∷ []) low) ∙ ap (λ (c : Calls Open). c.around) is),
    )

pub split_last : (xs : List Open) (last : ℕ) (z : Open) → last + 1 ≡ length xs
    → xs ≡ take last xs ++ get_or xs last z ∷ []
split_last xs last z n = sym (sym (take_more xs last z (omega (arith, n)))
    ∙ ap (λ (k : ℕ). take k xs) n ∙ take_all (length xs) xs (omega arith))

-- at the head of the innermost visit's loop, or at that of another one
pub reach_again : (heads : ℕ → Bool) (x : ℕ) (w : Walk) (visits : List Open) → begins_with x visits ≡ true
    → (v : Open) × (around : List Open) × (visits ≡ v ∷ around) × (reach heads x w visits ≡ go_round w v around)
reach_again heads x w [] is = absurd (cc is)
reach_again heads x w (v ∷ around) is = (
  v,
  around,
  refl,
  ap (λ (b : Bool). cond b (go_round w v around) (enter heads x w)) is,
)

pub reach_new : (heads : ℕ → Bool) (x : ℕ) (w : Walk) (visits : List Open) → begins_with x visits ≡ false
    → reach heads x w visits ≡ enter heads x w
reach_new heads x w [] is = refl
reach_new heads x w (v ∷ around) is = ap (λ (b : Bool). cond b (go_round w v around) (enter heads x w)) is

-- a step at a place
pub arrive_no : (heads : ℕ → Bool) (x : ℕ) (w : Walk) → heads x ≡ false → arrive heads x w ≡ w
arrive_no heads x w is = ap (λ (b : Bool). cond b (reach heads x w w.under_way.here) w) is

pub arrive_yes : (heads : ℕ → Bool) (x : ℕ) (w : Walk) → heads x ≡ true
    → arrive heads x w ≡ reach heads x w w.under_way.here
arrive_yes heads x w is = ap (λ (b : Bool). cond b (reach heads x w w.under_way.here) w) is

-- one more step of the whole walk
pub walk_more : (f : Found) (w all : Walk) (comings : List Coming) (i : ℕ) (z : Coming) → i < length comings
    → walk_after f w (drop i comings) ≡ all
    → walk_after f (walk_on f w (get_or comings i z)) (drop (i + 1) comings) ≡ all
walk_more f w all comings i z h is =
    let more : walk_after f w (drop i comings)
    ≡ walk_after f (walk_on f w (get_or comings i z)) (drop (i + 1) comings) =
    at_drop_more (λ (xs : List Coming). walk_after f w xs) comings i z h in
    sym more ∙ is

pub walks_more : (f : Found) (w : Walk) (comings : List Coming) (i : ℕ) (z : Coming) → i < length comings
    → walks_after f w (drop i comings)
    ≡ walk_on f w (get_or comings i z) ∷ walks_after f (walk_on f w (get_or comings i z)) (drop (i + 1) comings)
walks_more f w comings i z h = at_drop_more (λ (xs : List Coming). walks_after f w xs) comings i z h

abbrev pub begun : ℕ → ℕ → Option ℕ → Option ℕ → ℕ → Visit
begun head number around within first =
    record { head = head; number = number; around = around; within = within; first = first }

abbrev pub gone_round : ℕ → ℕ → ℕ → Round
gone_round visit from to = record { visit = visit; from = from; to = to }

-- the same calls, by other lists
calls_by : {A : Type 0} (s t : Walker A) (xs : List Open) → t.base ≡ s.base → t.bases.items ≡ s.bases.items
    → t.under_way.items ≡ xs
    → calls_in reverse t.base (reverse t.bases.items) t.under_way.items
    ≡ calls_in reverse s.base (reverse s.bases.items) xs
calls_by s t xs base bases is =
    ap (λ (n : ℕ). calls_in reverse n (reverse t.bases.items) t.under_way.items) base
    ∙ ap (λ (ys : List ℕ). calls_in reverse s.base (reverse ys) t.under_way.items) bases
    ∙ ap (λ (ys : List Open). calls_in reverse s.base (reverse s.bases.items) ys) is

pub enter_shows : {A : Type 0} (heads : ℕ → Bool) (w : Walk) (s t : Walker A) (head number now count : ℕ)
    (around within : Option ℕ)
    → IsWalking s → ShowsWalk w s → number ≡ heads_below heads head → now ≡ w.passed → count ≡ length s.visits.items
    → around ≡ option_map (λ (v : Open). v.visit) (first_of (reverse s.under_way.items))
    → within ≡ option_map (λ (v : Open). v.visit) (first_of (reverse (drop s.base s.under_way.items)))
    → t.base ≡ s.base → t.bases.items ≡ s.bases.items
    → t.under_way.items ≡ s.under_way.items ++ opened count head now ∷ []
    → t.visits.items ≡ s.visits.items ++ begun head number around within now ∷ []
    → t.ends.items ≡ s.ends.items ++ None ∷ [] → t.rounds.items ≡ s.rounds.items
    → ShowsWalk (enter heads head w) t
enter_shows heads w s t head number now count around within state shows is_number is_now is_count is_around is_within
    base bases going visits ends rounds =
    let n : count ≡ length w.visits = is_count ∙ ap (λ (vs : List Visit). length vs) shows.visits in
    let one : opened count head now ≡ opened (length w.visits) head w.passed =
    ap (λ (k : ℕ). opened k head now) n ∙ ap (λ (k : ℕ). opened (length w.visits) head k) is_now in
    let out : around ≡ innermost w.under_way = is_around
    ∙ innermost_joined s.base (reverse s.bases.items) s.under_way.items w.under_way state.bases state.grounded state.low
    shows.under_way in
    let inside : within ≡ innermost_here w.under_way =
    is_within ∙ ap (λ (c : Calls Open). innermost_here c) shows.under_way in
    let visit : begun head number around within now
    ≡ begun head (heads_below heads head) (innermost w.under_way) (innermost_here w.under_way) w.passed =
    ap (λ (k : ℕ). begun head k around within now) is_number
    ∙ ap (λ (o : Option ℕ). begun head (heads_below heads head) o within now) out
    ∙ ap (λ (o : Option ℕ). begun head (heads_below heads head) (innermost w.under_way) o now) inside
    ∙ ap (λ (k : ℕ). begun head (heads_below heads head) (innermost w.under_way) (innermost_here w.under_way) k) is_now
    in
    record {
      under_way = calls_by s t (s.under_way.items ++ opened count head now ∷ []) base bases going
          ∙ calls_push s.base (reverse s.bases.items) s.under_way.items (opened count head now)
          (opened (length w.visits) head w.passed) w.under_way state.low one shows.under_way;
      visits = visits ∙ ap (λ (vs : List Visit). vs ++ begun head number around within now ∷ []) shows.visits
          ∙ ap (λ (v : Visit). w.visits ++ v ∷ []) visit;
      ends = ends ∙ ap (λ (es : List (Option ℕ)). es ++ None ∷ []) shows.ends;
      rounds = rounds ∙ shows.rounds;
    }

pub go_round_shows : {A : Type 0} (w : Walk) (s t : Walker A) (v x : Open) (around : List Open) (now last : ℕ)
    → IsWalking s → ShowsWalk w s → now ≡ w.passed → w.under_way.here ≡ v ∷ around
    → s.base < length s.under_way.items → last + 1 ≡ length s.under_way.items → x ≡ get_or s.under_way.items last x
    → t.base ≡ s.base → t.bases.items ≡ s.bases.items
    → t.under_way.items ≡ set s.under_way.items last (opened x.visit x.head now)
    → t.visits.items ≡ s.visits.items → t.ends.items ≡ s.ends.items
    → t.rounds.items ≡ s.rounds.items ++ gone_round x.visit x.latest now ∷ []
    → ShowsWalk (go_round w v around) t
go_round_shows w s t v x around now last state shows is_now here some n read base bases going visits
    same_ends rounds =
    let front : List Open = take last s.under_way.items in
    let long : length (take last s.under_way.items) ≡ last = length-take-le last s.under_way.items (omega (arith, n)) in
    let split : s.under_way.items ≡ take last s.under_way.items ++ x ∷ [] = split_last s.under_way.items last x n
    ∙ ap (λ (y : Open). take last s.under_way.items ++ y ∷ []) (sym read) in
    let low : s.base ≤ length (take last s.under_way.items) = omega (arith, some, n, long) in
    let ends = last_open s.base (reverse s.bases.items) (take last s.under_way.items) x v around w.under_way low
    (sym (ap (λ (ys : List Open). calls_in reverse s.base (reverse s.bases.items) ys) split) ∙ shows.under_way) here in
    let new : set s.under_way.items last (opened x.visit x.head now)
    ≡ take last s.under_way.items ++ opened x.visit x.head now ∷ [] =
    ap (λ (ys : List Open). set ys last (opened x.visit x.head now)) split
    ∙ set_at (take last s.under_way.items) x [] (opened x.visit x.head now) last long in
    let one : opened x.visit x.head now ≡ opened v.visit v.head w.passed =
    ap (λ (y : Open). opened y.visit y.head now) ends.0 ∙ ap (λ (k : ℕ). opened v.visit v.head k) is_now in
    let round : gone_round x.visit x.latest now ≡ gone_round v.visit v.latest w.passed =
    ap (λ (y : Open). gone_round y.visit y.latest now) ends.0 ∙ ap (λ (k : ℕ). gone_round v.visit v.latest k) is_now in
    let rest : Calls Open = record w.under_way { here = around } in
    record {
      under_way = calls_by s t (take last s.under_way.items ++ opened x.visit x.head now ∷ []) base bases (going ∙ new)
          ∙ calls_push s.base (reverse s.bases.items) (take last s.under_way.items) (opened x.visit x.head now)
          (opened v.visit v.head w.passed) rest low one ends.1;
      visits = visits ∙ shows.visits;
      ends = same_ends ∙ shows.ends;
      rounds = rounds ∙ ap (λ (rs : List Round). rs ++ gone_round x.visit x.latest now ∷ []) shows.rounds
          ∙ ap (λ (r : Round). w.rounds ++ r ∷ []) round;
    }

pub leave_shows : {A : Type 0} (loop : ℕ → Option ℕ) (p now : ℕ) (w : Walk) (s t : Walker A) → now ≡ w.passed
    → ShowsWalk w s
    → t.base ≡ s.base → t.bases.items ≡ s.bases.items
    → take s.base t.under_way.items ≡ take s.base s.under_way.items
    → reverse (drop s.base t.under_way.items) ≡ still_open loop p (reverse (drop s.base s.under_way.items))
    → t.visits.items ≡ s.visits.items
    → t.ends.items ≡ close now (ending loop p (reverse (drop s.base s.under_way.items))) s.ends.items
    → t.rounds.items ≡ s.rounds.items
    → ShowsWalk (leave loop p w) t
leave_shows loop p now w s t is_now shows base bases around here visits ends rounds = record {
  under_way = calls_by s t t.under_way.items base bases refl
      ∙ same_calls (reverse (drop s.base t.under_way.items)) (still_open loop p w.under_way.here)
      (around_in reverse (reverse s.bases.items) (take s.base t.under_way.items)) w.under_way.around
      (here ∙ ap (λ (c : Calls Open). still_open loop p c.here) shows.under_way)
      (ap (λ (ys : List Open). around_in reverse (reverse s.bases.items) ys) around
      ∙ ap (λ (c : Calls Open). c.around) shows.under_way);
  visits = visits ∙ shows.visits;
  ends = ends ∙ ap (λ (k : ℕ). close k (ending loop p (reverse (drop s.base s.under_way.items))) s.ends.items) is_now
      ∙ ap (λ (c : Calls Open). close w.passed (ending loop p c.here) s.ends.items) shows.under_way
      ∙ ap (λ (es : List (Option ℕ)). close w.passed (ending loop p w.under_way.here) es) shows.ends;
  rounds = rounds ∙ shows.rounds;
}
