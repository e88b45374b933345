-- The loops of a run. A call keeps a way: the places that it reached, in order. If it reaches a place that is on its
-- way, it has come round: that place and all after it on the way are one round.
use Rattle.std.specs.Prelude.{ℕ, zero, suc, ◌+◌, min, ◌==◌, ◌&&◌, ◌||◌, not, Bool, true, false, if◌then◌else◌, is_none}
use Rattle.std.specs.Prelude.{List, [], ◌∷◌, ◌++◌, take, drop, fold, Option, Some, None}
use Rattle.std.specs.List.{list_any}
use Rattle.tomex_loops.specs.declared.coming.Coming.{Coming}
use Rattle.tomex_loops.specs.Calls.{Calls, moved}

-- what is found so far: the ways, which places are heads of loops, and the head of each place's loop
pub record Found : Type 0 where
  pub ways : Calls ℕ
  pub heads : ℕ → Bool
  pub loop : ℕ → Option ℕ

abbrev pub is_among : List ℕ → ℕ → Bool
is_among places x = list_any (λ y. y == x) places

abbrev pub is_one_among : List ℕ → Option ℕ → Bool
is_one_among places None = false
is_one_among places (Some x) = is_among places x

abbrev pub one_further : Bool → Option ℕ → Option ℕ
one_further is (Some k) = Some (suc k)
one_further true None = Some 0
one_further false None = None

-- how many places of a way stand before a place, if it is on the way
abbrev pub stand : List ℕ → ℕ → Option ℕ
stand [] p = None
stand (x ∷ way) p = one_further (x == p) (stand way p)

-- The head of a round is the place in it at which the run was first.
abbrev pub head_of : ℕ → List ℕ → ℕ
head_of p round = fold min p round

-- A place takes a loop if it isn't its head and has none, or one whose head stands on the way before the round: one
-- around.
abbrev pub loop_given : (before : List ℕ) → ℕ → ℕ → Option ℕ → Option ℕ
loop_given before head x has =
    if not (x == head) && (is_none has || is_one_among before has) then Some head else has

-- A round gives its loop to its places.
abbrev pub loop_after : (before round : List ℕ) → ℕ → (ℕ → Option ℕ) → ℕ → Option ℕ
loop_after before round head loop x = if is_among round x then loop_given before head x (loop x) else loop x

-- at a place that isn't on the way, and at one that stands there after k others
abbrev pub come_to : ℕ → Found → Option ℕ → Found
come_to p f None = record f { ways = record f.ways { here = f.ways.here ++ p ∷ [] } }
come_to p f (Some k) =
    let before = take k f.ways.here in let round = drop k f.ways.here in let head = head_of p round in
    record {
      ways = record f.ways { here = before ++ p ∷ [] };
      heads = λ x. f.heads x || (x == head);
      loop = loop_after before round head f.loop;
    }

-- what is found at one more step
abbrev pub found_at : Found → Coming → Found
found_at f c =
    let ways = moved c.by f.ways in
    come_to c.place (record f { ways = ways }) (stand ways.here c.place)

abbrev pub found_after : Found → List Coming → Found
found_after f [] = f
found_after f (c ∷ left) = found_after (found_at f c) left

abbrev pub nothing : Found
nothing = record { ways = record { here = []; around = [] }; heads = λ x. false; loop = λ x. None }

-- what is found in a whole run
abbrev pub found_in : List Coming → Found
found_in comings = found_after nothing comings

-- the head of a loop, of the loop around, and so on. Each is named by a lower number than the one before, so there are
-- no more than n if the first is at most n
abbrev pub heads_around : (ℕ → Option ℕ) → ℕ → Option ℕ → List ℕ
heads_around loop n None = []
heads_around loop zero (Some h) = []
heads_around loop (suc n) (Some h) = h ∷ heads_around loop n (loop h)

-- The places of a loop are its head, those that have it, and the places of the loops inside.
abbrev pub is_in_loop : (ℕ → Option ℕ) → ℕ → ℕ → Bool
is_in_loop loop h x = (x == h) || is_among (heads_around loop x (loop x)) h

-- the heads of the loops that a place is in, the innermost first
abbrev pub loops_at : Found → ℕ → List ℕ
loops_at f x = (if f.heads x then x ∷ [] else []) ++ heads_around f.loop x (f.loop x)

-- how many heads have a lower number: the number of a head's loop
abbrev pub heads_below : (ℕ → Bool) → ℕ → ℕ
heads_below heads zero = 0
heads_below heads (suc n) = heads_below heads n + (if heads n then 1 else 0)
