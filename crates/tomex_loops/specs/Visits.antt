-- The visits of a run to its loops. A visit begins with a step at the head that is in no visit of this loop of the same
-- call. It ends before the first step of that call at a place that isn't the loop's, or with the call.
use Rattle.std.specs.Prelude.{ℕ, ◌+◌, ◌==◌, Bool, if◌then◌else◌, List, [], ◌∷◌, ◌++◌, length, Option, Some, None}
use Rattle.std.specs.Prelude.{slice_set}
use Rattle.std.specs.List.{flat_map}
use Rattle.std.specs.Option.{option_map}
use Rattle.tomex_loops.specs.declared.coming.Coming.{Coming}
use Rattle.tomex_loops.specs.declared.coming.Move.{Move}
use Rattle.tomex_loops.specs.declared.coming.Move.TheVariants.{On, Call, Return}
use Rattle.tomex_loops.specs.declared.visit.Open.{Open}
use Rattle.tomex_loops.specs.declared.visit.Round.{Round}
use Rattle.tomex_loops.specs.declared.visit.Visit.{Visit}
use Rattle.tomex_loops.specs.Calls.{Calls, first_of, moved}
use Rattle.tomex_loops.specs.Loops.{Found, heads_below, is_in_loop}

-- The visits that are under way, of each call the innermost first; all that have begun, and the step before which each
-- of them ends, if it has; the rounds that are over; and how many steps have passed.
pub record Walk : Type 0 where
  pub under_way : Calls Open
  pub visits : List Visit
  pub ends : List (Option ℕ)
  pub rounds : List Round
  pub passed : ℕ

-- all that are under way: those of the latest call, and of the calls around
abbrev pub all_open : Calls Open → List Open
all_open calls = calls.here ++ flat_map (λ visits. visits) calls.around

-- the innermost one, of the latest call that has one
abbrev pub innermost : Calls Open → Option ℕ
innermost calls = option_map (λ v. v.visit) (first_of (all_open calls))

-- and of the latest call only
abbrev pub innermost_here : Calls Open → Option ℕ
innermost_here calls = option_map (λ v. v.visit) (first_of calls.here)

-- these visits end before a step
abbrev pub close : ℕ → List Open → List (Option ℕ) → List (Option ℕ)
close now [] ends = ends
close now (v ∷ visits) ends = close now visits (slice_set ends v.visit (Some now))

-- with a call its visits end
abbrev pub ended_by : Move → List Open → List Open
ended_by On visits = []
ended_by Call visits = []
ended_by Return visits = visits

abbrev pub come : Move → Walk → Walk
come by w = record w {
  under_way = moved by w.under_way;
  ends = close w.passed (ended_by by w.under_way.here) w.ends;
}

-- those of a call that go on at a place: the innermost of them whose loop has the place, and those around it
abbrev pub still_open : (ℕ → Option ℕ) → ℕ → List Open → List Open
still_open loop x [] = []
still_open loop x (v ∷ visits) = if is_in_loop loop v.head x then v ∷ visits else still_open loop x visits

-- and those that end before it
abbrev pub ending : (ℕ → Option ℕ) → ℕ → List Open → List Open
ending loop x [] = []
ending loop x (v ∷ visits) = if is_in_loop loop v.head x then [] else v ∷ ending loop x visits

abbrev pub leave : (ℕ → Option ℕ) → ℕ → Walk → Walk
leave loop x w = record w {
  under_way = record w.under_way { here = still_open loop x w.under_way.here };
  ends = close w.passed (ending loop x w.under_way.here) w.ends;
}

-- a visit begins at the head x
abbrev pub enter : (ℕ → Bool) → ℕ → Walk → Walk
enter heads x w = record w {
  under_way = record w.under_way {
    here = record { visit = length w.visits; head = x; latest = w.passed } ∷ w.under_way.here;
  };
  visits = w.visits ++ record {
    head = x;
    number = heads_below heads x;
    around = innermost w.under_way;
    within = innermost_here w.under_way;
    first = w.passed;
  } ∷ [];
  ends = w.ends ++ None ∷ [];
}

-- the next iteration of the innermost visit begins, so a round is over
abbrev pub go_round : Walk → Open → List Open → Walk
go_round w v around = record w {
  under_way = record w.under_way { here = record v { latest = w.passed } ∷ around };
  rounds = w.rounds ++ record { visit = v.visit; from = v.latest; to = w.passed } ∷ [];
}

-- at the head x, with these visits of the latest call under way
abbrev pub reach : (ℕ → Bool) → ℕ → Walk → List Open → Walk
reach heads x w [] = enter heads x w
reach heads x w (v ∷ around) = if v.head == x then go_round w v around else enter heads x w

abbrev pub arrive : (ℕ → Bool) → ℕ → Walk → Walk
arrive heads x w = if heads x then reach heads x w w.under_way.here else w

-- one more step
abbrev pub walk_on : Found → Walk → Coming → Walk
walk_on f w c =
    let left = leave f.loop c.place (come c.by w) in
    record (arrive f.heads c.place left) { passed = w.passed + 1 }

-- the state after each step
abbrev pub walks_after : Found → Walk → List Coming → List Walk
walks_after f w [] = []
walks_after f w (c ∷ left) = walk_on f w c ∷ walks_after f (walk_on f w c) left

-- the state after the last step
abbrev pub walk_after : Found → Walk → List Coming → Walk
walk_after f w [] = w
walk_after f w (c ∷ left) = walk_after f (walk_on f w c) left

abbrev pub setting_out : Walk
setting_out = record { under_way = record { here = []; around = [] }; visits = []; ends = []; rounds = []; passed = 0 }
