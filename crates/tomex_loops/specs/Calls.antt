-- How a run reaches each of its steps: on in the same call, into a new one, or back from one. And at which place: a
-- place is an address, named by the number of the first step there, counted from 0.
use Rattle.std.specs.Prelude.{ℕ, ◌==◌, ◌&&◌, not, Bool, true, false, if◌then◌else◌, is_some, List, [], ◌∷◌, Option}
use Rattle.std.specs.Prelude.{Some, None}
use Rattle.std.specs.List.{position_or_len}
use Rattle.tomex_rvdec.specs.declared.op.Op.{Op}
use Rattle.tomex_rvdec.specs.declared.op.Op.TheVariants.{Jal, Jalr}
use Rattle.tomex_rvexec.specs.declared.step.Step.{Step}
use Rattle.tomex_rvexec.specs.Steps.{is_number, step_dest}
use Rattle.tomex_rvexec.specs.Words.{sum}
use Rattle.tomex_loops.specs.declared.coming.Move.{Move}
use Rattle.tomex_loops.specs.declared.coming.Move.TheVariants.{On, Call, Return}
use Rattle.tomex_loops.specs.declared.coming.Coming.{Coming}

abbrev pub is_jalr : Op → Bool
is_jalr Jalr = true
is_jalr _ = false

abbrev pub is_jump : Op → Bool
is_jump Jal = true
is_jump Jalr = true
is_jump _ = false

-- the address after a step
abbrev pub address_after : Step → ℕ
address_after x = sum x.pc 4

abbrev pub first_of : {X : Type 0} → List X → Option X
first_of [] = None
first_of (x ∷ xs) = Some x

abbrev pub rest_of : {X : Type 0} → List X → List X
rest_of [] = []
rest_of (x ∷ xs) = xs

-- A JALR to the address after the latest call that isn't over ends that call. Any other JAL or JALR that has a
-- destination is a call, unless it goes to the next address. The list has the addresses after the calls that aren't
-- over, the latest first.
abbrev pub move_to : List ℕ → Step → Step → Move
move_to awaited before x =
    if is_jalr before.instr.op && is_number (first_of awaited) x.pc then Return
    else if is_jump before.instr.op && is_some (step_dest before) && not (x.pc == address_after before) then Call
    else On

-- the addresses that calls return to, after a move from a step
abbrev pub awaited_after : Move → List ℕ → Step → List ℕ
awaited_after On awaited before = awaited
awaited_after Call awaited before = address_after before ∷ awaited
awaited_after Return awaited before = rest_of awaited

-- the place of an address: the number of the first step there
abbrev pub place_of : List Step → ℕ → ℕ
place_of steps address = position_or_len (λ x. x.pc == address) steps

-- how a run reaches the steps that are left, after a step
abbrev pub comings_after : List Step → List ℕ → Step → List Step → List Coming
comings_after steps awaited before [] = []
comings_after steps awaited before (x ∷ left) =
    record { by = move_to awaited before x; place = place_of steps x.pc }
    ∷ comings_after steps (awaited_after (move_to awaited before x) awaited before) x left

-- how a run reaches each of its steps; it reaches the first one in the outermost call
abbrev pub comings_of : List Step → List Coming
comings_of [] = []
comings_of (x ∷ left) = record { by = On; place = place_of (x ∷ left) x.pc } ∷ comings_after (x ∷ left) [] x left

-- What each call that isn't over has of its own: the latest call, and the calls around it, the latest of them first.
pub record Calls (X : Type 0) : Type 0 where
  pub here : List X
  pub around : List (List X)

abbrev pub first_list : {X : Type 0} → List (List X) → List X
first_list [] = []
first_list (xs ∷ lists) = xs

-- A new call has nothing yet. What a call has is gone with its end.
abbrev pub moved : {X : Type 0} → Move → Calls X → Calls X
moved On calls = calls
moved Call calls = record { here = []; around = calls.here ∷ calls.around }
moved Return calls = record { here = first_list calls.around; around = rest_of calls.around }
