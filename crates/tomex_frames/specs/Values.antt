-- The value of a result: what the register that it goes to has after its step. A step of a run has its operands and
-- not its result, so this is read from later steps, or from the registers at the end.
use Rattle.std.specs.Prelude.{◌≡◌, ℕ, ◌==◌, Bool, false, if◌then◌else◌, List, [], ◌∷◌, ◌++◌, codes, drop, reverse}
use Rattle.std.specs.Prelude.{slice_index_or, Option, Some, None}
use Rattle.tomex_image.specs.Image.{Loaded}
use Rattle.tomex_rvexec.specs.History.{IsFlow, byte_after, register_after}
use Rattle.tomex_rvexec.specs.Results.{result_of}
use Rattle.tomex_rvexec.specs.Steps.{is_number, j_of, k_of, step_dest}
use Rattle.tomex_rvdec.specs.Text.{hex8}
use Rattle.tomex_rvexec.specs.declared.step.Operand.{Operand}
use Rattle.tomex_rvexec.specs.declared.step.Step.{Step}
use Rattle.tomex_snapshots.specs.declared.entries.Entry.{Entry}

-- the operand is read from the register
abbrev pub is_read_from : Option Operand → ℕ → Bool
is_read_from None r = false
is_read_from (Some o) r = o.register == r

-- the value of a register before these steps, the last of a run: the first of them that reads it has it, or it is that
-- at the end; none if it is written before it is read
abbrev pub value_in : List ℕ → ℕ → List Step → Option ℕ
value_in last r [] = Some (slice_index_or last r 0)
value_in last r (x ∷ later) =
    if is_read_from (j_of x) r then Some x.vj
    else (if is_read_from (k_of x) r then Some x.vk
    else (if is_number (step_dest x) r then None else value_in last r later))

-- that of the register that a step writes, of a run with these steps and these registers at the end
abbrev pub value_from : List Step → List ℕ → ℕ → Option ℕ → Option ℕ
value_from steps last number None = None
value_from steps last number (Some r) = value_in last r (drop number steps)

abbrev pub value_of : List Step → List ℕ → Entry → Option ℕ
value_of steps last e = value_from steps last e.number (step_dest e.step)

abbrev pub value_text : Option ℕ → List ℕ
value_text None = []
value_text (Some v) = codes "=" ++ hex8 v

-- In a run each such value is what the step wrote: x comes after the steps `older`, youngest first, and before those
-- that are `later`, and `last` are the registers after all of them.
abbrev pub ValuesAreResults : Type 0
ValuesAreResults = (i : Loaded) (older later : List Step) (x : Step) (r v : ℕ) (last : List ℕ)
    → IsFlow i (reverse later ++ x ∷ older) → step_dest x ≡ Some r
    → slice_index_or last r 0 ≡ register_after i (reverse later ++ x ∷ older) r
    → value_in last r later ≡ Some v → v ≡ result_of x (byte_after i older)
