-- Which steps call functions. Jumps and links are the manual's ("Unconditional Jumps"), the rule is this project's.
use Rattle.std.specs.Prelude.{ℕ, ◌==◌, Bool, true, false, not, ◌&&◌, ◌||◌, if◌then◌else◌, List, [], ◌∷◌}
use Rattle.std.specs.Prelude.{Option, Some, None, count_by, is_some}
use Rattle.tomex_rvdec.specs.declared.op.Op.{Op}
use Rattle.tomex_rvdec.specs.declared.op.Op.TheVariants.{Jal, Jalr}
use Rattle.tomex_rvexec.specs.Steps.{step_dest}
use Rattle.tomex_rvexec.specs.declared.step.Step.{Step}
use Rattle.tomex_symbols.specs.declared.symbol.Symbol.{Symbol}
use Rattle.tomex_functions.specs.Functions.{function_key, function_of}

abbrev pub is_jump : Op → Bool
is_jump Jal = true
is_jump Jalr = true
is_jump _ = false

-- a step at the first address of its function comes there by a call: the run begins with it, or it comes right after a
-- jump that leaves a return address or isn't of the same function
abbrev pub comes_by_call : List Symbol → Option Step → Step → Bool
comes_by_call symbols None step = true
comes_by_call symbols (Some before) step =
    is_jump before.instr.op
    && (is_some (step_dest before) || not (function_key symbols before == function_key symbols step))

abbrev pub begins : ℕ → Option Symbol → Bool
begins pc None = false
begins pc (Some f) = f.address == pc

-- a step calls its function, given the step before it
abbrev pub is_call : List Symbol → Option Step → Step → Bool
is_call symbols before step = begins step.pc (function_of symbols step) && comes_by_call symbols before step

-- of steps that come after another one, those that call
abbrev pub calls_after : List Symbol → Option Step → List Step → List Step
calls_after symbols before [] = []
calls_after symbols before (s ∷ steps) =
    if is_call symbols before s then s ∷ calls_after symbols (Some s) steps else calls_after symbols (Some s) steps

-- and of a whole run
abbrev pub calls_in : List Symbol → List Step → List Step
calls_in symbols steps = calls_after symbols None steps

-- how many of them call the function of a key
abbrev pub calls_of : List Symbol → ℕ → List Step → ℕ
calls_of symbols k calls = count_by (λ s. function_key symbols s == k) calls
