-- What a pass returns, as a definition gives it, and its state.
use Rattle.std.specs.Prelude.{ℕ, List, ◌≡◌, Result, Ok, Err}
use Rattle.tomex_asm.specs.declared.refusal.Refusal.{Refusal}
use Rattle.tomex_asm.specs.declared.refusal.AsmError.{AsmError}
use Rattle.tomex_asm.specs.declared.refusal.AsmError.TheVariants.{Memory, Refused}
use Rattle.tomex_asm_places.specs.Kept.{state_of}
use Rattle.tomex_asm_words.specs.Outputs.{output_of}
use Rattle.tomex_asm.specs.declared.second.Second.{Second}
use Rattle.tomex_asm.specs.declared.program.Program as coded
use Rattle.tomex_asm_numbers.specs.Indexed.{definitions_in}
use Rattle.tomex_asm_places.specs.Places.{State}
use Rattle.tomex_asm.specs.Assembled.{Both, Program, written_program, ◌then◌}

-- a result, seen by what it shows, is the one that was defined, except if memory ran out
abbrev pub Gives : {X Y : Type 0} → (X → Y) → Result X AsmError → Result Y Refusal → Type 0
Gives shown (Ok x) defined = defined ≡ Ok (shown x)
Gives shown (Err Memory) defined = Unit {0}
Gives shown (Err (Refused refusal)) defined = defined ≡ Err refusal

module _ {A : Type 0} where
  abbrev pub both_of : Second A → Both
  both_of b = record { state = state_of b.placed; output = output_of b.output }

  -- a program, as the definition sees it
  abbrev pub program_of : coded.Program A → Program
  program_of p = record {
    base = p.base;
    position = p.placed.position;
    defined = definitions_in p.placed.table;
    output = output_of p.output;
  }

abbrev pub after_places : ℕ → List ℕ → Result State Refusal → Result Program Refusal
after_places base text placed = placed then written_program base text
