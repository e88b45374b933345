-- What a reader of the code returns, as a definition gives it.
use Rattle.std.specs.Prelude.{◌≡◌, Result, Ok, Err}
use Rattle.tomex_asm_tokens.specs.declared.cause.Fault.{Fault}
use Rattle.tomex_asm_tokens.specs.declared.cause.ReadError.{ReadError}
use Rattle.tomex_asm_tokens.specs.declared.cause.ReadError.TheVariants.{Memory, Refused}

-- a result, seen by what it shows, is the one that was defined
abbrev pub Reads : {X Y : Type 0} → (X → Y) → Result X Fault → Result Y Fault → Type 0
Reads shown (Ok x) defined = defined ≡ Ok (shown x)
Reads shown (Err fault) defined = defined ≡ Err fault

-- the same, except if memory ran out
abbrev pub Answers : {X Y : Type 0} → (X → Y) → Result X ReadError → Result Y Fault → Type 0
Answers shown (Ok x) defined = defined ≡ Ok (shown x)
Answers shown (Err Memory) defined = Unit {0}
Answers shown (Err (Refused fault)) defined = defined ≡ Err fault
