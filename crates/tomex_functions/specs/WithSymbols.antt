-- What is reported of two builds if their functions are asked for: only a file with symbols has any.
use Rattle.std.specs.Prelude.{◌≡◌, ◌≢◌, ◌⊎◌, ℕ, List, [], Result, Vec, IfErr, IfOk, IsErrOf, OnOk}
use Rattle.tomex_symbols.specs.Symbols.{symbols_of}
use Rattle.tomex_functions.specs.declared.functions_error.FunctionsError.{FunctionsError}
use Rattle.tomex_functions.specs.declared.functions_error.FunctionsError.TheVariants.{NoSymbols}

-- a text is the report, and both files have symbols; they are refused for having none if one has none, and always then
pub record IsWithSymbols {A : Type 0} (IsReport : List ℕ → Type 0) (old new : List ℕ)
    (result : Result (Vec ℕ A) FunctionsError) : Type 0 where
  pub text : IfOk result (λ text. IsReport text.items)
  pub old_some : OnOk result (symbols_of old ≢ [])
  pub new_some : OnOk result (symbols_of new ≢ [])
  pub refused : IfErr result (λ error. error ≡ NoSymbols → (symbols_of old ≡ []) ⊎ (symbols_of new ≡ []))
  pub old_none : symbols_of old ≡ [] → IsErrOf result NoSymbols
  pub new_none : symbols_of new ≡ [] → IsErrOf result NoSymbols
