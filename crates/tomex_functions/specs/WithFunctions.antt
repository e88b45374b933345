-- What is reported if functions are asked for: only a file with symbols has any.
use Rattle.std.specs.Prelude.{◌≡◌, ◌≢◌, ℕ, List, [], Result, Vec, IfErr, IfOk, IsErrOf, OnOk}
use Rattle.tomex_symbols.specs.Symbols.{symbols_of}
use Rattle.tomex_functions.specs.declared.functions_error.FunctionsError.{FunctionsError}
use Rattle.tomex_functions.specs.declared.functions_error.FunctionsError.TheVariants.{NoSymbols}

-- a text is the report, and the file has symbols; it is refused for having none if it has none, and always then
pub record IsWithFunctions {A : Type 0} (IsReport : List ℕ → Type 0) (file : List ℕ)
    (result : Result (Vec ℕ A) FunctionsError) : Type 0 where
  pub text : IfOk result (λ text. IsReport text.items)
  pub some : OnOk result (symbols_of file ≢ [])
  pub refused : IfErr result (λ error. error ≡ NoSymbols → symbols_of file ≡ [])
  pub none : symbols_of file ≡ [] → IsErrOf result NoSymbols
