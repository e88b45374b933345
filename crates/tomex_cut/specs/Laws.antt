-- What laws say of parts and their files.
use Rattle.std.specs.Prelude.{◌≡◌, ℕ, ◌+◌, ◌-◌, ◌++◌, ◌<◌, ◌≤◌, List, [], ◌∷◌, Option, Some, None, Ok, false, IfSome, ⊤}
use Rattle.tomex_cut.specs.After.{after}
use Rattle.tomex_cut.specs.Part.{Part, Ends, GoesOn, is_used, most_part, prologue_steps, verdict}
use Rattle.tomex_image.specs.Image.{Loaded}
use Rattle.tomex_image.specs.Loading.{IsPlaced, refused}
use Rattle.tomex_image.specs.Window.{Span}
use Rattle.tomex_rvexec.specs.declared.outcome.EndKind.{EndKind}
use Rattle.tomex_rvexec.specs.declared.outcome.EndKind.TheVariants.{Ebreak}
use Rattle.tomex_rvexec.specs.Machine.{State, step_of}
use Rattle.tomex_rvexec.specs.Machine.{Ends as EndsRun}
use Rattle.tomex_rvexec.specs.Run.{EndsWithin, most_steps, start_of}
use Rattle.tomex_rvexec.specs.Trace.{steps_from}
use Rattle.tomex_symbols.specs.declared.symbol.Symbol.{Symbol}
use Rattle.tomex_symbols.specs.Functions.{function_at}
use Rattle.tomex_symbols.specs.Names.{name_of}
use Rattle.tomex_symbols.specs.Symbols.{symbols_of}

-- a part begins after `from - 1` steps of the run, and ends after a number of its own: after none of those before, from
-- its step number `least` on, did the run end or was the next pc new
pub record EndsFirst (i : Loaded) (from least : ℕ) (p : Part) : Type 0 where
  pub reached : after (start_of i) (from - 1) ≡ Ok p.start
  pub count : ℕ
  pub enough : least ≤ count
  pub few : count ≤ most_part
  pub steps : p.steps ≡ steps_from count p.start
  pub ends : verdict p.start count ≡ Ends p.end
  pub first : (m : ℕ) → least ≤ m → m < count → verdict p.start m ≡ GoesOn
  pub new : IfSome p.end (λ e. is_used p.steps e ≡ false)

-- a file is accepted in a window, and its image has this memory and this entry
pub record IsImageOf (file : List ℕ) (window : Span) (memory : List ℕ) (entry : ℕ) : Type 0 where
  pub accepted : refused file window ≡ None
  pub is : (j : Loaded) → IsPlaced file window j → j ≡ record { window = window; memory = memory; entry = entry }

-- a state with another image, and that one's memory
abbrev pub moved : State → Loaded → State
moved s j = record s { image = j; memory = j.memory }

-- an image's run enters the part after the prologue's steps: at its first pc, with its registers
abbrev pub EntersAt : Part → Loaded → Type 0
EntersAt p j = after (start_of j) prologue_steps ≡ Ok (moved p.start j)

-- how a run from this state ends after the steps of a part: by the part's own last step, or by an EBREAK at its end
abbrev pub EndsAs : Option ℕ → State → ℕ → Type 0
EndsAs None t count = (k : ℕ) × (v : State) × (kind : EndKind) × (k < count) × (after t k ≡ Ok v)
    × (step_of v ≡ EndsRun kind)
EndsAs (Some e) t count = (v : State) × (after t count ≡ Ok v) × (v.pc ≡ e) × (step_of v ≡ EndsRun Ebreak)

-- an image's run, from the part's first pc and its registers on, is the part's: the same steps, one by one, and its end
pub record RunsAs (p : Part) (j : Loaded) : Type 0 where
  pub count : ℕ
  pub few : count ≤ most_part
  pub steps : steps_from count (moved p.start j) ≡ p.steps
  pub ends : EndsAs p.end (moved p.start j) count

-- an image's whole run: the prologue's steps, the part's, and no more than an EBREAK; a study takes such a program
pub record IsPrologueAndPart (p : Part) (j : Loaded) : Type 0 where
  pub count : ℕ
  pub steps : steps_from (prologue_steps + count) (start_of j) ≡ steps_from prologue_steps (start_of j) ++ p.steps
  pub within : EndsWithin j most_steps

-- a symbol of a file and one of another name the same code, and have the same name, kind and binding
pub record IsAlike (old : List ℕ) (s : Symbol) (new : List ℕ) (t : Symbol) : Type 0 where
  pub address : t.address ≡ s.address
  pub size : t.size ≡ s.size
  pub kind : t.kind ≡ s.kind
  pub binding : t.binding ≡ s.binding
  pub name : name_of new t ≡ name_of old s

-- two lists of symbols, one by one
abbrev pub AreAlike : List ℕ → List Symbol → List ℕ → List Symbol → Type 0
AreAlike old [] new [] = ⊤
AreAlike old (s ∷ ss) new (t ∷ ts) = IsAlike old s new t × AreAlike old ss new ts
AreAlike old _ new _ = ⊥

-- two functions, or none in either file
abbrev pub IsSameFunction : List ℕ → Option Symbol → List ℕ → Option Symbol → Type 0
IsSameFunction old None new None = ⊤
IsSameFunction old (Some s) new (Some t) = IsAlike old s new t
IsSameFunction old _ new _ = ⊥

-- each address has the same function in two files
abbrev pub HaveSameFunctions : List ℕ → List ℕ → Type 0
HaveSameFunctions old new =
    (pc : ℕ) → IsSameFunction old (function_at (symbols_of old) pc) new (function_at (symbols_of new) pc)
