-- The code's index of what is said of names, as the definition sees it.
use Rattle.std.specs.Prelude.{ℕ, List, ◌≡◌, Result, Ok, Err}
use Rattle.std.specs.declared.vec.Vec.{Vec}
use Rattle.tomex_asm.specs.declared.refusal.Refusal.{Refusal}
use Rattle.tomex_asm.specs.declared.refusal.AsmError.{AsmError}
use Rattle.tomex_asm.specs.declared.refusal.AsmError.TheVariants.{Memory, Refused}
use Rattle.tomex_asm.specs.Assembled.{Program}
use Rattle.std.specs.Borrow.{Bor}
use Rattle.std.specs.BTreeMap.{BTreeMap, get_by}
use Rattle.std.specs.Option.{unwrap_or}
use Rattle.std.specs.Cmp.Lexicographic.{slice_cmp}
use Rattle.std.specs.Ordering.{nat_cmp}
use Rattle.tomex_asm.specs.declared.attributes.Attributes.{Attributes}
use Rattle.tomex_asm.specs.declared.symbols.Symbol as coded
use Rattle.tomex_asm.specs.File.{Symbol, file_of, nothing_said}

abbrev pub attributes_at : BTreeMap (Bor (List ℕ)) Attributes → List ℕ → Attributes
attributes_at index w = unwrap_or (get_by (λ k. slice_cmp nat_cmp w k.now) index) nothing_said

abbrev pub symbol_of : coded.Symbol → Symbol
symbol_of s = record { name = s.name.now; address = s.address; section = s.section; attributes = s.attributes }

-- the file of the program that was defined, or its refusal, except if memory ran out
abbrev pub Files : {A : Type 0} → Result (Vec ℕ A) AsmError → Result Program Refusal → Type 0
Files (Ok file) (Ok p) = file.items ≡ file_of p
Files (Ok file) (Err refusal) = ⊥
Files (Err Memory) defined = Unit {0}
Files (Err (Refused refusal)) defined = defined ≡ Err refusal
