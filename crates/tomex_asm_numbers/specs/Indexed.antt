-- The code's table of definitions, as the definition sees it.
use Rattle.std.specs.Prelude.{ℕ, List, [], ◌≡◌, map}
use Rattle.std.specs.Borrow.{Bor}
use Rattle.std.specs.declared.vec.Vec.{Vec}
use Rattle.std.specs.BTreeMap.{BTreeMap, get_by}
use Rattle.std.specs.Option.{option_map_or}
use Rattle.std.specs.Cmp.Lexicographic.{slice_cmp}
use Rattle.std.specs.Ordering.{nat_cmp}
use Rattle.tomex_asm_numbers.specs.declared.number.Number.{Number}
use Rattle.tomex_asm_numbers.specs.declared.table.Definition as coded
use Rattle.tomex_asm_numbers.specs.declared.table.Table.{Table}
use Rattle.tomex_asm_numbers.specs.Table.{Definition, numbers_of}
use Rattle.tomex_asm_numbers.specs.declared.value.Scope as coded_scope
use Rattle.tomex_asm_numbers.specs.Values.{Scope}

abbrev pub definition_of : coded.Definition → Definition
definition_of d = record { word = d.word.now; number = d.number; is_label = d.is_label }

module _ {A : Type 0} where
  -- the definitions, in the order of the text
  abbrev pub definitions_in : Table A → List Definition
  definitions_in t = map definition_of t.definitions.items

  -- the numbers that the index has for a word
  abbrev pub numbers_in : BTreeMap (Bor (List ℕ)) (Vec Number A) → List ℕ → List Number
  numbers_in index w = option_map_or (λ v. v.items) (get_by (λ k. slice_cmp nat_cmp w k.now) index) []

  abbrev pub numbers_at : Table A → List ℕ → List Number
  numbers_at t w = numbers_in t.numbers w

  -- the index has for each word the numbers that the definitions give it
  abbrev pub IsIndexed : Table A → Type 0
  IsIndexed t = (w : List ℕ) → numbers_at t w ≡ numbers_of w (definitions_in t)

  -- a scope, as the definition sees it
  abbrev pub scope_of : coded_scope.Scope A → Scope
  scope_of s = record {
    above = definitions_in s.above.now;
    whole = definitions_in s.whole.now;
    here = s.here;
    missing = s.missing;
  }
