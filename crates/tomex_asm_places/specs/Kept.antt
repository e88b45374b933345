-- The code's state of the first pass, as the definition sees it.
use Rattle.tomex_asm_numbers.specs.Indexed.{definitions_in, IsIndexed}
use Rattle.tomex_asm_places.specs.declared.placing.Placed.{Placed}
use Rattle.tomex_asm_places.specs.Positions.{AreFew}
use Rattle.tomex_asm_places.specs.Places.{State}

module _ {A : Type 0} where
  abbrev pub state_of : Placed A → State
  state_of p = record { position = p.position; defined = definitions_in p.table }

  -- the index has the definitions, and the sections are small
  abbrev pub IsPlaced : Placed A → Type 0
  IsPlaced p = IsIndexed p.table × AreFew p.position
