-- There is a value exactly if contracts see one.
use Rattle.std.proofs.Common.{◌≡◌, ◌∙◌, Option, Some, None, refl}
use Rattle.std.specs.Prelude.{is_some, option_map}
use Rattle.tomex_values.proofs.table.has_key.Goals as goal

still_some : {X Y : Type 0} (f : X → Y) (found : Option X) (seen : Option Y) → option_map f found ≡ seen
    → is_some found ≡ is_some seen
still_some f None seen e = rw (← e) refl
still_some f (Some x) seen e = rw (← e) refl

pub returns : goal.returns
returns c = c.is_some.ensures ∙ still_some _ _ _ c.value_at.ensures
