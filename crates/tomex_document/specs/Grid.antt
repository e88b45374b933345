-- A document that passes its tests has a grid.
use Rattle.std.specs.Prelude.{◌≡◌, true, false}
use Rattle.tomex_config.specs.Grid.{Lists, has_empty, in_range, is_too_large}

-- each axis has a value, all values are within the limits, and there are not too many rows
pub record HasGrid (axes : Lists) : Type 0 where
  pub some : has_empty axes ≡ false
  pub within : in_range axes ≡ true
  pub few : is_too_large axes ≡ false
