-- The names of places and keys of a study, as it writes them and as errors show them.
use Rattle.std.specs.Prelude.{ℕ, List, ◌++◌, codes}
use Rattle.std.specs.Fmt.{decimal}
use Rattle.tomex_rvdec.specs.declared.pool.UnitId.{UnitId}
use Rattle.tomex_rvdec.specs.declared.pool.UnitId.TheVariants as units
use Rattle.tomex_values.specs.declared.place.Key.{Key}
use Rattle.tomex_values.specs.declared.place.Key.TheVariants as key
use Rattle.tomex_values.specs.declared.place.Place.{Place}
use Rattle.tomex_values.specs.declared.place.Place.TheVariants as place

-- a key as studies write it
abbrev pub key_text : Key → List ℕ
key_text key.Program = codes "program"
key_text key.Prices = codes "prices"
key_text key.Axes = codes "axes"
key_text key.Unit = codes "unit"
key_text key.Name = codes "name"
key_text key.File = codes "file"
key_text key.Base = codes "base"
key_text key.Size = codes "size"
key_text key.Limit = codes "limit"
key_text key.Watch = codes "watch"
key_text key.Weight = codes "weight"
key_text key.Alu = codes "alu"
key_text key.Mul = codes "mul"
key_text key.Div = codes "div"
key_text key.Load = codes "load"
key_text key.Store = codes "store"
key_text key.Bru = codes "bru"
key_text key.Bus = codes "bus"
key_text key.Buses = codes "buses"
key_text key.Width = codes "width"
key_text key.Mem = codes "mem"
key_text key.Units = codes "units"
key_text key.Latency = codes "latency"
key_text key.Price = codes "price"

-- the key of the options for a kind of unit
abbrev pub key_of_unit : UnitId → Key
key_of_unit units.Alu = key.Alu
key_of_unit units.Mul = key.Mul
key_of_unit units.Div = key.Div
key_of_unit units.Mem = key.Mem
key_of_unit units.Bru = key.Bru

-- a place as errors show it
abbrev pub place_text : Place → List ℕ
place_text place.Top = codes "top"
place_text (place.Program number) = codes "program " ++ decimal number
place_text place.Prices = codes "prices"
place_text place.Axes = codes "axes"
place_text place.Unit = codes "unit"
place_text (place.Option unit number) = codes "unit " ++ (key_text (key_of_unit unit) ++ (codes " " ++ decimal number))
