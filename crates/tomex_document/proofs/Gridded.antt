-- The axes of a document span a grid.
use Rattle.std.proofs.Common.{◌≡◌, ◌&&◌, ℕ, Bool, true, false, List, [], ◌∷◌, Ok, refl, subst}
use Rattle.std.proofs.lemmas.Bool.{and_from}
use Rattle.std.specs.List.{list_all}
use Rattle.toml.specs.Data.{Members}
use Rattle.tomex_rvdec.specs.declared.pool.UnitId.TheVariants as units
use Rattle.tomex_config.specs.Configuration.{is_between, is_option}
use Rattle.tomex_config.specs.Grid.{Lists, stations_in_range, options_in_range, rest_in_range, has_empty}
use Rattle.tomex_config.specs.Grid.{in_range}
use Rattle.tomex_values.specs.declared.place.Key.TheVariants as key
use Rattle.tomex_values.specs.declared.place.Place.TheVariants as place
use Rattle.tomex_values.specs.Table.{known_keys}
use Rattle.tomex_values.specs.Lists.{counts_at, tables_at}
use Rattle.tomex_document.specs.Units.{UnitTables, unit_tables, options_of}
use Rattle.tomex_document.specs.Axes.{Counts, axis_counts, axes_of, with_options}
use Rattle.tomex_document.specs.Document.{Document, members_of, outline_of, document_of}
use Rattle.tomex_document.specs.Grid.{HasGrid}
use Rattle.tomex_values.proofs.Outcomes.{same_value, first_value}
use Rattle.tomex_values.proofs.Within.{IsAxis, counts_at_are}
use Rattle.tomex_document.proofs.Outlines.{outline_parts}
use Rattle.tomex_document.proofs.Options.{HasTables, tables_at_have, options_of_are}

record AreCounts (counts : Counts) : Type 0 where
  alu : IsAxis (is_between 1 16) counts.alu
  mul : IsAxis (is_between 1 16) counts.mul
  div : IsAxis (is_between 1 16) counts.div
  load : IsAxis (is_between 1 16) counts.load
  store : IsAxis (is_between 1 16) counts.store
  bru : IsAxis (is_between 1 16) counts.bru
  buses : IsAxis (is_between 1 8) counts.buses
  width : IsAxis (is_between 1 4) counts.width

axis_counts_are : (members : Members) (counts : Counts) → axis_counts members ≡ Ok counts → AreCounts counts
unfolding axis_counts
axis_counts_are members counts given =
    let (known, (known_is, given_1)) =
    first_value (known_keys place.Axes (key.Alu ∷ key.Mul ∷ key.Div ∷ key.Load ∷ key.Store ∷ key.Bru ∷ key.Buses
    ∷ key.Width ∷ []) members) _ counts given in
    let (alu, (alu_is, given_2)) = first_value (counts_at place.Axes key.Alu 16 members) _ counts given_1 in
    let (mul, (mul_is, given_3)) = first_value (counts_at place.Axes key.Mul 16 members) _ counts given_2 in
    let (div, (div_is, given_4)) = first_value (counts_at place.Axes key.Div 16 members) _ counts given_3 in
    let (load, (load_is, given_5)) = first_value (counts_at place.Axes key.Load 16 members) _ counts given_4 in
    let (store, (store_is, given_6)) = first_value (counts_at place.Axes key.Store 16 members) _ counts given_5 in
    let (bru, (bru_is, given_7)) = first_value (counts_at place.Axes key.Bru 16 members) _ counts given_6 in
    let (buses, (buses_is, given_8)) = first_value (counts_at place.Axes key.Buses 8 members) _ counts given_7 in
    let (width, (width_is, given_9)) = first_value (counts_at place.Axes key.Width 4 members) _ counts given_8 in
    let found : Counts = record {
      alu = alu;
      mul = mul;
      div = div;
      load = load;
      store = store;
      bru = bru;
      buses = buses;
      width = width;
    } in
    let are : AreCounts found = record {
      alu = counts_at_are place.Axes key.Alu 16 members alu refl alu_is;
      mul = counts_at_are place.Axes key.Mul 16 members mul refl mul_is;
      div = counts_at_are place.Axes key.Div 16 members div refl div_is;
      load = counts_at_are place.Axes key.Load 16 members load refl load_is;
      store = counts_at_are place.Axes key.Store 16 members store refl store_is;
      bru = counts_at_are place.Axes key.Bru 16 members bru refl bru_is;
      buses = counts_at_are place.Axes key.Buses 8 members buses refl buses_is;
      width = counts_at_are place.Axes key.Width 4 members width refl width_is;
    } in
    subst (λ (cs : Counts). AreCounts cs) (same_value found counts (Ok found) refl given_9) are

record HaveTables (tables : UnitTables) : Type 0 where
  alu : HasTables tables.alu
  mul : HasTables tables.mul
  div : HasTables tables.div
  mem : HasTables tables.mem
  bru : HasTables tables.bru

unit_tables_have : (members : Members) (tables : UnitTables) → unit_tables members ≡ Ok tables → HaveTables tables
unfolding unit_tables
unit_tables_have members tables given =
    let (known, (known_is, given_1)) =
    first_value (known_keys place.Unit (key.Alu ∷ key.Mul ∷ key.Div ∷ key.Mem ∷ key.Bru ∷ []) members) _ tables
    given in
    let (alu, (alu_is, given_2)) = first_value (tables_at place.Unit key.Alu members) _ tables given_1 in
    let (mul, (mul_is, given_3)) = first_value (tables_at place.Unit key.Mul members) _ tables given_2 in
    let (div, (div_is, given_4)) = first_value (tables_at place.Unit key.Div members) _ tables given_3 in
    let (mem, (mem_is, given_5)) = first_value (tables_at place.Unit key.Mem members) _ tables given_4 in
    let (bru, (bru_is, given_6)) = first_value (tables_at place.Unit key.Bru members) _ tables given_5 in
    let found : UnitTables = record { alu = alu; mul = mul; div = div; mem = mem; bru = bru } in
    let have : HaveTables found = record {
      alu = tables_at_have place.Unit key.Alu members alu alu_is;
      mul = tables_at_have place.Unit key.Mul members mul mul_is;
      div = tables_at_have place.Unit key.Div members div div_is;
      mem = tables_at_have place.Unit key.Mem members mem mem_is;
      bru = tables_at_have place.Unit key.Bru members bru bru_is;
    } in
    subst (λ (ts : UnitTables). HaveTables ts) (same_value found tables (Ok found) refl given_6) have

record AreAxes (axes : Lists) : Type 0 where
  some : has_empty axes ≡ false
  within : in_range axes ≡ true

all_five : (a b c d e : Bool) → a ≡ true → b ≡ true → c ≡ true → d ≡ true → e ≡ true → (a && b && c && d && e) ≡ true
all_five a b c d e in_a in_b in_c in_d in_e = rw (in_a, in_b, in_c, in_d, in_e) refl

all_six : (a b c d e f : Bool) → a ≡ true → b ≡ true → c ≡ true → d ≡ true → e ≡ true → f ≡ true
    → (a && b && c && d && e && f) ≡ true
all_six a b c d e f in_a in_b in_c in_d in_e in_f = rw (in_a, in_b, in_c, in_d, in_e, in_f) refl

-- such axes span a grid
spans : (axes : Lists) → IsAxis (is_between 1 16) axes.alu → IsAxis (is_between 1 16) axes.mul
    → IsAxis (is_between 1 16) axes.div → IsAxis (is_between 1 16) axes.load → IsAxis (is_between 1 16) axes.store
    → IsAxis (is_between 1 16) axes.bru → IsAxis (is_option 8) axes.alu_units → IsAxis (is_option 8) axes.mul_units
    → IsAxis (is_option 8) axes.div_units → IsAxis (is_option 8) axes.mem_units → IsAxis (is_option 1) axes.bru_units
    → IsAxis (is_between 1 8) axes.buses → IsAxis (is_between 1 4) axes.width → AreAxes axes
unfolding has_empty in_range
spans axes alu mul div load store bru alu_units mul_units div_units mem_units bru_units buses width = record {
  some = rw (
    alu.some,
    mul.some,
    div.some,
    load.some,
    store.some,
    bru.some,
    alu_units.some,
    mul_units.some,
    div_units.some,
    mem_units.some,
    bru_units.some,
    buses.some,
    width.some,
  ) refl;
  within = and_from (stations_in_range axes) (options_in_range axes && rest_in_range axes)
      (all_six (list_all (is_between 1 16) axes.alu) (list_all (is_between 1 16) axes.mul)
      (list_all (is_between 1 16) axes.div) (list_all (is_between 1 16) axes.load)
      (list_all (is_between 1 16) axes.store) (list_all (is_between 1 16) axes.bru)
      alu.within mul.within div.within load.within store.within bru.within)
      (and_from (options_in_range axes) (rest_in_range axes)
      (all_five (list_all (is_option 8) axes.alu_units) (list_all (is_option 8) axes.mul_units)
      (list_all (is_option 8) axes.div_units) (list_all (is_option 8) axes.mem_units)
      (list_all (is_option 1) axes.bru_units)
      alu_units.within mul_units.within div_units.within mem_units.within bru_units.within)
      (and_from (list_all (is_between 1 8) axes.buses) (list_all (is_between 1 4) axes.width) buses.within
      width.within));
}

axes_of_are : (members unit : Members) (axes : Lists) → axes_of members unit ≡ Ok axes → AreAxes axes
unfolding axes_of
axes_of_are members unit axes given =
    let (counts, (counts_is, given_1)) = first_value (axis_counts members) _ axes given in
    let (tables, (tables_is, given_2)) = first_value (unit_tables unit) _ axes given_1 in
    let (alu, (alu_is, given_3)) = first_value (options_of units.Alu tables.alu) _ axes given_2 in
    let (mul, (mul_is, given_4)) = first_value (options_of units.Mul tables.mul) _ axes given_3 in
    let (div, (div_is, given_5)) = first_value (options_of units.Div tables.div) _ axes given_4 in
    let (mem, (mem_is, given_6)) = first_value (options_of units.Mem tables.mem) _ axes given_5 in
    let (bru, (bru_is, given_7)) = first_value (options_of units.Bru tables.bru) _ axes given_6 in
    let are = axis_counts_are members counts counts_is in
    let have = unit_tables_have unit tables tables_is in
    let alus = options_of_are units.Alu tables.alu alu have.alu alu_is in
    let muls = options_of_are units.Mul tables.mul mul have.mul mul_is in
    let divs = options_of_are units.Div tables.div div have.div div_is in
    let mems = options_of_are units.Mem tables.mem mem have.mem mem_is in
    let brus = options_of_are units.Bru tables.bru bru have.bru bru_is in
    let found = with_options counts alu mul div mem bru in
    let lawful : AreAxes found = spans found are.alu are.mul are.div are.load are.store are.bru alus muls divs mems brus
    are.buses are.width in
    subst (λ (ls : Lists). AreAxes ls) (same_value found axes (Ok found) refl given_7) lawful

outline_has_grid : (top : Members) (document : Document) → outline_of top ≡ Ok document → HasGrid document.axes
outline_has_grid top document given =
    let parts = outline_parts top document given in
    let are = axes_of_are parts.members parts.unit document.axes parts.axes_are in
    record { some = are.some; within = are.within; few = parts.few }

pub document_has_grid : (bytes : List ℕ) (document : Document) → document_of bytes ≡ Ok document → HasGrid document.axes
unfolding document_of
document_has_grid bytes document given =
    let (top, (top_is, given_1)) = first_value (members_of bytes) _ document given in
    outline_has_grid top document given_1
