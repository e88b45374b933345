-- Each name stands once in a report.
use Rattle.std.proofs.Common.{◌≡◌, ◌∙◌, arith, refl, ap, true, ℕ, List, Option, Some, get_or}
use Rattle.std.specs.Prelude.{count_by, option_map}
use Rattle.std.specs.List.{Contains}
use Rattle.std.specs.Str.{bytes_eq}
use Rattle.std.proofs.Math.Bool.{or-true}
use Rattle.std.proofs.lemmas.Cmp.{nat_list_eq_equiv}
use Rattle.std.proofs.lemmas.List.{get_or-map, length-map}
use Rattle.std.proofs.lemmas.List.Folds.{list_any_at}
use Rattle.tomex_symbols.specs.declared.symbol.Symbol.{Symbol}
use Rattle.tomex_functions.specs.ShownNames.{shown_function}
use Rattle.tomex_functions.specs.declared.rows.Row.{Row}
use Rattle.tomex_functions.specs.Changes.{entries_of, entry_of}
use Rattle.tomex_functions.specs.ChangeLaws.{NamesStandOnce}
use Rattle.tomex_functions.specs.Shares.{AreNames, Both, Entry, has_name, same_name}
use Rattle.tomex_functions.proofs.Adding.{has}
use Rattle.tomex_functions.proofs.Columns.{once}

-- a row's name is one of its build's entries
there : (file : List ℕ) (rows : List Row) (row : Row) (f : Symbol) → Contains rows row → row.function ≡ Some f
    → has (Some (shown_function file f)) (entries_of file rows) ≡ true
there file rows row f one is =
    let name = shown_function file f in
    let at : get_or (entries_of file rows) one.0 (entry_of file row) ≡ entry_of file row =
    get_or-map (entry_of file) rows one.0 row (entry_of file row) one.1 ∙ ap (entry_of file) one.2 in
    let same : same_name (Some name) (entry_of file row).name ≡ true =
    ap (λ (o : Option Symbol). same_name (Some name) (option_map (shown_function file) o)) is
    ∙ nat_list_eq_equiv.refl name in
    list_any_at (λ (e : Entry). same_name (Some name) e.name) (entries_of file rows) one.0 (entry_of file row)
    (omega (arith, one.1, length-map rows (entry_of file)))
    (ap (λ (e : Entry). same_name (Some name) e.name) at ∙ same)

stands_once : (both : Both) (names : List (List ℕ)) (name : List ℕ) → AreNames both names
    → has_name both (Some name) ≡ true → count_by (λ x. bytes_eq x name) names ≡ 1
stands_once both names name are some = once name 1 names are.once (are.those name ∙ some)

pub names_stand_once : NamesStandOnce
names_stand_once config old new both names is = record {
  old = λ row f one own.
      let name = shown_function old.file f in
      stands_once both names name is.are_names (ap (λ (b : Both). has_name b (Some name)) is.both_is
      ∙ rw (there old.file is.old_rows row f one own) refl);
  new = λ row f one own.
      let name = shown_function new.file f in
      stands_once both names name is.are_names (ap (λ (b : Both). has_name b (Some name)) is.both_is
      ∙ rw (there new.file is.new_rows row f one own) (or-true _));
}
