-- A document has as many programs as tables, and so 1 to 8.
use Rattle.std.proofs.Common.{◌≡◌, ◌==◌, ◌+◌, ◌≤◌, ◌++◌, ◌∙◌, ℕ, true, false, nat_le, List, [], ◌∷◌, length, Ok, Option}
use Rattle.std.proofs.Common.{Some, None, refl, subst, arith, length-append}
use Rattle.toml.specs.Data.{Data, Items, no_items, item, Members, as_table, as_array}
use Rattle.tomex_values.specs.declared.error.DocumentError.TheVariants.{MissingKey, Range}
use Rattle.tomex_values.specs.declared.place.Key.TheVariants as key
use Rattle.tomex_values.specs.declared.place.Place.TheVariants as place
use Rattle.tomex_values.specs.Table.{value_at}
use Rattle.tomex_values.specs.Lists.{items_count, tables_from}
use Rattle.tomex_document.specs.Program.{ProgramEntry, program_from, programs_of, program_tables_or, program_tables}
use Rattle.tomex_document.specs.Document.{Document, members_of, outline_of, document_of}
use Rattle.tomex_values.proofs.Outcomes.{fault_is_no_value, same_value, first_value, passed}
use Rattle.tomex_document.proofs.Outlines.{outline_parts}
use Rattle.tomex_document.proofs.Options.{tables_from_some}

length-programs_of : (number : ℕ) (earlier : List ProgramEntry) (values : Items) (programs : List ProgramEntry)
    → programs_of number earlier values ≡ Ok programs → length programs ≡ length earlier + items_count values
length-programs_of number earlier no_items programs given =
    let same : earlier ≡ programs = same_value earlier programs (Ok earlier) refl given in
    rw (← same) (let none : length earlier ≡ length earlier + 0 = omega arith in none)
length-programs_of number earlier (item value values) programs given =
    let (program, (program_is, rest)) = first_value (program_from number earlier (as_table value)) _ programs given in
    let more = length-programs_of (number + 1) (earlier ++ program ∷ []) values programs rest in
    let longer : length (earlier ++ program ∷ []) ≡ length earlier + 1 = length-append earlier (program ∷ []) in
    more ∙ omega (arith, longer)

program_tables_some : (value : Option Data) (tables : Items) → program_tables_or value ≡ Ok tables
    → ((items_count tables == 0) ≡ false) × (nat_le (items_count tables) 8 ≡ true)
program_tables_some None tables given = absurd (fault_is_no_value (MissingKey place.Top key.Program) tables given)
program_tables_some (Some value) tables given =
    let (found, (found_is, given_1)) =
    first_value (tables_from place.Top key.Program (as_array value)) _ tables given in
    let (few, same) = passed (nat_le (items_count found) 8) found tables (Range place.Top key.Program) given_1 in
    let some = tables_from_some place.Top key.Program (as_array value) found found_is in
    subst (λ (ts : Items). ((items_count ts == 0) ≡ false) × (nat_le (items_count ts) 8 ≡ true)) same (some, few)

program_tables_are : (top : Members) (tables : Items) → program_tables top ≡ Ok tables
    → ((items_count tables == 0) ≡ false) × (nat_le (items_count tables) 8 ≡ true)
unfolding program_tables
program_tables_are top tables given = program_tables_some (value_at key.Program top) tables given

counted : (count n : ℕ) → (count == 0) ≡ false → nat_le count 8 ≡ true → n ≡ 0 + count → (1 ≤ n) × (n ≤ 8)
counted count n some few same = (grind arith, grind arith)

outline_has_programs : (top : Members) (document : Document) → outline_of top ≡ Ok document
    → (1 ≤ length document.programs) × (length document.programs ≤ 8)
outline_has_programs top document given =
    let parts = outline_parts top document given in
    let (some, few) = program_tables_are top parts.tables parts.tables_are in
    counted (items_count parts.tables) (length document.programs) some few
    (length-programs_of 1 [] parts.tables document.programs parts.programs_are)

pub document_has_programs : (bytes : List ℕ) (document : Document) → document_of bytes ≡ Ok document
    → (1 ≤ length document.programs) × (length document.programs ≤ 8)
unfolding document_of
document_has_programs bytes document given =
    let (top, (top_is, given_1)) = first_value (members_of bytes) _ document given in
    outline_has_programs top document given_1
