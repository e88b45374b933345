-- The lengths of columns: a line for the machine, and one for each change.
use Rattle.std.proofs.Common.{◌≡◌, ap, cond, refl, sym, suc, ◌<◌, ◌≤◌, List, [], ◌++◌, length, map, All}
use Rattle.std.specs.Prelude.{Bool, nat_lt}
use Rattle.std.proofs.lemmas.Bool.{le-ltb, lt-ltb}
use Rattle.std.proofs.lemmas.List.{length-map}
use Rattle.std.proofs.lemmas.List.Elements.{All-append}
use Rattle.tomex_pareto.specs.declared.front_row.FrontRow.{FrontRow}
use Rattle.tomex_study.specs.Study.{DesignSpace}
use Rattle.tomex_layout.specs.Table.{TableColumn}
use Rattle.tomex_worth.specs.Changes.{changes_of}
use Rattle.tomex_worth.specs.Worth.{all_headings, columns_of, heading_column, program_column, program_columns}
use Rattle.tomex_layout.proofs.Each.{all_if, all_map}

-- one more line than there are changes
abbrev pub HasLines : DesignSpace → FrontRow → TableColumn → Type 0
HasLines s own c = length c.entries ≡ suc (length (changes_of s own))

pub columns_long : (s : DesignSpace) (own : FrontRow) → All (HasLines s own) (columns_of s own)
unfolding heading_column program_column
columns_long s own =
    let P = HasLines s own in
    All-append P (map (heading_column s own) all_headings) (program_columns s own)
    (all_map P (heading_column s own) all_headings (λ heading. ap suc (length-map (changes_of s own) _)))
    (all_if P (map (program_column s own) s.programs) (nat_lt 1 (length s.programs))
    (all_map P (program_column s own) s.programs (λ p. ap suc (length-map (changes_of s own) _))))

-- if there are several programs, each has a column
pub several_columns : (s : DesignSpace) (own : FrontRow) → 1 < length s.programs
    → map (program_column s own) s.programs ≡ program_columns s own
several_columns s own several =
    ap (λ (t : Bool). cond t (map (program_column s own) s.programs) []) (sym (lt-ltb 1 (length s.programs) several))

-- if there is only one, it has none
pub no_column : (s : DesignSpace) (own : FrontRow) → length s.programs ≤ 1 → [] ≡ program_columns s own
no_column s own one =
    ap (λ (t : Bool). cond t (map (program_column s own) s.programs) []) (sym (le-ltb 1 (length s.programs) one))

-- columns are pushed one after another
pub all_columns : (s : DesignSpace) (own : FrontRow) (none first all : List TableColumn) → none ≡ []
    → first ≡ none ++ map (heading_column s own) all_headings → all ≡ first ++ program_columns s own
    → all ≡ columns_of s own
all_columns s own none first all empty headings programs = rw (programs, headings, empty) refl
