-- The names are in their order, with that of weights if these are shown.
use Rattle.std.proofs.Common.{◌≡◌, ℕ, Bool, true, false, List, [], ◌∷◌, ◌++◌, refl}
use Rattle.std.specs.Prelude.{codes}
use Rattle.tomex_texts.specs.FrontReport.{if_wide, program_columns, row_columns}
use Rattle.tomex_texts.proofs.front_header.columns.Goals as goal

columns_are : (wide : Bool) {f0 f2 f3 f4 f5 : List (List ℕ)} → f0 ≡ [] → f2 ≡ f0 ++ row_columns wide
    → f3 ≡ f2 ++ (codes "program" ∷ []) → f4 ≡ f3 ++ if_wide wide (codes "weight")
    → f5 ≡ f4 ++ (codes "steps" ∷ codes "program_cycles" ∷ codes "end" ∷ codes "regs" ∷ codes "watch" ∷ [])
    → f5 ≡ row_columns wide ++ program_columns wide
columns_are true none row name weight rest = rw (rest, weight, name, row, none) refl
columns_are false none row name weight rest = rw (rest, weight, name, row, none) refl

pub returns : goal.returns
returns c =
    columns_are c.args.wide c.new-record.ensures.fields
    c.in_ok-push_row_columns.ensures.fields (rw c.as_slice.ensures at c.in_ok-push_names.ensures.fields)
    c.in_ok-push_if_wide.ensures.fields (rw c.as_slice-2.ensures at c.in_ok-push_names-2.ensures.fields)
