-- Three pieces, one after another.
use Rattle.std.proofs.Common.{◌∙◌, ◌++◌, List, ap, append_assoc, ℕ, string_bytes}
use Rattle.std.specs.Prelude.{codes}
use Rattle.std.proofs.lemmas.Result.{IfOk-weaker}
use Rattle.tomex_choices_table.specs.ChoicesTable.{both_floors, floor_text}
use Rattle.tomex_choices_table.proofs.table.push_both_floors.Goals as goal

pub returns : goal.returns
unfolding both_floors
returns g c =
    let text = string_bytes c.args.text.now in
    let first = floor_text c.args.floors.fastest c.args.floors.own in
    let next = floor_text c.args.floors.fastest c.args.floors.any_width in
    IfOk-weaker c.push_floor-2.result _ _
    (λ u is. is
    ∙ (ap (λ (bs : List ℕ). bs ++ next)
    (c.in_ok-push_str.ensures.bytes
    ∙ (ap (λ (bs : List ℕ). bs ++ codes ", at any width ") c.in_ok-push_floor.ensures
    ∙ append_assoc text first (codes ", at any width ")))
    ∙ (append_assoc text (first ++ codes ", at any width ") next
    ∙ ap (λ (bs : List ℕ). text ++ bs) (append_assoc first (codes ", at any width ") next))))
    c.push_floor-2.ensures
