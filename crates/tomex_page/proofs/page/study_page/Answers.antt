-- The rows on the hull and those that are shown are rows of the front, and those of the definition.
use Rattle.std.proofs.Common.{◌∙◌, ◌++◌, ◌<◌, ap, subst, sym, List, ℕ, length, All}
use Rattle.std.specs.Prelude.{option_map}
use Rattle.std.specs.List.{Contains}
use Rattle.tomex_pareto.specs.Hull.{hull_of}
use Rattle.tomex_pareto.specs.declared.front_row.FrontRow.{FrontRow}
use Rattle.tomex_study.specs.StudyFront.{front_of_study}
use Rattle.tomex_page_tables.specs.Shown.{shown_rows}
use Rattle.tomex_page.specs.Page.{page_of, page_over}
use Rattle.tomex_page.proofs.ShownRows.{shown_all, shown_in}
use Rattle.tomex_page.proofs.page.study_page.Goals as goal

pub push_page-requires-clause-shown : goal.push_page-requires-clause-shown
push_page-requires-clause-shown g c =
    let front = front_of_study c.args.surveyed.now in
    let are = c.as_slice-2.ensures.value ∙ (c.in_ok-shown.ensures ∙ ap shown_rows c.front-2.ensures.value) in
    subst (All (Contains front)) (sym are) (shown_in front)

pub push_page-requires-clause-within : goal.push_page-requires-clause-within
push_page-requires-clause-within g c =
    let front = front_of_study c.args.surveyed.now in
    let IsRowOf : FrontRow → Type 0 = λ r. r.row < length c.args.surveyed.now.rows in
    let are = c.as_slice-2.ensures.value ∙ (c.in_ok-shown.ensures ∙ ap shown_rows c.front-2.ensures.value) in
    shown_all IsRowOf front _ (subst (All IsRowOf) c.front-2.ensures.value c.front-2.ensures.within)
    (subst (All (Contains front)) (sym are) (shown_in front))

pub returns : goal.returns
unfolding page_of
returns g c =
    let s = c.args.surveyed.now in
    let front = front_of_study s in
    let on_hull = c.as_slice.ensures.value ∙ (c.in_ok-hull.ensures ∙ ap hull_of c.front.ensures.value) in
    let are = c.as_slice-2.ensures.value ∙ (c.in_ok-shown.ensures ∙ ap shown_rows c.front-2.ensures.value) in
    let page : List FrontRow → List FrontRow → List ℕ = λ hull shown.
    page_over c.args.name.now s c.args.floors (length front) hull shown
    (option_map (λ l. l.now) c.args.choices) in
    ap (λ v. v.items) c.into_bytes.ensures.value
    ∙ (c.in_ok-push_page.ensures
    ∙ (ap (λ (z : List ℕ). z ++ page c.as_slice.result.now c.as_slice-2.result.now) c.new-text.ensures.bytes
    ∙ (ap (λ (rows : List FrontRow). page rows c.as_slice-2.result.now) on_hull ∙ ap (page (hull_of front)) are)))
