-- With the choices that lists lack, a page has all that it has without them.
use Rattle.std.proofs.Common.{◌++◌, List, ℕ, length, sym, ap}
use Rattle.std.proofs.lemmas.List.{append_assoc}
use Rattle.tomex_html.specs.Html.{page_end}
use Rattle.tomex_pareto.specs.Hull.{hull_of}
use Rattle.tomex_study.specs.StudyFront.{front_of_study}
use Rattle.tomex_page_tables.specs.Shown.{shown_rows}
use Rattle.tomex_page_rows.specs.Additions.{choices_table}
use Rattle.tomex_page.specs.Constants.{choices_help, commands_help, page_help}
use Rattle.tomex_page.specs.Laws.{ChoicesAreAdded}
use Rattle.tomex_page.specs.Page.{asked_choices, asked_help, page_of, page_over, page_rest, page_start_of, views_text}

pub choices_are_added : ChoicesAreAdded
unfolding page_of page_over page_rest asked_choices asked_help
choices_are_added lists floors name s =
    let front = front_of_study s in
    let hull = hull_of front in
    let shown = shown_rows front in
    record {
      before = page_start_of name s floors (length front) hull shown;
      between = views_text s hull shown ++ page_help;
      after = commands_help ++ page_end;
      page = ap (λ (z : List ℕ). page_start_of name s floors (length front) hull shown ++ z)
          (sym (append_assoc (views_text s hull shown) page_help (commands_help ++ page_end)));
      with_choices = ap (λ (z : List ℕ).
          page_start_of name s floors (length front) hull shown ++ (choices_table s.prices lists ++ z))
          (sym (append_assoc (views_text s hull shown) page_help (choices_help ++ (commands_help ++ page_end))));
    }
