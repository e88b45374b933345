-- What the list lacks, if what was found of it was found on all rows.
use Rattle.std.proofs.Common.{◌≡◌, ◌∙◌, List, ap, not, subst, sym}
use Rattle.std.specs.List.{filter, list_any}
use Rattle.tomex_pareto.specs.declared.front_row.FrontRow.{FrontRow}
use Rattle.tomex_study.specs.StudyFront.{all_rows}
use Rattle.tomex_choices.specs.Passing.{Has}
use Rattle.tomex_choices.specs.Savings.{is_as_good, saving_among}
use Rattle.tomex_choices.specs.declared.new_machine.NewMachine.{NewMachine}
use Rattle.tomex_choices.proofs.WeighedLists.{all_useful, number_is, only_useful, saving_is}
use Rattle.tomex_choices.proofs.weighing.weighed_list.Goals as goal

pub returns : goal.returns
returns g c = λ s place is low rows found.
    let machines = c.args.found.machines.items in
    let change = c.args.found.last_change in
    let kept = c.in_ok-unbeaten.unbeaten.items in
    let are = c.in_ok-unbeaten.ensures in
    let those : c.in_ok-useful.field-0.items ≡ filter (λ x. not (list_any (is_as_good x) (all_rows s))) kept =
    c.in_ok-useful.ensures
    ∙ (ap (filter (λ x. not (list_any (is_as_good x) c.args.rows.now))) c.as_slice.ensures.value
    ∙ ap (λ (rs : List FrontRow). filter (λ x. not (list_any (is_as_good x) rs)) kept) rows) in
    record {
      only = λ x h. only_useful s place machines kept change is low found are x
          (subst (λ (xs : List NewMachine). Has xs x) those h);
      all = λ x h. subst (λ (xs : List NewMachine). Has xs x) (sym those)
          (all_useful s place machines kept change is low found are x h);
      saving_is = c.greatest_saving.ensures
          ∙ (ap (saving_among c.args.rows.now) c.as_slice-2.ensures.value
          ∙ (ap (λ (rs : List FrontRow). saving_among rs kept) rows
          ∙ saving_is s place machines kept change is low found are));
      enough_is = number_is s place machines kept change is low found are;
    }
