-- What was found on all rows is weighed.
use Rattle.std.proofs.Common.{◌≡◌, ◌∙◌, ap, length, subst, sym}
use Rattle.tomex_study.specs.Study.{DesignSpace}
use Rattle.tomex_study.specs.StudyFront.{all_rows}
use Rattle.tomex_choices.specs.Weighed.{AreWeighed}
use Rattle.tomex_choices.proofs.AllWeighed.{few_changes}
use Rattle.tomex_choices.proofs.weighing.weigh_choices.Goals as goal

pub all_weighed-requires : goal.all_weighed-requires
all_weighed-requires g c =
    few_changes c.args.study.now 0 (length c.args.study.now.rows) c.in_ok-found.found.lists.items
    c.in_ok-found.ensures.lists

pub invariant_of-result : goal.invariant_of-result
invariant_of-result g c =
    let s = c.args.study.now in
    let same : c.in_ok-surveyed.surveyed ≡ s = c.in_ok-surveyed.ensures in
    let rows = c.rows-2.ensures.value ∙ ap (λ (z : DesignSpace). all_rows z) same in
    subst (λ (z : DesignSpace). AreWeighed z c.in_ok-lists.lists.items) (sym same)
    (c.in_ok-lists.ensures s c.keeps_limits.ensures rows c.in_ok-found.ensures.lists)
