-- The new machines of use of this list are known.
use Rattle.std.proofs.Common.{◌∙◌, ap}
use Rattle.std.proofs.lemmas.List.{get_or_default}
use Rattle.std.proofs.lemmas.Result.{IfOk-weaker}
use Rattle.tomex_study.specs.Study.{DesignSpace}
use Rattle.tomex_config.specs.Parts.{all_parts}
use Rattle.tomex_config.specs.declared.part.Part.TheVariants.{Width}
use Rattle.tomex_choices.proofs.Adding.{added_is}
use Rattle.tomex_choices.proofs.weighing.WeighedChoices.additions.Goals as goal

pub returns : goal.returns
returns g c =
    IfOk-weaker c.all_added.result _ _
    (λ v is. is ∙ added_is c.self.inside.surveyed c.args.self.now c.args.place _ c.self.inside.lists.items
    c.index.result.now c.new-entries.result c.as_slice-machines.result.now c.as_slice.result.now c.rows-rows.result.now
    c.self.view_is c.self.invariant c.requires (get_or_default all_parts c.args.place _ Width c.requires)
    c.index.ensures c.as_slice-machines.ensures.value
    (c.rows-rows.ensures.value ∙ ap (λ (s : DesignSpace). s.rows) c.study.ensures)
    c.new-entries.ensures.rows c.new-entries.ensures.place
    (c.as_slice.ensures.value ∙ c.in_ok-firsts.ensures))
    c.all_added.ensures
