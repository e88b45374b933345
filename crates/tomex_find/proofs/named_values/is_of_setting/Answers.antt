-- Each setting in turn.
use Rattle.std.proofs.Common.{◌∙◌, add-one, refl, sym}
use Rattle.tomex_config.specs.Settings.{all_settings}
use Rattle.tomex_find.proofs.FoundLoops.{any_here, any_later, any_none}
use Rattle.tomex_find.proofs.named_values.is_of_setting.Goals as goal

pub loop-setting-preserved : goal.loop-setting-preserved
loop-setting-preserved g c =
    let fails = sym c.in_ok-is_choice.ensures ∙ c.if-branch.false in
    rw add-one (sym (any_later _ all_settings c.loop-setting.setting-index _ _ c.loop-setting-test.true refl fails)
    ∙ c.loop-setting.invariant)

pub returns-then-branch : goal.returns-then-branch
returns-then-branch g c =
    any_here _ all_settings c.loop-setting.setting-index _ _ _ c.loop-setting-test.true refl
    (sym c.in_ok-is_choice.ensures ∙ c.if-branch.true) c.loop-setting.invariant

pub returns : goal.returns
returns g c =
    any_none _ all_settings c.loop-setting.setting-index _ c.loop-setting-test.false c.loop-setting.invariant
