-- One choice more.
use Rattle.std.proofs.Common.{◌∙◌, ap}
use Rattle.std.specs.List.{filter}
use Rattle.tomex_config.specs.Parts.{firsts, same_entry}
use Rattle.tomex_study.specs.Choices.{choices, has_use}
use Rattle.tomex_study.proofs.Filtering.{all_kept, dropped, kept, use_asked, use_other}
use Rattle.tomex_study.proofs.choices.choices_used.Goals.{then-is_used-used+in_ok-push, else-is_used-used}
use Rattle.tomex_study.proofs.choices.choices_used.Goals as goal

pub loop-config-preserved : goal.loop-config-preserved
loop-config-preserved g c =
    let x = c.config-item.result in
    let test = has_use c.args.surveyed.now c.args.part c.args.used in
    elim c.if-is_used-used.branch [
      | then-is_used-used+in_ok-push w ↦
          let same = w.if-is_used-used.true in
          kept test c.deref-config-items.result.now c.loop-config.config-index x x c.loop-config.some.items _ _
          c.loop-config-test.true c.config-item.is c.loop-config.invariant
          (use_asked c.args.surveyed.now c.args.part c.args.used _ x c.is_used.ensures same)
          (ap (λ v. v.items) w.some-is ∙ w.in_ok-push.ensures.items)
      | else-is_used-used w ↦
          let other = w.if-is_used-used.false in
          dropped test c.deref-config-items.result.now c.loop-config.config-index x x c.loop-config.some.items _ _
          c.loop-config-test.true c.config-item.is c.loop-config.invariant
          (use_other c.args.surveyed.now c.args.part c.args.used _ x c.is_used.ensures other)
          (ap (λ v. v.items) w.some-is)
    ]

pub returns : goal.returns
returns g c =
    let test = has_use c.args.surveyed.now c.args.part c.args.used in
    all_kept test c.deref-config-items.result.now c.loop-config.config-index _ _ c.loop-config-test.false
    c.loop-config.invariant
    ∙ ap (filter test) (c.deref-config-items.ensures.value ∙ (c.in_ok-all.ensures
    ∙ (ap (firsts (λ x y. same_entry x y c.args.part)) c.rows.ensures.value
    ∙ ap (λ s. choices s c.args.part) c.study.ensures)))
