-- No configuration yet, and one more.
use Rattle.std.proofs.Common.{◌≡◌, ◌∙◌, ap, sym, arith}
use Rattle.std.proofs.lemmas.Grind.{common_steps}
use Rattle.std.specs.List.{list_any}
use Rattle.tomex_config.specs.Parts.{is_like}
use Rattle.tomex_config.proofs.Firsts.{all_coming, one_came, one_comes}
use Rattle.tomex_config.proofs.likeness.Likeness.firsts.Goals as goal
use Rattle.tomex_config.proofs.likeness.Likeness.firsts.Goals.{else-not-is_in, then-not-is_in+in_ok-push}

pub loop-config-init : goal.loop-config-init
loop-config-init c = all_coming c.args.self c.args.rows.now c.new-firsts.result.items c.new-firsts.ensures.items

pub loop-config-preserved : goal.loop-config-preserved
loop-config-preserved c =
    let before = c.loop-config.firsts.items in
    let any : list_any (λ d. is_like c.args.self d c.config-item.result) before ≡ c.is_in.result =
    ap (list_any (λ d. is_like c.args.self d c.config-item.result)) (sym c.as_slice.ensures.value)
    ∙ sym c.is_in.ensures in
    elim c.if-not-is_in.branch [
      | then-not-is_in+in_ok-push w ↦
          one_comes c.args.self before c.if-not-is_in.firsts.items c.args.rows.now c.loop-config.config-index
          c.config-item.result c.loop-config-test.true c.config-item.is (any ∙ w.if-not-is_in.true)
          (ap (λ v. v.items) w.firsts-is ∙ w.in_ok-push.ensures.items) c.loop-config.invariant
      | else-not-is_in w ↦
          one_came c.args.self before c.if-not-is_in.firsts.items c.args.rows.now c.loop-config.config-index
          c.config-item.result c.loop-config-test.true c.config-item.is (any ∙ w.if-not-is_in.false)
          (ap (λ v. v.items) w.firsts-is) c.loop-config.invariant
    ]

pub returns : goal.returns
returns = grind (arith, common_steps)
