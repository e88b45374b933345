use Rattle.std.proofs.Common.{◌+◌, Bool, drop, sym, ap, ◌∙◌}
use Rattle.tomex_asm_text.specs.Directives.{elements_from}
use Rattle.tomex_asm_text.proofs.Sizes.{counted, counted_none, comma_goes, element_goes}
use Rattle.tomex_asm_text.proofs.list.elements_size.Goals as goal
use Rattle.tomex_asm_text.proofs.list.elements_size.Goals.{then-has_element+else-not-is_mark}
use Rattle.tomex_asm_text.proofs.list.elements_size.Goals.{else-has_element+in_default}

pub loop-size-init : goal.loop-size-init
loop-size-init c = counted_none _

pub loop-size-preserved : goal.loop-size-preserved
loop-size-preserved c =
    let here = λ (b : Bool). counted c.loop-size.size
    (elements_from c.args.element c.args.line.now b (drop c.loop-size.size c.args.rest.now)) in
    let next = λ (b : Bool). counted (c.loop-size.size + 1)
    (elements_from c.args.element c.args.line.now b (drop (c.loop-size.size + 1) c.args.rest.now)) in
    elim c.if-has_element.branch [
      | then-has_element+else-not-is_mark w ↦
          ap next w.has_element-is
          ∙ sym (comma_goes c.args.element c.args.line.now c.loop-size.size c.args.rest.now _ c.loop-size-test.true
          (sym w.is_mark.ensures ∙ w.if-not-is_mark.false))
          ∙ ap here (sym w.if-has_element.true) ∙ c.loop-size.invariant
      | else-has_element+in_default w ↦
          ap next w.has_element-is
          ∙ sym (element_goes c.args.element c.args.line.now c.loop-size.size c.args.rest.now _ c.loop-size-test.true
          (sym w.element_fault.ensures ∙ w.in_default.is))
          ∙ ap here (sym w.if-has_element.false) ∙ c.loop-size.invariant
    ]
