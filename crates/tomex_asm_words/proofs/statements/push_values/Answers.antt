use Rattle.std.proofs.Common.{◌∙◌, sym, ap, arith}
use Rattle.tomex_asm_numbers.specs.Indexed.{scope_of}
use Rattle.tomex_asm_words.proofs.Listing.{comma_kept, other_kept}
use Rattle.tomex_asm_words.proofs.statements.push_values.Goals as goal
use Rattle.tomex_asm_words.proofs.statements.push_values.Goals.{then-is_mark+in_ok-push_value, else-is_mark}

pub loop-place-preserved : goal.loop-place-preserved
loop-place-preserved g c =
    let whole = c.args.whole.now in
    let order = c.loop-place.invariant.order in
    let few = c.loop-place.invariant.few in
    let fits = c.ranges.size.fits in
    elim c.if-is_mark.branch [
      | then-is_mark+in_ok-push_value w ↦
          let start = w.start-is in
          let before = w.before-is in
          let size = w.from-before.ensures in
          record {
            order = omega arith;
            few = omega arith;
            all =
                comma_kept whole.frame c.args.position (scope_of whole.scope) c.args.line.now c.args.size
                c.loop-place.before c.loop-place.start c.loop-place.place c.args.values.now _ c.loop-place.bytes.items
                w.push_value.new.bytes.items c.if-is_mark.bytes.items c.if-is_mark.before c.if-is_mark.start _
                c.loop-place-test.true (sym c.is_mark.ensures ∙ w.if-is_mark.true) w.in_ok-push_value.ensures
                (ap (λ v. v.items) w.bytes-is) start (omega arith) c.loop-place.invariant.all;
          }
      | else-is_mark w ↦
          let start = w.start-is in
          let before = w.before-is in
          record {
            order = omega arith;
            few = omega arith;
            all =
                other_kept whole.frame c.args.position (scope_of whole.scope) c.args.line.now c.args.size
                c.loop-place.before c.loop-place.start c.loop-place.place c.args.values.now _ c.loop-place.bytes.items
                c.if-is_mark.bytes.items c.if-is_mark.before c.if-is_mark.start _ order c.loop-place-test.true
                (sym c.is_mark.ensures ∙ w.if-is_mark.false) (ap (λ v. v.items) w.bytes-is) start before
                c.loop-place.invariant.all;
          }
    ]
