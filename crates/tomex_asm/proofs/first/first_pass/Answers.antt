use Rattle.std.proofs.Common.{ap, sym, ◌∙◌, arith}
use Rattle.tomex_asm_places.specs.Kept.{state_of}
use Rattle.tomex_asm.specs.Assembled.{place_lines}
use Rattle.tomex_asm.proofs.Lines.{other_goes, placed_more}
use Rattle.tomex_asm.proofs.first.first_pass.Goals as goal
use Rattle.tomex_asm.proofs.first.first_pass.Goals.{then-byte-eq10+in_ok-clone-3+in_ok-place_in, else-byte-eq10}

pub loop-place-preserved : goal.loop-place-preserved
loop-place-preserved g c =
    let order = c.loop-place.invariant.order in
    let count = c.loop-place.invariant.count in
    elim c.if-byte-eq10.branch [
      | then-byte-eq10+in_ok-clone-3+in_ok-place_in w ↦
          let start = w.start-is in
          let number = w.number-is in
          record {
            order = omega arith;
            count = omega arith;
            placed = rw w.placed-is w.in_ok-place_in.ensures.placed;
            all =
                rw (w.placed-is, start, number)
                (placed_more c.args.base c.loop-place.number c.loop-place.start c.loop-place.place c.args.text.now
                (state_of c.loop-place.placed) (state_of w.place_in.new.placed) _ c.loop-place-test.true
                w.if-byte-eq10.true w.in_ok-place_in.ensures.answer c.loop-place.invariant.all);
          }
      | else-byte-eq10 w ↦
          let start = w.start-is in
          let number = w.number-is in
          record {
            order = omega arith;
            count = omega arith;
            placed = rw w.placed-is c.loop-place.invariant.placed;
            all =
                rw (w.placed-is, start, number)
                (ap (λ ls. place_lines c.args.base c.loop-place.number ls (state_of c.loop-place.placed))
                (sym (other_goes c.loop-place.start c.loop-place.place c.args.text.now order c.loop-place-test.true
                w.if-byte-eq10.false)) ∙ c.loop-place.invariant.all);
          }
    ]
