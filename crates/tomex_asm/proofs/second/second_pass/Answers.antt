use Rattle.std.proofs.Common.{ap, sym, ◌∙◌, arith}
use Rattle.tomex_asm_numbers.specs.Indexed.{definitions_in}
use Rattle.tomex_asm.specs.Assembled.{write_lines}
use Rattle.tomex_asm.specs.Found.{both_of}
use Rattle.tomex_asm.proofs.Lines.{other_goes, written_more}
use Rattle.tomex_asm.proofs.second.second_pass.Goals as goal
use Rattle.tomex_asm.proofs.second.second_pass.Goals.{then-byte-eq10+in_ok-clone-3+in_ok-write_in, else-byte-eq10}

pub loop-place-preserved : goal.loop-place-preserved
loop-place-preserved g c =
    let order = c.loop-place.invariant.order in
    let count = c.loop-place.invariant.count in
    let whole = definitions_in c.args.table.now in
    elim c.if-byte-eq10.branch [
      | then-byte-eq10+in_ok-clone-3+in_ok-write_in w ↦
          let start = w.start-is in
          let number = w.number-is in
          record {
            order = omega arith;
            count = omega arith;
            placed = rw w.second-is w.in_ok-write_in.ensures.placed;
            all =
                rw (w.second-is, start, number)
                (written_more c.args.frame whole c.loop-place.number c.loop-place.start c.loop-place.place
                c.args.text.now (both_of c.loop-place.second) (both_of w.write_in.new.second) _ c.loop-place-test.true
                w.if-byte-eq10.true w.in_ok-write_in.ensures.answer c.loop-place.invariant.all);
          }
      | else-byte-eq10 w ↦
          let start = w.start-is in
          let number = w.number-is in
          record {
            order = omega arith;
            count = omega arith;
            placed = rw w.second-is c.loop-place.invariant.placed;
            all =
                rw (w.second-is, start, number)
                (ap (λ ls. write_lines c.args.frame whole c.loop-place.number ls (both_of c.loop-place.second))
                (sym (other_goes c.loop-place.start c.loop-place.place c.args.text.now order c.loop-place-test.true
                w.if-byte-eq10.false)) ∙ c.loop-place.invariant.all);
          }
    ]
