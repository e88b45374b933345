use Rattle.std.proofs.Common.{rules, ◌≡◌, ◌+◌, ◌∷◌, [], suc, sym, ap, ◌∙◌, map, take, arith, ◌++◌, List}
use Rattle.std.specs.Mem.Slots.{slots_items}
use Rattle.tomex_board.specs.declared.mark.Mark.{Mark}
use Rattle.tomex_board.specs.Words.{mark_of}
use Rattle.tomex_board.proofs.RowMarks.{snoc_at}
use Rattle.tomex_board.proofs.words.read_marks.Goals as goal

pub loop-i-preserved : goal.loop-i-preserved
loop-i-preserved g c = let q = c.loop-i.invariant in let ws = slots_items c.args.closed.now.words in
    let i = c.loop-i.i in let one : i + 1 ≡ suc i = omega arith in (
      c.push_reserved.ensures.items ∙ (ap (λ (l : List Mark). l ++ c.mark_of.result ∷ []) q.0
          ∙ (ap (λ (m : Mark). map mark_of (take i ws) ++ m ∷ []) c.mark_of.ensures
          ∙ (sym (snoc_at ws i c.word.result c.word.ensures) ∙ ap (λ k. map mark_of (take k ws)) (sym one)))),
      search
          rules,
      search rules,
    )
