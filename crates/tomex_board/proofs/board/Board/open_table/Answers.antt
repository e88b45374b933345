use Rattle.std.proofs.Common.{rules, ◌∙◌, ◌+◌, subst, arith, ap, ℕ, ◌≡◌, get_or, List}
use Rattle.std.proofs.lemmas.List.{get_or-replicate}
use Rattle.std.specs.Result.{IsOk}
use Rattle.tomex_board.specs.Words.{nothing_yet}
use Rattle.tomex_board.proofs.Shares.{opens}
use Rattle.tomex_board.proofs.board.Board.open_table.Goals as goal

pub of_words-requires : goal.of_words-requires
of_words-requires g c = let J = g.J.Plan in let rows : ℕ = c.args.rows in
    let at = c.resize.ensures.by_index in let old = c.in_ok-words.ensures in let len = old.len in
    let value = c.as_slice.ensures.value in let ok : IsOk c.resize.result = search rules in
    opens J.costs J.cycles c.as_slice.result.now (search rules)
    (λ i h. ap (λ (l : List ℕ). get_or l i 0) value
    ∙ (at.0 i 0 (omega arith) (omega arith)
    ∙ (ap (λ (l : List ℕ). get_or l i 0) (old.items_if_clones_equal (λ y e. e))
    ∙ get_or-replicate {A = ℕ} rows i 0 0 (omega arith))))
    (λ k h. subst (λ (m : ℕ). get_or c.as_slice.result.now (m + k) 0 ≡ nothing_yet) c.requires.rows
    (ap (λ (l : List ℕ). get_or l (rows + k) 0) value ∙ at.1 (rows + k) 0 ok (omega arith) (omega arith)))
