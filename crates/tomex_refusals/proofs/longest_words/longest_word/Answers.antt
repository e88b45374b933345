-- A word that a line has, or that none has, or that is no longer.
use Rattle.std.proofs.Common.{◌≡◌, ◌∙◌, ◌<◌, ◌≤◌, [], ap, length, option_map, subst, sym}
use Rattle.std.proofs.lemmas.Bool.{false≢true}
use Rattle.std.specs.Option.{unwrap_or}
use Rattle.tomex_refusals.proofs.Longest.{all_seen, best_again, best_now, best_still, bytes_or, one_more}
use Rattle.tomex_refusals.proofs.longest_words.longest_word.Goals as goal
use Rattle.tomex_refusals.proofs.longest_words.longest_word.Goals.{else-unwrap_or-word-via-else-unwrap_or-word}
use Rattle.tomex_refusals.proofs.longest_words.longest_word.Goals.{else-unwrap_or-word-via-then-unwrap_or-word+else-is_in_a_line}

pub loop-word-preserved-then-is_in_a_line : goal.loop-word-preserved-then-is_in_a_line
loop-word-preserved-then-is_in_a_line c =
    let seen = c.loop-word.invariant in
    let same : length c.unwrap_or.result.now ≡ length (unwrap_or (option_map (λ it. it.now) c.loop-word.longest) []) =
    ap (λ it. length it.now) c.unwrap_or.ensures ∙ ap length (bytes_or c.loop-word.longest _) in
    one_more _ _ _ _ _ _ seen c.in-Some.ensures.steps (best_now seen.words _ _
    (c.is_in_a_line.ensures.0 c.if-is_in_a_line.true) (subst (λ n. n < length c.in-Some.word.now) same
    c.if-unwrap_or-word.true) seen.best)

pub loop-word-preserved : goal.loop-word-preserved
loop-word-preserved c =
    let seen = c.loop-word.invariant in
    let same : length c.unwrap_or.result.now ≡ length (unwrap_or (option_map (λ it. it.now) c.loop-word.longest) []) =
    ap (λ it. length it.now) c.unwrap_or.ensures ∙ ap length (bytes_or c.loop-word.longest _) in
    elim c.else-unwrap_or-word.branch [
      | else-unwrap_or-word-via-then-unwrap_or-word+else-is_in_a_line w ↦
          one_more _ _ _ _ _ _ seen c.in-Some.ensures.steps (best_still seen.words _ _
          (λ has. false≢true (sym w.if-is_in_a_line.false ∙ w.is_in_a_line.ensures.1 has)) seen.best)
      | else-unwrap_or-word-via-else-unwrap_or-word w ↦
          one_more _ _ _ _ _ _ seen c.in-Some.ensures.steps (best_again seen.words _ _
          c.in-Some.ensures.steps.2 (subst (λ n. length c.in-Some.word.now ≤ n) same w.if-unwrap_or-word.false)
          seen.best)
    ]

pub returns : goal.returns
returns c =
    let seen = c.loop-word.invariant in
    (seen.words, all_seen _ _ _ seen c.in-None.ensures.steps.1, seen.best)
