use Rattle.std.proofs.Common.{inl, arith, ◌∙◌}
use Rattle.tomex_cut.proofs.Written.{word_stays}
use Rattle.tomex_cut.proofs.prologue.write_pair.Goals as goal

pub returns-clause-pair : goal.returns-clause-pair
returns-clause-pair g c =
    let low = c.requires.inside.0 in
    let stays = word_stays _ _ c.args.at _ _ c.write_word-2.ensures.others
    (omega (arith, c.write_word.ensures.others.base)) (inl (omega arith)) in
    record {
      first = rw (stays ∙ c.write_word.ensures.word) c.upper_word.ensures;
      second = rw (c.write_word-2.ensures.word) c.lower_word.ensures;
    }

pub returns-clause-others : goal.returns-clause-others
returns-clause-others = grind arith
