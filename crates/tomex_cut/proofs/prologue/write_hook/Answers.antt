use Rattle.std.proofs.Common.{inl, arith}
use Rattle.tomex_cut.proofs.Written.{both_rewrite, pair_stays}
use Rattle.tomex_cut.proofs.prologue.write_hook.Goals as goal

pub returns-clause-hook : goal.returns-clause-hook
returns-clause-hook g c = record {
  pair = pair_stays _ _ c.args.at _ _ _ _ c.write_word.ensures.others
      (omega (arith, c.write_pair.ensures.others.base)) (inl (omega arith)) c.write_pair.ensures.pair;
  last = rw (c.write_word.ensures.word) c.branch_word.ensures;
}

pub returns-clause-others : goal.returns-clause-others
returns-clause-others g c =
    both_rewrite _ _ _ _ _ _ _ _ _ c.write_pair.ensures.others c.write_word.ensures.others (omega arith) (omega arith)
    (omega arith) (omega arith)
