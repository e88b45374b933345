use Rattle.std.proofs.Common.{◌≡◌, arith, refl}
use Rattle.tomex_cut.proofs.Written.{both_rewrite, pairs_more, place_made}
use Rattle.tomex_cut.proofs.prologue.write_place.Goals as goal

pub loop-register-preserved : goal.loop-register-preserved
loop-register-preserved g c = record {
  pairs = pairs_more _ _ _ _ _ _ c.loop-register.auto.register
      (omega (arith, c.loop-register.invariant.others.base)) c.write_pair.ensures.others c.write_pair.ensures.pair refl
      c.loop-register.invariant.pairs;
  others = both_rewrite _ _ _ _ _ _ _ _ _ c.loop-register.invariant.others c.write_pair.ensures.others (omega arith)
      (omega arith) (omega arith) (omega arith);
}

pub returns-clause-place : goal.returns-clause-place
returns-clause-place g c =
    let all : c.loop-register.register ≡ 31 = omega arith in
    place_made _ _ c.loop-register.memory _ _ (omega (arith, c.loop-register.invariant.others.base))
    c.write_word.ensures.others (rw (all) at c.loop-register.invariant.pairs)
    (rw (c.write_word.ensures.word) c.jump_word.ensures)
