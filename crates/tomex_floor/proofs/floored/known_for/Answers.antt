-- Nor are those of one more turn.
use Rattle.std.proofs.Common.{◌∙◌, sym, ap, inl, inr, arith}
use Rattle.std.proofs.lemmas.Bool.{cases_eq}
use Rattle.std.proofs.lemmas.List.{get_or_default}
use Rattle.std.specs.Cmp.Lexicographic.{other_text}
use Rattle.std.specs.Prelude.{slice_index_or}
use Rattle.tomex_floor.proofs.floored.known_for.Goals as goal

pub loop-one-preserved : goal.loop-one-preserved
loop-one-preserved c = λ k d l e. elim (cases_eq k c.loop-one.one-index) [
  | inl here ↦
      let other = get_or_default c.args.known.now c.loop-one.one-index _ d c.loop-one-test.true in
      other_text _ _ (sym c.if-eq.false ∙ c.eq.ensures)
      (ap (λ k. k.latencies) other ∙ ap (λ k. (slice_index_or c.args.known.now k d).latencies) (sym here) ∙ e)
  | inr before ↦ absurd (c.loop-one.invariant k d (omega (arith, before)) e)
]
