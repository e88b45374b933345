use Rattle.std.proofs.Common.{◌∙◌, arith, inl, inr}
use Rattle.std.proofs.lemmas.Bool.{cases_order}
use Rattle.std.proofs.lemmas.List.{get_or-set_same, get_or-set_other, length-set}
use Rattle.tomex_tags.proofs.pools.Pools.busy_entries.Goals as goal

pub loop-place-preserved : goal.loop-place-preserved
loop-place-preserved c = record {
  count = simp length-set c.loop-place.invariant.count;
  each = λ x l. elim (cases_order x c.loop-place.place) [
    | inl e ↦ rw e (get_or-set_same c.loop-place.busy c.loop-place.place c.busy_at.result _ (omega arith)
        ∙ c.busy_at.ensures)
    | inr (inl k) ↦ get_or-set_other c.loop-place.busy c.loop-place.place x c.busy_at.result _
        (λ z. absurd (omega arith)) ∙ c.loop-place.invariant.each x k
    | inr (inr k) ↦ absurd (omega arith)
  ];
}
