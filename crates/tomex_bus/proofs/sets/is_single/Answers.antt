use Rattle.std.proofs.Common.{ℕ, zero, suc, ◌<◌, arith, refl, inl, inr}
use Rattle.std.specs.Prelude.{◌≢◌, ◌==◌}
use Rattle.std.proofs.lemmas.Bool.{both_ways, cases_Bool, eq-eqb, eqb-false, eqb-true}
use Rattle.tomex_bus.specs.Sets.{has}
use Rattle.tomex_bus.proofs.Members.{none_rest, one_member, two_members}
use Rattle.tomex_bus.proofs.sets.is_single.Goals as goal

pub returns-then-set-eq0 : goal.returns-then-set-eq0
returns-then-set-eq0 c = (
  λ single a b l m ha hb. absurd (both_ways (has c.args.set a) (none_rest c.args.set a c.if-set-eq0.true) ha),
  λ single. eq-eqb c.args.set 0 c.if-set-eq0.true,
)

pub returns-else-set-eq0 : goal.returns-else-set-eq0
returns-else-set-eq0 c = (
  λ none a b l m ha hb. one_member c.args.set c.without_lowest.result c.without_lowest.ensures.others
      (eqb-true c.without_lowest.result 0 none) a b l m ha hb,
  λ single. elim (cases_Bool (c.without_lowest.result == 0)) [
    | inl none ↦ none
    | inr several ↦
        let some : 0 < c.args.set = omega (arith, c.if-set-eq0.false) in
        let more : 0 < c.without_lowest.result =
        pos_of c.without_lowest.result (eqb-false c.without_lowest.result 0 several) in
        absurd (two_members c.args.set c.without_lowest.result some c.ranges.set.fits more
        (omega (arith, c.without_lowest.ensures.less, c.ranges.set.fits)) c.without_lowest.ensures.others single)
  ],
)
  where
    pos_of : (n : ℕ) → n ≢ 0 → 0 < n
    pos_of zero apart = absurd (apart refl)
    pos_of (suc n) apart = omega arith
