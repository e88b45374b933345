use Rattle.std.proofs.Common.{◌<◌, ◌∙◌, List, length, subst, sym, ℕ}
use Rattle.tomex_samples.specs.declared.weights.Share.{Share}
use Rattle.tomex_samples.specs.Near.{AllCan}
use Rattle.tomex_samples.specs.Weighable.{AreShares}
use Rattle.tomex_samples.proofs.Shared.{weighable}
use Rattle.tomex_samples.proofs.answer.parts_from.Goals as goal

pub all_weighed-requires : goal.all_weighed-requires
all_weighed-requires g c =
    let r = c.requires.shown in
    subst (λ (xs : List Share). AreShares xs) (sym (c.as_slice-2.ensures.value ∙ c.in_ok-shares.ensures r.0 r.1))
    (weighable r.0 c.args.stretches.now r.1 c.as_slice.result.now
    (subst (λ (ls : List ℕ). 0 < length ls) (sym c.as_slice.ensures.value) c.in_ok-leaders.ensures.some)
    (subst (λ (ls : List ℕ). AllCan c.args.stretches.now.parts.items ls) (sym c.as_slice.ensures.value)
    c.in_ok-leaders.ensures.can)
    c.requires.lengths)
