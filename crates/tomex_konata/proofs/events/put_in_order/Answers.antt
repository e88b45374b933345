-- What a stable sort by the cycle ensures.
use Rattle.std.proofs.Common.{rules}
use Rattle.std.proofs.lemmas.List.Sorted.{IsNonDecreasingBy-from_sort_by_key, answers_always}
use Rattle.std.proofs.lemmas.Result.{on_ok_weaker}
use Rattle.tomex_konata.proofs.Bounds.{kept}
use Rattle.tomex_konata.proofs.events.put_in_order.Goals as goal

pub returns : goal.returns
returns g c =
    on_ok_weaker c.sort_by_key.result
    (λ sorted. record {
      same = c.sort_by_key.ensures.permutation;
      rise = IsNonDecreasingBy-from_sort_by_key (λ v. v.cycle) _ sorted (λ a r q k. search rules);
      keep = kept _ _ (c.sort_by_key.ensures.stable (λ v. v.cycle) (answers_always _ _ _ (λ f a r g h. search rules)));
    })
    c.sort_by_key.ensures.sorted
