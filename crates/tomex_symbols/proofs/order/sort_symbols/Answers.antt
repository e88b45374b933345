-- No key is less than the one before it.
use Rattle.std.proofs.Common.{rules, arith}
use Rattle.std.proofs.lemmas.List.Sorted.{answers_always}
use Rattle.tomex_symbols.specs.Functions.{rank_of}
use Rattle.tomex_symbols.proofs.Rising.{up_to_key}
use Rattle.tomex_symbols.proofs.order.sort_symbols.Goals as goal

pub returns-clause-order : goal.returns-clause-order
returns-clause-order g c = λ k d l. up_to_key _ _
    (c.sort_unstable_by_key.ensures.sorted
    (λ r. (r.address, record { 0 = rank_of r }, record { 0 = r.number }))
    (answers_always _ _ _ (λ f a r g h. search rules)) k d (omega arith) l)
