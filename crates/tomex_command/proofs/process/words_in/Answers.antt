-- The vector has what the iterator gives.
use Rattle.std.proofs.Common.{rules, ◌≡◌, refl}
use Rattle.std.proofs.lemmas.Iterator.{items_from_collect}
use Rattle.std.proofs.lemmas.Iterator.Adapters.{YieldsList-from_vec}
use Rattle.std.proofs.lemmas.Result.{IfOk-at_ok}
use Rattle.std.specs.Vec.Iter.{into_iter_items}
use Rattle.tomex_command.proofs.process.words_in.Goals as goal

pub returns-in_ok-collect-in-Ok-clause-words : goal.returns-in_ok-collect-in-Ok-clause-words
returns-in_ok-collect-in-Ok-clause-words c =
    let read : c.in_ok-collect-in-Ok.field-0.items ≡ into_iter_items c.in-Ok.words =
    IfOk-at_ok _ c.in_ok-collect-in-Ok.was
    (items_from_collect _ c.collect.ensures.ran
    (YieldsList-from_vec (into_iter_items c.in-Ok.words) refl (search rules))) in
    rw c.in-Ok.is read
