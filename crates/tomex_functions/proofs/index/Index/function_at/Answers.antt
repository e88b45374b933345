-- The search misses no address that a step has.
use Rattle.tomex_functions.proofs.Indexes.{looked_up}
use Rattle.tomex_functions.proofs.index.Index.function_at.Goals as goal

pub returns-in_default-2 : goal.returns-in_default-2
returns-in_default-2 g c = λ symbols steps is has.
    let found = looked_up symbols steps c.args.self.now c.args.pc is has c.binary_search.result
    (rw c.as_slice.ensures.value at c.binary_search.ensures.position) in
    absurd (rw c.in_default.is at found)
