-- A step that accesses no byte conflicts with none; an access to its bytes waits for those that the step conflicts
-- with.
use Rattle.std.proofs.Common.{◌≡◌, ◌∙◌, arith, ap, sym, Some, None}
use Rattle.tomex_rvexec.specs.Steps.{bytes_of, is_store}
use Rattle.tomex_floor.proofs.Touching.{conflict_is, no_conflict}
use Rattle.tomex_stretches.proofs.accesses.Accesses.conflict.Goals as goal

pub returns-in-None-clause-conflict : goal.returns-in-None-clause-conflict
returns-in-None-clause-conflict g c = λ base h s facts are.
    let is : bytes_of s ≡ None = sym (ap (λ f. f.bytes) facts) ∙ c.in-None.is in
    let none = no_conflict s h is in
    omega (arith, none)

pub returns-in-Some-clause-conflict : goal.returns-in-Some-clause-conflict
returns-in-Some-clause-conflict g c = λ base h s facts are.
    let is : bytes_of s ≡ Some c.in-Some.bytes = sym (ap (λ f. f.bytes) facts) ∙ c.in-Some.is in
    let store : c.args.facts.now.is_store ≡ is_store s = ap (λ f. f.is_store) facts in
    let latest = c.latest.ensures.latest base h are in
    rw store at latest ∙ conflict_is s c.in-Some.bytes h is
