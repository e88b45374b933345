-- An access to the step's bytes waits for the accesses that the step conflicts with.
use Rattle.std.proofs.Common.{ℕ, ◌≡◌, ◌∙◌, ap, sym, Some, None}
use Rattle.std.proofs.lemmas.List.{get_or-replicate}
use Rattle.tomex_rvexec.specs.Steps.{bytes_of, is_store}
use Rattle.tomex_floor.proofs.Touching.{conflict_is, no_conflict}
use Rattle.tomex_floor.proofs.accesses.Accesses.conflict.Goals as goal

pub returns-in-None : goal.returns-in-None
returns-in-None g c = λ h s n l facts are.
    let is : bytes_of s ≡ None = sym (ap (λ f. f.bytes) facts) ∙ c.in-None.is in
    get_or-replicate {A = ℕ} 4 n 0 0 l ∙ sym (no_conflict s (h n) is)

pub returns-in-Some : goal.returns-in-Some
returns-in-Some g c = λ h s n l facts are.
    let is : bytes_of s ≡ Some c.in-Some.bytes = sym (ap (λ f. f.bytes) facts) ∙ c.in-Some.is in
    let store : c.args.facts.now.is_store ≡ is_store s = ap (λ f. f.is_store) facts in
    let latest = c.latest.ensures h n l are in
    let same = rw store at latest in
    same ∙ conflict_is s c.in-Some.bytes (h n) is
