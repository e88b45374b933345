-- The word of a turn adds the finishes that its bytes are waited for.
use Rattle.std.proofs.Common.{ℕ, ◌≡◌, ◌∙◌, ◌+◌, ◌*◌, ◌/◌, arith, sym}
use Rattle.std.specs.Prelude.{nat_eq, unwrap_or}
use Rattle.std.specs.HashMap.{get}
use Rattle.std.proofs.lemmas.List.{get_or-replicate}
use Rattle.std.proofs.lemmas.Grind.{common_steps}
use Rattle.tomex_floor.specs.Kept.{below, no_word}
use Rattle.tomex_floor.proofs.Touching.{latest_none, raised_is, touched_here}
use Rattle.tomex_floor.proofs.accesses.Accesses.latest.Goals as goal

pub loop-word-init : goal.loop-word-init
loop-word-init g c = λ h n l are.
    let none : below c.args.bytes.from c.args.bytes.to (4 * (c.args.bytes.from / 4))
    ≡ c.args.bytes.from = omega arith in
    get_or-replicate {A = ℕ} 4 n 0 0 l
    ∙ sym (rw none (latest_none c.args.bytes.from c.args.is_store (h n)))

pub loop-word-preserved : goal.loop-word-preserved
loop-word-preserved g c = λ h n l are.
    let m = c.args.self.now.by_word in
    let word = c.loop-word.word-counter in
    let is : c.unwrap_or-found.result.now ≡ unwrap_or (get nat_eq m word) no_word = grind (arith, common_steps) in
    let next : 4 * word + 4 ≡ 4 * (word + 1) = omega arith in
    rw (← next) (c.raise_to.ensures n l
    ∙ raised_is n c.unwrap_or-found.result.now (4 * word) c.args.bytes c.args.is_store (h n) c.requires.bytes
    (λ lane k. rw is (sym (touched_here n word lane m k) ∙ are n (4 * word + lane) l))
    (c.loop-word.invariant h n l are))

pub returns : goal.returns
returns g c = λ h n l are.
    let all : below c.args.bytes.from c.args.bytes.to (4 * c.loop-word.word-counter) ≡ c.args.bytes.to = omega arith in
    rw (← all) (c.loop-word.invariant h n l are)
