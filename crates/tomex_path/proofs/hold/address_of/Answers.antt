-- An address that comes just after the issue.
use Rattle.std.proofs.Common.{◌+◌, ◌≡◌, ◌∙◌, refl, subst, sym, Option, Some, None}
use Rattle.std.specs.Prelude.{unwrap_or, ℕ}
use Rattle.tomex_timing.specs.History.{cycle_of}
use Rattle.tomex_timing.specs.Needs.{waits_of}
use Rattle.tomex_path.specs.declared.note.Seen.{Seen}
use Rattle.tomex_path.proofs.HoldSteps.{by_issue}
use Rattle.tomex_path.proofs.hold.address_of.Goals as goal

cycle_is : (x : Option ℕ) → unwrap_or x 0 ≡ cycle_of x
cycle_is None = refl
cycle_is (Some t) = refl

pub returns-then-seen-address : goal.returns-then-seen-address
returns-then-seen-address c = λ config older d e.
    c.issue_of.ensures config older d e
    ∙ sym (by_issue older d (waits_of config older d)
    (subst (λ (s : Seen). s.at.issue + 1 ≡ cycle_of s.at.address) e
    (c.if-seen-address.true ∙ c.unwrap_or-address.ensures ∙ cycle_is c.args.seen.now.at.address)))
