-- A step that accesses no memory has nothing in its way, and waits for nothing.
use Rattle.std.proofs.Common.{ℕ, ◌≡◌, true, refl, List, [], ◌∷◌, None, nat_le}
use Rattle.std.specs.List.{list_all}
use Rattle.tomex_timing.specs.declared.accesses.Access.{Access}
use Rattle.tomex_timing.specs.declared.recent.Facts.{Facts}
use Rattle.tomex_timing.specs.Ahead.{is_past}
use Rattle.tomex_timing.proofs.Bools.{and_true}
use Rattle.tomex_timing.proofs.accesses.past_conflicts.Goals as goal

all_past : (f : Facts) (accesses : List Access) (t : ℕ) → f.bytes ≡ None → list_all (is_past f t) accesses ≡ true
all_past f [] t e = refl
all_past f (a ∷ accesses) t e = rw (e, all_past f accesses t e) refl

pub returns-in_default-clause-past : goal.returns-in_default-clause-past
returns-in_default-clause-past c = λ t.
    rw (all_past c.args.facts.now c.args.accesses.now t c.in_default.is) (and_true (nat_le c.args.from t))
