-- The plateau that the demands give is one of the program's, and the configuration lies on it. The evaluator keeps the
-- program's run.
use Rattle.std.proofs.Common.{◌≡◌, ◌∙◌, ℕ, ap, true, List}
use Rattle.tomex_rvexec.specs.declared.step.Step.{Step}
use Rattle.tomex_plateaus.specs.Plateaus.{lies_on}
use Rattle.tomex_plateaus.specs.Kept.{AreKept, Kept, kept_with}
use Rattle.tomex_plateaus.specs.declared.plateau.Plateau.{Plateau}
use Rattle.tomex_plateaus.proofs.Implied.{own_lies_on, total_of_plateau, total_of_run}
use Rattle.tomex_plateaus.proofs.Finding.{learnt}
use Rattle.tomex_plateaus.proofs.plateaus.Plateaus.learn.Goals as goal

abbrev list_of : List Plateau → ℕ → List Step → Kept
list_of found oldest steps = record { steps = steps; found = found; oldest = oldest }

-- what is kept after the evaluation is what was kept before it
kept_still : (found : List Plateau) (oldest : ℕ) (old new : List Step) (before after : Kept) (plateau : Plateau)
    → new ≡ old → list_of found oldest old ≡ before → after ≡ kept_with plateau (list_of found oldest new)
    → after ≡ kept_with plateau before
kept_still found oldest old new before after plateau same is kept =
    kept ∙ ap (kept_with plateau) (ap (list_of found oldest) same ∙ is)

pub keep-requires : goal.keep-requires
keep-requires g c =
    rw (c.of.ensures, c.in_ok-demands.ensures.same)
    (total_of_plateau c.args.config.now c.self.inside.evaluator c.in_ok-demands.demands c.keeps_limits.ensures
    c.in_ok-demands.ensures.exact)

pub returns-clause-known : goal.returns-clause-known
returns-clause-known g c =
    let on : lies_on c.args.config.now c.of.result ≡ true =
    rw c.of.ensures (own_lies_on c.args.config.now c.self.inside.evaluator c.in_ok-demands.demands
    c.keeps_limits.ensures c.in_ok-demands.ensures.exact) in
    let old : AreKept c.args.self.now = rw (← c.self.view_is) c.self.invariant in
    let one = kept_still c.self.inside.found.items c.self.inside.oldest c.self.inside.evaluator c.demands.new.self
    c.args.self.now c.keep.new.self c.of.result c.in_ok-demands.ensures.same c.self.view_is
    c.in_ok-keep.ensures.one in
    learnt c.args.config.now c.args.self.now c.keep.new.self c.of.result c.keeps_limits.ensures old
    c.keep.ensures.kept on one

pub returns-clause-total : goal.returns-clause-total
returns-clause-total g c =
    rw (← c.self.view_is)
    (total_of_run c.args.config.now c.self.inside.evaluator c.in_ok-demands.demands c.in_ok-demands.ensures.exact)

pub returns-clause-learnt : goal.returns-clause-learnt
returns-clause-learnt g c = record {
  plateau = c.of.result;
  on = rw c.of.ensures (own_lies_on c.args.config.now c.self.inside.evaluator c.in_ok-demands.demands
      c.keeps_limits.ensures c.in_ok-demands.ensures.exact);
  kept = kept_still c.self.inside.found.items c.self.inside.oldest c.self.inside.evaluator c.demands.new.self
      c.args.self.now c.keep.new.self c.of.result c.in_ok-demands.ensures.same c.self.view_is
      c.in_ok-keep.ensures.one;
}
