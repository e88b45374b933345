use Rattle.std.proofs.Common.{sym, subst, ℕ}
use Rattle.tomex_samples.specs.Leaders.{counts_at}
use Rattle.tomex_samples.specs.Tally.{IsRow}
use Rattle.tomex_samples.proofs.Shown.{row_read}
use Rattle.tomex_samples.proofs.stretches.Stretches.distance.Goals as goal

pub distance_from-requires-clause-row : goal.distance_from-requires-clause-row
distance_from-requires-clause-row g c =
    let r = c.requires.shown in (
      counts_at r.0 c.args.stretch,
      subst (λ (n : ℕ). IsRow c.args.self.now.steps n c.deref.result.now (counts_at r.0 c.args.stretch))
          (sym c.requires.words)
          (row_read c.args.self.now r.0 c.args.stretch _ _ r.1 c.requires.inside c.index.ensures c.deref.ensures.value),
    )

pub returns-clause-value : goal.returns-clause-value
returns-clause-value g c = λ run of.
    c.distance_from.ensures.value (counts_at run c.args.stretch)
    (subst (λ (n : ℕ). IsRow c.args.self.now.steps n c.deref.result.now (counts_at run c.args.stretch))
    (sym c.requires.words)
    (row_read c.args.self.now run c.args.stretch _ _ of c.requires.inside c.index.ensures c.deref.ensures.value))
