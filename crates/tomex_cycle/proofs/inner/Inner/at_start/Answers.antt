use Rattle.tomex_cycle.proofs.Words.{ap, ℕ, refl}
use Rattle.tomex_rvexec.specs.Memory.{Bytes}
use Rattle.tomex_cycle.specs.declared.fetch.Fetch.TheVariants.{At}
use Rattle.tomex_cycle.proofs.Outer.{start_shown}
use Rattle.tomex_cycle.proofs.inner.Inner.at_start.Goals as goal

pub returns : goal.returns
returns g c = record {
  start = λ config n. start_shown c.args.image.now c.new.ensures.slots c.new.ensures.issue_numbers c.new-2.ensures.tags
      (rw (c.initial_sp.ensures, c.window.ensures.value) at c.new-2.ensures.values)
      (ap (λ (x : ℕ). At x) c.entry.ensures.value) (ap (λ (m : Bytes). m.base) c.requires)
      (ap (λ (m : Bytes). m.bytes) c.requires) c.entry.ensures.loaded.filled;
  none = refl;
  none_made = refl;
  empty = c.new.ensures.slots;
}
