use Rattle.tomex_cycle.proofs.Words.{GoesOn, progress_of, EndsWithinLimit, run_of, seen, Running, ◌≡◌, ◌≤◌, ◌+◌, ◌∙◌}
use Rattle.tomex_cycle.proofs.Words.{ap, arith, inl, refl, sym, subst, Machine}
use Rattle.tomex_cycle.proofs.Skips.{go_passes, active_not_settled, passed_low, settled_goes, later_seen, sound_counted}
use Rattle.tomex_cycle.proofs.Skips.{sound_passed, has_made, sound_made}
use Rattle.tomex_cycle.proofs.machine.Machine.go_on.Goals as goal

pub invariant_of-self : goal.invariant_of-self
invariant_of-self g c =
    let running : c.self.inside.status ≡ Running = ap (λ x. x.status) c.self.view_is ∙ c.requires.running in
    let at : c.self.inside.cycle ≡ c.args.self.now.cycle = ap (λ x. x.cycle) c.self.view_is in (
      rw (c.make_cycle.ensures.same, running) (rw c.in-Active.is at (sound_made
          (has_made c.make_cycle.new.self running c.self.invariant.0 (c.make_cycle.ensures.makes refl))
          (omega (arith, c.requires.ahead, c.requires.low)))),
      omega (arith, c.make_cycle.ensures.cycles_made, c.self.invariant.1),
      (λ runs. c.make_cycle.ensures.timetable refl (ap progress_of c.in-Active.is)),
    )

pub invariant_of-self-in-Settled : goal.invariant_of-self-in-Settled
invariant_of-self-in-Settled g c =
    let running : c.self.inside.status ≡ Running = ap (λ x. x.status) c.self.view_is ∙ c.requires.running in
    let low : c.make_cycle.new.self.cycles_made ≤ c.self.inside.cycle + 1 =
    omega (arith, c.make_cycle.ensures.cycles_made, c.self.invariant.1) in (
      rw (
        c.skip_quiet-self-inside.ensures.inner,
        c.skip_quiet-self-inside.ensures.same,
        c.make_cycle.ensures.same,
        running,
      ) (sound_counted c.skip_quiet-self-inside.new.inner.cycles_made (sound_passed
          (has_made c.make_cycle.new.self running c.self.invariant.0
          (rw c.in-Settled.is at (c.make_cycle.ensures.makes refl)))
          (omega (arith, c.requires.low)) c.skip_quiet-self-inside.ensures.skipped)),
      passed_low c.skip_quiet-self-inside.ensures.skipped low,
      (λ runs. rw c.skip_quiet-self-inside.ensures.inner c.skip_quiet-self-inside.ensures.timetable),
    )

pub invariant_of-self-in_default : goal.invariant_of-self-in_default
invariant_of-self-in_default g c =
    let running : c.self.inside.status ≡ Running = ap (λ x. x.status) c.self.view_is ∙ c.requires.running in
    let at : c.self.inside.cycle ≡ c.args.self.now.cycle = ap (λ x. x.cycle) c.self.view_is in
    let known : progress_of c.make_cycle.result ≡ c.progress-self-inside.result =
    sym c.progress-self-inside.ensures in (
      rw c.make_cycle.ensures.same (rw known at (sound_made
          (has_made c.make_cycle.new.self running c.self.invariant.0 (c.make_cycle.ensures.makes refl))
          (omega (arith, c.requires.ahead, c.requires.low)))),
      omega (arith, c.make_cycle.ensures.cycles_made, c.self.invariant.1),
      (λ runs. c.make_cycle.ensures.timetable refl (known ∙ runs)),
    )

pub returns-in-Active-clause-ends : goal.returns-in-Active-clause-ends
returns-in-Active-clause-ends g c = rw c.make_cycle.ensures.same
    (later_seen (ap seen c.self.view_is) (rw c.make_cycle.ensures.same at (invariant_of-self g c).0))

pub returns-in-Settled-clause-ends : goal.returns-in-Settled-clause-ends
returns-in-Settled-clause-ends g c =
    rw (c.skip_quiet-self-inside.ensures.same, c.make_cycle.ensures.same) (later_seen (ap seen c.self.view_is) (rw
    (c.skip_quiet-self-inside.ensures.same, c.make_cycle.ensures.same) at (invariant_of-self-in-Settled g c).0))

pub returns-in_default-clause-ends : goal.returns-in_default-clause-ends
returns-in_default-clause-ends g c = rw c.make_cycle.ensures.same
    (later_seen (ap seen c.self.view_is) (rw c.make_cycle.ensures.same at (invariant_of-self-in_default g c).0))

pub returns-in-Active-clause-goes : goal.returns-in-Active-clause-goes
returns-in-Active-clause-goes g c =
    let running : c.self.inside.status ≡ Running = ap (λ x. x.status) c.self.view_is ∙ c.requires.running in
    subst (λ (x : Machine). EndsWithinLimit x.image → GoesOn (run_of x.config x.image) c.args.to x.cycle
    (c.self.inside.cycle + 1) x.cycles_made c.make_cycle.new.self.cycles_made) c.self.view_is (λ ends. inl (
      c.make_cycle.ensures.cycles_made,
      go_passes (c.self.inside.cycle + 1) c.args.to
          (has_made c.make_cycle.new.self running c.self.invariant.0 (c.make_cycle.ensures.makes refl)) (omega arith)
          (λ less. absurd (omega arith))
          (λ settled. absurd (active_not_settled c.make_cycle.result c.in-Active.is settled)) ends,
    ))

pub returns-in-Settled-clause-goes : goal.returns-in-Settled-clause-goes
returns-in-Settled-clause-goes g c =
    let running : c.self.inside.status ≡ Running = ap (λ x. x.status) c.self.view_is ∙ c.requires.running in
    subst (λ (x : Machine). EndsWithinLimit x.image → GoesOn (run_of x.config x.image) c.args.to x.cycle
    c.skip_quiet-self-inside.result x.cycles_made c.skip_quiet-self-inside.new.inner.cycles_made) c.self.view_is
    (settled_goes c.self.inside.inner.cycles_made
    (has_made c.make_cycle.new.self running c.self.invariant.0
    (rw c.in-Settled.is at (c.make_cycle.ensures.makes refl)))
    (rw c.make_cycle.ensures.cycles_made at c.skip_quiet-self-inside.ensures.skipped))

pub returns-in_default-clause-goes : goal.returns-in_default-clause-goes
returns-in_default-clause-goes g c =
    let running : c.self.inside.status ≡ Running = ap (λ x. x.status) c.self.view_is ∙ c.requires.running in
    subst (λ (x : Machine). EndsWithinLimit x.image → GoesOn (run_of x.config x.image) c.args.to x.cycle
    (c.self.inside.cycle + 1) x.cycles_made c.make_cycle.new.self.cycles_made) c.self.view_is (λ ends. inl (
      c.make_cycle.ensures.cycles_made,
      go_passes (c.self.inside.cycle + 1) c.args.to
          (has_made c.make_cycle.new.self running c.self.invariant.0 (c.make_cycle.ensures.makes refl)) (omega arith)
          (λ less. absurd (omega arith)) (λ settled. absurd (c.in_default.not-Settled settled)) ends,
    ))
