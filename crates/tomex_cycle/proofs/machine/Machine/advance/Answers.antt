use Rattle.tomex_cycle.proofs.Words.{◌∙◌, ap, arith, max, refl}
use Rattle.tomex_cycle.specs.Seen.{seen}
use Rattle.tomex_cycle.proofs.Outer.{now_seen, over_seen}
use Rattle.tomex_cycle.proofs.machine.Machine.advance.Goals.{in-Running, in_default}
use Rattle.tomex_cycle.proofs.machine.Machine.advance.Goals as goal

pub returns-clause-advances : goal.returns-clause-advances
returns-clause-advances g c = elim c.match-self.branch [
  | in-Running w ↦ rw w.self-is w.run_to.ensures
  | in_default w ↦ rw w.self-is (record {
    image = refl;
    config = refl;
    not_back = omega arith;
    not_past = omega arith;
    there_if_running = λ runs. absurd (w.in_default.not-Running (ap (λ x. x.status) c.self.view_is ∙ runs));
    same_if_over = λ stopped. refl;
    same_if_there = λ low. refl;
    after_ticks = λ e. over_seen c.args.self.now.image c.args.self.now.config c.args.self.now.cycle
        (max c.args.self.now.cycle c.args.to) (seen c.args.self.now)
        (now_seen (ap seen c.self.view_is) c.self.invariant.0 e)
        (λ runs. w.in_default.not-Running (ap (λ x. x.status) c.self.view_is ∙ runs)) (omega arith);
    cycles_made = λ e. record { least = omega arith; most = omega arith };
  })
]
