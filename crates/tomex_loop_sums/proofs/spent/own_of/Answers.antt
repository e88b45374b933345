-- A number for each step, and in all what the run takes.
use Rattle.std.proofs.Common.{◌≡◌, ◌∙◌, ◌≤◌, ◌*◌, ap, arith, List, ℕ, length, map, reverse, sum}
use Rattle.std.proofs.lemmas.Result.{IfOk-weaker}
use Rattle.tomex_timing.specs.declared.times.Done.{Done}
use Rattle.tomex_timing.specs.Search.{history}
use Rattle.tomex_timing.proofs.Histories.{times_bound}
use Rattle.tomex_stretches.specs.Cycles.{own_cycles}
use Rattle.tomex_stretches.proofs.Totals.{length_own, own_fits}
use Rattle.tomex_loop_sums.proofs.spent.own_of.Goals as goal

pub own_cycles-requires : goal.own_cycles-requires
own_cycles-requires g c =
    let bound = times_bound c.args.config.now c.args.run.now c.keeps_limits.ensures in
    rw c.requires.times (omega (arith, bound, c.requires.few))

pub returns-clause-many : goal.returns-clause-many
returns-clause-many g c = IfOk-weaker c.own_cycles.result
    (λ v. (h : List Done) → c.args.times.now ≡ map (λ d. d.at) (reverse h) → v.items ≡ reverse (own_cycles h))
    (λ v. length v.items ≡ length c.args.run.now)
    (λ v is. ap (λ (xs : List ℕ). length xs) (is (history c.args.config.now c.args.run.now) c.requires.times)
    ∙ length_own c.args.config.now c.args.run.now) c.own_cycles.ensures

pub returns-clause-most : goal.returns-clause-most
returns-clause-most g c = IfOk-weaker c.own_cycles.result
    (λ v. (h : List Done) → c.args.times.now ≡ map (λ d. d.at) (reverse h) → v.items ≡ reverse (own_cycles h))
    (λ v. sum v.items ≤ 67 * length c.args.run.now)
    (λ v is. rw (is (history c.args.config.now c.args.run.now) c.requires.times)
    (own_fits c.args.config.now c.args.run.now c.keeps_limits.ensures)) c.own_cycles.ensures
