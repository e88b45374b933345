-- A number for each step, and no more in all than the run takes.
use Rattle.std.proofs.Common.{◌≡◌, ◌∙◌, ◌≤◌, ◌*◌, ap, List, ℕ, length, sum}
use Rattle.std.proofs.lemmas.Result.{IfOk-weaker}
use Rattle.tomex_stretches.specs.Accounts.{floors_in}
use Rattle.tomex_stretches.proofs.Totals.{floors_fit, length_floors}
use Rattle.tomex_stretches.proofs.accounts.floors_of.Goals as goal

pub returns-clause-many : goal.returns-clause-many
returns-clause-many g c = IfOk-weaker c.floor_cycles.result
    (λ v. v.items ≡ floors_in c.args.config.now c.args.run.now c.args.stretches.now)
    (λ v. length v.items ≡ length c.args.run.now)
    (λ v is. ap (λ (xs : List ℕ). length xs) is
    ∙ length_floors c.args.config.now c.args.run.now c.args.stretches.now c.requires.stretches) c.floor_cycles.ensures

pub returns-clause-most : goal.returns-clause-most
returns-clause-most g c = IfOk-weaker c.floor_cycles.result
    (λ v. v.items ≡ floors_in c.args.config.now c.args.run.now c.args.stretches.now)
    (λ v. sum v.items ≤ 67 * length c.args.run.now)
    (λ v is. rw is (floors_fit c.args.config.now c.args.run.now c.args.stretches.now c.keeps_limits.ensures))
    c.floor_cycles.ensures
