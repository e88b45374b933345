-- Each time is the floor's, as many cycles later as the older stretches have taken.
use Rattle.std.proofs.Common.{ℕ, ◌≡◌, ◌∙◌, ◌-◌, arith, sym, ap, Some}
use Rattle.tomex_rvexec.specs.Steps.{step_unit}
use Rattle.tomex_config.specs.Configuration.{latency_of}
use Rattle.tomex_timing.specs.History.{cycle_of}
use Rattle.tomex_floor.specs.Floor.{floor_address, floor_issue}
use Rattle.tomex_stretches.proofs.Turns.{cycle_is, later_times}
use Rattle.tomex_stretches.proofs.next.next_times.Goals as goal

pub returns-clause-times : goal.returns-clause-times
returns-clause-times c = λ h s facts is conflict.
    let base = c.args.latest.now.base in
    let w = c.args.width in
    let unit : step_unit s ≡ Some c.in-Some.unit = sym (ap (λ f. f.unit) facts) ∙ c.in-Some.is in
    let issue = c.issue_of-issue.ensures.issue h is in
    let address = c.address_of-address.ensures.address h s (floor_issue c.args.width h) facts is issue
    (omega arith) in
    let same = c.unwrap_or.ensures ∙ cycle_is c.address_of-address.result in
    let start = c.start_of-start.ensures.start h s (floor_issue c.args.width h)
    (cycle_of (floor_address h s (floor_issue c.args.width h))) facts is conflict issue (omega arith)
    (ap (λ (n : ℕ). n - c.args.latest.now.base) same ∙ address) in
    later_times (latency_of c.args.config.now) c.args.width h s c.in-Some.unit c.args.latest.now.base
    c.start_of-start.result _ unit issue address start (omega (arith, c.latency.ensures.cycles, c.from.ensures))
    (λ t is. c.end_of.ensures.end s c.args.latest.now.base t facts is)
