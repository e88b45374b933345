use Rattle.tomex_cycle.proofs.Words.{front, ◌∙◌, refl, sym}
use Rattle.tomex_cycle.proofs.IssuesCases.{fault_case, full_case, none_case, some_case, waits_case}
use Rattle.tomex_cycle.proofs.Known.{known_taken}
use Rattle.tomex_cycle.proofs.issue.issue_next.Goals as goal

pub returns-in_default-clause-issues : goal.returns-in_default-clause-issues
returns-in_default-clause-issues g c = waits_case c.args.fetcher.now c.args.config.now c.args.count
    (front c.args.pools.now c.args.registers.now c.args.fetch.now) c.in_default.not-At

pub returns-in-Err-clause-issues : goal.returns-in-Err-clause-issues
returns-in-Err-clause-issues g c = fault_case c.args.fetcher.now c.args.config.now c.args.count
    (front c.args.pools.now c.args.registers.now c.args.fetch.now) c.in-At.pc c.in-Err.kind _ c.in-At.is
    (sym c.fetch.ensures.value ∙ c.in-Err.is)

pub returns-in-None-clause-issues : goal.returns-in-None-clause-issues
returns-in-None-clause-issues g c = none_case c.args.fetcher.now c.args.config.now c.args.count
    (front c.args.pools.now c.args.registers.now c.args.fetch.now) c.after.result c.in-At.pc c.in-Ok.instr
    (record { at = c.in-At.is; fetched = sym c.fetch.ensures.value ∙ c.in-Ok.is }) (sym c.pool.ensures ∙ c.in-None.is)
    c.after.ensures

pub returns-in-None-free-clause-issues : goal.returns-in-None-free-clause-issues
returns-in-None-free-clause-issues g c = full_case c.args.fetcher.now c.args.config.now c.args.count
    (front c.args.pools.now c.args.registers.now c.args.fetch.now) c.in-At.pc c.in-Ok.instr c.in-Some.pool
    (record { at = c.in-At.is; fetched = sym c.fetch.ensures.value ∙ c.in-Ok.is }) (sym c.pool.ensures ∙ c.in-Some.is)
    (rw c.stations.ensures.count at c.in-None-free.ensures.none)

pub returns-clause-issues : goal.returns-clause-issues
returns-clause-issues g c = some_case c.args.fetcher.now c.args.config.now c.args.count
    (front c.args.pools.now c.args.registers.now c.args.fetch.now)
    (front c.issue.new.pools c.issue.new.registers c.after-2.result) c.in-At.pc c.in-Ok.instr
    (record { pool = c.in-Some.pool; number = c.in-Some-free.number })
    (record { at = c.in-At.is; fetched = sym c.fetch.ensures.value ∙ c.in-Ok.is })
    (record {
      pool = sym c.pool.ensures ∙ c.in-Some.is;
      first = c.in-Some-free.ensures.some.0;
      low = rw c.stations.ensures.count at c.in-Some-free.ensures.some.1;
    }) (record {
      sources = c.issue.ensures.sources;
      dest = c.issue.ensures.dest;
      slots = c.issue.ensures.slots;
      issue_numbers = c.issue.ensures.issue_numbers;
      values = c.issue.ensures.values;
      status = c.issue.ensures.status;
      after = c.after-2.ensures;
    })

pub returns-clause-timetable : goal.returns-clause-timetable
returns-clause-timetable g c = λ next f known. known_taken c.issue.new.pools.slots
    c.in-Some-free.number c.stations.result c.in-Some.pool _ c.issue.ensures.slots c.in-Some-free.ensures.some.0.0
    c.in-Some-free.ensures.some.1 c.stations.ensures.range.1 refl known
