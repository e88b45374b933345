-- What the evaluator reads of a step, what it keeps of the latest cycles of the steps before, and on which of these the
-- next step's issue, address and operands depend.
use Rattle.std.specs.Prelude.{ℕ, ◌+◌, ◌^◌, ◌<◌, ◌≡◌, ◌==◌, nat_lt, Bool, ◌||◌, if◌then◌else◌, List, Option, Some, None}
use Rattle.std.specs.Prelude.{slice_set, replicate, map, max, IfSome, All}
use Rattle.tomex_rvdec.specs.declared.pool.PoolId.{PoolId}
use Rattle.tomex_rvdec.specs.declared.pool.PoolId.TheVariants.{Load, Store}
use Rattle.tomex_rvexec.specs.Steps.{step_pool, step_unit, step_dest, j_of, k_of, bytes_of}
use Rattle.tomex_rvexec.specs.Steps.{is_branch, is_store, is_in}
use Rattle.tomex_rvexec.specs.declared.step.Operand.{Operand}
use Rattle.tomex_rvexec.specs.declared.step.Step.{Step}
use Rattle.tomex_config.specs.Configuration.{Configuration}
use Rattle.tomex_timing.specs.declared.times.Times.{Times}
use Rattle.tomex_timing.specs.declared.recent.Facts.{Facts}
use Rattle.tomex_timing.specs.declared.recent.Latest.{Latest}
use Rattle.tomex_timing.specs.History.{cycle_of}

abbrev pub register_of : Option Operand → Option ℕ
register_of None = None
register_of (Some o) = Some o.register

-- the facts that the recurrence reads of a step
abbrev pub facts_of : Step → Facts
facts_of s = record {
  pool = step_pool s;
  unit = step_unit s;
  dest = step_dest s;
  j = register_of (j_of s);
  k = register_of (k_of s);
  bytes = bytes_of s;
  is_store = is_store s;
  is_branch = is_branch s;
}

-- the registers are the machine's, and an access has at least one byte
pub record AreInRange (f : Facts) : Type 0 where
  pub dest : IfSome f.dest (λ r. r < 32)
  pub j : IfSome f.j (λ r. r < 32)
  pub k : IfSome f.k (λ r. r < 32)
  pub bytes : IfSome f.bytes (λ b. (b.from < b.to) × (b.to < 2 ^ 63))

-- the facts of a run's steps
pub record AreFacts (steps : List Step) (facts : List Facts) : Type 0 where
  pub are : facts ≡ map facts_of steps
  pub range : All AreInRange facts

abbrev pub is_memory_pool : Option PoolId → Bool
is_memory_pool pool = is_in Load pool || is_in Store pool

-- the first cycle that is in program order, with room for an issue, and later than each branch's finish
abbrev pub issue_from : Configuration → Latest → ℕ
issue_from config latest =
    max (if nat_lt latest.issued config.width then latest.issue else latest.issue + 1) (latest.branch + 1)

-- the first cycle after an operation's issue, its address and the ends of its operands' producers
abbrev pub ready_from : ℕ → Option ℕ → ℕ → ℕ → ℕ
ready_from issue address j k = max (max issue (cycle_of address)) (max j k) + 1

abbrev pub address_among : Latest → Option PoolId → ℕ → ℕ → Option ℕ
address_among latest pool base issue =
    if is_memory_pool pool then Some (max (max issue base) latest.address + 1) else None

-- before the first step
abbrev pub nothing_yet : Latest
nothing_yet = record { ends = replicate 32 0; issue = 0; issued = 0; branch = 0; address = 0; end = 0 }

-- the ends of the registers' producers after one more step
abbrev pub written_by : Option ℕ → ℕ → List ℕ → List ℕ
written_by None end ends = ends
written_by (Some r) end ends = slice_set ends r end

-- the last address cycle after one more step
abbrev pub addressed_by : Option ℕ → ℕ → ℕ
addressed_by None before = before
addressed_by (Some t) before = t

abbrev pub latest_after : Facts → Times → Latest → Latest
latest_after f at latest = record {
  ends = written_by f.dest at.end latest.ends;
  issue = at.issue;
  issued = if at.issue == latest.issue then latest.issued + 1 else 1;
  branch = if f.is_branch then max at.finish latest.branch else latest.branch;
  address = addressed_by at.address latest.address;
  end = max at.end latest.end;
}
