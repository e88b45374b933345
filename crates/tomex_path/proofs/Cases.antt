-- What an event comes after. This is what holds it, and the event that holds it comes in the cycle before.
use Rattle.std.proofs.Common.{◌+◌, ◌-◌, ◌<◌, ◌≤◌, ◌≡◌, ◌⊎◌, true, List, Some, None, count_by}
use Rattle.std.specs.Prelude.{◌==◌}
use Rattle.tomex_rvdec.specs.declared.pool.UnitId.{UnitId}
use Rattle.tomex_rvexec.specs.Steps.{j_of, k_of, step_unit}
use Rattle.tomex_config.specs.Configuration.{Configuration}
use Rattle.tomex_config.specs.declared.part.Part.TheVariants.{Buses, Stations, Units, Width}
use Rattle.tomex_timing.specs.declared.tables.Tag.{Tag}
use Rattle.tomex_timing.specs.declared.times.Done.{Done}
use Rattle.tomex_timing.specs.History.{cycle_of, is_memory, last_issue}
use Rattle.tomex_timing.specs.Needs.{waits_of}
use Rattle.tomex_timing.specs.Recent.{register_of}
use Rattle.tomex_timing.specs.Tables.{tag_of}
use Rattle.tomex_path.specs.declared.event.Holder.{Holder}
use Rattle.tomex_path.specs.declared.event.Holder.TheVariants as holders
use Rattle.tomex_path.specs.declared.hold.Hold.{Hold}
use Rattle.tomex_path.specs.declared.reason.Reason.TheVariants as reasons
use Rattle.tomex_path.specs.Holds.{access_of, held, hold_address, hold_end, hold_issue, hold_start, just_ended}
use Rattle.tomex_path.proofs.Chain.{holder_at}

module _ (config : Configuration) (d : Done) (older : List Done) where
  abbrev pub issue_hold : Hold
  issue_hold = hold_issue older d (waits_of config older d)

  abbrev pub address_hold : Hold
  address_hold = hold_address older d (waits_of config older d)

  abbrev pub start_hold : Hold
  start_hold = hold_start older d (waits_of config older d)

  abbrev pub end_hold : Hold
  end_hold = hold_end older d (waits_of config older d)

  pub record IssuesAfterStation : Type 0 where
    pub tag : Tag
    pub own : tag_of d ≡ Some tag
    pub waits : 0 < (waits_of config older d).station
    pub is : issue_hold ≡ held (reasons.For (Stations tag.pool)) d.at.issue (holders.Station tag)
    pub before : holder_at (holders.Station tag) older + 1 ≡ d.at.issue

  -- as many as the width issue in the cycle before
  pub record IssuesAfterWidth : Type 0 where
    pub waits : 0 < (waits_of config older d).width
    pub is : issue_hold ≡ held (reasons.For Width) d.at.issue (holders.FirstIssue (d.at.issue - 1))
    pub before : holder_at (holders.FirstIssue (d.at.issue - 1)) older + 1 ≡ d.at.issue
    pub last : last_issue older ≡ d.at.issue - 1
    pub full : config.width ≤ count_by (λ x. x.at.issue == d.at.issue - 1) older

  pub record IssuesAfterBranch : Type 0 where
    pub is : issue_hold ≡ held reasons.Branch d.at.issue holders.Branch
    pub before : holder_at holders.Branch older + 1 ≡ d.at.issue

  pub record IssuesInTurn : Type 0 where
    pub is : issue_hold ≡ held reasons.Order (d.at.issue + 1) (holders.FirstIssue d.at.issue)
    pub before : holder_at (holders.FirstIssue d.at.issue) older ≡ d.at.issue
    pub last : last_issue older ≡ d.at.issue

  pub record IssuesFirst : Type 0 where
    pub is : issue_hold ≡ held reasons.Order d.at.issue (holders.FirstIssue d.at.issue)
    pub before : holder_at (holders.FirstIssue d.at.issue) older + 1 ≡ d.at.issue
    pub first : d.at.issue ≡ 1

  abbrev pub IssueCase : Type 0
  IssueCase = IssuesAfterStation ⊎ IssuesAfterWidth ⊎ IssuesAfterBranch ⊎ IssuesInTurn ⊎ IssuesFirst

  pub record AddressAfterIssue : Type 0 where
    pub is : address_hold ≡ issue_hold
    pub before : d.at.issue + 1 ≡ cycle_of d.at.address

  abbrev pub base : Holder
  base = holders.Writer (register_of (j_of d.step)) None

  pub record AddressAfterBase : Type 0 where
    pub is : address_hold ≡ held reasons.Operand (cycle_of d.at.address) base
    pub before : holder_at base older + 1 ≡ cycle_of d.at.address

  pub record AddressAfterAddress : Type 0 where
    pub is : address_hold ≡ held reasons.Address (cycle_of d.at.address) holders.Memory
    pub before : holder_at holders.Memory older + 1 ≡ cycle_of d.at.address

  abbrev pub AddressCase : Type 0
  AddressCase = AddressAfterIssue ⊎ AddressAfterBase ⊎ AddressAfterAddress

  pub record StartsAfterIssue : Type 0 where
    pub is : start_hold ≡ issue_hold
    pub before : d.at.start ≤ d.at.issue + 1

  pub record StartsAfterAddress : Type 0 where
    pub is : start_hold ≡ address_hold
    pub memory : is_memory d.step ≡ true
    pub before : cycle_of d.at.address + 1 ≡ d.at.start

  abbrev pub blockers : Holder
  blockers = holders.Conflict (access_of d) (d.at.start - 1)

  pub record StartsAfterAccess : Type 0 where
    pub is : start_hold ≡ held reasons.Memory d.at.start blockers
    pub before : holder_at blockers older + 1 ≡ d.at.start

  abbrev pub sources : Holder
  sources = holders.Writer (just_ended older (j_of d.step) d.at.start) (just_ended older (k_of d.step) d.at.start)

  pub record StartsAfterOperand : Type 0 where
    pub is : start_hold ≡ held reasons.Operand d.at.start sources
    pub before : holder_at sources older + 1 ≡ d.at.start

  pub record StartsAfterUnit : Type 0 where
    pub unit : UnitId
    pub own : step_unit d.step ≡ Some unit
    pub waits : 0 < (waits_of config older d).unit
    pub is : start_hold ≡ held (reasons.For (Units unit)) d.at.start (holders.Unit unit (d.at.start - 1))
    pub before : holder_at (holders.Unit unit (d.at.start - 1)) older + 1 ≡ d.at.start

  abbrev pub StartCase : Type 0
  StartCase = StartsAfterIssue ⊎ StartsAfterAddress ⊎ StartsAfterAccess ⊎ StartsAfterOperand ⊎ StartsAfterUnit

  -- without a wait for a bus
  pub record EndsAtOnce : Type 0 where
    pub is : end_hold ≡ start_hold
    pub end : d.at.end ≤ d.at.finish + 1

  pub record EndsAfterBus : Type 0 where
    pub waits : 0 < (waits_of config older d).bus
    pub is : end_hold ≡ held (reasons.For Buses) d.at.end (holders.Bus (d.at.end - 1))
    pub before : holder_at (holders.Bus (d.at.end - 1)) older + 1 ≡ d.at.end

  abbrev pub EndCase : Type 0
  EndCase = EndsAtOnce ⊎ EndsAfterBus
