use Rattle.std.proofs.Common.{◌∙◌, ap, arith, refl, sym}
use Rattle.std.specs.Prelude.{slice_index}
use Rattle.tomex_membuf.proofs.Older.{found_blocked, looked_all, looked_first, looked_more}
use Rattle.tomex_membuf.proofs.order.passes.Goals as goal

pub members-init : goal.members-init
members-init c = looked_first c.args.pools.now.slots c.args.rivals c.args.pools.now.issue_numbers _ c.args.station.now
    c.args.cycle (λ x l less e. c.requires.rivals x l
    (omega (arith, less, ap (λ xs. slice_index xs c.args.place) c.issue_numbers.ensures)) e)

pub returns-then-is_blocked_by : goal.returns-then-is_blocked_by
returns-then-is_blocked_by c = (
  λ yes. absurd (cc),
  λ clear. absurd
      (found_blocked c.args.pools.now.slots c.args.pools.now.issue_numbers c.args.place c.lowest-other.result _
      c.args.station.now c.args.cycle c.is_blocked_by.result
      (ap (λ xs. slice_index xs c.args.place) c.issue_numbers.ensures) c.lowest-other.ensures.below
      c.is_blocked_by.ensures c.if-is_blocked_by.true clear),
)

pub members-preserved : goal.members-preserved
members-preserved c = looked_more c.args.pools.now.slots c.members.rest c.without_lowest-rest.result
    c.args.pools.now.issue_numbers c.lowest-other.result _ c.args.station.now c.args.cycle c.members.invariant
    (c.without_lowest-rest.ensures.others c.lowest-other.result c.lowest-other.ensures.member
    c.lowest-other.ensures.least) (sym c.is_blocked_by.ensures ∙ c.if-is_blocked_by.false)

pub returns : goal.returns
returns c = (
  λ yes. looked_all c.args.pools.now.slots c.members.rest c.args.pools.now.issue_numbers _ c.args.place
      c.args.station.now c.args.cycle c.members-test.false
      (ap (λ xs. slice_index xs c.args.place) c.issue_numbers.ensures) c.members.invariant,
  λ clear. refl,
)
