use Rattle.tomex_cycle.proofs.Words.{◌∙◌, sym}
use Rattle.tomex_cycle.proofs.Startable.{all_cleared, first_cleared, found_waiting, none_clear, one_clear}
use Rattle.tomex_cycle.proofs.starts.clear_among.Goals as goal

pub members-init : goal.members-init
members-init c = first_cleared c.args.pools.now c.args.cycle c.args.waiting c.requires.set

pub is_clear-requires-clause-waits : goal.is_clear-requires-clause-waits
is_clear-requires-clause-waits c = sym (c.requires.set c.lowest-place.result c.lowest-place.ensures.below)
    ∙ c.members.invariant.inside c.lowest-place.result c.lowest-place.ensures.below c.lowest-place.ensures.member

pub members-preserved-then-is_clear : goal.members-preserved-then-is_clear
members-preserved-then-is_clear c = one_clear c.members.invariant c.lowest-place.ensures.below
    c.lowest-place.ensures.member (c.without_lowest-rest.ensures.others c.lowest-place.result
    c.lowest-place.ensures.member c.lowest-place.ensures.least)
    (λ older younger by. sym c.if-is_clear.true ∙ c.is_clear.ensures older younger by) c.with-clear.ensures

pub members-preserved : goal.members-preserved
members-preserved c = none_clear c.members.invariant c.lowest-place.ensures.below c.lowest-place.ensures.member
    (c.without_lowest-rest.ensures.others c.lowest-place.result c.lowest-place.ensures.member
    c.lowest-place.ensures.least) (λ older younger by. sym c.if-is_clear.false ∙ c.is_clear.ensures older younger by)

pub returns-clause-startable : goal.returns-clause-startable
returns-clause-startable c = all_cleared c.requires.busy c.requires.set c.members.invariant c.members-test.false

pub returns-clause-wait : goal.returns-clause-wait
returns-clause-wait c = found_waiting c.requires.set c.members.invariant
