-- The place on the latest way, from that among all.
use Rattle.std.proofs.Common.{◌∙◌, Some, None, sym}
use Rattle.tomex_loops.proofs.Ways.{not_raised, raised, stand_known}
use Rattle.tomex_loops.proofs.finding.stand.Goals as goal

pub returns-then-base-last : goal.returns-then-base-last
returns-then-base-last c = λ places e. raised c.args.base c.in-Some.last c.if-base-last.true
    ∙ sym (stand_known c.args.base places c.args.place (Some c.in-Some.last) (sym c.in-Some.is ∙ e))

pub returns-else-base-last : goal.returns-else-base-last
returns-else-base-last c = λ places e. not_raised c.args.base c.in-Some.last c.if-base-last.false
    ∙ sym (stand_known c.args.base places c.args.place (Some c.in-Some.last) (sym c.in-Some.is ∙ e))

pub returns-in_default : goal.returns-in_default
returns-in_default c = λ places e.
    sym (stand_known c.args.base places c.args.place None (sym c.in_default.is ∙ e))
