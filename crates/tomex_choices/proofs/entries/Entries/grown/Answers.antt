-- A number that some row has isn't lacked, and one that none has is.
use Rattle.std.proofs.Common.{◌∙◌, ap}
use Rattle.tomex_config.specs.declared.part.Part.{Part}
use Rattle.tomex_config.specs.Parts.{with_count}
use Rattle.tomex_choices.proofs.Reading.{is_lacked, not_lacked}
use Rattle.tomex_choices.proofs.entries.Entries.grown.Goals as goal

pub returns-then-self-from : goal.returns-then-self-from
returns-then-self-from c =
    not_lacked c.args.self.now _ c.self.inside.numbers c.self.inside.options c.self.invariant c.self.view_is
    c.args.config.now c.args.number c.from.result _ (λ unit e. c.in_default.not-Units unit (c.part.ensures ∙ e))
    c.requires c.from.ensures c.if-self-from.true

pub returns-else-self-from : goal.returns-else-self-from
returns-else-self-from c =
    is_lacked c.args.self.now _ c.self.inside.numbers c.self.inside.options c.self.invariant c.self.view_is
    c.args.config.now c.with_count.result c.args.number c.from.result _
    (λ unit e. c.in_default.not-Units unit (c.part.ensures ∙ e)) c.requires c.from.ensures c.if-self-from.false
    (c.with_count.ensures
    ∙ ap (λ (p : Part). with_count c.args.config.now p c.args.number) c.part.ensures)
