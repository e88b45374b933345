-- An option with no more units isn't lacked, and one with more is.
use Rattle.std.proofs.Common.{◌∙◌, arith}
use Rattle.tomex_choices.proofs.Reading.{is_more, not_more}
use Rattle.tomex_choices.proofs.entries.Entries.with_units.Goals as goal

pub returns-then-number-most : goal.returns-then-number-most
returns-then-number-most c =
    not_more c.args.self.now _ c.self.inside.numbers c.self.inside.options c.self.invariant c.self.view_is c.args.unit
    c.from.result c.args.number c.args.config.now _ c.requires.unit (c.from.ensures ∙ c.latency-latency.ensures.cycles)
    (omega arith) c.if-number-most.true

pub returns : goal.returns
returns c =
    is_more c.args.self.now _ c.self.inside.numbers c.self.inside.options c.self.invariant c.self.view_is c.args.unit
    c.from.result c.args.number c.latency-latency.result c.args.config.now c.with_option.result _ c.requires.unit
    (c.from.ensures ∙ c.latency-latency.ensures.cycles) c.latency-latency.ensures.cycles (omega arith)
    c.if-number-most.false c.with_option.ensures
