-- The symbol that was found is the function.
use Rattle.std.proofs.Common.{◌∙◌, Option, ap, sym}
use Rattle.tomex_symbols.specs.declared.symbol.Symbol.{Symbol}
use Rattle.tomex_symbols.specs.Functions.{or_else}
use Rattle.tomex_symbols.specs.Sweep.{if_at}
use Rattle.tomex_symbols.proofs.Swept.{swept_function}
use Rattle.tomex_symbols.proofs.sweep.Sweep.function_at.Goals as goal

pub returns-in-Some-clause-value : goal.returns-in-Some-clause-value
returns-in-Some-clause-value g c =
    ap (λ (o : Option Symbol). or_else o (if_at c.begin_up_to.new.self.latest c.begin_up_to.new.self.label))
    (sym c.in-Some.is ∙ c.innermost.ensures.value)
    ∙ swept_function c.args.sorted.now c.begin_up_to.new.self.begun c.begin_up_to.new.self.nested.items
    c.begin_up_to.new.self.label c.begin_up_to.new.self.latest c.args.pc c.requires.order c.requires.numbered
    c.in_ok-begin_up_to.ensures.swept c.in_ok-begin_up_to.ensures.rest

pub returns-in-None-clause-value : goal.returns-in-None-clause-value
returns-in-None-clause-value g c =
    rw (c.last_label.ensures, c.innermost.ensures.latest, c.innermost.ensures.label)
    (ap (λ (o : Option Symbol). or_else o (if_at c.begin_up_to.new.self.latest c.begin_up_to.new.self.label))
    (sym c.in-None.is ∙ c.innermost.ensures.value)
    ∙ swept_function c.args.sorted.now c.begin_up_to.new.self.begun c.begin_up_to.new.self.nested.items
    c.begin_up_to.new.self.label c.begin_up_to.new.self.latest c.args.pc c.requires.order c.requires.numbered
    c.in_ok-begin_up_to.ensures.swept c.in_ok-begin_up_to.ensures.rest)
