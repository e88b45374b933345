-- One more address.
use Rattle.std.proofs.lemmas.Grind.{common_steps}
use Rattle.std.proofs.Common.{◌+◌, ◌∙◌, arith, get_or}
use Rattle.tomex_symbols.proofs.Best.{functions_more, numbered_moved}
use Rattle.tomex_symbols.proofs.Swept.{swept_later}
use Rattle.tomex_symbols.proofs.functions.functions_at.Goals as goal

pub function_at-requires-clause-numbered : goal.function_at-requires-clause-numbered
function_at-requires-clause-numbered g c =
    rw c.as_slice.ensures.value
    (numbered_moved c.args.symbols.items c.sort_symbols.new.symbols.items c.requires.numbered
    c.sort_symbols.ensures.moved)

pub loop-pc-preserved : goal.loop-pc-preserved
loop-pc-preserved g c = record {
  swept = λ l. swept_later (get_or c.args.addresses.now (c.loop-pc.pc-index + 1) 0)
      (rw c.as_slice.ensures.value at c.in_ok-function_at.ensures.swept)
      (c.requires.rise c.loop-pc.pc-index (c.loop-pc.pc-index + 1) 0 (omega arith) l);
  items = c.in_ok-push.ensures.items
      ∙ functions_more c.args.symbols.items c.sort_symbols.new.symbols.items c.args.addresses.now c.loop-pc.pc-index
      c.loop-pc.functions.items c.in_ok-function_at.field-0
      (numbered_moved c.args.symbols.items c.sort_symbols.new.symbols.items c.requires.numbered
      c.sort_symbols.ensures.moved)
      c.sort_symbols.ensures.moved c.loop-pc-test.true c.loop-pc.invariant.items
      (rw c.as_slice.ensures.value at c.in_ok-function_at.ensures.value);
}

pub function_at-requires-clause-order : goal.function_at-requires-clause-order
function_at-requires-clause-order = grind (arith, common_steps)

pub returns : goal.returns
returns = grind (arith, common_steps)
