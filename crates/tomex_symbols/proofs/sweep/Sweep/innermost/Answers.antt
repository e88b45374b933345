-- The last symbol holds the address, or has ended.
use Rattle.std.proofs.Common.{◌≡◌, ◌≤◌, ◌-◌, ◌∙◌, Some, ap, arith, length, rules, sym, take}
use Rattle.std.specs.List.{slice_get}
use Rattle.std.specs.Option.{option_copied}
use Rattle.std.proofs.lemmas.List.Elements.{All-take}
use Rattle.tomex_symbols.proofs.Swept.{dropped_last, found_last}
use Rattle.tomex_symbols.proofs.sweep.Sweep.innermost.Goals as goal

pub returns-then-holds-clause-value : goal.returns-then-holds-clause-value
returns-then-holds-clause-value g c =
    let e : slice_get c.loop-symbol.self.nested.items (length c.loop-symbol.self.nested.items - 1)
    ≡ Some c.in-Some.symbol.now =
    rw c.deref.ensures.value at (sym c.last.ensures.value ∙ ap option_copied c.in-Some.is) in
    found_last c.args.pc c.loop-symbol.self.nested.items c.in-Some.symbol.now e
    (sym c.holds.ensures ∙ c.if-holds.true)
    ∙ c.loop-symbol.invariant.nested c.args.pc (omega arith)

pub loop-symbol-preserved : goal.loop-symbol-preserved
loop-symbol-preserved g c =
    let e : slice_get c.loop-symbol.self.nested.items (length c.loop-symbol.self.nested.items - 1)
    ≡ Some c.in-Some.symbol.now =
    rw c.deref.ensures.value at (sym c.last.ensures.value ∙ ap option_copied c.in-Some.is) in
    let same : c.pop.new.self.items
    ≡ take (length c.loop-symbol.self.nested.items - 1) c.loop-symbol.self.nested.items =
    search rules in
    record {
      begun = c.loop-symbol.invariant.begun;
      label = c.loop-symbol.invariant.label;
      latest = c.loop-symbol.invariant.latest;
      address = rw same (All-take (λ s. s.address ≤ c.args.pc) _ _ c.loop-symbol.invariant.address);
      nested = λ q l. rw same
          (dropped_last c.args.pc q c.loop-symbol.self.nested.items c.in-Some.symbol.now e
          c.loop-symbol.invariant.address (sym c.holds.ensures ∙ c.if-holds.false) l
          ∙ c.loop-symbol.invariant.nested q l);
    }
