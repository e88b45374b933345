use Rattle.std.proofs.Common.{◌∙◌, refl, sym}
use Rattle.tomex_bus.proofs.Members.{none_rest}
use Rattle.tomex_membuf.proofs.Older.{clear_here, clear_free}
use Rattle.tomex_membuf.proofs.order.may_access.Goals as goal

pub returns-then-rivals-eq0 : goal.returns-then-rivals-eq0
returns-then-rivals-eq0 c = (
  λ yes s here x l less. c.rivals-rivals.ensures s c.args.cycle here x l less
      (none_rest c.rivals-rivals.result x c.if-rivals-eq0.true),
  λ clear. refl,
)

pub returns-in-Some : goal.returns-in-Some
returns-in-Some c = clear_here c.args.pools.now c.args.place c.args.cycle c.in-Some.station c.passes.result
    (sym c.at.ensures.value ∙ c.in-Some.is) c.passes.ensures

pub returns-in-None : goal.returns-in-None
returns-in-None c = clear_free c.args.pools.now c.args.place c.args.cycle (sym c.at.ensures.value ∙ c.in-None.is)
