use Rattle.std.proofs.Common.{List, ℕ, slice_get, arith, sym, ap, ◌∙◌}
use Rattle.std.proofs.lemmas.Option.{slice_get-get_or}
use Rattle.tomex_board.proofs.Costs.{among_few, among_many, floor_past, spread_has}
use Rattle.tomex_board.proofs.floors.floor.Goals as goal

pub returns-then-k-ge-BANDS : goal.returns-then-k-ge-BANDS
returns-then-k-ge-BANDS c = sym (floor_past c.args.costs.now c.args.k c.if-k-ge-BANDS.either)

pub returns-then-costs-le-BANDS : goal.returns-then-costs-le-BANDS
returns-then-costs-le-BANDS c = let costs = c.args.costs.now in
    sym (ap (λ (l : List ℕ). slice_get l c.args.k) (among_few costs (omega arith))
    ∙ slice_get-get_or costs c.args.k 0 (omega arith))

pub returns-else-costs-le-BANDS : goal.returns-else-costs-le-BANDS
returns-else-costs-le-BANDS c =
    rw (among_many c.args.costs.now (omega arith))
    (rw c.spread.ensures (sym (spread_has c.args.costs.now c.args.k (omega arith))))
