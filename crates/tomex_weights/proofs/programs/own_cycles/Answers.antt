-- A row has a total for each program.
use Rattle.std.proofs.Common.{◌∙◌, ap, arith, List, ℕ, get_or}
use Rattle.tomex_study.proofs.Rows.{as_many_programs, totals_there}
use Rattle.tomex_weights.proofs.programs.own_cycles.Goals as goal

pub bounds-totals-place : goal.bounds-totals-place
bounds-totals-place g c =
    rw (c.totals.ensures, as_many_programs c.args.surveyed.now c.args.row c.requires.row) c.requires.place

pub offset_bounds-totals-place : goal.offset_bounds-totals-place
offset_bounds-totals-place g c = omega (arith, c.requires.place, c.keeps_limits.ensures.few_programs)

pub returns : goal.returns
returns g c = ap (λ (totals : List ℕ). get_or totals c.args.place 0)
    (c.totals.ensures ∙ totals_there c.args.surveyed.now c.args.row c.requires.row)
