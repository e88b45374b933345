-- There is a total for each program.
use Rattle.std.proofs.Common.{◌∙◌, ap, arith, get_or, length, List, ℕ}
use Rattle.tomex_study.proofs.Rows.{as_many_programs, total_there}
use Rattle.tomex_study.proofs.surveyed.Surveyed.total.Goals as goal

pub bounds-totals-place : goal.bounds-totals-place
bounds-totals-place g c =
    let many = ap length c.totals.ensures ∙ as_many_programs c.args.self.now c.args.row c.requires.row in
    omega (arith, many, c.requires.place)

pub offset_bounds-totals-place : goal.offset_bounds-totals-place
offset_bounds-totals-place g c =
    let many = ap length c.totals.ensures ∙ as_many_programs c.args.self.now c.args.row c.requires.row in
    omega (arith, many, c.requires.place, c.totals.type_inv.1)

pub returns : goal.returns
returns g c = λ p there.
    ap (λ (ts : List ℕ). get_or ts c.args.place 0) c.totals.ensures
    ∙ total_there c.args.self.now c.args.row c.args.place p c.requires.row there
