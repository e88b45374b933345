use Rattle.std.proofs.Common.{◌≡◌, rules, ◌∙◌, ap, subst, sym, inl, refl, ℕ, length, List, [], arith}
use Rattle.std.proofs.lemmas.Grind.{common_steps}
use Rattle.tomex_board.specs.Bands.{floors_of}
use Rattle.tomex_board.specs.Steps.{Seated}
use Rattle.tomex_board.specs.Views.{Has, first_view}
use Rattle.tomex_board.proofs.Costs.{floors_few}
use Rattle.tomex_board.proofs.board.Board.new.Goals as goal

pub invariant_of-board : goal.invariant_of-board
invariant_of-board g c = let J = g.J.Plan in let n = ap (λ (l : List ℕ). length l) c.requires.costs in (
  c.requires.plan,
  n,
  c.in_ok-table.ensures.table.0,
  c.in_ok-table.ensures.table.1,
  c.in_ok-marks.ensures.items,
  search rules,
  c.in_ok-costs.ensures.items ∙ c.requires.costs,
  c.in_ok-floors.ensures ∙ ap floors_of c.requires.costs,
  floors_few J.costs,
)

-- the first seat has nothing in hand, and has the number 0
begins : (m : Seated) → m ≡ (first_view, []) → (m.1 ≡ []) × ((x : ℕ) × Has m.0.share x)
begins m is = (
  ap (λ (m : Seated). m.1) is,
  subst (λ (m : Seated). (x : ℕ) × Has m.0.share x) (sym is) (0, inl refl),
)

pub invariant_of-result : goal.invariant_of-result
invariant_of-result g c = begins c.in_ok-table.inner.me c.in_ok-table.ensures.seat.1

pub returns : goal.returns
returns g c = (c.in_ok-table.ensures.seat.0, ap (λ (m : Seated). m.0) c.in_ok-table.ensures.seat.1)

pub open_table-requires-clause-rows : goal.open_table-requires-clause-rows
open_table-requires-clause-rows = grind (arith, common_steps)
