-- Parts are joined one after another; at the end the seat has all numbers and noted all rows.
use Rattle.std.proofs.Common.{◌≡◌, ◌<◌, vec_len, length, rules, sym, subst}
use Rattle.std.proofs.lemmas.Bool.{false≢true}
use Rattle.std.specs.Vec.Iter.{into_iter_items}
use Rattle.tomex_lanes.proofs.Settling.{IsJoined, part_board, some_part, first_joined, next_joined, all_joined}
use Rattle.tomex_lanes.proofs.Settling.{all_closed}
use Rattle.tomex_lanes.proofs.dealt.settle.Goals as goal

pub unreachable-requires : goal.unreachable-requires
unreachable-requires g c = some_part _ _ c.args.parts.items c.requires (λ h. let some : 0 < vec_len c.args.parts =
    search rules in false≢true (c.in_default.ensures.variant.1 some))

pub loop-part-init : goal.loop-part-init
loop-part-init g c =
    let first = first_joined _ _ c.args.parts.items c.pop.new.self.items c.in-Some.last c.into_seat-whole.result
    c.requires c.in-Some.ensures.items c.into_seat-whole.ensures.seat c.into_seat-whole.ensures.hand
    c.into_seat-whole.ensures.noted in
    let rest : into_iter_items c.into_iter-part-iterator.result ≡ c.pop.new.self.items = let e =
    c.into_iter-part-iterator.ensures in search rules in
    subst (IsJoined _ _ c.into_seat-whole.result) (sym rest) first

pub join-whole-requires-clause-board : goal.join-whole-requires-clause-board
join-whole-requires-clause-board g c = (
  c.loop-part.invariant.board_of,
  part_board _ _ _ c.into_seat.result c.in-Some-part.part _ _ c.loop-part.invariant
      c.in-Some-part.ensures.steps.0 c.into_seat.ensures.seat,
)

pub loop-part-preserved : goal.loop-part-preserved
loop-part-preserved g c =
    next_joined c.loop-part.invariant c.in-Some-part.ensures.steps.0 c.into_seat.ensures.seat c.into_seat.ensures.noted
    c.join-whole.ensures.board c.join-whole.ensures.view c.join-whole.ensures.grown.0 c.join-whole.ensures.grown.1

pub returns-clause-closed : goal.returns-clause-closed
returns-clause-closed g c =
    let none : length (into_iter_items c.loop-part.part-iterator) ≡ 0 = let s = c.in-None.ensures.steps in
    search rules in
    let all = all_joined _ _ _ _ c.loop-part.invariant none in
    all_closed c.close.result.items _ c.close.ensures.count (λ i low. c.close.ensures.shut i (all.noted i low))
    (c.close.ensures.whole all.whole all.hand)
