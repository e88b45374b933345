-- One block more, and at the end all.
use Rattle.std.proofs.lemmas.Grind.{common_steps}
use Rattle.std.proofs.Common.{arith, ◌≡◌, length, sym, take}
use Rattle.tomex_repeats.proofs.Made.{blocks_made, firsts_kept, made_more}
use Rattle.tomex_repeats.proofs.blocks.Blocks.of.Goals as goal

pub numbered-requires-clause-state : goal.numbered-requires-clause-state
numbered-requires-clause-state g c =
    let old = c.loop-first.conflicts.masks.items in
    let new = c.note.new.self.masks.items in
    let known = c.loop-first.invariant.known in
    let kept : take (length old) new ≡ old = rw known c.in_ok-note.ensures.kept in
    rw c.deref.ensures.value (firsts_kept c.args.facts.now old new c.loop-first.numbers.slots.items
    c.loop-first.numbers.firsts.items kept
    (omega (arith, known, c.in_ok-note.ensures.known, c.end_of_block-end.ensures.some))
    c.loop-first.invariant.firsts)

pub loop-first-preserved : goal.loop-first-preserved
loop-first-preserved g c =
    let end = c.end_of_block-end.ensures in
    let made = c.in_ok-block.ensures in
    let b = c.in_ok-block.block in
    record {
      within = end.within;
      places = c.in_ok-note.ensures.places;
      known = c.in_ok-note.ensures.known;
      firsts = rw c.deref.ensures.value at made.state;
      made = rw (c.in_ok-push.ensures.items, sym made.place.1) (made_more c.args.facts.now
          c.loop-first.numbers.firsts.items c.numbered.new.self.firsts.items c.loop-first.made.items c.loop-first.first
          b c.loop-first.invariant.made made.firsts made.number made.place.0 (omega (arith, made.place.0, made.place.1))
          (omega (arith, made.place.0, made.place.1)) (omega (arith, made.place.1))
          (rw (made.place.0, made.place.1) end.ends));
    }

pub returns : goal.returns
returns g c =
    let l = c.loop-first in
    blocks_made c.args.facts.now l.conflicts.masks.items l.numbers.slots.items l.numbers.firsts.items l.made.items
    l.first c.count-different.result l.invariant.firsts l.invariant.made (omega arith) c.count-different.ensures

pub loop-first-init : goal.loop-first-init
loop-first-init = grind (arith, common_steps)

pub numbered-requires-clause-masks : goal.numbered-requires-clause-masks
numbered-requires-clause-masks = grind (arith, common_steps)
