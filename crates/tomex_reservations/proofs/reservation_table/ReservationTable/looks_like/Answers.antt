-- Slots that differ differ in some line.
use Rattle.std.proofs.Common.{rules, ◌≡◌, ℕ, ◌∙◌, arith, get_or, sym}
use Rattle.std.proofs.lemmas.Bool.{both_ways, not-true}
use Rattle.std.proofs.lemmas.List.{same_lists, get_or_default}
use Rattle.std.specs.Str.{bytes_eq}
use Rattle.std.proofs.lemmas.Slice.Eq.{bytes_eq-Decides}
use Rattle.tomex_reservations.proofs.reservation_table.ReservationTable.looks_like.Goals as goal

pub returns-then-ne : goal.returns-then-ne
returns-then-ne g c = (
  λ e. search rules,
  λ same.
      let here = c.slot.result in
      let there = c.slot-in-loop-later.result in
      let t = c.loop-later.later in
      let line : (l : ℕ) → get_or here l 0 ≡ get_or there l 0 =
      λ l. rw (c.slot.ensures, c.slot-in-loop-later.ensures) (same l t (omega arith) (omega arith)) in
      let equal : here ≡ there =
      same_lists here there (omega arith)
      (λ k d h. get_or_default here k d 0 h ∙ (line k ∙ get_or_default there k 0 d (omega arith))) in
      let yes = (bytes_eq-Decides here there).1 equal in
      absurd (both_ways (bytes_eq here there) (not-true (bytes_eq here there) (sym c.ne.ensures ∙ c.if-ne.true)) yes),
)
