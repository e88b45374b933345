-- One more list.
use Rattle.std.proofs.Common.{◌≡◌, ◌∙◌, ap, arith, ℕ, Bool, not, ◌==◌}
use Rattle.std.specs.Prelude.{if◌then◌else◌}
use Rattle.std.proofs.lemmas.List.{get_or_default}
use Rattle.tomex_config.specs.Configuration.{Configuration}
use Rattle.tomex_config.specs.Parts.{all_parts}
use Rattle.tomex_worth.specs.Changes.{differ_at}
use Rattle.tomex_config.specs.Parts.{part_at, same_entry}
use Rattle.tomex_config.proofs.EachPart.{all_fails, all_hold, all_holds}
use Rattle.tomex_worth.proofs.changes.differ_at.Goals as goal

abbrev asked : ℕ → Configuration → Configuration → ℕ → Bool
asked place a b k = if k == place then not (same_entry a b (part_at k)) else same_entry a b (part_at k)

pub returns-then-not-is_as_asked : goal.returns-then-not-is_as_asked
unfolding differ_at
returns-then-not-is_as_asked c =
    let same = c.same_entry.ensures ∙ ap (same_entry c.args.a.now c.args.b.now)
    (get_or_default all_parts c.loop-k.k _ _ c.loop-k-test.true) in
    let is = c.is_as_asked.ensures ∙ ap (λ (s : Bool). if c.loop-k.k == c.args.place then not s else s) same in
    all_fails (asked c.args.place c.args.a.now c.args.b.now) c.loop-k.k _ _ c.loop-k-test.true is
    c.if-not-is_as_asked.true c.loop-k.invariant

pub loop-k-preserved : goal.loop-k-preserved
loop-k-preserved c =
    let same = c.same_entry.ensures ∙ ap (same_entry c.args.a.now c.args.b.now)
    (get_or_default all_parts c.loop-k.k _ _ c.loop-k-test.true) in
    let is = c.is_as_asked.ensures ∙ ap (λ (s : Bool). if c.loop-k.k == c.args.place then not s else s) same in
    all_holds (asked c.args.place c.args.a.now c.args.b.now) c.loop-k.k _ _ c.loop-k-test.true is
    c.if-not-is_as_asked.false c.loop-k.invariant

pub returns : goal.returns
unfolding differ_at
returns c =
    let last : c.loop-k.k ≡ 13 = omega (arith, c.loop-k-test.false, c.loop-k.auto.k-end) in
    all_hold (asked c.args.place c.args.a.now c.args.b.now) c.loop-k.k _ last c.loop-k.invariant
