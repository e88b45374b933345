use Rattle.std.proofs.lemmas.Grind.{common_steps}
use Rattle.std.proofs.Common.{rules, ◌≡◌, ◌∙◌, ap, arith, length, sym}
use Rattle.std.proofs.lemmas.List.{length-replicate}
use Rattle.std.specs.Prelude.{replicate}
use Rattle.tomex_samples.specs.Leaders.{counts_at}
use Rattle.tomex_samples.proofs.Shown.{count_most, row_read, written, zero_at}
use Rattle.tomex_samples.proofs.stretches.Stretches.counts_at.Goals as goal

pub add_row-requires : goal.add_row-requires
add_row-requires g c =
    let r = c.requires.shown in
    let row = row_read c.args.self.now r.0 c.args.stretch _ _ r.1 c.requires.inside c.index.ensures
    c.deref.ensures.value in
    let zeros : c.in_ok-counts.counts.items ≡ replicate c.args.self.now.words 0 = search rules in
    let none = c.deref_mut.ensures.value ∙ zeros in
    let size : length c.deref_mut.result.now ≡ c.args.self.now.words =
    ap length none ∙ length-replicate c.args.self.now.words 0 in (
      counts_at r.0 c.args.stretch,
      row.sparse,
      row.size ∙ sym size,
      λ w. omega (
        arith,
        zero_at c.deref_mut.result.now c.args.self.now.words w none,
        count_most _ _ _ _ w row,
        r.1.few,
      ),
    )

pub returns : goal.returns
returns g c = λ run of.
    let row = row_read c.args.self.now run c.args.stretch _ _ of c.requires.inside c.index.ensures
    c.deref.ensures.value in
    let zeros : c.in_ok-counts.counts.items ≡ replicate c.args.self.now.words 0 = search rules in
    let none = c.deref_mut.ensures.value ∙ zeros in
    let size : length c.deref_mut.result.now ≡ c.args.self.now.words =
    ap length none ∙ length-replicate c.args.self.now.words 0 in
    written (counts_at run c.args.stretch) c.deref_mut.result.now c.add_row.new.sums c.in_ok-counts.counts.items
    c.in_ok-counts.counts.len c.args.self.now.words row.size none
    (c.add_row.ensures (counts_at run c.args.stretch) row.sparse (row.size ∙ sym size)) c.add_row.auto.sums
    (omega arith)

pub index-requires : goal.index-requires
index-requires = grind (arith, common_steps)
