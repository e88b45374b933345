-- A word that has one step more.
use Rattle.std.proofs.Common.{◌+◌, ◌<◌, ◌∙◌, ap, subst, sym, ℕ}
use Rattle.std.specs.Prelude.{slice_set}
use Rattle.tomex_samples.proofs.Drained.{covered_push, covered_set, one_more_fits, some_there}
use Rattle.tomex_samples.proofs.counts.Counts.add.Goals.{then-index-eq0+in_ok-push, else-index-eq0}
use Rattle.tomex_samples.proofs.counts.Counts.add.Goals as goal

pub returns-clause-covered : goal.returns-clause-covered
returns-clause-covered g c =
    elim c.if-index-eq0.branch [
      | then-index-eq0+in_ok-push w ↦
          covered_push c.args.self.now.words.items c.args.self.now.numbers.items _ _ c.args.word
          (c.index_mut.result.now + 1) c.requires.covered c.requires.inside
          (ap (λ s. s.words.items) w.self-is ∙ w.in_ok-push.ensures.items)
          (ap (λ s. slice_set s.numbers.items c.args.word (c.index_mut.result.now + 1)) w.self-is)
      | else-index-eq0 w ↦
          covered_set c.args.self.now.words.items c.args.self.now.numbers.items _ _ c.args.word
          (c.index_mut.result.now + 1) c.requires.covered
          (some_there _ _ _ c.requires.inside c.index.ensures w.if-index-eq0.false)
          (ap (λ s. s.words.items) w.self-is)
          (ap (λ s. slice_set s.numbers.items c.args.word (c.index_mut.result.now + 1)) w.self-is)
    ]

pub overflow_add-index_mut : goal.overflow_add-index_mut
overflow_add-index_mut g c =
    let fits = one_more_fits c.args.self.now.numbers.items c.if-index-eq0.self.numbers.items c.args.word
    c.index_mut.result.now in
    elim c.if-index-eq0.branch [
      | then-index-eq0+in_ok-push w ↦
          record {
            fits = fits (ap (λ s. s.numbers.items) w.self-is) c.requires.inside c.index_mut.ensures.value
                c.requires.few;
          }
      | else-index-eq0 w ↦
          record {
            fits = fits (ap (λ s. s.numbers.items) w.self-is) c.requires.inside c.index_mut.ensures.value
                c.requires.few;
          }
    ]

pub index_mut-requires : goal.index_mut-requires
index_mut-requires g c =
    let inside = subst (λ (n : ℕ). c.args.word < n) (sym c.args.self.now.numbers.ok.0) c.requires.inside in
    elim c.if-index-eq0.branch [
      | then-index-eq0+in_ok-push w ↦
          subst (λ (n : ℕ). c.args.word < n) (sym (ap (λ s. s.numbers.len) w.self-is)) inside
      | else-index-eq0 w ↦
          subst (λ (n : ℕ). c.args.word < n) (sym (ap (λ s. s.numbers.len) w.self-is)) inside
    ]
