use Rattle.std.proofs.Common.{◌≡◌, ◌<◌, ◌≤◌, ◌∙◌, List, ap, arith, length, refl, subst, sym, ℕ}
use Rattle.std.proofs.lemmas.List.{get_or_read, length-set}
use Rattle.std.specs.Prelude.{slice_index}
use Rattle.tomex_samples.specs.declared.counts.Entry.{Entry}
use Rattle.tomex_samples.proofs.Drained.{IsDrained, drained_all, drained_more, drained_none, drained_past}
use Rattle.tomex_samples.proofs.Drained.{drained_word, place_read, zeros}
use Rattle.tomex_samples.proofs.counts.Counts.take.Goals as goal

pub loop-k-preserved : goal.loop-k-preserved
loop-k-preserved g c =
    let walk = c.loop-k.invariant in
    let e : Entry = record { word = c.index-word.result.now; count = c.index.result.now } in
    let more : c.loop-k.k < length c.args.self.now.words.items = omega arith in
    let same : c.loop-k.self.words.items ≡ c.args.self.now.words.items = ap (λ v. v.items) walk.words in
    let here : c.loop-k.k < length c.loop-k.self.words.items = rw (same) more in
    let word = get_or_read _ _ _ here c.index-word.ensures 0 ∙ ap (λ ws. slice_index ws c.loop-k.k) same in
    let within : e.word < length c.loop-k.self.numbers.items =
    rw (word) (walk.drained.inside c.loop-k.k more) in
    record {
      words = walk.words;
      count = length-set c.loop-k.self.numbers.items c.index-word.result.now 0 ∙ walk.count;
      drained = rw (c.in_ok-push.ensures.items) (drained_more c.args.self.now.words.items c.loop-k.k c.loop-k.row.items
          c.args.self.now.numbers.items c.loop-k.self.numbers.items e walk.drained more word
          (get_or_read _ _ _ within c.index.ensures 0));
    }

pub returns-clause-none : goal.returns-clause-none
returns-clause-none g c =
    let walk = c.loop-k.invariant in
    let same : c.loop-k.self.words.items ≡ c.args.self.now.words.items = ap (λ v. v.items) walk.words in
    let all : c.loop-k.k ≡ length c.args.self.now.words.items = omega (arith, c.len-k-end.ensures) in
    zeros c.loop-k.self.numbers.items (length c.args.self.now.numbers.items)
    (drained_all c.args.self.now.words.items c.loop-k.row.items c.args.self.now.numbers.items
    c.loop-k.self.numbers.items (subst (λ k. IsDrained c.args.self.now.words.items k c.loop-k.row.items
    c.args.self.now.numbers.items c.loop-k.self.numbers.items) all walk.drained)) walk.count

pub returns-clause-row : goal.returns-clause-row
returns-clause-row g c =
    let all = c.len-k-end.ensures ∙ c.args.self.now.words.ok.0 in
    drained_past c.args.self.now.words.items c.loop-k.k _ _ _ c.loop-k.invariant.drained
    (subst (λ (n : ℕ). n ≤ c.loop-k.k) all c.loop-k-test.false)

pub index_mut-requires : goal.index_mut-requires
index_mut-requires g c =
    let words = ap (λ v. v.items) c.loop-k.invariant.words in
    let all = c.len-k-end.ensures ∙ c.args.self.now.words.ok.0 in
    let inside = drained_word _ _ _ _ _ _ _ _ c.loop-k.invariant.drained words c.loop-k-test.true all
    c.index-word.ensures in
    subst (λ (n : ℕ). c.index-word.result.now < n) (sym c.loop-k.self.numbers.ok.0) inside

pub index-requires : goal.index-requires
index-requires g c =
    let words = ap (λ v. v.items) c.loop-k.invariant.words in
    let all = c.len-k-end.ensures ∙ c.args.self.now.words.ok.0 in
    let inside = drained_word _ _ _ _ _ _ _ _ c.loop-k.invariant.drained words c.loop-k-test.true all
    c.index-word.ensures in
    subst (λ (n : ℕ). c.index-word.result.now < n) (sym c.loop-k.self.numbers.ok.0) inside

pub loop-k-init : goal.loop-k-init
loop-k-init g c = record {
  words = refl;
  count = refl;
  drained = subst (λ (row : List Entry). IsDrained c.args.self.now.words.items 0 row c.args.self.now.numbers.items
      c.args.self.now.numbers.items) (sym c.in_ok-row.ensures.items) (drained_none _ _ c.requires.covered);
}

pub index-word-requires : goal.index-word-requires
index-word-requires g c =
    let words = ap (λ v. v.items) c.loop-k.invariant.words in
    let all = c.len-k-end.ensures ∙ c.args.self.now.words.ok.0 in
    subst (λ (n : ℕ). c.loop-k.k < n) (sym c.loop-k.self.words.ok.0)
    (place_read _ _ _ _ words c.loop-k-test.true all)
