-- What the walk is given stands at the steps' places, and each turn of it takes a link, or passes a step.
use Rattle.std.proofs.Common.{ℕ, ◌+◌, ◌-◌, ◌<◌, ◌≡◌, ◌∙◌, Bool, true, false, arith, refl, ap, sym}
use Rattle.std.proofs.Common.{List, [], ◌∷◌, ◌++◌, append_assoc, length, take}
use Rattle.std.specs.Prelude.{slice_index_or}
use Rattle.tomex_rvexec.specs.declared.step.Step.{Step}
use Rattle.tomex_config.specs.Configuration.{Configuration}
use Rattle.tomex_timing.specs.declared.recent.Facts.{Facts}
use Rattle.tomex_timing.specs.declared.times.Done.{Done}
use Rattle.tomex_timing.specs.declared.times.Times.{Times}
use Rattle.tomex_timing.specs.History.{last_issue}
use Rattle.tomex_timing.specs.Recent.{AreFacts, facts_of}
use Rattle.tomex_timing.specs.Search.{history, times_in}
use Rattle.tomex_timing.proofs.Histories.{length-times_in}
use Rattle.tomex_timing.proofs.Turns.{length_facts}
use Rattle.tomex_path.specs.declared.event.Holder.{Holder}
use Rattle.tomex_path.specs.declared.link.Link.{Link}
use Rattle.tomex_path.specs.declared.note.Note.{Note}
use Rattle.tomex_path.specs.Holds.{passes}
use Rattle.tomex_path.specs.Path.{hold_by, link_of, links}
use Rattle.tomex_path.specs.Seen.{IsEvaluated, done_at, note_of, seen_of}
use Rattle.tomex_path.proofs.Places.{facts_at, length_notes, notes_at, previous_at, times_at}

-- as many of each as steps
pub record AreAsMany (steps : List Step) (facts : List Facts) (times : List Times) (notes : List Note) : Type 0 where
  pub many_facts : length facts ≡ length steps
  pub many_times : length times ≡ length steps
  pub many_notes : length notes ≡ length steps

pub lengths : (config : Configuration) (steps : List Step) (facts : List Facts) (times : List Times)
    (notes : List Note) → IsEvaluated config steps facts times notes → AreAsMany steps facts times notes
lengths config steps facts times notes ev = record {
  many_facts = length_facts steps facts ev.of_facts;
  many_times = ap length ev.of_times ∙ length-times_in config steps;
  many_notes = ap length ev.of_notes ∙ length_notes config steps;
}

module _ (config : Configuration) (steps : List Step) (i : ℕ) (x : Step) (l : i < length steps)
    (e : slice_index_or steps i x ≡ x) where
  pub facts_there : (facts : List Facts) (z : Facts) → AreFacts steps facts → slice_index_or facts i z ≡ facts_of x
  facts_there facts z are = ap (λ fs. slice_index_or fs i z) are.are ∙ facts_at steps i x z l e

  pub times_there : (times : List Times) (z : Times) → times ≡ times_in config steps
      → slice_index_or times i z ≡ (done_at config steps i x).at
  times_there times z is = ap (λ ts. slice_index_or ts i z) is ∙ times_at config steps i x l e z

  seen_made : (older : List Done) (d : Done) (f : Facts) (at : Times) (p : ℕ) (n : Note) → f ≡ facts_of d.step
      → at ≡ d.at → p ≡ last_issue older → n ≡ note_of config older d
      → record { facts = f; at = at; previous = p; note = n } ≡ seen_of config older d
  seen_made older d f at p n e1 e2 e3 e4 = rw (e1, e2, e3, e4) refl

  pub seen_there : (facts : List Facts) (times : List Times) (notes : List Note) (zf : Facts) (zt : Times) (p : ℕ)
      (zn : Note) → IsEvaluated config steps facts times notes → p ≡ last_issue (history config (take i steps))
      → record {
        facts = slice_index_or facts i zf;
        at = slice_index_or times i zt;
        previous = p;
        note = slice_index_or notes i zn;
      } ≡ seen_of config (history config (take i steps)) (done_at config steps i x)
  seen_there facts times notes zf zt p zn ev before =
      seen_made (history config (take i steps)) (done_at config steps i x) (slice_index_or facts i zf)
      (slice_index_or times i zt) p (slice_index_or notes i zn) (facts_there facts zf ev.of_facts)
      (times_there times zt ev.of_times) before
      (ap (λ ns. slice_index_or ns i zn) ev.of_notes ∙ notes_at config steps i x l e zn)

pub first_previous : (config : Configuration) (steps : List Step) (i : ℕ) → i ≡ 0
    → 0 ≡ last_issue (history config (take i steps))
first_previous config steps i e = rw e refl

pub previous_there : (config : Configuration) (steps : List Step) (times : List Times) (i : ℕ) (z : Times)
    → times ≡ times_in config steps → 0 < i → i < length steps
    → (slice_index_or times (i - 1) z).issue ≡ last_issue (history config (take i steps))
previous_there config steps times i z is low l =
    let next : i - 1 + 1 ≡ i = omega arith in
    let before = previous_at config steps (i - 1) z (omega arith) in
    ap (λ ts. (slice_index_or ts (i - 1) z).issue) is ∙ (before
    ∙ ap (λ n. last_issue (history config (take n steps))) next)

-- a turn of the walk

pub taken : (config : Configuration) (by next : Holder) (older : List Done) (d : Done) (whole ls items : List Link)
    (link : Link) (test : Bool) → test ≡ passes by older d → test ≡ true → link ≡ link_of config by older d
    → next ≡ (hold_by config by older d).by → whole ≡ ls ++ links config by (d ∷ older)
    → items ≡ ls ++ (link ∷ []) → whole ≡ items ++ links config next older
taken config by next older d whole ls items link test is true_is e1 e2 e3 e4 =
    let first : passes by older d ≡ true = sym is ∙ true_is in
    let k = hold_by config by older d in
    let more : links config by (d ∷ older) ≡ link_of config by older d ∷ links config k.by older = rw first refl in
    rw (e4, e1, e2) (e3 ∙ (ap (λ ys. ls ++ ys) more
    ∙ sym (append_assoc ls (link_of config by older d ∷ []) (links config k.by older))))

pub skipped : (config : Configuration) (by : Holder) (older : List Done) (d : Done) (whole ls : List Link)
    (test : Bool) → test ≡ passes by older d → test ≡ false → whole ≡ ls ++ links config by (d ∷ older)
    → whole ≡ ls ++ links config by older
skipped config by older d whole ls test is false_is e =
    let other : passes by older d ≡ false = sym is ∙ false_is in
    let same : links config by (d ∷ older) ≡ links config by older = rw other refl in
    e ∙ ap (λ ys. ls ++ ys) same
