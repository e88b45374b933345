-- The rows of a run's stretches, as they are read.
use Rattle.std.proofs.Common.{◌≡◌, ℕ, ◌+◌, ◌<◌, ◌≤◌, List, [], ◌++◌, length, take, drop, sym, ◌∙◌, ap, arith}
use Rattle.std.proofs.Common.{subst, inl, inr}
use Rattle.std.proofs.lemmas.Bool.{cases_lt}
use Rattle.std.proofs.lemmas.List.{ext_get_or, get_or-map, get_or-replicate, get_or_past, length-map, length-replicate}
use Rattle.std.proofs.lemmas.List.{take_at}
use Rattle.std.specs.Prelude.{◌⊎◌, replicate, slice_index, slice_index_or}
use Rattle.std.specs.declared.vec.Vec.{Vec}
use Rattle.tomex_samples.specs.declared.counts.Entry.{Entry}
use Rattle.tomex_samples.specs.declared.stretches.Stretches.{Stretches}
use Rattle.tomex_samples.specs.Distances.{AreAdded}
use Rattle.tomex_samples.specs.Leaders.{counts_at}
use Rattle.tomex_samples.specs.Stretches.{Run}
use Rattle.tomex_samples.specs.Tallied.{AreOf}
use Rattle.tomex_samples.specs.Tally.{IsRow, lists}
use Rattle.tomex_samples.proofs.Sums.{value_most}

-- the row of a stretch as it is read
pub row_read : {A : Type 0} (s : Stretches A) (run : Run) (k : ℕ) (v : Vec Entry A) (row : List Entry) → AreOf run s
    → k < length s.parts.items → v ≡ slice_index_or s.rows.items k v → row ≡ v.items
    → IsRow s.steps s.words row (counts_at run k)
row_read {A} s run k v row of inside read is =
    let size : length s.rows.items ≡ length s.parts.items =
    sym (length-map s.rows.items (λ (w : Vec Entry A). w.items)) ∙ of.rows_number in
    let within : k < length s.rows.items = omega arith in
    let same : slice_index_or (lists s.rows.items) k [] ≡ row =
    get_or-map (λ (w : Vec Entry A). w.items) s.rows.items k v [] within
    ∙ (ap (λ (w : Vec Entry A). w.items) (sym read) ∙ sym is) in
    subst (λ (es : List Entry). IsRow s.steps s.words es (counts_at run k)) same (of.rows_are k inside)

-- a count is no more than the steps
pub count_most : (steps words : ℕ) (row : List Entry) (counts : List ℕ) (w : ℕ) → IsRow steps words row counts
    → slice_index counts w ≤ steps
count_most steps words row counts w r = at (cases_lt w words)
  where
    at : (w < words) ⊎ (words ≤ w) → slice_index counts w ≤ steps
    at (inl less) = omega (arith, value_most (λ k. slice_index counts k) w words less, r.sum)
    at (inr past) = let z = get_or_past counts w 0 (omega (arith, r.size)) in omega arith

-- a row's counts, added to zeros
pub zero_at : (zeros : List ℕ) (n w : ℕ) → zeros ≡ replicate n 0 → slice_index zeros w ≡ 0
zero_at zeros n w is = ap (λ xs. slice_index xs w) is ∙ at (cases_lt w n)
  where
    at : (w < n) ⊎ (n ≤ w) → slice_index (replicate n 0) w ≡ 0
    at (inl less) = get_or-replicate n w 0 0 less
    at (inr past) =
        get_or_past (replicate n 0) w 0 (subst (λ (m : ℕ). m ≤ w) (sym (length-replicate {A = ℕ} n 0)) past)

pub written : (counts old new items : List ℕ) (len words : ℕ) → length counts ≡ words → old ≡ replicate words 0
    → AreAdded counts old new → length new ≡ length old → len ≡ words
    → take len (new ++ drop (length new) items) ≡ counts
written counts old new items len words size none added same all =
    let old_size : length old ≡ words = ap length none ∙ length-replicate words 0 in
    take_at new (drop (length new) items) len (omega arith)
    ∙ ext_get_or 0 new counts (omega arith)
    (λ w h. added w (omega arith) ∙ (ap (λ k. k + slice_index counts w) (zero_at old words w none) ∙ omega arith))
