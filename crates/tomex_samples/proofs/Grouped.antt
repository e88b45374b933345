-- Sums of a group's counts, one member after another.
use Rattle.std.proofs.Common.{◌≡◌, ℕ, zero, suc, ◌+◌, ◌*◌, ◌<◌, ◌≤◌, List, length, sym, ◌∙◌, ap, arith, add-one}
use Rattle.std.proofs.Common.{inl, inr, Bool, true, false}
use Rattle.std.proofs.lemmas.Bool.{cases_lt, eq-eqb, ne_eqb}
use Rattle.std.proofs.lemmas.List.{get_or_past, get_or_read}
use Rattle.std.specs.Prelude.{◌⊎◌, ◌==◌, if◌then◌else◌, slice_index, slice_index_or}
use Rattle.tomex_samples.specs.declared.nearness.Near.{Near}
use Rattle.tomex_samples.specs.Distances.{AreAdded}
use Rattle.tomex_samples.specs.Leaders.{counts_at}
use Rattle.tomex_samples.specs.Near.{AreGroupSums, near_at, no_leader}
use Rattle.tomex_samples.specs.Numbers.{sum_below}
use Rattle.tomex_samples.specs.Stretches.{Run}

-- the value of one stretch at a word
abbrev pub share_at : Run → List Near → ℕ → ℕ → ℕ → ℕ
share_at run near leader w k = if (near_at near k).leader == leader then slice_index (counts_at run k) w else 0

pub grouped_yes : (run : Run) (near : List Near) (leader k words : ℕ) (old new : List ℕ) (r : Near)
    → AreGroupSums run near leader k old → k < length near → r ≡ slice_index_or near k r → r.leader ≡ leader
    → AreAdded (counts_at run k) old new → length new ≡ length old → length old ≡ words
    → length (counts_at run k) ≡ words → AreGroupSums run near leader (k + 1) new
grouped_yes run near leader k words old new r s within read is added same size counts = record {
  each = λ w. at w (cases_lt w words) ∙ (ap (λ n. sum_below (share_at run near leader w) k + n) (sym (mine w))
      ∙ sym (ap (sum_below (share_at run near leader w)) (add-one k)));
}
  where
    mine : (w : ℕ) → share_at run near leader w k ≡ slice_index (counts_at run k) w
    mine w = ap (λ (b : Bool). if b then slice_index (counts_at run k) w else 0)
        (ap (λ (x : Near). x.leader == leader) (sym (get_or_read near k r within read no_leader))
        ∙ eq-eqb r.leader leader is)

    at : (w : ℕ) → (w < words) ⊎ (words ≤ w)
        → slice_index new w ≡ sum_below (share_at run near leader w) k + slice_index (counts_at run k) w
    at w (inl less) = added w (omega arith) ∙ ap (λ n. n + slice_index (counts_at run k) w) (s.each w)
    at w (inr past) =
        let one : slice_index new w ≡ 0 = get_or_past new w 0 (omega arith) in
        let two : slice_index old w ≡ 0 = get_or_past old w 0 (omega arith) in
        let three : slice_index (counts_at run k) w ≡ 0 = get_or_past (counts_at run k) w 0 (omega arith) in
        omega (arith, s.each w)

pub grouped_no : (run : Run) (near : List Near) (leader k : ℕ) (old : List ℕ) (r : Near)
    → AreGroupSums run near leader k old → k < length near → r ≡ slice_index_or near k r → (r.leader ≡ leader → ⊥)
    → AreGroupSums run near leader (k + 1) old
grouped_no run near leader k old r s within read other = record {
  each = λ w.
      let none : share_at run near leader w k ≡ 0 =
      ap (λ (b : Bool). if b then slice_index (counts_at run k) w else 0)
      (ap (λ (x : Near). x.leader == leader) (sym (get_or_read near k r within read no_leader))
      ∙ ne_eqb r.leader leader other) in
      let more : sum_below (share_at run near leader w) (k + 1)
      ≡ sum_below (share_at run near leader w) k + share_at run near leader w k =
      ap (sum_below (share_at run near leader w)) (add-one k) in
      omega (arith, s.each w);
}

-- the sums are no more than all steps
pub grouped_most : (run : Run) (near : List Near) (leader w steps n : ℕ)
    → ((k : ℕ) → k < n → slice_index (counts_at run k) w ≤ steps)
    → sum_below (share_at run near leader w) n ≤ n * steps
grouped_most run near leader w steps zero most = omega arith
grouped_most run near leader w steps (suc n) most =
    let rest = grouped_most run near leader w steps n (λ k h. most k (omega arith)) in
    let next : suc n * steps ≡ n * steps + steps = omega arith in
    let one = by ((near_at near n).leader == leader) (most n (omega arith)) in
    omega (arith, rest, next, one)
  where
    by : (b : Bool) → slice_index (counts_at run n) w ≤ steps
        → (if b then slice_index (counts_at run n) w else 0) ≤ steps
    by true h = h
    by false h = omega arith
