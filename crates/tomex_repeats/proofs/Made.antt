-- The blocks so far: they stand in a row, and each is the same as the first one of its number.
use Rattle.std.proofs.Common.{ℕ, ◌+◌, ◌-◌, ◌<◌, ◌≤◌, ◌≡◌, ◌∙◌, arith, refl, sym, inl, inr, Option, Some, None, IfSome}
use Rattle.std.proofs.Common.{List, [], ◌∷◌, ◌++◌, All, get_or, length, map, set, take, ap}
use Rattle.std.proofs.lemmas.List.{get_or-take, get_or_append_left, length-set}
use Rattle.std.proofs.lemmas.List.{length_push}
use Rattle.std.proofs.lemmas.List.Elements.{All-get_or, All-nil, All-push, All-set, All-weaker}
use Rattle.std.proofs.lemmas.List.Elements.{Contains-append_left, Contains-push}
use Rattle.std.specs.List.{Contains}
use Rattle.std.proofs.lemmas.Bool.{cases_lt}
use Rattle.std.proofs.lemmas.List.{map_push}
use Rattle.tomex_timing.specs.declared.recent.Facts.{Facts}
use Rattle.tomex_repeats.specs.declared.blocks.Block.{Block}
use Rattle.tomex_repeats.specs.Blocks.{AreBlocks, AreInARow, AreSameBlocks, EndsABlock}
use Rattle.tomex_repeats.specs.Masks.{AreFirsts, AreFirstsAfter, IsNoted, IsNumbered}
use Rattle.tomex_repeats.proofs.Alike.{same_sym, same_trans}

-- a new first block
pub firsts_more : (facts : List Facts) (masks : List ℕ) (slots : List (Option ℕ)) (firsts : List Block) (place n : ℕ)
    (b : Block) → AreFirsts facts masks slots firsts → IsNoted facts masks b → n ≡ length firsts
    → AreFirsts facts masks (set slots place (Some n)) (firsts ++ (b ∷ []))
firsts_more facts masks slots firsts place n b so noted e =
    let long = length_push firsts b in
    let more = length-set slots place (Some n) in
    let P : Option ℕ → Type 0 = λ s. IfSome s (λ k. k < length (firsts ++ (b ∷ []))) in
    record {
      some = omega (arith, so.some);
      few = omega (arith, so.few);
      table = All-set P slots place (Some n) (omega arith)
          (All-weaker (λ s. IfSome s (λ k. k < length firsts)) P (below_more long) slots so.table);
      noted = All-push (IsNoted facts masks) firsts b so.noted noted;
    }
  where
    below_more : length (firsts ++ (b ∷ [])) ≡ length firsts + 1 → (s : Option ℕ) → IfSome s (λ k. k < length firsts)
        → IfSome s (λ k. k < length (firsts ++ (b ∷ [])))
    below_more long None l = tt
    below_more long (Some k) l = omega arith

-- more masks
noted_kept : (facts : List Facts) (old new : List ℕ) → take (length old) new ≡ old → length old ≤ length new
    → (b : Block) → IsNoted facts old b → IsNoted facts new b
noted_kept facts old new e l b noted = record {
  some = noted.some;
  few = noted.few;
  within = noted.within;
  known = omega (arith, noted.known);
  are = λ p z i j.
      sym (get_or-take (length old) new p 0 (omega (arith, noted.known))) ∙ ap (λ xs. get_or xs p 0) e
      ∙ noted.are p z i j;
}

pub firsts_kept : (facts : List Facts) (old new : List ℕ) (slots : List (Option ℕ)) (firsts : List Block)
    → take (length old) new ≡ old → length old ≤ length new → AreFirsts facts old slots firsts
    → AreFirsts facts new slots firsts
firsts_kept facts old new slots firsts e l so = record {
  some = so.some;
  few = so.few;
  table = so.table;
  noted = All-weaker (IsNoted facts old) (IsNoted facts new) (noted_kept facts old new e l) firsts so.noted;
}

-- A block keeps its number.
numbered_kept : (facts : List Facts) (old new : List Block) (b : Block) → AreFirstsAfter b old new → (n : ℕ) (a : Block)
    → IsNumbered facts old n a → IsNumbered facts new n a
numbered_kept facts old new b (inl e) n a so = rw e so
numbered_kept facts old new b (inr (e, _)) n a so =
    let long = length_push old b in
    rw e (omega (arith, so.0), λ z. rw (get_or_append_left old (b ∷ []) z n so.0) (so.1 z))

pub row_more : (from : ℕ) (blocks : List Block) (to : ℕ) (b : Block) → AreInARow from blocks to → b.first ≡ to
    → b.first < b.end → b.end ≤ b.first + 60 → AreInARow from (blocks ++ (b ∷ [])) b.end
row_more from [] to b row first some few = (first ∙ sym row, some, few, refl)
row_more from (a ∷ blocks) to b row first some few =
    (row.0, row.1, row.2, row_more a.end blocks to b row.3 first some few)

-- what is made of the steps before a place
pub record AreMade (facts : List Facts) (firsts blocks : List Block) (first : ℕ) : Type 0 where
  pub row : AreInARow 0 blocks first
  pub within : All (λ b. (b.first < b.end) × (b.end ≤ length facts)) blocks
  pub ends : All (λ b. EndsABlock facts b.first b.end) blocks
  pub numbered : All (λ b. IsNumbered facts firsts b.number b) blocks
  pub few : length firsts ≤ first
  pub used : (n : ℕ) → n < length firsts → Contains (map (λ b. b.number) blocks) n

pub made_none : (facts : List Facts) → AreMade facts [] [] 0
made_none facts = record {
  row = refl;
  within = All-nil (λ b. (b.first < b.end) × (b.end ≤ length facts));
  ends = All-nil (λ b. EndsABlock facts b.first b.end);
  numbered = All-nil (λ b. IsNumbered facts [] b.number b);
  few = omega arith;
  used = λ n l. absurd (omega arith);
}

pub made_more : (facts : List Facts) (old new blocks : List Block) (first : ℕ) (b : Block)
    → AreMade facts old blocks first → AreFirstsAfter b old new → IsNumbered facts new b.number b → b.first ≡ first
    → b.first < b.end → b.end ≤ b.first + 60 → b.end ≤ length facts → EndsABlock facts b.first b.end
    → AreMade facts new (blocks ++ (b ∷ [])) b.end
made_more facts old new blocks first b so after is at some few within ends = record {
  row = row_more 0 blocks first b so.row at some few;
  within = All-push (λ b. (b.first < b.end) × (b.end ≤ length facts)) blocks b so.within (some, within);
  ends = All-push (λ b. EndsABlock facts b.first b.end) blocks b so.ends ends;
  numbered = All-push (λ a. IsNumbered facts new a.number a) blocks b
      (All-weaker (λ a. IsNumbered facts old a.number a) (λ a. IsNumbered facts new a.number a)
      (λ a. numbered_kept facts old new b after a.number a) blocks so.numbered) is;
  few = counted after;
  used = λ n l. rw (map_push (λ b. b.number) blocks b) (all_used n after l);
}
  where
    all_used : (n : ℕ) → AreFirstsAfter b old new → n < length new
        → Contains (map (λ b. b.number) blocks ++ (b.number ∷ [])) n
    all_used n (inl e) l =
        Contains-append_left (map (λ b. b.number) blocks) (b.number ∷ []) n (so.used n (rw e at l))
    all_used n (inr (e, at_end)) l =
        let long = length_push old b in
        let k : n < length (old ++ (b ∷ [])) = rw e at l in
        elim (cases_lt n (length old)) [
          | inl m ↦ Contains-append_left (map (λ b. b.number) blocks) (b.number ∷ []) n (so.used n m)
          | inr m ↦
              let i : n ≡ b.number = omega arith in
              rw i (Contains-push (map (λ b. b.number) blocks) b.number)
        ]

    counted : AreFirstsAfter b old new → length new ≤ b.end
    counted (inl e) = rw e (omega (arith, so.few))
    counted (inr (e, _)) = let long = length_push old b in rw e (omega (arith, so.few))

-- two blocks that are the same as a third one
same_both : (facts : List Facts) (d a b : Block) → (d.first < d.end) × (d.end ≤ length facts)
    → (a.first < a.end) × (a.end ≤ length facts) → (b.first < b.end) × (b.end ≤ length facts) → AreSameBlocks facts d a
    → AreSameBlocks facts d b → AreSameBlocks facts a b
same_both facts d a b i j k x y =
    let n = d.end - d.first in
    let back = same_sym facts d.first a.first n (omega arith) (omega (arith, x.long)) x.same in
    record {
      long = sym x.long ∙ y.long;
      same = rw (sym x.long)
          (same_trans facts a.first d.first b.first n (omega (arith, x.long)) (omega arith) back y.same);
    }

-- all blocks
pub blocks_made : (facts : List Facts) (masks : List ℕ) (slots : List (Option ℕ)) (firsts blocks : List Block)
    (first n : ℕ) → AreFirsts facts masks slots firsts → AreMade facts firsts blocks first → first ≡ length facts
    → n ≡ length firsts → AreBlocks facts (record { blocks = blocks; different = n })
blocks_made facts masks slots firsts blocks first n known so e m = record {
  row = rw (sym e) so.row;
  ends = so.ends;
  numbers = λ k z l. let is = All-get_or (λ b. IsNumbered facts firsts b.number b) blocks k z l so.numbered in
      rw m is.0;
  used = λ k l. so.used k (rw m at l);
  same = λ i x j k y l same.
      let a = get_or blocks i x in
      let b = get_or blocks k y in
      let p = All-get_or (λ b. IsNumbered facts firsts b.number b) blocks i x j so.numbered in
      let q = All-get_or (λ b. IsNumbered facts firsts b.number b) blocks k y l so.numbered in
      let d = get_or firsts a.number x in
      let noted = All-get_or (IsNoted facts masks) firsts a.number x p.0 known.noted in
      same_both facts d a b (noted.some, noted.within)
      (All-get_or (λ b. (b.first < b.end) × (b.end ≤ length facts)) blocks i x j so.within)
      (All-get_or (λ b. (b.first < b.end) × (b.end ≤ length facts)) blocks k y l so.within) (p.1 x)
      (rw (sym same) at (q.1 x));
}
