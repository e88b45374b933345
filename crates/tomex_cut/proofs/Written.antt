-- Words that are written into a memory, and those that stay.
use Rattle.std.proofs.Common.{◌≡◌, ℕ, ◌+◌, ◌-◌, ◌*◌, ◌<◌, ◌≤◌, ◌⊎◌, List, sym, ◌∙◌}
use Rattle.std.proofs.Common.{arith, inl, inr, subst}
use Rattle.std.specs.Prelude.{slice_index}
use Rattle.std.proofs.lemmas.Bool.{cases_lt}
use Rattle.tomex_cut.specs.Prologue.{HasPair, HasPlace, HasWord, jump, lower, upper}
use Rattle.tomex_cut.specs.Writing.{Rewrites}
use Rattle.tomex_rvdec.specs.Instruction.{Instruction}
use Rattle.tomex_rvexec.specs.Memory.{Bytes, word_read}
use Rattle.tomex_rvexec.proofs.Bytes.{word_loaded}

-- one after another
pub both_rewrite : (from to f t g u : ℕ) (a b c : Bytes) → Rewrites f t a b → Rewrites g u b c → from ≤ f → from ≤ g
    → t ≤ to → u ≤ to → Rewrites from to a c
both_rewrite from to f t g u a b c r s e1 e2 e3 e4 = record {
  base = s.base ∙ r.base;
  size = s.size ∙ r.size;
  below = λ x above less. s.below x (omega (arith, r.base)) (omega arith) ∙ r.below x above (omega arith);
  above = λ x above more. s.above x (omega (arith, r.base)) (omega arith) ∙ r.above x above (omega arith);
}

-- a word outside stays
pub word_stays : (from to at : ℕ) (old new : Bytes) → Rewrites from to old new → old.base ≤ at
    → (at + 4 ≤ from) ⊎ (to ≤ at) → word_read new.bytes (at - new.base) ≡ word_read old.bytes (at - old.base)
word_stays from to at old new r low (inl less) =
    let b0 = r.below at low (omega arith) in
    let b1 = r.below (at + 1) (omega arith) (omega arith) in
    let b2 = r.below (at + 2) (omega arith) (omega arith) in
    let b3 = r.below (at + 3) (omega arith) (omega arith) in
    word_loaded new at (omega (arith, r.base)) ∙ (rw (b0, b1, b2, b3) (sym (word_loaded old at low)))
word_stays from to at old new r low (inr more) =
    let b0 = r.above at low more in
    let b1 = r.above (at + 1) (omega arith) (omega arith) in
    let b2 = r.above (at + 2) (omega arith) (omega arith) in
    let b3 = r.above (at + 3) (omega arith) (omega arith) in
    word_loaded new at (omega (arith, r.base)) ∙ (rw (b0, b1, b2, b3) (sym (word_loaded old at low)))

-- an instruction outside stays
pub has_word_stays : (from to at : ℕ) (old new : Bytes) (x : Instruction) → Rewrites from to old new → old.base ≤ at
    → (at + 4 ≤ from) ⊎ (to ≤ at) → HasWord old at x → HasWord new at x
has_word_stays from to at old new x r low out h = rw (word_stays from to at old new r low out) h

pub pair_stays : (from to at r v : ℕ) (old new : Bytes) → Rewrites from to old new → old.base ≤ at
    → (at + 8 ≤ from) ⊎ (to ≤ at) → HasPair old at r v → HasPair new at r v
pair_stays from to at r v old new w low (inl less) p = record {
  first = has_word_stays from to at old new (upper r v) w low (inl (omega arith)) p.first;
  second = has_word_stays from to (at + 4) old new (lower r v) w (omega arith) (inl (omega arith)) p.second;
}
pair_stays from to at r v old new w low (inr more) p = record {
  first = has_word_stays from to at old new (upper r v) w low (inr more) p.first;
  second = has_word_stays from to (at + 4) old new (lower r v) w (omega arith) (inr (omega arith)) p.second;
}

-- the pairs of the registers from x1 on, below one of them
pub record HasPairs (m : Bytes) (a n : ℕ) (regs : List ℕ) : Type 0 where
  pub each : (r : ℕ) → 1 ≤ r → r < n → HasPair m (a + 8 * (r - 1)) r (slice_index regs r)

pub pairs_more : (a n v : ℕ) (old new : Bytes) (regs : List ℕ) → 1 ≤ n → old.base ≤ a
    → Rewrites (a + 8 * (n - 1)) (a + 8 * (n - 1) + 8) old new → HasPair new (a + 8 * (n - 1)) n v
    → v ≡ slice_index regs n → HasPairs old a n regs → HasPairs new a (n + 1) regs
pairs_more a n v old new regs some low w one is before = record {
  each = λ r low_r high_r. elim (cases_lt r n) [
    | inl l ↦ pair_stays (a + 8 * (n - 1)) (a + 8 * (n - 1) + 8) (a + 8 * (r - 1)) r (slice_index regs r) old new w
        (omega arith) (inl (omega arith)) (before.each r low_r l)
    | inr g ↦
        let same : n ≡ r = omega arith in
        subst (λ (k : ℕ). HasPair new (a + 8 * (k - 1)) k (slice_index regs k)) same
        (subst (λ (u : ℕ). HasPair new (a + 8 * (n - 1)) n u) is one)
  ];
}

pub place_made : (a hook : ℕ) (old new : Bytes) (regs : List ℕ) → old.base ≤ a
    → Rewrites (a + 240) (a + 240 + 4) old new → HasPairs old a 31 regs → HasWord new (a + 240) (jump (a + 240) hook)
    → HasPlace new a hook regs
place_made a hook old new regs low w pairs last = record {
  pairs = λ r low_r high_r. pair_stays (a + 240) (a + 240 + 4) (a + 8 * (r - 1)) r (slice_index regs r) old new w
      (omega arith) (inl (omega arith)) (pairs.each r low_r (omega arith));
  last = last;
}
