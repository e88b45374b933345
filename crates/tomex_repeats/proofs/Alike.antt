-- To be the same is an equivalence, of steps and of blocks.
use Rattle.std.proofs.Common.{ℕ, zero, suc, ◌+◌, ◌-◌, ◌<◌, ◌≤◌, ◌≡◌, ◌∙◌, arith, refl, sym, ap, cond}
use Rattle.std.proofs.Common.{List, drop, get_or, length, take, is_some}
use Rattle.std.proofs.lemmas.List.{get_or_default, get_or-drop, length-drop, take_more}
use Rattle.std.proofs.lemmas.List.Sums.{sum_by_push}
use Rattle.tomex_timing.specs.Ahead.{one}
use Rattle.tomex_timing.specs.declared.recent.Facts.{Facts}
use Rattle.tomex_repeats.specs.Blocks.{AreLike, AreSame, is_access, window_at}

pub like_from : (f g : Facts) → f.pool ≡ g.pool → f.unit ≡ g.unit → f.dest ≡ g.dest → f.j ≡ g.j → f.k ≡ g.k
    → is_some f.bytes ≡ is_some g.bytes → f.is_store ≡ g.is_store → f.is_branch ≡ g.is_branch → AreLike f g
like_from f g pool unit dest j k touch store branch = record {
  rest = rw (pool, unit, dest, j, k, store, branch) refl;
  touch = touch;
}

-- a default doesn't matter
pub like_at : (facts : List Facts) (p q : ℕ) (d e z : Facts) → p < length facts → q < length facts
    → AreLike (get_or facts p d) (get_or facts q e) → AreLike (get_or facts p z) (get_or facts q z)
like_at facts p q d e z l m like = rw (get_or_default facts p z d l, get_or_default facts q z e m) like

like_refl : (f : Facts) → AreLike f f
like_refl f = record { rest = refl; touch = refl }

like_sym : (f g : Facts) → AreLike f g → AreLike g f
like_sym f g a = record { rest = sym a.rest; touch = sym a.touch }

like_trans : (f g h : Facts) → AreLike f g → AreLike g h → AreLike f h
like_trans f g h a b = record { rest = a.rest ∙ b.rest; touch = a.touch ∙ b.touch }

-- the window after one more step
pub window_more : (facts : List Facts) (first k : ℕ) (z : Facts) → first + k < length facts
    → window_at facts first (first + (k + 1))
    ≡ window_at facts first (first + k) + one (is_access (get_or facts (first + k) z))
window_more facts first k z l =
    let long = length-drop first facts in
    let more = take_more (drop first facts) k z (omega arith) in
    let here = get_or-drop first facts k z in
    let e : (first + (k + 1)) - first ≡ k + 1 = omega arith in
    let d : (first + k) - first ≡ k = omega arith in
    rw (
      e,
      d,
      more,
      sum_by_push (λ f. cond (is_access f) 1 0) (take k (drop first facts))
          (get_or (drop first facts) k z),
      here,
    )
    (omega arith)

pub window_none : (facts : List Facts) (first : ℕ) → window_at facts first first ≡ 4
window_none facts first =
    let e : first - first ≡ 0 = omega arith in
    rw e refl

-- steps that are the same have windows of one size
pub windows_same : (facts : List Facts) (p q k : ℕ) (z : Facts) → p + k ≤ length facts → q + k ≤ length facts
    → ((i : ℕ) (z : Facts) → i < k → AreLike (get_or facts (p + i) z) (get_or facts (q + i) z))
    → window_at facts p (p + k) ≡ window_at facts q (q + k)
windows_same facts p q zero z l m like =
    let e : p + 0 ≡ p = omega arith in
    let d : q + 0 ≡ q = omega arith in
    rw (e, d) (window_none facts p ∙ sym (window_none facts q))
windows_same facts p q (suc k) z l m like =
    let before = windows_same facts p q k z (omega arith) (omega arith) (λ i z n. like i z (omega arith)) in
    let e : suc k ≡ k + 1 = omega arith in
    let a = window_more facts p k z (omega arith) in
    let b = window_more facts q k z (omega arith) in
    let t = ap one (like k z (omega arith)).touch in
    rw e (a ∙ rw (before, t) (sym b))

module _ (facts : List Facts) where
  pub same_sym : (p q n : ℕ) → p + n ≤ length facts → q + n ≤ length facts → AreSame facts p q n → AreSame facts q p n
  same_sym p q n l m same = record {
    steps = λ k z i. like_sym _ _ (same.steps k z i);
    conflicts = λ k i z k' i'.
        let e = windows_same facts p q k z (omega arith) (omega arith) (λ j z j'. same.steps j z (omega arith)) in
        sym (same.conflicts k i z k' (omega arith));
  }

  pub same_trans : (p q r n : ℕ) → p + n ≤ length facts → q + n ≤ length facts → AreSame facts p q n
      → AreSame facts q r n → AreSame facts p r n
  same_trans p q r n l m a b = record {
    steps = λ k z i. like_trans _ _ _ (a.steps k z i) (b.steps k z i);
    conflicts = λ k i z k' i'.
        let e = windows_same facts p q k z (omega arith) (omega arith) (λ j z j'. a.steps j z (omega arith)) in
        a.conflicts k i z k' i' ∙ b.conflicts k i z k' (omega arith);
  }

  pub same_refl : (p n : ℕ) → AreSame facts p p n
  same_refl p n = record { steps = λ k z i. like_refl _; conflicts = λ k i z k' i'. refl }
