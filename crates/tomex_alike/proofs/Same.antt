-- To look alike is an equivalence, and any number of accesses may be compared if all older ones have finished.
use Rattle.std.proofs.Common.{ℕ, ◌≤◌, ◌≡◌, ◌∙◌, refl, sym, inl, inr, List}
use Rattle.std.proofs.lemmas.Bool.{cases_lt}
use Rattle.std.proofs.Common.{◌<◌, None, ap}
use Rattle.tomex_rvexec.specs.declared.step.Step.{Step}
use Rattle.tomex_config.specs.Configuration.{Configuration}
use Rattle.tomex_timing.specs.declared.times.Done.{Done}
use Rattle.tomex_timing.specs.Recent.{facts_of}
use Rattle.tomex_timing.specs.declared.recent.Facts.{Facts}
use Rattle.tomex_alike.specs.Alike.{conflicts_with, lateness, IsSameStep, LooksLike}

abbrev pub without_bytes : Facts → Facts
without_bytes f = record f { bytes = None }

pub looks_refl : (config : Configuration) (w : ℕ) (g : List Done) → ((i : ℕ) → w ≤ i → lateness config g i ≡ 0)
    → LooksLike config w g g
looks_refl config w g over = record {
  issued = refl;
  width = refl;
  end = refl;
  address = refl;
  ends = λ r. refl;
  free = λ pool t k. refl;
  starts = λ unit t l. refl;
  results = λ t l. refl;
  accesses = λ i l. refl;
  older = λ i l. (over i l, over i l);
}

pub looks_sym : (config : Configuration) (w : ℕ) (g h : List Done) → LooksLike config w g h → LooksLike config w h g
looks_sym config w g h like = record {
  issued = sym like.issued;
  width = sym like.width;
  end = sym like.end;
  address = sym like.address;
  ends = λ r. sym (like.ends r);
  free = λ pool t k. sym (like.free pool t k);
  starts = λ unit t l. sym (like.starts unit t l);
  results = λ t l. sym (like.results t l);
  accesses = λ i l. sym (like.accesses i l);
  older = λ i l. ((like.older i l).1, (like.older i l).0);
}

pub looks_trans : (config : Configuration) (w : ℕ) (f g h : List Done) → LooksLike config w f g
    → LooksLike config w g h → LooksLike config w f h
looks_trans config w f g h a b = record {
  issued = a.issued ∙ b.issued;
  width = a.width ∙ b.width;
  end = a.end ∙ b.end;
  address = a.address ∙ b.address;
  ends = λ r. a.ends r ∙ b.ends r;
  free = λ pool t k. a.free pool t k ∙ b.free pool t k;
  starts = λ unit t l. a.starts unit t l ∙ b.starts unit t l;
  results = λ t l. a.results t l ∙ b.results t l;
  accesses = λ i l. a.accesses i l ∙ b.accesses i l;
  older = λ i l. ((a.older i l).0, (b.older i l).1);
}

-- each access is as late, compared or older
late_same : (config : Configuration) (w : ℕ) (g h : List Done) → LooksLike config w g h → (i : ℕ)
    → lateness config g i ≡ lateness config h i
late_same config w g h like i = elim (cases_lt i w) [
  | inl l ↦ like.accesses i l
  | inr l ↦ (like.older i l).0 ∙ sym (like.older i l).1
]

-- another number of accesses, if all older ones have finished in the first history
pub another_window : (config : Configuration) (v w : ℕ) (g h : List Done)
    → ((i : ℕ) → v ≤ i → lateness config g i ≡ 0) → LooksLike config w g h → LooksLike config v g h
another_window config v w g h over like = record {
  issued = like.issued;
  width = like.width;
  end = like.end;
  address = like.address;
  ends = like.ends;
  free = like.free;
  starts = like.starts;
  results = like.results;
  accesses = λ i l. late_same config w g h like i;
  older = λ i l. (over i l, sym (late_same config w g h like i) ∙ over i l);
}

pub step_sym : (w : ℕ) (g h : List Done) (x y : Step) → IsSameStep w g h x y → IsSameStep w h g y x
step_sym w g h x y same = record {
  pool = sym same.pool;
  dest = sym same.dest;
  j = sym same.j;
  k = sym same.k;
  conflicts = λ i l. sym (same.conflicts i l);
}

pub step_trans : (w : ℕ) (f g h : List Done) (x y z : Step) → IsSameStep w f g x y → IsSameStep w g h y z
    → IsSameStep w f h x z
step_trans w f g h x y z a b = record {
  pool = a.pool ∙ b.pool;
  dest = a.dest ∙ b.dest;
  j = a.j ∙ b.j;
  k = a.k ∙ b.k;
  conflicts = λ i l. a.conflicts i l ∙ b.conflicts i l;
}

-- steps with equal facts, except for their bytes, are the same if they conflict with the same accesses
pub step_from : (w : ℕ) (g h : List Done) (x y : Step)
    → without_bytes (facts_of x) ≡ without_bytes (facts_of y)
    → ((i : ℕ) → i < w → conflicts_with g x i ≡ conflicts_with h y i) → IsSameStep w g h x y
step_from w g h x y e conflicts = record {
  pool = ap (λ f. f.pool) e;
  dest = ap (λ f. f.dest) e;
  j = ap (λ f. f.j) e;
  k = ap (λ f. f.k) e;
  conflicts = conflicts;
}
