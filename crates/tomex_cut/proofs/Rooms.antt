-- Free words of a window, by their marks.
use Rattle.std.proofs.Common.{◌≡◌, ℕ, ◌+◌, ◌-◌, ◌*◌, ◌/◌, ◌<◌, ◌≤◌, List, length, Bool, true, false, refl, ◌∙◌}
use Rattle.std.proofs.Common.{ap, subst, arith, inl, inr, Option, Some, None}
use Rattle.std.proofs.lemmas.Bool.{cases_lt}
use Rattle.std.specs.Prelude.{IfNone, IsTrue, not, ◌&&◌}
use Rattle.tomex_cut.specs.Marks.{AreUnmarked, IsNearestBelow, ReachesAt, ShowFree, StandsAt, gap, mark_of}
use Rattle.tomex_cut.specs.Part.{Part, is_used}
use Rattle.tomex_cut.specs.Room.{AreFree, CanHook, CanPlace, IsHook, IsPlace, is_free}
use Rattle.tomex_rvexec.specs.Machine.{base_of, holds}
use Rattle.tomex_rvexec.specs.Steps.{is_number}
use Rattle.tomex_rvexec.proofs.FlowSteps.{inside}

pub both : (a b : Bool) → (a && b) ≡ true → (a ≡ true) × (b ≡ true)
both true true e = (refl, refl)
both true false e = cc
both false b e = cc

not_true : (a b : Bool) → a ≡ not b → a ≡ false → b ≡ true
not_true a true e f = refl
not_true a false e f = cc

-- a free word is in the window
pub record IsWithin (p : Part) (a : ℕ) : Type 0 where
  pub above : base_of p.start ≤ a
  pub below : a + 4 ≤ base_of p.start + p.start.image.window.size

pub free_within : (p : Part) (a : ℕ) → IsTrue (is_free p a) → IsWithin p a
free_within p a h =
    let one = both (holds p.start a 4 && not (is_used p.steps a)) (not (is_number p.end a)) h in
    let two = both (holds p.start a 4) (not (is_used p.steps a)) one.0 in
    let at = inside p.start a 4 two.0 in
    record { above = at.0; below = at.1 }

pub free_if_unmarked : (p : Part) (base : ℕ) (marks : List Bool) (n k : ℕ) → ShowFree p base marks
    → AreUnmarked marks n k → AreFree p n (base + 4 * k)
free_if_unmarked p base marks n k show un = record {
  word = omega (arith, show.aligned);
  each = λ j h.
      let at : base + 4 * k + 4 * j ≡ base + 4 * (k + j) = omega arith in
      let within : k + j < length marks = omega (arith, un.inside) in
      rw (at) (not_true (mark_of marks (k + j)) (is_free p (base + 4 * (k + j))) (show.each (k + j) within)
      (un.each j h));
}

-- free words are words of the window, and have no marks
pub record AreAt (base : ℕ) (marks : List Bool) (n a : ℕ) : Type 0 where
  pub index : ℕ
  pub is : a ≡ base + 4 * index
  pub unmarked : AreUnmarked marks n index

pub unmarked_if_free : (p : Part) (base : ℕ) (marks : List Bool) (n a : ℕ) → ShowFree p base marks → 0 < n
    → AreFree p n a → AreAt base marks n a
unmarked_if_free p base marks n a show some free =
    let k = (a - base) / 4 in
    let zero_is : a + 4 * 0 ≡ a = omega arith in
    let first : IsWithin p a = rw (zero_is) at (free_within p (a + 4 * 0) (free.each 0 some)) in
    let last = free_within p (a + 4 * (n - 1)) (free.each (n - 1) (omega arith)) in
    let from : base ≡ base_of p.start = show.words.from in
    let size : 4 * length marks ≡ p.start.image.window.size = show.words.count in
    let at : a ≡ base + 4 * k = omega (arith, show.aligned, free.word, first.above) in
    let end : k + n ≤ length marks = omega (arith, last.below) in
    record {
      index = k;
      is = at;
      unmarked = record {
        inside = end;
        each = λ j h.
            let same : a + 4 * j ≡ base + 4 * (k + j) = omega arith in
            let free_there : is_free p (base + 4 * (k + j)) ≡ true = rw (← same) (free.each j h) in
            show.each (k + j) (omega arith) ∙ ap not free_there;
      };
    }

pub hook_is : (p : Part) (base : ℕ) (marks : List Bool) (k : ℕ) → ShowFree p base marks
    → IsNearestBelow base marks p.start.pc (length marks) k → IsHook p (base + 4 * k)
hook_is p base marks k show near = record {
  can = record {
    free = free_if_unmarked p base marks 3 k show near.can.free;
    back = near.can.back;
    forth = near.can.forth;
  };
  nearest = λ other c.
      let u = unmarked_if_free p base marks 3 other show (omega arith) c.free in
      let r : ReachesAt base marks p.start.pc u.index = record {
        free = u.unmarked;
        back = omega (arith, u.is, c.back);
        forth = omega (arith, u.is, c.forth);
      } in
      rw (u.is) (near.nearest u.index (omega (arith, u.unmarked.inside)) r);
  lower = λ other c e.
      let u = unmarked_if_free p base marks 3 other show (omega arith) c.free in
      let r : ReachesAt base marks p.start.pc u.index = record {
        free = u.unmarked;
        back = omega (arith, u.is, c.back);
        forth = omega (arith, u.is, c.forth);
      } in
      let same = rw (u.is) at e in
      let low = near.lower u.index (omega (arith, u.unmarked.inside)) r same in
      omega (arith, u.is, low);
}

pub no_hook : (p : Part) (base : ℕ) (marks : List Bool) → ShowFree p base marks
    → ((k : ℕ) → k < length marks → ReachesAt base marks p.start.pc k → ⊥) → (h : ℕ) → CanHook p h → ⊥
no_hook p base marks show none h c =
    let u = unmarked_if_free p base marks 3 h show (omega arith) c.free in
    none u.index (omega (arith, u.unmarked.inside))
    (record { free = u.unmarked; back = omega (arith, u.is, c.back); forth = omega (arith, u.is, c.forth) })

stands : (p : Part) (base : ℕ) (marks : List Bool) (hook a : ℕ) → ShowFree p base marks → CanPlace p hook a
    → (k : ℕ) × (a ≡ base + 4 * k) × StandsAt base marks hook k
stands p base marks hook a show c =
    let u = unmarked_if_free p base marks 61 a show (omega arith) c.free in
    (u.index, u.is, record { free = u.unmarked; beside = rw (← u.is) c.beside })

pub place_is : (p : Part) (base : ℕ) (marks : List Bool) (hook k : ℕ) → ShowFree p base marks
    → StandsAt base marks hook k → ((j : ℕ) → StandsAt base marks hook j → k ≤ j) → IsPlace p hook (base + 4 * k)
place_is p base marks hook k show s lowest = record {
  can = record { free = free_if_unmarked p base marks 61 k show s.free; beside = s.beside };
  lowest = λ other c.
      let u = stands p base marks hook other show c in
      omega (arith, u.1, lowest u.0 u.2);
}

pub no_place : (p : Part) (base : ℕ) (marks : List Bool) (hook : ℕ) → ShowFree p base marks
    → ((k : ℕ) → k < length marks → StandsAt base marks hook k → ⊥) → (a : ℕ) → CanPlace p hook a → ⊥
no_place p base marks hook show none a c =
    let u = stands p base marks hook a show c in
    none u.0 (omega (arith, u.2.free.inside)) u.2

-- the nearest hook below word n, if there is one
abbrev pub NearestIs : ℕ → List Bool → ℕ → ℕ → Option ℕ → Type 0
NearestIs base marks pc n None = (k : ℕ) → k < n → ReachesAt base marks pc k → ⊥
NearestIs base marks pc n (Some k) = (k < n) × IsNearestBelow base marks pc n k

below : (P : ℕ → Type 0) (n : ℕ) → ((k : ℕ) → k < n → P k) → P n → (k : ℕ) → k < n + 1 → P k
below P n under here k h = elim (cases_lt k n) [
  | inl l ↦ under k l
  | inr g ↦ let same : n ≡ k = omega arith in subst P same here
]

-- word n is no hook
pub passed : (base : ℕ) (marks : List Bool) (pc n : ℕ) (o : Option ℕ) → NearestIs base marks pc n o
    → (ReachesAt base marks pc n → ⊥) → NearestIs base marks pc (n + 1) o
passed base marks pc n None near not_here = below (λ k. ReachesAt base marks pc k → ⊥) n near not_here
passed base marks pc n (Some k) near not_here = (
  omega (arith, near.0),
  record {
    can = near.1.can;
    nearest = below (λ j. ReachesAt base marks pc j → gap base pc k ≤ gap base pc j) n near.1.nearest
        (λ r. absurd (not_here r));
    lower = below (λ j. ReachesAt base marks pc j → gap base pc j ≡ gap base pc k → k ≤ j) n near.1.lower
        (λ r. absurd (not_here r));
  },
)

-- word n is a hook that is no nearer
pub no_nearer : (base : ℕ) (marks : List Bool) (pc n k : ℕ) → NearestIs base marks pc n (Some k)
    → gap base pc k ≤ gap base pc n → NearestIs base marks pc (n + 1) (Some k)
no_nearer base marks pc n k near far = (
  omega (arith, near.0),
  record {
    can = near.1.can;
    nearest = below (λ j. ReachesAt base marks pc j → gap base pc k ≤ gap base pc j) n near.1.nearest (λ r. far);
    lower = below (λ j. ReachesAt base marks pc j → gap base pc j ≡ gap base pc k → k ≤ j) n near.1.lower
        (λ r e. omega (arith, near.0));
  },
)

-- word n is a nearer hook
pub nearer : (base : ℕ) (marks : List Bool) (pc n k : ℕ) → NearestIs base marks pc n (Some k)
    → gap base pc n < gap base pc k → ReachesAt base marks pc n → NearestIs base marks pc (n + 1) (Some n)
nearer base marks pc n k near less here = (
  omega arith,
  record {
    can = here;
    nearest = below (λ j. ReachesAt base marks pc j → gap base pc n ≤ gap base pc j) n
        (λ j l r. let least = near.1.nearest j l r in omega (arith, least, less)) (λ r. omega arith);
    lower = below (λ j. ReachesAt base marks pc j → gap base pc j ≡ gap base pc n → n ≤ j) n
        (λ j l r e. let least = near.1.nearest j l r in absurd (omega (arith, least, less, e))) (λ r e. omega arith);
  },
)

-- the first hook
pub first_hook : (base : ℕ) (marks : List Bool) (pc n : ℕ) → NearestIs base marks pc n None
    → ReachesAt base marks pc n → NearestIs base marks pc (n + 1) (Some n)
first_hook base marks pc n none here = (
  omega arith,
  record {
    can = here;
    nearest = below (λ j. ReachesAt base marks pc j → gap base pc n ≤ gap base pc j) n
        (λ j l r. absurd (none j l r)) (λ r. omega arith);
    lower = below (λ j. ReachesAt base marks pc j → gap base pc j ≡ gap base pc n → n ≤ j) n
        (λ j l r e. absurd (none j l r)) (λ r e. omega arith);
  },
)

-- there is no hook in the window
pub none_below : (base : ℕ) (marks : List Bool) (pc n : ℕ) (o : Option ℕ) → NearestIs base marks pc n o
    → IfNone o ((k : ℕ) → k < n → ReachesAt base marks pc k → ⊥)
none_below base marks pc n None near = near
none_below base marks pc n (Some k) near = tt
