-- Where a place stands on a way that gains or loses a place, and on what a call has of all ways.
use Rattle.std.proofs.Common.{ℕ, zero, suc, ◌+◌, ◌-◌, ◌<◌, ◌≤◌, ◌≡◌, ◌∙◌, refl, sym, ap, arith, cond, Bool, true}
use Rattle.std.proofs.Common.{false, List, [], ◌∷◌, ◌++◌, length, drop, Option, Some, None}
use Rattle.std.proofs.Common.{⊎_elim}
use Rattle.std.specs.Prelude.{if◌then◌else◌, nat_le, ◌==◌, is_some, ◌||◌}
use Rattle.std.proofs.lemmas.Bool.{cases_lt, le-leb, lt-leb}
use Rattle.std.specs.Option.{option_map}
use Rattle.std.proofs.lemmas.List.{length-drop}
use Rattle.tomex_loops.specs.Loops.{is_among, one_further, stand}

-- the place of a whole way, on what follows its first b places
abbrev pub lowered : ℕ → Option ℕ → Option ℕ
lowered b None = None
lowered b (Some k) = if nat_le b k then Some (k - b) else None

pub stand-push : (way : List ℕ) (x p : ℕ)
    → stand (way ++ x ∷ []) p ≡ (if x == p then Some (length way) else stand way p)
stand-push [] x p = elim (x == p) as (λ b. one_further b None ≡ cond b (Some 0) None) [ true ↦ refl | false ↦ refl ]
stand-push (y ∷ way) x p = rw (stand-push way x p)
    (elim (x == p) as (λ b. one_further (y == p) (cond b (Some (length way)) (stand way p))
    ≡ cond b (Some (suc (length way))) (one_further (y == p) (stand way p))) [ true ↦ refl | false ↦ refl ])

below_next : (n : ℕ) (is : Bool) (o : Option ℕ) (k : ℕ) → ((j : ℕ) → o ≡ Some j → j < n) → one_further is o ≡ Some k
    → k < suc n
below_next n is (Some j) k below e =
    let low : j < n = below j refl in let up : suc j ≡ k = cc e in omega (arith, low, up)
below_next n true None k below e = let up : 0 ≡ k = cc e in omega (arith, up)
below_next n false None k below e = absurd (cc e)

pub stand-below : (way : List ℕ) (p k : ℕ) → stand way p ≡ Some k → k < length way
stand-below [] p k e = absurd (cc e)
stand-below (x ∷ way) p k e = below_next (length way) (x == p) (stand way p) k (λ j at. stand-below way p j at) e

lowered_suc : (b : ℕ) (is : Bool) (o : Option ℕ) → lowered b o ≡ lowered (suc b) (one_further is o)
lowered_suc b is (Some k) = ⊎_elim
    (λ (low : k < b). rw (lt-leb b k low, lt-leb (suc b) (suc k) (omega arith)) refl)
    (λ (high : b ≤ k). let e : k - b ≡ suc k - suc b = omega arith in
    rw (le-leb b k high, le-leb (suc b) (suc k) (omega arith)) (ap (λ (n : ℕ). Some n) e))
    (cases_lt k b)
lowered_suc b true None = rw (lt-leb (suc b) 0 (omega arith)) refl
lowered_suc b false None = refl

pub stand-drop : (b : ℕ) (way : List ℕ) (p : ℕ) → stand (drop b way) p ≡ lowered b (stand way p)
stand-drop zero way p = elim (stand way p) as (λ (o : Option ℕ). o ≡ lowered 0 o) [
  | None ↦ refl
  | Some k ↦ let e : k ≡ k - 0 = omega arith in rw (le-leb 0 k (omega arith)) (ap (λ (n : ℕ). Some n) e)
]
stand-drop (suc b) [] p = refl
stand-drop (suc b) (x ∷ way) p = stand-drop b way p ∙ lowered_suc b (x == p) (stand way p)

pub among-stand : (way : List ℕ) (p : ℕ) → is_among way p ≡ is_some (stand way p)
among-stand [] p = refl
among-stand (x ∷ way) p = rw (among-stand way p) (elim (x == p) as (λ b. (b || is_some (stand way p))
    ≡ is_some (one_further b (stand way p))) [
      | true ↦ elim (stand way p) as (λ (o : Option ℕ). true ≡ is_some
          (one_further true o)) [ None ↦ refl | Some k ↦ refl ]
      | false ↦ elim (stand way p) as (λ (o : Option ℕ). is_some o ≡ is_some
          (one_further false o)) [ None ↦ refl | Some k ↦ refl ]
    ])

-- where a place stands among all ways, from where it stands on the latest
pub stand_known : (base : ℕ) (way : List ℕ) (p : ℕ) (o : Option ℕ) → o ≡ stand way p
    → option_map (λ k. base + k) (stand (drop base way) p) ≡ option_map (λ k. base + k) (lowered base o)
stand_known base way p o e = ap (λ (r : Option ℕ). option_map (λ k. base + k) r)
    (stand-drop base way p ∙ ap (λ (r : Option ℕ). lowered base r) (sym e))

pub raised : (base k : ℕ) → base ≤ k → Some k ≡ option_map (λ j. base + j) (lowered base (Some k))
raised base k h = let e : k ≡ base + (k - base) = omega (arith, h) in
    rw (le-leb base k h) (ap (λ (n : ℕ). Some n) e)

pub not_raised : (base k : ℕ) → k < base → None ≡ option_map (λ j. base + j) (lowered base (Some k))
not_raised base k h = rw (lt-leb base k h) refl

-- a place that stands on the latest way stands below its end
pub stands_below : (base k : ℕ) (way : List ℕ) (p : ℕ) (o : Option ℕ) → o ≡ stand (drop base way) p
    → Some k ≡ option_map (λ j. base + j) o → base ≤ length way
    → (base ≤ k) × (k < length way) × ((j : ℕ) × (k ≡ base + j) × (stand (drop base way) p ≡ Some j))
stands_below base k way p None is at low = absurd (cc at)
stands_below base k way p (Some j) is at low =
    let sum : k ≡ base + j = cc at in
    let below = stand-below (drop base way) p j (sym is) in
    (omega (arith, sum), omega (arith, sum, below, length-drop base way, low), (j, sum, sym is))

pub stands_nowhere : (base : ℕ) (o : Option ℕ) → None ≡ option_map (λ j. base + j) o → o ≡ None
stands_nowhere base None is = refl
stands_nowhere base (Some j) is = absurd (cc is)
