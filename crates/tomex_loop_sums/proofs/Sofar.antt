-- Loops over a list, one item more.
use Rattle.std.proofs.Common.{◌≡◌, ℕ, suc, zero, ◌+◌, ◌-◌, ◌*◌, ◌^◌, ◌<◌, ◌≤◌, ◌∙◌, List, [], ◌∷◌, ◌++◌, ap, length}
use Rattle.std.proofs.Common.{arith, get_or, inl, inr, map, subst, sum, sym, take, Option, Some, None}
use Rattle.std.proofs.lemmas.Bool.{cases_lt}
use Rattle.std.proofs.lemmas.List.{get_or-map, get_or_append_left, get_or_push, length-take-le, length_push, map_push}
use Rattle.std.proofs.lemmas.List.{get_or-replicate, replicate_more, take_more}
use Rattle.std.proofs.lemmas.List.Sums.{sum_by_more, sum_by_more_le}
use Rattle.std.specs.Prelude.{◌⊎◌, IfSome, replicate, slice_index}
use Rattle.tomex_loops.specs.declared.visit.Round.{Round}
use Rattle.tomex_rvexec.specs.Run.{most_steps}
use Rattle.tomex_timing.specs.declared.times.Times.{Times}
use Rattle.tomex_loop_sums.specs.ByLoop.{round_cycles}
use Rattle.tomex_loop_sums.specs.Longest.{IsLongest}
use Rattle.tomex_loop_sums.proofs.Outside.{sum_ones}

pub few_steps : (n : ℕ) → n ≤ most_steps → n < 2 ^ 56
few_steps n few = omega (arith, few)

pub fits_word : (n m : ℕ) → n ≡ m → m ≤ most_steps → n < 2 ^ 32
fits_word n m is few = omega (arith, is, few)

-- sums over the steps of a run
pub few_ones : {X : Type 0} (xs : List X) (numbers : List ℕ) → numbers ≡ map (λ x. 1) xs → length xs ≤ most_steps
    → sum numbers < 2 ^ 63
few_ones xs numbers is few = omega (arith, ap sum is, sum_ones xs, few)

pub few_cycles : (many : ℕ) (own numbers : List ℕ) → numbers ≡ own → sum own ≤ 67 * many → many ≤ most_steps
    → sum numbers < 2 ^ 63
few_cycles many own numbers is most few = omega (arith, ap sum is, most, few)

pub counted : (i n : ℕ) → i ≤ n → n ≤ i → i ≡ n
counted i n low high = omega (arith, low, high)

module _ (xs : List ℕ) (i s : ℕ) (within : i < length xs) where
  pub sum_more : s ≡ sum (take i xs) → s + get_or xs i 0 ≡ sum (take (i + 1) xs)
  sum_more is = ap (λ n. n + get_or xs i 0) is ∙ sym (sum_by_more (λ (n : ℕ). n) xs i 0 within)

  -- a part of the sum is no greater than the whole
  pub sum_fits : s ≡ sum (take i xs) → sum xs < 2 ^ 63 → s + get_or xs i 0 < 2 ^ 64
  sum_fits is few = omega (arith, is, few, sum_by_more_le (λ (n : ℕ). n) xs i 0 within)

module _ (xs sums after : List ℕ) (i s : ℕ) (many : length sums ≡ i + 1) (grown : after ≡ sums ++ s ∷ []) where
  pub one_more : length after ≡ i + 1 + 1
  one_more = ap length grown ∙ (length_push sums s ∙ ap (λ n. n + 1) many)

  pub sums_more : s ≡ sum (take (i + 1) xs) → ((k : ℕ) → k ≤ i → get_or sums k 0 ≡ sum (take k xs))
      → (k : ℕ) → k ≤ i + 1 → get_or after k 0 ≡ sum (take k xs)
  sums_more is each k low = ap (λ zs. get_or zs k 0) grown ∙ at (cases_lt k (length sums))
    where
      at : (k < length sums) ⊎ (length sums ≤ k) → get_or (sums ++ s ∷ []) k 0 ≡ sum (take k xs)
      at (inl less) = get_or_append_left sums (s ∷ []) 0 k less ∙ each k (omega (arith, less, many))
      at (inr past) =
          let last : length sums ≡ k = omega (arith, past, low, many) in
          get_or_push sums s 0 k last ∙ (is ∙ ap (λ n. sum (take n xs)) (sym many ∙ last))

-- the sum of no numbers
pub first_sum : (none after : List ℕ) → none ≡ [] → after ≡ none ++ 0 ∷ [] → after ≡ 0 ∷ []
first_sum none after is grown = grown ∙ ap (λ zs. zs ++ 0 ∷ []) is

pub sums_of_none : (xs sums : List ℕ) → sums ≡ 0 ∷ [] → (k : ℕ) → k ≤ 0 → get_or sums k 0 ≡ sum (take k xs)
sums_of_none xs sums is zero low = ap (λ zs. get_or zs 0 0) is
sums_of_none xs sums is (suc k) low = absurd (omega (arith, low))

pub all_sums : (xs sums : List ℕ) (i : ℕ) → length xs ≤ i
    → ((k : ℕ) → k ≤ i → get_or sums k 0 ≡ sum (take k xs)) → (k : ℕ) → k ≤ length xs
    → get_or sums k 0 ≡ sum (take k xs)
all_sums xs sums i past each k low = each k (omega (arith, past, low))

-- a number for each item so far
pub number_made : {X : Type 0} (f : X → ℕ) (xs : List X) (i n : ℕ) (d : X) (numbers after : List ℕ) → i < length xs
    → numbers ≡ map f (take i xs) → n ≡ f (get_or xs i d) → after ≡ numbers ++ n ∷ []
    → after ≡ map f (take (i + 1) xs)
number_made f xs i n d numbers after within so_far is grown =
    grown ∙ (ap (λ zs. zs ++ n ∷ []) so_far ∙ (ap (λ m. map f (take i xs) ++ m ∷ []) is
    ∙ sym (ap (map f) (take_more xs i d within) ∙ map_push f (take i xs) (get_or xs i d))))

-- one empty group more
pub group_more : {V X : Type 0} (f : V → List X) (groups after : List V) (v : V) (n : ℕ) → after ≡ groups ++ v ∷ []
    → f v ≡ [] → map f groups ≡ replicate n [] → map f after ≡ replicate (n + 1) []
group_more f groups after v n grown none so_far =
    ap (map f) grown ∙ (map_push f groups v ∙ (ap (λ xs. map f groups ++ xs ∷ []) none
    ∙ (ap (λ gs. gs ++ [] ∷ []) so_far ∙ replicate_more n [])))

-- a visit that is the longest of some is one of those there are
pub longest_low : (n v m : ℕ) (loops rounds : List ℕ) (o : Option ℕ) → v < length loops
    → IsLongest n (take v loops) rounds o → length loops ≡ m → IfSome o (λ u. u < m)
longest_low n v m loops rounds None within is same = tt
longest_low n v m loops rounds (Some u) within is same =
    omega (arith, within, is.before, same, length-take-le v loops (omega (arith, within)))

pub none_longest : (n count : ℕ) (rounds : List ℕ) (items : List (Option ℕ)) → items ≡ replicate count None
    → n < count → IsLongest n [] rounds (get_or items n None)
none_longest n count rounds items is low =
    subst (λ (o : Option ℕ). IsLongest n [] rounds o)
    (sym (ap (λ xs. get_or xs n None) is ∙ get_or-replicate count n None None low))
    (λ v l here. absurd (omega (arith, l)))

-- the cycles of one round more
pub round_more : (times : List Times) (rounds : List Round) (i n : ℕ) (first : Round) (none : Times)
    (cycles after : List ℕ) → i < length rounds → (get_or rounds i first).to < length times
    → (get_or rounds i first).from < length times
    → n ≡ (get_or times (get_or rounds i first).to none).issue - (get_or times (get_or rounds i first).from none).issue
    → cycles ≡ round_cycles (map (λ t. t.issue) times) (take i rounds) → after ≡ cycles ++ n ∷ []
    → after ≡ round_cycles (map (λ t. t.issue) times) (take (i + 1) rounds)
round_more times rounds i n first none cycles after within to from is so_far grown =
    number_made
    (λ r. slice_index (map (λ t. t.issue) times) r.to - slice_index (map (λ t. t.issue) times) r.from) rounds i
    n first cycles after within so_far
    (is ∙ (ap (λ m. m - (get_or times (get_or rounds i first).from none).issue) (issue_of (get_or rounds i first).to to)
    ∙ ap (λ m. slice_index (map (λ t. t.issue) times) (get_or rounds i first).to - m)
    (issue_of (get_or rounds i first).from from))) grown
  where
    issue_of : (k : ℕ) → k < length times → (get_or times k none).issue ≡ slice_index (map (λ t. t.issue) times) k
    issue_of k low = sym (get_or-map (λ (t : Times). t.issue) times k none 0 low)
