-- Counts entry by entry.
use Rattle.std.proofs.Common.{◌≡◌, ℕ, zero, suc, ◌+◌, ◌*◌, ◌<◌, ◌≤◌, min, List, [], ◌∷◌, length, sym, ◌∙◌, ap}
use Rattle.std.proofs.Common.{arith, subst, inl, inr}
use Rattle.std.proofs.Math.Nat.{mul-le-mul_left}
use Rattle.std.proofs.lemmas.Bool.{cases_eq}
use Rattle.std.proofs.lemmas.List.{get_or-set_other, get_or-set_same, length-set}
use Rattle.std.specs.Prelude.{◌⊎◌, slice_index, slice_set}
use Rattle.tomex_samples.specs.declared.counts.Entry.{Entry}
use Rattle.tomex_samples.specs.Counts.{AreZero, IsSparse}
use Rattle.tomex_samples.specs.Distances.{common}
use Rattle.tomex_samples.specs.Numbers.{difference, sum_below}
use Rattle.tomex_samples.proofs.Sums.{sum_change, sum_zero, value_most}

-- the first entry of some, and what it leaves
pub record Splits (e : Entry) (es : List Entry) (counts : List ℕ) : Type 0 where
  pub inside : e.word < length counts
  pub is : slice_index counts e.word ≡ e.count
  pub rest : IsSparse es (slice_set counts e.word 0)

pub splits : (e : Entry) (es : List Entry) (counts : List ℕ) → IsSparse (e ∷ es) counts → Splits e es counts
splits e es counts s = record {
  inside = s.takes.0;
  is = s.takes.1;
  rest = record { left = s.left; takes = s.takes.2; none = s.none };
}

pub none_left : (counts : List ℕ) → IsSparse [] counts → AreZero counts
none_left counts s = subst (λ (xs : List ℕ). AreZero xs) s.takes s.none

-- what the entries that are left and the sums have in common, with what there is already, is all of it
pub record IsCommon (so_far : ℕ) (entries : List Entry) (times : ℕ) (counts sums : List ℕ) : Type 0 where
  pub left : List ℕ
  pub sparse : IsSparse entries left
  pub size : length left ≡ length sums
  pub fewer : (w : ℕ) → slice_index left w ≤ slice_index counts w
  pub sum : so_far + common times left sums ≡ common times counts sums

pub common_none : (row : List Entry) (times : ℕ) (counts sums : List ℕ) → IsSparse row counts
    → length counts ≡ length sums → IsCommon 0 row times counts sums
common_none row times counts sums s size = record {
  left = counts;
  sparse = s;
  size = size;
  fewer = λ w. omega arith;
  sum = omega arith;
}

fewer_set : (left counts : List ℕ) (v : ℕ) → v < length left
    → ((w : ℕ) → slice_index left w ≤ slice_index counts w)
    → (w : ℕ) → slice_index (slice_set left v 0) w ≤ slice_index counts w
fewer_set left counts v inside fewer w = at (cases_eq w v)
  where
    at : (w ≡ v) ⊎ (w ≡ v → ⊥) → slice_index (slice_set left v 0) w ≤ slice_index counts w
    at (inl same) =
        let z : slice_index (slice_set left v 0) w ≡ 0 =
        ap (slice_index (slice_set left v 0)) same ∙ get_or-set_same left v 0 0 inside in
        omega arith
    at (inr other) =
        let z : slice_index (slice_set left v 0) w ≡ slice_index left w = get_or-set_other left v w 0 0 other in
        let f = fewer w in
        omega arith

pub common_more : (so_far : ℕ) (e : Entry) (es : List Entry) (times : ℕ) (counts sums : List ℕ)
    → IsCommon so_far (e ∷ es) times counts sums
    → IsCommon (so_far + min (times * e.count) (slice_index sums e.word)) es times counts sums
common_more so_far e es times counts sums c =
    let s = splits e es c.left c.sparse in
    let f : ℕ → ℕ = λ w. min (times * slice_index (slice_set c.left e.word 0) w) (slice_index sums w) in
    let h : ℕ → ℕ = λ w. min (times * slice_index c.left w) (slice_index sums w) in
    let within : e.word < length sums = omega (arith, s.inside, c.size) in
    let change : sum_below f (length sums) + h e.word ≡ sum_below h (length sums) + f e.word =
    sum_change f h e.word (length sums) within
    (λ k less other. ap (λ n. min (times * n) (slice_index sums k)) (get_or-set_other c.left e.word k 0 0 other)) in
    let gone : f e.word ≡ 0 =
    ap (λ n. min (times * n) (slice_index sums e.word)) (get_or-set_same c.left e.word 0 0 s.inside)
    ∙ (let z : times * 0 ≡ 0 = omega arith in ap (λ n. min n (slice_index sums e.word)) z ∙ omega arith) in
    let here : h e.word ≡ min (times * e.count) (slice_index sums e.word) =
    ap (λ n. min (times * n) (slice_index sums e.word)) s.is in
    record {
      left = slice_set c.left e.word 0;
      sparse = s.rest;
      size = length-set c.left e.word 0 ∙ c.size;
      fewer = fewer_set c.left counts e.word s.inside c.fewer;
      sum = omega (arith, change, gone, here, c.sum);
    }

pub common_all : (so_far : ℕ) (times : ℕ) (counts sums : List ℕ) → IsCommon so_far [] times counts sums
    → so_far ≡ common times counts sums
common_all so_far times counts sums c =
    let zeros = none_left c.left c.sparse in
    let none : common times c.left sums ≡ 0 =
    sum_zero (λ w. min (times * slice_index c.left w) (slice_index sums w)) (length sums)
    (λ w h. ap (λ n. min (times * n) (slice_index sums w)) (zeros w)
    ∙ (let z : times * 0 ≡ 0 = omega arith in ap (λ n. min n (slice_index sums w)) z ∙ omega arith)) in
    omega (arith, c.sum)

-- an entry's count, times the factor, is no more than all
pub few_times : (so_far : ℕ) (e : Entry) (es : List Entry) (times : ℕ) (counts sums : List ℕ)
    → IsCommon so_far (e ∷ es) times counts sums
    → times * e.count ≤ times * sum_below (λ w. slice_index counts w) (length sums)
few_times so_far e es times counts sums c =
    let s = splits e es c.left c.sparse in
    let within : e.word < length sums = omega (arith, s.inside, c.size) in
    let most = value_most (λ w. slice_index counts w) e.word (length sums) within in
    let less : e.count ≤ sum_below (λ w. slice_index counts w) (length sums) =
    omega (arith, s.is, c.fewer e.word, most) in
    mul-le-mul_left times less

pub common_most : (times : ℕ) (counts sums : List ℕ) (n : ℕ)
    → sum_below (λ w. min (times * slice_index counts w) (slice_index sums w)) n
    ≤ times * sum_below (λ w. slice_index counts w) n
common_most times counts sums zero = omega arith
common_most times counts sums (suc n) =
    let rest = common_most times counts sums n in
    let sum : times * (sum_below (λ w. slice_index counts w) n + slice_index counts n)
    ≡ times * sum_below (λ w. slice_index counts w) n + times * slice_index counts n = omega arith in
    omega (arith, rest, sum)

-- the counts that are left, with the sums so far, are those of before
pub record IsAdding (entries : List Entry) (counts old now : List ℕ) : Type 0 where
  pub left : List ℕ
  pub sparse : IsSparse entries left
  pub size : length left ≡ length now
  pub same : length now ≡ length old
  pub sum : (w : ℕ) → slice_index now w + slice_index left w ≡ slice_index old w + slice_index counts w

pub adding_more : (e : Entry) (es : List Entry) (counts old now : List ℕ) → IsAdding (e ∷ es) counts old now
    → IsAdding es counts old (slice_set now e.word (slice_index now e.word + e.count))
adding_more e es counts old now a =
    let s = splits e es a.left a.sparse in
    record {
      left = slice_set a.left e.word 0;
      sparse = s.rest;
      size = length-set a.left e.word 0
          ∙ (a.size ∙ sym (length-set now e.word (slice_index now e.word + e.count)));
      same = length-set now e.word (slice_index now e.word + e.count) ∙ a.same;
      sum = λ w. at w s (cases_eq w e.word);
    }
  where
    at : (w : ℕ) → Splits e es a.left → (w ≡ e.word) ⊎ (w ≡ e.word → ⊥)
        → slice_index (slice_set now e.word (slice_index now e.word + e.count)) w
        + slice_index (slice_set a.left e.word 0) w ≡ slice_index old w + slice_index counts w
    at w s (inl same) =
        let within : e.word < length now = omega (arith, s.inside, a.size) in
        let one : slice_index (slice_set now e.word (slice_index now e.word + e.count)) w
        ≡ slice_index now e.word + e.count =
        ap (slice_index (slice_set now e.word (slice_index now e.word + e.count))) same
        ∙ get_or-set_same now e.word (slice_index now e.word + e.count) 0 within in
        let two : slice_index (slice_set a.left e.word 0) w ≡ 0 =
        ap (slice_index (slice_set a.left e.word 0)) same ∙ get_or-set_same a.left e.word 0 0 s.inside in
        let three : slice_index old w + slice_index counts w
        ≡ slice_index old e.word + slice_index counts e.word =
        ap (λ k. slice_index old k + slice_index counts k) same in
        omega (arith, one, two, three, a.sum e.word, s.is)
    at w s (inr other) =
        let one : slice_index (slice_set now e.word (slice_index now e.word + e.count)) w ≡ slice_index now w =
        get_or-set_other now e.word w (slice_index now e.word + e.count) 0 other in
        let two : slice_index (slice_set a.left e.word 0) w ≡ slice_index a.left w =
        get_or-set_other a.left e.word w 0 0 other in
        omega (arith, one, two, a.sum w)

-- differences and what is in common, together
pub differences : (times : ℕ) (xs ys : List ℕ) (n : ℕ)
    → sum_below (λ w. difference (times * slice_index xs w) (slice_index ys w)) n
    + 2 * sum_below (λ w. min (times * slice_index xs w) (slice_index ys w)) n
    ≡ times * sum_below (λ w. slice_index xs w) n + sum_below (λ w. slice_index ys w) n
differences times xs ys zero = omega arith
differences times xs ys (suc n) =
    let rest = differences times xs ys n in
    let sum : times * (sum_below (λ w. slice_index xs w) n + slice_index xs n)
    ≡ times * sum_below (λ w. slice_index xs w) n + times * slice_index xs n = omega arith in
    let one = one_by (times * slice_index xs n) (slice_index ys n) in
    omega (arith, rest, sum, one)
  where
    one_by : (a b : ℕ) → difference a b + 2 * min a b ≡ a + b
    one_by a b = omega arith
