-- The lines of the table are those of the loops that are defined.
use Rattle.std.proofs.Common.{ℕ, suc, ◌+◌, ◌<◌, ◌≡◌, ◌∙◌, refl, sym, ap, subst, arith, List, [], ◌∷◌, length}
use Rattle.std.proofs.Common.{map, slice_index, sum, Option}
use Rattle.std.specs.Prelude.{IsPermutation, is_none}
use Rattle.std.proofs.lemmas.List.{length-map}
use Rattle.std.proofs.lemmas.List.FromFn.{get_or-map-range_with_len, length-map-range_with_len}
use Rattle.std.proofs.lemmas.List.Sums.{sum_by-cons}
use Rattle.tomex_rvexec.specs.declared.step.Step.{Step}
use Rattle.tomex_config.specs.Configuration.{Configuration}
use Rattle.tomex_timing.specs.declared.times.Times.{Times}
use Rattle.tomex_timing.specs.Search.{times_in, total_of}
use Rattle.tomex_loops.specs.Runs.{Known, ends_of, heads_of, here_of, innermost_of, rounds_of, visits_of}
use Rattle.tomex_loops.proofs.EachRun.{loops_are_sound}
use Rattle.tomex_loops.specs.declared.visit.Round.{Round}
use Rattle.tomex_loops.specs.declared.visit.Visit.{Visit}
use Rattle.tomex_stretches.specs.Cycles.{is_key, sum_below, sum_where}
use Rattle.tomex_stretches.proofs.Keyed.{keys_add_up}
use Rattle.tomex_stretches.proofs.Totals.{length_floors}
use Rattle.tomex_loop_views.specs.declared.lines.Columns.{Columns}
use Rattle.tomex_loop_views.specs.Lines.{AreColumns, AreLoopsOf, around_at, line_at, lines_to}
use Rattle.tomex_loop_views.specs.Lines.{outside_sums, total_sums}
use Rattle.tomex_loop_views.specs.LoopsReport.{AreLines, IsLine, IsOutside, IsTotal, floors_of, keys_in}
use Rattle.tomex_loop_views.specs.Table.{InOrder, Line}
use Rattle.tomex_loop_views.proofs.AddingUp.{keys_low}

abbrev pub known : List ℕ → List (Option ℕ) → List Visit → List (Option ℕ) → List (Option ℕ) → List (Option ℕ)
    → List Round → Known
known heads loops visits ends innermost here rounds = record {
  heads = heads;
  loops = loops;
  visits = visits;
  ends = ends;
  innermost = innermost;
  here = here;
  rounds = rounds;
}

pub these : (steps given : List Step) (k : Known) → given ≡ steps → k.heads ≡ heads_of given
    → k.visits ≡ visits_of given → k.ends ≡ ends_of given → k.innermost ≡ innermost_of given → k.here ≡ here_of given
    → k.rounds ≡ rounds_of given → AreLoopsOf steps k
these steps given k is heads visits ends innermost here rounds = record {
  heads = heads ∙ ap (λ (s : List Step). heads_of s) is;
  visits = visits ∙ ap (λ (s : List Step). visits_of s) is;
  ends = ends ∙ ap (λ (s : List Step). ends_of s) is;
  innermost = innermost ∙ ap (λ (s : List Step). innermost_of s) is;
  here = here ∙ ap (λ (s : List Step). here_of s) is;
  rounds = rounds ∙ ap (λ (s : List Step). rounds_of s) is;
}

module _ {A : Type 0} (file : List ℕ) (config : Configuration) (steps : List Step) (k : Known) (c : Columns A)
    (is : AreLoopsOf steps k) (are : AreColumns file config steps k c) where
  count : length k.heads ≡ length (heads_of steps)
  count = ap (λ (xs : List ℕ). length xs) is.heads

  line : (n : ℕ) → n < length (heads_of steps) → IsLine file config steps n (line_at c n)
  line n low =
      let within : n < length k.heads = omega (arith, low, count) in
      record {
        around = around_at c n;
        place = rw (is.heads, is.visits, is.here) at (are.places.are n within);
        around_is = refl;
        entered = refl;
        many = slice_index c.turns.rounds.items n;
        iterations = refl;
        turn = rw (is.visits, is.rounds) at (are.turns.each n within);
        spent = rw (is.visits, is.ends, is.innermost) at (are.spent.each n within);
        path = rw (is.visits, is.innermost) at (are.paths n within);
      }

  pub lines : (given : List Line) → IsPermutation (lines_to c (length (heads_of steps))) given
      → InOrder given → AreLines file config steps given
  lines given those order = record {
    given = lines_to c (length (heads_of steps));
    many = length-map-range_with_len (line_at c) 0 (length (heads_of steps));
    are = λ n d low.
        let few : n < length (heads_of steps) =
        omega (arith, low, length-map-range_with_len (line_at c) 0 (length (heads_of steps))) in
        subst (λ (x : Line). IsLine file config steps n x)
        (sym (get_or-map-range_with_len (line_at c) 0 (length (heads_of steps)) n n d few (omega arith)))
        (line n few);
    those = those;
    order = order;
  }

-- as many ones
ones_same : {X Y : Type 0} (xs : List X) (ys : List Y) → length xs ≡ length ys
    → map {B = ℕ} (λ (x : X). 1) xs ≡ map {B = ℕ} (λ (y : Y). 1) ys
ones_same [] [] same = refl
ones_same [] (y ∷ ys) same = absurd (omega (arith, same))
ones_same (x ∷ xs) [] same = absurd (omega (arith, same))
ones_same (x ∷ xs) (y ∷ ys) same = ap (λ (ns : List ℕ). 1 ∷ ns) (ones_same xs ys (omega (arith, same)))

many_keys : (steps : List Step) → length (keys_in steps) ≡ length steps
many_keys steps = length-map (innermost_of steps) _ ∙ (loops_are_sound steps).many_innermost

-- a sum over a list of numbers, by their places
sum_cons : (x : ℕ) (xs : List ℕ) → sum (x ∷ xs) ≡ x + sum xs
sum_cons x xs = sum_by-cons (λ (n : ℕ). n) x xs

from_zero : (k : ℕ) → k + 0 ≡ k
from_zero k = omega arith

one_further : (k n : ℕ) → k + suc n ≡ suc k + n
one_further k n = omega arith

sum_numbers : (g : ℕ → ℕ) (k : ℕ) (xs : List ℕ) (before : ℕ)
    → ((n : ℕ) → n < length xs → slice_index xs n ≡ g (k + n)) → before ≡ sum_below k g
    → before + sum xs ≡ sum_below (k + length xs) g
sum_numbers g k [] before are is =
    from_zero before ∙ is ∙ ap (λ (m : ℕ). sum_below m g) (sym (from_zero k))
sum_numbers g k (x ∷ xs) before are is =
    let first : x ≡ g k = are 0 (omega arith) ∙ ap (λ (m : ℕ). g m) (from_zero k) in
    let next : before + x ≡ sum_below (suc k) g = omega (arith, first, is) in
    let rest : before + x + sum xs ≡ sum_below (suc k + length xs) g = sum_numbers g (suc k) xs (before + x)
    (λ n h. are (suc n) (omega (arith, h)) ∙ ap (λ (m : ℕ). g m) (one_further k n)) next in
    let same : sum_below (suc k + length xs) g ≡ sum_below (k + length (x ∷ xs)) g =
    ap (λ (m : ℕ). sum_below m g) (sym (one_further k (length xs))) in
    let whole : before + sum (x ∷ xs) ≡ before + x + sum xs = omega (arith, sum_cons x xs) in
    whole ∙ rest ∙ same

sum_items : (g : ℕ → ℕ) (xs : List ℕ) → ((n : ℕ) → n < length xs → slice_index xs n ≡ g n)
    → sum xs ≡ sum_below (length xs) g
sum_items g xs are =
    let zero_first : (n : ℕ) → n ≡ 0 + n = λ n. omega arith in
    let all : 0 + sum xs ≡ sum_below (0 + length xs) g =
    sum_numbers g 0 xs 0 (λ n h. are n h ∙ ap (λ (m : ℕ). g m) (zero_first n)) refl in
    zero_first (sum xs) ∙ all ∙ ap (λ (m : ℕ). sum_below m g) (sym (zero_first (length xs)))

module _ {A : Type 0} (file : List ℕ) (config : Configuration) (steps : List Step) (k : Known) (c : Columns A)
    (is : AreLoopsOf steps k) (are : AreColumns file config steps k c) where
  -- the floors of all loops, and outside of them
  pub floors : sum c.spent.accounts.floor.by_key.items + c.spent.accounts.floor.without
      ≡ sum (floors_of config steps)
  floors =
      let sound = loops_are_sound steps in
      let many : length (floors_of config steps) ≡ length steps =
      length_floors config steps (innermost_of steps) sound.many_innermost in
      let all = keys_add_up (length (heads_of steps)) (keys_in steps) (floors_of config steps)
      (many_keys steps ∙ sym many)
      (keys_low (length (heads_of steps)) (visits_of steps) (innermost_of steps) sound.loops sound.innermost) in
      let items : length c.spent.accounts.floor.by_key.items ≡ length (heads_of steps) =
      are.spent.floor_of_all ∙ ap (λ (xs : List ℕ). length xs) is.heads in
      let each = sum_items (λ m. sum_where (is_key m) (keys_in steps) (floors_of config steps))
      c.spent.accounts.floor.by_key.items
      (λ m low. (rw (is.visits, is.innermost) at
      (are.spent.each m (omega (arith, low, are.spent.floor_of_all)))).floor_is) in
      let without : c.spent.accounts.floor.without
      ≡ sum_where is_none (keys_in steps) (floors_of config steps) =
      rw (is.visits, is.innermost) at are.spent.floor_without in
      omega (
        arith,
        all,
        each,
        without,
        ap (λ (m : ℕ).
            sum_below m (λ i. sum_where (is_key i) (keys_in steps) (floors_of config steps))) items,
      )

  pub outside : (keys : List (Option ℕ)) → keys ≡ keys_in steps
      → IsOutside config steps (record { sums = outside_sums c keys; path = c.paths.outside.items })
  outside keys same = record {
    steps_are = ap (λ (os : List (Option ℕ)). sum_where is_none os (map (λ o. 1) os)) same
        ∙ ap (λ (ns : List ℕ). sum_where is_none (keys_in steps) ns)
        (ones_same (keys_in steps) steps (many_keys steps));
    cycles = rw (is.visits, is.innermost) at are.spent.own_without;
    floor = rw (is.visits, is.innermost) at are.spent.floor_without;
    path = rw (is.visits, is.innermost) at are.outside;
  }

  pub all : (times : List Times) → times ≡ times_in config steps → length times ≡ length steps
      → IsTotal config steps (record { sums = total_sums c times; path = c.paths.total.items })
  all times same many = record {
    steps_are = many;
    cycles = ap (λ (ts : List Times). total_of ts) same;
    floor = floors;
    path = are.total;
  }
