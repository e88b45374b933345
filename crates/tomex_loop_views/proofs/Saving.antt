-- A loop on two machines.
use Rattle.std.proofs.Common.{ℕ, suc, ◌+◌, ◌≡◌, ◌∙◌, refl, sym, ap, arith, cond, inl, Bool, true, false, List, [], ◌∷◌}
use Rattle.std.proofs.Common.{length, map, nat_eq, reverse, slice_index, Option, Some, None}
use Rattle.std.specs.Option.{option_map}
use Rattle.std.proofs.lemmas.List.{length-map}
use Rattle.tomex_rvexec.specs.declared.step.Step.{Step}
use Rattle.tomex_config.specs.Configuration.{Configuration, latency_of}
use Rattle.tomex_timing.specs.Search.{times_in}
use Rattle.tomex_timing.proofs.Limits.{width_low}
use Rattle.tomex_symbols.specs.Symbols.{symbols_of}
use Rattle.tomex_symbols.specs.Functions.{function_at}
use Rattle.tomex_loops.specs.Runs.{here_of, innermost_of, rounds_of, visits_of}
use Rattle.tomex_loops.proofs.EachRun.{loops_are_sound}
use Rattle.tomex_stretches.specs.Cycles.{floor_cycles, is_key, sum_where}
use Rattle.tomex_stretches.proofs.Cycles.{floor_cycles_add_up}
use Rattle.tomex_stretches.proofs.Totals.{stretches_take_their_floors, sum_reverse}
use Rattle.tomex_loop_sums.specs.Around.{around_of}
use Rattle.tomex_loop_sums.specs.ByLoop.{loops_of, round_cycles, rounds_of_loop}
use Rattle.tomex_loop_sums.specs.Extents.{IsExtent, is_in_visit_of}
use Rattle.tomex_loop_sums.specs.Groups.{with_key}
use Rattle.tomex_loop_sums.specs.declared.extents.Extent.{Extent}
use Rattle.tomex_floor.proofs.Above.{floor_is_bound}
use Rattle.tomex_path.proofs.FreePaths.{free_is_floor}
use Rattle.tomex_run_views.specs.ByPlace.{pc_of}
use Rattle.tomex_loop_views.specs.Laws.{FloorsAreWithinTheRuns, FreeRunsAreLeast, LoopsAreThePrograms}
use Rattle.tomex_loop_views.specs.Laws.{NoMachineSavesMore}

-- keys that are made of others
where_map : (p : Option ℕ → Bool) (f : Option ℕ → Option ℕ) (keys : List (Option ℕ)) (numbers : List ℕ)
    → sum_where p (map f keys) numbers ≡ sum_where (λ k. p (f k)) keys numbers
where_map p f [] numbers = refl
where_map p f (k ∷ keys) [] = refl
where_map p f (k ∷ keys) (n ∷ numbers) =
    ap (λ (m : ℕ). cond (p (f k)) n 0 + m) (where_map p f keys numbers)

pub no_machine_saves_more : NoMachineSavesMore
no_machine_saves_more config other file steps n line others is are within width latency =
    let f : Option ℕ → Option ℕ = option_map (slice_index (loops_of (visits_of steps))) in
    let bound = stretches_take_their_floors config other steps (innermost_of steps) (λ k. is_key n (f k)) within
    (loops_are_sound steps).many_innermost width latency in
    let floor = is.spent.floor_is ∙ where_map (is_key n) f (innermost_of steps) _ in
    let own = are.spent.own_is ∙ where_map (is_key n) f (innermost_of steps) _ in
    omega (arith, bound, floor, own)

-- how many items have a key doesn't depend on the items
many_with : {X Y : Type 0} (n : ℕ) (keys : List ℕ) (xs : List X) (ys : List Y) → length xs ≡ length ys
    → length (with_key n keys xs) ≡ length (with_key n keys ys)
many_with n [] xs ys same = refl
many_with n (k ∷ keys) [] [] same = refl
many_with n (k ∷ keys) [] (y ∷ ys) same = absurd (omega (arith, same))
many_with n (k ∷ keys) (x ∷ xs) [] same = absurd (omega (arith, same))
many_with n (k ∷ keys) (x ∷ xs) (y ∷ ys) same =
    let fewer = many_with n keys xs ys (omega (arith, same)) in
    elim (nat_eq k n) as (λ b. length (cond b (x ∷ with_key n keys xs) (with_key n keys xs))
    ≡ length (cond b (y ∷ with_key n keys ys) (with_key n keys ys))) [
      | true ↦ ap (λ (m : ℕ). suc m) fewer
      | false ↦ fewer
    ]

abbrev issues : Configuration → List Step → List ℕ
issues config steps = map (λ t. t.issue) (times_in config steps)

many_rounds : (config other : Configuration) (steps : List Step) (n : ℕ)
    → length (rounds_of_loop (issues config steps) (visits_of steps) (rounds_of steps) n)
    ≡ length (rounds_of_loop (issues other steps) (visits_of steps) (rounds_of steps) n)
many_rounds config other steps n = many_with n _ (round_cycles (issues config steps) (rounds_of steps))
    (round_cycles (issues other steps) (rounds_of steps))
    (length-map (rounds_of steps) _ ∙ sym (length-map (rounds_of steps) _))

-- the steps that pass a test have one extent
only_extent : (passes : ℕ → Bool) (addresses : List ℕ) (a b : Option Extent) → IsExtent passes addresses a
    → IsExtent passes addresses b → a ≡ b
only_extent passes addresses None None is are = refl
only_extent passes addresses None (Some b) none are =
    absurd (cc (none are.first.step are.first.before, are.first.is))
only_extent passes addresses (Some a) None is none = absurd (cc (none is.first.step is.first.before, is.first.is))
only_extent passes addresses (Some a) (Some b) is are =
    let i = is.first in
    let j = are.first in
    let first : a.first ≡ b.first =
    omega (arith, is.low j.step j.before j.is, j.at, are.low i.step i.before i.is, i.at) in
    let k = is.last in
    let l = are.last in
    let last : a.last ≡ b.last =
    omega (arith, is.high l.step l.before l.is, l.at, are.high k.step k.before k.is, k.at) in
    let with_first : ℕ → Option Extent = λ n. Some (record { first = n; last = a.last }) in
    let with_last : ℕ → Option Extent = λ n. Some (record { first = b.first; last = n }) in
    ap with_first first ∙ ap with_last last

pub loops_are_the_programs : LoopsAreThePrograms
loops_are_the_programs config other file steps n line others is are =
    let around : is.around ≡ are.around = is.place.around_is ∙ sym are.place.around_is in
    let head : line.sums.head ≡ others.sums.head = is.place.head_is ∙ sym are.place.head_is in
    let entered : line.sums.entered ≡ others.sums.entered =
    is.entered ∙ ap (λ (xs : List (Option ℕ)). length xs) around ∙ sym are.entered in
    let many : is.many ≡ are.many =
    is.turn.many_are ∙ many_rounds config other steps n ∙ sym are.turn.many_are in
    record {
      head = head;
      extent = only_extent (is_in_visit_of (loops_of (visits_of steps)) (map (λ v. v.within) (visits_of steps))
          (here_of steps) n) (map pc_of steps) line.sums.extent others.sums.extent is.place.extent_is
          are.place.extent_is;
      function = is.place.function_is ∙ ap (λ (a : ℕ). function_at (symbols_of file) a) head
          ∙ sym are.place.function_is;
      around = is.around_is ∙ ap (λ (xs : List (Option ℕ)). around_of xs) around ∙ sym are.around_is;
      entered = entered;
      iterations = omega (arith, is.iterations, are.iterations, entered, many);
      steps = is.spent.many_is ∙ sym are.spent.many_is;
    }

pub floors_are_within_the_runs : FloorsAreWithinTheRuns
floors_are_within_the_runs config steps total within is =
    let turned = sum_reverse (floor_cycles (latency_of config) config.width (reverse steps)
    (reverse (innermost_of steps))) in
    let all = floor_cycles_add_up (latency_of config) config.width (reverse steps) (reverse (innermost_of steps))
    (width_low config within) in
    omega (arith, is.floor, turned, all)

pub free_runs_are_least : FreeRunsAreLeast
free_runs_are_least config other steps total others good within is are free narrow slow =
    let at_floor = free_is_floor config steps good free in
    let low = floor_is_bound other (latency_of config) config.width steps within narrow (λ unit. inl (slow unit)) in
    omega (arith, is.cycles, are.cycles, at_floor, low)
