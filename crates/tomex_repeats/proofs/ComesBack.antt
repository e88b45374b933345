-- A run that is in one state before two blocks of one number comes back.
use Rattle.std.proofs.Common.{ℕ, ◌+◌, ◌-◌, ◌≡◌, ◌∙◌, arith, refl, sym, ap, cond}
use Rattle.std.proofs.Common.{List, [], ◌∷◌, count_by, drop, map, reverse, take}
use Rattle.std.proofs.lemmas.List.{drop-map, take-map}
use Rattle.std.proofs.lemmas.List.Sums.{sum_by-cons}
use Rattle.tomex_rvexec.specs.declared.step.Step.{Step}
use Rattle.tomex_config.specs.Configuration.{Configuration}
use Rattle.tomex_timing.specs.Ahead.{one}
use Rattle.tomex_timing.specs.History.{is_memory}
use Rattle.tomex_timing.specs.Recent.{AreFacts, facts_of}
use Rattle.tomex_timing.specs.Search.{timed_of}
use Rattle.tomex_timing.specs.declared.recent.Facts.{Facts}
use Rattle.tomex_alike.specs.Laws.{history_to, window, window_to}
use Rattle.tomex_repeats.specs.Blocks.{is_access, window_at}
use Rattle.tomex_repeats.specs.Laws.{BlocksComeBack, LeadsTo}
use Rattle.tomex_repeats.proofs.SameBlocks.{is_access_is, pair_of, step_same}

-- a run's history up to a place leads to it
steps_timed : (config : Configuration) (ys : List Step) → map (λ d. d.step) (timed_of config ys) ≡ ys
steps_timed config [] = refl
steps_timed config (y ∷ ys) = ap (λ xs. y ∷ xs) (steps_timed config ys)

pub leads_there : (config : Configuration) (steps : List Step) (p : ℕ) → LeadsTo steps p (history_to config steps p)
leads_there config steps p = record { are = steps_timed config (reverse (take p steps)) }

-- the window grows by the accesses of a block
window_counts : (w : ℕ) (xs : List Step) → window w xs ≡ w + count_by is_access (map facts_of xs)
window_counts w [] = omega arith
window_counts w (x ∷ xs) =
    let f : Facts → ℕ = λ f. cond (is_access f) 1 0 in
    let more = sum_by-cons f (facts_of x) (map facts_of xs) in
    let e = is_access_is x in
    let one_more : cond (is_access (facts_of x)) 1 0 ≡ one (is_memory x) = rw e refl in
    window_counts (w + one (is_memory x)) xs ∙ rw (more, one_more) (omega arith)

window_there : (steps : List Step) (facts : List Facts) (p k : ℕ) → AreFacts steps facts
    → window_to 4 steps p k ≡ window_at facts p (p + k)
window_there steps facts p k are =
    let d : (p + k) - p ≡ k = omega arith in
    let e : map facts_of (take k (drop p steps)) ≡ take k (drop p facts) =
    sym (take-map facts_of k (drop p steps))
    ∙ ap (take k) (sym (drop-map facts_of p steps) ∙ ap (drop p) (sym are.are)) in
    window_counts 4 (take k (drop p steps)) ∙ rw (d, e) refl

pub blocks_come_back : BlocksComeBack
blocks_come_back config steps facts run a b are blocks in_a in_b e earlier alike =
    let pair = pair_of steps facts run a b are blocks in_a in_b e in
    record {
      earlier = earlier;
      there = pair.second;
      state = alike;
      same = λ k z l. step_same steps facts are config a.first b.first (a.end - a.first) pair.same.same pair.first
          pair.second k (window_to 4 steps a.first k) (a.first + k) (b.first + k)
          (history_to config steps (a.first + k)) (history_to config steps (b.first + k)) z l refl refl
          (window_there steps facts a.first k are)
          (leads_there config steps (a.first + k)) (leads_there config steps (b.first + k));
    }
