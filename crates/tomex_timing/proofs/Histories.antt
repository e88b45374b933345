-- A run's history grows by one step at a time, and its older steps stay.
use Rattle.std.proofs.Common.{ℕ, ◌+◌, ◌≤◌, ◌*◌, ◌<◌, ◌≡◌, ◌∙◌, arith, refl, List, [], ◌∷◌, ◌++◌, ap, sym, suc, max}
use Rattle.std.proofs.Common.{length, map, reverse, append_assoc, slice_index_or, take}
use Rattle.std.proofs.lemmas.List.{reverse-append, length-map, length-reverse, map-append, take_more, append-nil}
use Rattle.tomex_rvexec.specs.declared.step.Step.{Step}
use Rattle.tomex_config.specs.Configuration.{Configuration, IsWithinLimits}
use Rattle.tomex_timing.specs.declared.times.Done.{Done}
use Rattle.tomex_timing.specs.declared.times.Times.{Times}
use Rattle.tomex_timing.specs.History.{greatest_end}
use Rattle.tomex_timing.specs.Recurrence.{AreTimed}
use Rattle.tomex_timing.specs.Search.{times_of, timed_of, history, times_in, total_of}
use Rattle.tomex_timing.specs.Laws.{TotalIsGreatestEnd, YoungerChangeNothing}
use Rattle.tomex_timing.proofs.Bound.{total_bound}
use Rattle.tomex_timing.proofs.Search.{timed_is}

-- the whole history has the recurrence's times
pub are_timed : (config : Configuration) (xs : List Step) → IsWithinLimits config → AreTimed config (history config xs)
are_timed config xs good = timed_is config (reverse xs) good

pub history_more : (config : Configuration) (xs : List Step) (x : Step)
    → history config (xs ++ (x ∷ [])) ≡ record { step = x; at = times_of config (history config xs) x }
    ∷ history config xs
history_more config xs x = ap (timed_of config) (reverse-append xs (x ∷ []))

reverse_more : (d : Done) (h : List Done) → reverse (d ∷ h) ≡ reverse h ++ (d ∷ [])
reverse_more d h = reverse-append (d ∷ []) h

pub times_more : (config : Configuration) (xs : List Step) (x : Step)
    → times_in config (xs ++ (x ∷ [])) ≡ times_in config xs ++ (times_of config (history config xs) x ∷ [])
times_more config xs x =
    let d : Done = record { step = x; at = times_of config (history config xs) x } in
    rw (history_more config xs x, reverse_more d (history config xs))
    (map-append (λ d. d.at) (reverse (history config xs)) (d ∷ []))

pub younger_change_nothing : YoungerChangeNothing
younger_change_nothing config xs [] = ([], ap (times_in config) (append-nil xs) ∙ sym (append-nil (times_in config xs)))
younger_change_nothing config xs (y ∷ ys) =
    let rest = younger_change_nothing config (xs ++ (y ∷ [])) ys in
    let t : Times = times_of config (history config xs) y in (
      t ∷ rest.0,
      ap (times_in config) (sym (append_assoc xs (y ∷ []) ys)) ∙ (rest.1
          ∙ rw (times_more config xs y) (append_assoc (times_in config xs) (t ∷ []) rest.0)),
    )

total_push : (ts : List Times) (t : Times) → total_of (ts ++ (t ∷ [])) ≡ max t.end (total_of ts)
total_push [] t = refl
total_push (x ∷ ts) t = let e : total_of (ts ++ (t ∷ [])) ≡ max t.end (total_of ts) = total_push ts t in omega arith

-- the greatest end, in either order
pub total_of-history : (h : List Done) → total_of (map (λ d. d.at) (reverse h)) ≡ greatest_end h
total_of-history [] = refl
total_of-history (d ∷ h) =
    rw (reverse_more d h, map-append (λ (d : Done). d.at) (reverse h) (d ∷ []))
    (total_push (map (λ d. d.at) (reverse h)) d.at ∙ ap (λ k. max d.at.end k) (total_of-history h))

pub total_is : TotalIsGreatestEnd
total_is config xs = sym (total_of-history (history config xs))

length-timed_of : (config : Configuration) (ys : List Step) → length (timed_of config ys) ≡ length ys
length-timed_of config [] = refl
length-timed_of config (y ∷ ys) = ap suc (length-timed_of config ys)

pub length-history : (config : Configuration) (xs : List Step) → length (history config xs) ≡ length xs
length-history config xs = length-timed_of config (reverse xs) ∙ length-reverse xs

-- each step has its times
pub length-times_in : (config : Configuration) (xs : List Step) → length (times_in config xs) ≡ length xs
length-times_in config xs = length-map _ _ ∙ (length-reverse (history config xs) ∙ length-history config xs)

pub history_bound : (config : Configuration) (xs : List Step) → IsWithinLimits config
    → greatest_end (history config xs) ≤ 67 * length xs
history_bound config xs good =
    let a : greatest_end (history config xs) ≤ 67 * length (history config xs) =
    total_bound config (history config xs) good (are_timed config xs good) in
    let e : length (history config xs) ≡ length xs = length-history config xs in
    omega arith

pub times_bound : (config : Configuration) (xs : List Step) → IsWithinLimits config
    → total_of (times_in config xs) ≤ 67 * length xs
times_bound config xs good = rw (total_of-history (history config xs)) (history_bound config xs good)

pub total_more : (ts : List Times) (i : ℕ) (e : Times) → i < length ts
    → total_of (take (i + 1) ts) ≡ max (slice_index_or ts i e).end (total_of (take i ts))
total_more ts i e l = rw (take_more ts i e l) (total_push (take i ts) (slice_index_or ts i e))
