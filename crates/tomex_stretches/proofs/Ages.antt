-- Times in program order, and the same steps from the youngest on.
use Rattle.std.proofs.Common.{ℕ, ◌+◌, ◌-◌, ◌<◌, ◌≡◌, ◌∙◌, arith, ap}
use Rattle.std.proofs.Common.{List, [], ◌∷◌, ◌++◌, length, map, reverse, drop, get_or}
use Rattle.std.proofs.lemmas.List.{append_assoc, drop_more, get_or-map, get_or-reverse, length-map, length-reverse}
use Rattle.tomex_timing.specs.declared.times.Done.{Done}
use Rattle.tomex_timing.specs.declared.times.Times.{Times}
use Rattle.tomex_timing.specs.History.{greatest_end}
use Rattle.tomex_timing.specs.Search.{total_of}
use Rattle.tomex_timing.proofs.Histories.{total_of-history}
use Rattle.tomex_stretches.specs.Cycles.{cycles_before}

pub total_of_times : (times : List Times) (h : List Done) → times ≡ map (λ d. d.at) (reverse h)
    → total_of times ≡ greatest_end h
total_of_times times h are = ap total_of are ∙ total_of-history h

-- the time at a place, counted from the end
time_at : (times : List Times) (h : List Done) (passed : ℕ) (e : Times) (d : Done) → times ≡ map (λ d. d.at) (reverse h)
    → passed < length times → get_or times (length times - 1 - passed) e ≡ (get_or h passed d).at
time_at times h passed e d are l =
    let count : length times ≡ length h =
    ap (λ (x : List Times). length x) are ∙ (length-map (reverse h) (λ d. d.at) ∙ length-reverse h) in
    let place : length h - 1 - (length times - 1 - passed) ≡ passed = omega (arith, count, l) in
    let low : length times - 1 - passed < length h = omega (arith, count, l) in
    ap (λ (x : List Times). get_or x (length times - 1 - passed) e) are
    ∙ get_or-map (λ (d : Done). d.at) (reverse h) (length times - 1 - passed) d e
    (omega (arith, length-reverse h, low))
    ∙ ap (λ (x : Done). x.at) (get_or-reverse h (length times - 1 - passed) d low)
    ∙ ap (λ (n : ℕ). (get_or h n d).at) place

-- one more step
pub cycles_next : (h : List Done) (passed next : ℕ) (cycles new : List ℕ) (own : List ℕ) (times : List Times)
    (e : Times) → times ≡ map (λ d. d.at) (reverse h) → passed < length times
    → cycles ++ cycles_before next (drop passed h) ≡ own
    → new ≡ cycles ++ ((next - (get_or times (length times - 1 - passed) e).issue) ∷ [])
    → new ++ cycles_before (get_or times (length times - 1 - passed) e).issue (drop (passed + 1) h) ≡ own
cycles_next [] passed next cycles new own times e are l before more =
    let none : length times ≡ 0 = ap (λ (x : List Times). length x) are in absurd (omega (arith, none, l))
cycles_next (d ∷ h) passed next cycles new own times e are l before more =
    let count : length times ≡ length (d ∷ h) =
    ap (λ (x : List Times). length x) are ∙ (length-map (reverse (d ∷ h)) (λ d. d.at) ∙ length-reverse (d ∷ h)) in
    let at = time_at times (d ∷ h) passed e d are l in
    let issue : (get_or times (length times - 1 - passed) e).issue ≡ (get_or (d ∷ h) passed d).at.issue =
    ap (λ (x : Times). x.issue) at in
    let step = drop_more (d ∷ h) passed d (omega (arith, count, l)) in
    let was = rw step at before in
    ap (λ (x : List ℕ). x ++ cycles_before (get_or times (length times - 1 - passed) e).issue
    (drop (passed + 1) (d ∷ h))) more
    ∙ append_assoc cycles ((next - (get_or times (length times - 1 - passed) e).issue) ∷ []) _
    ∙ ap (λ (n : ℕ). cycles ++ ((next - n) ∷ cycles_before n (drop (passed + 1) (d ∷ h)))) issue
    ∙ was
