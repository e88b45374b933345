-- Links that follow each other from the last one back do so from the first one on; their cycles add up.
use Rattle.std.proofs.Common.{ℕ, ◌+◌, ◌-◌, ◌<◌, ◌≤◌, ◌≡◌, ◌&&◌, Bool, true, arith, refl, subst, inl, inr}
use Rattle.std.proofs.Common.{List, [], ◌∷◌, ◌++◌, length, reverse, sum_by}
use Rattle.std.specs.List.{list_all}
use Rattle.std.proofs.lemmas.Bool.{and_from, and_parts, cases_Bool}
use Rattle.std.proofs.lemmas.List.{reverse-append}
use Rattle.std.proofs.lemmas.List.Folds.{list_all-append}
use Rattle.std.proofs.lemmas.List.Sums.{sum_by-cons}
use Rattle.tomex_config.specs.Configuration.{Configuration}
use Rattle.tomex_timing.specs.declared.times.Done.{Done}
use Rattle.tomex_timing.specs.History.{greatest_end}
use Rattle.tomex_path.specs.declared.event.Holder.{Holder}
use Rattle.tomex_path.specs.declared.event.Holder.TheVariants.{Last}
use Rattle.tomex_path.specs.declared.link.Link.{Link}
use Rattle.tomex_path.specs.Holds.{passes}
use Rattle.tomex_path.specs.Laws.{IsChain, PathAddsUp, PathRises, StepsRise, cycles_of}
use Rattle.tomex_path.specs.Path.{hold_by, links, path_of}
use Rattle.tomex_path.proofs.Whole.{IsLinked, path_linked}

turn_more : (l : Link) (ls : List Link) → reverse (l ∷ ls) ≡ reverse ls ++ (l ∷ [])
turn_more l ls = reverse-append (l ∷ []) ls

chain_more : (ls : List Link) (from : ℕ) (l : Link) → IsChain from (l.from - 1) ls → 0 < l.from → l.from ≤ l.to
    → IsChain from l.to (ls ++ (l ∷ []))
chain_more [] from l c low order = (omega arith, order, refl)
chain_more (k ∷ ls) from l c low order = (c.0, c.1, chain_more ls (k.to + 1) l c.2 low order)

turned : (ls : List Link) (n : ℕ) → IsLinked n ls → IsChain 1 n (reverse ls)
turned [] n c = omega arith
turned (l ∷ ls) n c =
    subst (λ m. IsChain 1 m (reverse (l ∷ ls))) c.0
    (rw (turn_more l ls) (chain_more (reverse ls) 1 l (turned ls (l.from - 1) c.3) c.1 c.2))

-- the cycles of a chain add up
cycles_add : (ls : List Link) (from to : ℕ) → IsChain from to ls → sum_by cycles_of ls + from ≡ to + 1
cycles_add [] from to c = omega arith
cycles_add (l ∷ ls) from to c =
    let rest : sum_by cycles_of ls + (l.to + 1) ≡ to + 1 = cycles_add ls (l.to + 1) to c.2 in
    let first : l.from ≡ from = c.0 in
    let order : l.from ≤ l.to = c.1 in
    rw sum_by-cons (omega arith)

pub path_adds_up : PathAddsUp
path_adds_up config h good timed =
    let whole : IsChain 1 (greatest_end h) (reverse (links config Last h)) =
    turned (links config Last h) (greatest_end h) (path_linked config good h timed) in
    let sum = cycles_add (reverse (links config Last h)) 1 (greatest_end h) whole in
    (whole, omega arith)

-- the steps of the links from the last one back are smaller numbers
abbrev StepsFall : ℕ → List Link → Type 0
StepsFall n [] = Unit {0}
StepsFall n (l ∷ ls) = (0 < l.step) × (l.step < n) × StepsFall l.step ls

steps_fall : (config : Configuration) (by : Holder) (h : List Done) (n : ℕ) → length h < n
    → StepsFall n (links config by h)
steps_fall config by [] n l = tt
steps_fall config by (d ∷ older) n l = elim (cases_Bool (passes by older d)) [
  | inl first ↦
      let k = hold_by config by older d in
      rw first (omega arith, omega arith, steps_fall config k.by older (length older + 1) (omega arith))
  | inr other ↦ rw other (steps_fall config by older n (omega arith))
]

-- steps rise from one after m on, and stay below n
abbrev pub RiseTo : ℕ → ℕ → List Link → Type 0
RiseTo m n [] = m < n
RiseTo m n (l ∷ ls) = (m < l.step) × RiseTo l.step n ls

rise_more : (ls : List Link) (m n : ℕ) (l : Link) → RiseTo m l.step ls → l.step < n → RiseTo m n (ls ++ (l ∷ []))
rise_more [] m n l c low = (c, low)
rise_more (k ∷ ls) m n l c low = (c.0, rise_more ls k.step n l c.1 low)

rise_turned : (ls : List Link) (n : ℕ) → 0 < n → StepsFall n ls → RiseTo 0 n (reverse ls)
rise_turned [] n low c = low
rise_turned (l ∷ ls) n low c =
    rw (turn_more l ls) (rise_more (reverse ls) 0 n l (rise_turned ls l.step c.0 c.2) c.1)

steps_rise : (ls : List Link) (m n : ℕ) → RiseTo m n ls → StepsRise m ls
steps_rise [] m n c = tt
steps_rise (l ∷ ls) m n c = (c.0, steps_rise ls l.step n c.1)

pub path_rises_to : (config : Configuration) (h : List Done) → RiseTo 0 (length h + 1) (path_of config h)
path_rises_to config h =
    rise_turned (links config Last h) (length h + 1) (omega arith)
    (steps_fall config Last h (length h + 1) (omega arith))

pub path_rises : PathRises
path_rises config h = steps_rise (path_of config h) 0 (length h + 1) (path_rises_to config h)

-- what holds of each link from the first one on holds of each from the last one back
pub all_turned : (p : Link → Bool) (ls : List Link) → list_all p (reverse ls) ≡ true → list_all p ls ≡ true
all_turned p [] e = refl
all_turned p (l ∷ ls) e =
    let f : list_all p (reverse ls ++ (l ∷ [])) ≡ true = rw (reverse-append (l ∷ []) ls) at e in
    let g : (list_all p (reverse ls) && list_all p (l ∷ [])) ≡ true =
    rw (list_all-append p (reverse ls) (l ∷ [])) at f in
    let two = and_parts (list_all p (reverse ls)) (list_all p (l ∷ [])) g in
    and_from (p l) (list_all p ls) (and_parts (p l) true two.1).0 (all_turned p ls two.0)
