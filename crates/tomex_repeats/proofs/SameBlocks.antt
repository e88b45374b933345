-- Blocks of one number are the same to the recurrence, after any histories of the steps before them.
use Rattle.std.proofs.Common.{ℕ, zero, suc, ◌+◌, ◌-◌, ◌<◌, ◌≤◌, ◌≡◌, ◌∙◌, arith, refl, sym, ap, Bool, true, false}
use Rattle.std.proofs.Common.{List, [], ◌∷◌, ◌++◌, All, drop, get_or, length, map, reverse, take}
use Rattle.std.specs.List.{Contains, filter}
use Rattle.std.proofs.lemmas.List.{append-nil, drop_more, get_or-map, length-map, map-append, reverse-append}
use Rattle.std.proofs.lemmas.List.{take-map, take_more}
use Rattle.std.proofs.lemmas.List.Elements.{All-cons, All-contains, All-nil, filter-append}
use Rattle.tomex_rvexec.proofs.Fields.{bytes_of_memory}
use Rattle.tomex_rvexec.specs.declared.step.Step.{Step}
use Rattle.tomex_config.specs.Configuration.{Configuration}
use Rattle.tomex_timing.proofs.Programs.{addi}
use Rattle.tomex_timing.specs.Ahead.{one}
use Rattle.tomex_timing.specs.History.{is_memory}
use Rattle.tomex_timing.specs.Recent.{AreFacts, facts_of}
use Rattle.tomex_timing.specs.declared.recent.Facts.{Facts}
use Rattle.tomex_timing.specs.declared.times.Done.{Done}
use Rattle.tomex_alike.proofs.Same.{step_from}
use Rattle.tomex_alike.specs.Alike.{IsSameStep, conflicts_with}
use Rattle.tomex_alike.specs.Laws.{AreSameSteps, next}
use Rattle.tomex_repeats.specs.declared.blocks.Block.{Block}
use Rattle.tomex_repeats.specs.Blocks.{AreBlocks, AreInARow, AreLike, AreSame, AreSameBlocks, Blocks, conflicts_back}
use Rattle.tomex_repeats.specs.Blocks.{do_conflict, is_access, window_at}
use Rattle.tomex_repeats.specs.Laws.{BlocksAreTheSame, LeadsTo}
use Rattle.tomex_repeats.proofs.Alike.{window_more, window_none}

-- a load or store touches bytes, and nothing else does
pub is_access_is : (s : Step) → is_access (facts_of s) ≡ is_memory s
is_access_is s = bytes_of_memory s

-- which access of a history is i accesses back
abbrev IsSeen : List Done → Step → ℕ → Type 0
IsSeen h s i = conflicts_with h s i
    ≡ get_or (map (λ a. do_conflict a (facts_of s)) (filter is_access (map facts_of (map (λ d. d.step) h)))) i false

seen_first : (d : Done) (older : List Done) (s : Step) (b : Bool) → is_memory d.step ≡ b → IsSeen older s zero
    → IsSeen (d ∷ older) s zero
seen_first d older s true e so = rw (is_access_is d.step, e) refl
seen_first d older s false e so = rw (is_access_is d.step, e) so

seen_next : (d : Done) (older : List Done) (s : Step) (i : ℕ) (b : Bool) → is_memory d.step ≡ b → IsSeen older s i
    → IsSeen older s (suc i) → IsSeen (d ∷ older) s (suc i)
seen_next d older s i true e one_back so = rw (is_access_is d.step, e) one_back
seen_next d older s i false e one_back so = rw (is_access_is d.step, e) so

conflict_seen : (h : List Done) (s : Step) (i : ℕ) → IsSeen h s i
conflict_seen [] s i = refl
conflict_seen (d ∷ older) s zero = seen_first d older s (is_memory d.step) refl (conflict_seen older s zero)
conflict_seen (d ∷ older) s (suc i) =
    seen_next d older s i (is_memory d.step) refl (conflict_seen older s i) (conflict_seen older s (suc i))

map_reverse : {X Y : Type 0} (f : X → Y) (xs : List X) → map f (reverse xs) ≡ reverse (map f xs)
map_reverse f [] = refl
map_reverse f (x ∷ xs) =
    ap (map f) (reverse-append (x ∷ []) xs) ∙ map-append f (reverse xs) (x ∷ [])
    ∙ ap (λ ys. ys ++ (f x ∷ [])) (map_reverse f xs)
    ∙ sym (reverse-append (f x ∷ []) (map f xs))

filter_reverse : {X : Type 0} (p : X → Bool) (xs : List X) → filter p (reverse xs) ≡ reverse (filter p xs)
filter_reverse p [] = refl
filter_reverse p (x ∷ xs) = ap (filter p) (reverse-append (x ∷ []) xs) ∙ filter-append p (reverse xs) (x ∷ [])
    ∙ ap (λ ys. ys ++ filter p (x ∷ [])) (filter_reverse p xs) ∙ at (p x) refl
  where
    at : (b : Bool) → p x ≡ b → reverse (filter p xs) ++ filter p (x ∷ []) ≡ reverse (filter p (x ∷ xs))
    at true e = rw e (sym (reverse-append (x ∷ []) (filter p xs)))
    at false e = rw e (append-nil (reverse (filter p xs)))

module _ (steps : List Step) (facts : List Facts) (are : AreFacts steps facts) where
  -- the accesses before a place are those of each history that leads to it
  conflict_back : (p : ℕ) (h : List Done) (s : Step) (i : ℕ) → LeadsTo steps p h
      → conflicts_with h s i ≡ conflicts_back facts p (facts_of s) i
  conflict_back p h s i there =
      let e : map facts_of (map (λ d. d.step) h) ≡ reverse (take p facts) =
      ap (map facts_of) there.are ∙ map_reverse facts_of (take p steps)
      ∙ ap reverse (sym (take-map facts_of p steps) ∙ ap (take p) (sym are.are)) in
      conflict_seen h s i ∙ rw (e, filter_reverse is_access (take p facts)) refl

  -- a step's facts
  facts_there : (p : ℕ) (s : Step) (z : Facts) → p < length steps → get_or facts p z ≡ facts_of (get_or steps p s)
  facts_there p s z l = ap (λ fs. get_or fs p z) are.are ∙ get_or-map facts_of steps p s z l

  leads_on : (config : Configuration) (p : ℕ) (h : List Done) (z : Step) → p < length steps → LeadsTo steps p h
      → LeadsTo steps (p + 1) (next config h (get_or steps p z))
  leads_on config p h z l there = record {
    are = ap (λ xs. get_or steps p z ∷ xs) there.are ∙ sym (ap reverse (take_more steps p z l)
        ∙ reverse-append (take p steps) (get_or steps p z ∷ []));
  }

  any : Step
  any = addi 0 0 0 0 0

  module _ (config : Configuration) (p q n : ℕ) (same : AreSame facts p q n) (l : p + n ≤ length steps)
      (l' : q + n ≤ length steps) where
    -- a step of the blocks, after any histories that lead to it
    pub step_same : (k w i j : ℕ) (g h : List Done) (z : Step) → k < n → i ≡ p + k → j ≡ q + k
        → w ≡ window_at facts p (p + k) → LeadsTo steps i g → LeadsTo steps j h
        → IsSameStep w g h (get_or steps i z) (get_or steps j z)
    step_same k w i j g h z m at_i at_j at_w to_i to_j =
        let x = get_or steps i z in
        let y = get_or steps j z in
        let f = facts_of z in
        let fx : get_or facts (p + k) f ≡ facts_of x = rw (sym at_i) (facts_there i z f (omega arith)) in
        let fy : get_or facts (q + k) f ≡ facts_of y = rw (sym at_j) (facts_there j z f (omega arith)) in
        let like : AreLike (facts_of x) (facts_of y) = rw (fx, fy) at (same.steps k f m) in
        let conflict = λ (a : ℕ) (b : a < w). let c : conflicts_back facts (p + k) (facts_of x) a
        ≡ conflicts_back facts (q + k) (facts_of y) a = rw (fx, fy) at (same.conflicts k a f m (omega arith)) in
        ap (λ t. conflicts_back facts t (facts_of x) a) at_i ∙ c
        ∙ sym (ap (λ t. conflicts_back facts t (facts_of y) a) at_j) in
        step_from w g h x y like.rest
        (λ a b. conflict_back i g x a to_i ∙ conflict a b ∙ sym (conflict_back j h y a to_j))

    same_from : (m k w i j : ℕ) (g h : List Done) → k + m ≡ n → i ≡ p + k → j ≡ q + k → w ≡ window_at facts p (p + k)
        → LeadsTo steps i g → LeadsTo steps j h
        → AreSameSteps config w g h (take m (drop i steps)) (take m (drop j steps))
    same_from zero k w i j g h e at_i at_j at_w to_i to_j = tt
    same_from (suc m) k w i j g h e at_i at_j at_w to_i to_j =
        let x = get_or steps i any in
        let z = facts_of any in
        let fx : get_or facts (p + k) z ≡ facts_of x = rw (sym at_i) (facts_there i any z (omega arith)) in
        let long : length facts ≡ length steps = ap length are.are ∙ length-map steps facts_of in
        let wider : w + one (is_memory x) ≡ window_at facts p (p + (k + 1)) =
        rw (window_more facts p k z (omega arith), fx, is_access_is x, at_w) refl in
        rw (drop_more steps i any (omega arith), drop_more steps j any (omega arith)) (
          step_same k w i j g h any (omega arith) at_i at_j at_w to_i to_j,
          same_from m (k + 1) (w + one (is_memory x)) (i + 1) (j + 1) (next config g x)
              (next config h (get_or steps j any)) (omega arith) (omega arith) (omega arith) wider
              (leads_on config i g any (omega arith) to_i) (leads_on config j h any (omega arith) to_j),
        )

    pub same_steps : (g h : List Done) → LeadsTo steps p g → LeadsTo steps q h
        → AreSameSteps config 4 g h (take n (drop p steps)) (take n (drop q steps))
    same_steps g h to_p to_q =
        let e : p + 0 ≡ p = omega arith in
        same_from n 0 4 p q g h (omega arith) (omega arith) (omega arith) (rw e (sym (window_none facts p))) to_p to_q

-- each block of a row is within it
pub row_within : (from : ℕ) (blocks : List Block) (to : ℕ) → AreInARow from blocks to
    → (from ≤ to) × All (λ b. (b.first < b.end) × (b.end ≤ to)) blocks
row_within from [] to row = (omega arith, All-nil (λ b. (b.first < b.end) × (b.end ≤ to)))
row_within from (b ∷ blocks) to row =
    let rest = row_within b.end blocks to row.3 in
    (omega arith, All-cons (λ b. (b.first < b.end) × (b.end ≤ to)) b blocks (row.1, rest.0) rest.1)

-- what is known of two blocks of one number
pub record ArePair (steps : List Step) (facts : List Facts) (a b : Block) : Type 0 where
  pub same : AreSameBlocks facts a b
  pub first : a.first + (a.end - a.first) ≤ length steps
  pub second : b.first + (a.end - a.first) ≤ length steps

pub pair_of : (steps : List Step) (facts : List Facts) (run : Blocks) (a b : Block) → AreFacts steps facts
    → AreBlocks facts run → Contains run.blocks a → Contains run.blocks b → a.number ≡ b.number
    → ArePair steps facts a b
pair_of steps facts run a b are blocks in_a in_b e =
    let long : length facts ≡ length steps = ap length are.are ∙ length-map steps facts_of in
    let within = (row_within 0 run.blocks (length facts) blocks.row).1 in
    let P : Block → Type 0 = λ b. (b.first < b.end) × (b.end ≤ length facts) in
    let at_a = All-contains P run.blocks a within in_a in
    let at_b = All-contains P run.blocks b within in_b in
    let all = All-contains (λ c. All (λ d. c.number ≡ d.number → AreSameBlocks facts c d) run.blocks) run.blocks a
    blocks.same in_a in
    let same = All-contains (λ d. a.number ≡ d.number → AreSameBlocks facts a d) run.blocks b all in_b e in
    record {
      same = same;
      first = omega (arith, at_a.0, at_a.1, long);
      second = omega (arith, same.long, at_b.0, at_b.1, long);
    }

-- blocks of one number, after any histories that lead to them
pub blocks_same : BlocksAreTheSame
blocks_same config steps facts run g h a b are blocks in_a in_b e to_a to_b =
    let pair = pair_of steps facts run a b are blocks in_a in_b e in
    rw (sym pair.same.long) (same_steps steps facts are config a.first b.first (a.end - a.first) pair.same.same
    pair.first pair.second g h to_a to_b)
