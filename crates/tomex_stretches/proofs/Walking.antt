-- One more step of a run on its stretch's floor, and the last one.
use Rattle.std.proofs.Common.{ℕ, ◌+◌, ◌-◌, ◌<◌, ◌≤◌, ◌≡◌, ◌∙◌, false, arith, refl, ap, subst, sym, inl, inr}
use Rattle.std.proofs.Common.{List, [], ◌∷◌, ◌++◌, Option, length, reverse, take, set, get_or}
use Rattle.std.specs.Prelude.{if◌then◌else◌, slice_index}
use Rattle.std.specs.HashMap.{HashMap}
use Rattle.std.proofs.lemmas.Bool.{cases_Bool}
use Rattle.std.proofs.lemmas.List.{length-reverse, reverse-append, set_at, set_past, take_more}
use Rattle.tomex_rvdec.specs.declared.pool.UnitId.{UnitId}
use Rattle.tomex_rvexec.specs.declared.step.Step.{Step}
use Rattle.tomex_timing.specs.History.{last_issue}
use Rattle.tomex_floor.specs.Floor.{floor_issue, floors_of}
use Rattle.tomex_stretches.specs.Cycles.{cycles_left, cycles_on, floor_cycles, floors_before, is_same, stretch_of}
use Rattle.tomex_stretches.specs.Kept.{AreTouched, AreTouchedBy, IsLatest, IsLatestBy}
use Rattle.tomex_stretches.specs.declared.accesses.Finishes.{Finishes}
use Rattle.tomex_stretches.specs.declared.latest.Latest.{Latest}
use Rattle.tomex_stretches.proofs.Cycles.{low_issue, low_next, same_is, same_self}
use Rattle.tomex_stretches.proofs.Turns.{begun, begun_by, none_touched}

pub rev_more : {X : Type 0} (xs : List X) (i : ℕ) (d : X) → i < length xs
    → reverse (take (i + 1) xs) ≡ get_or xs i d ∷ reverse (take i xs)
rev_more xs i d l = ap (λ ys. reverse ys) (take_more xs i d l) ∙ reverse-append (take i xs) (get_or xs i d ∷ [])

pub rev_cons : {X : Type 0} (x : X) (xs : List X) → reverse (x ∷ xs) ≡ reverse xs ++ (x ∷ [])
rev_cons x xs = reverse-append (x ∷ []) xs

-- the key of the latest step, if there is one
abbrev pub IsBefore : Option ℕ → List (Option ℕ) → Type 0
IsBefore before keys = (key : Option ℕ) (older : List (Option ℕ)) → keys ≡ key ∷ older → before ≡ key

-- a key that isn't that of the latest step begins a stretch
none_before : (before key : Option ℕ) (steps : List Step) (keys : List (Option ℕ)) → IsBefore before keys
    → is_same before key ≡ false → stretch_of key steps keys ≡ []
none_before before key [] keys is other = refl
none_before before key (s ∷ steps) [] is other = refl
none_before before key (s ∷ steps) (k ∷ keys) is other =
    let same : before ≡ k = is k keys refl in
    let differs : is_same k key ≡ false = subst (λ (x : Option ℕ). is_same x key ≡ false) same other in
    rw differs refl

abbrev turned : Option ℕ → Option ℕ → Latest → Latest
turned before key latest = if is_same before key then latest else record latest { base = latest.last }

pub turned_latest : (latency : UnitId → ℕ) (w : ℕ) (before key : Option ℕ) (steps : List Step) (keys : List (Option ℕ))
    (latest new : Latest) → IsBefore before keys → IsLatestBy latest.last latest
    → IsLatest (floors_of latency w (stretch_of before steps keys)) latest → new ≡ turned before key latest
    → IsLatest (floors_of latency w (stretch_of key steps keys)) new
turned_latest latency w before key steps keys latest new is by shows so = elim (cases_Bool (is_same before key)) [
  | inl e ↦
      let same : new ≡ latest = rw e at so in
      rw same (subst (λ (x : Option ℕ). IsLatest (floors_of latency w (stretch_of x steps keys)) latest)
      (same_is before key e) shows)
  | inr e ↦
      let same : new ≡ record latest { base = latest.last } = rw e at so in
      rw (same, none_before before key steps keys is e) (begun latest by)
]

pub turned_touched : {S : Type 0} (latency : UnitId → ℕ) (w : ℕ) (before key : Option ℕ) (steps : List Step)
    (keys : List (Option ℕ)) (latest new : Latest) (m : HashMap ℕ Finishes S) → IsBefore before keys
    → AreTouchedBy latest.last m
    → AreTouched latest.base (floors_of latency w (stretch_of before steps keys)) m → new ≡ turned before key latest
    → AreTouched new.base (floors_of latency w (stretch_of key steps keys)) m
turned_touched latency w before key steps keys latest new m is by shows so = elim (cases_Bool (is_same before key)) [
  | inl e ↦
      let same : new ≡ latest = rw e at so in
      rw same (subst (λ (x : Option ℕ). AreTouched latest.base (floors_of latency w (stretch_of x steps keys)) m)
      (same_is before key e) shows)
  | inr e ↦
      let same : new ≡ record latest { base = latest.last } = rw e at so in
      rw (same, none_before before key steps keys is e) (none_touched latest.last m by)
]

pub turned_by : (before key : Option ℕ) (latest new : Latest) → IsLatestBy latest.last latest
    → new ≡ turned before key latest → IsLatestBy new.last new
turned_by before key latest new by so = elim (cases_Bool (is_same before key)) [
  | inl e ↦ let same : new ≡ latest = rw e at so in rw same by
  | inr e ↦ let same : new ≡ record latest { base = latest.last } = rw e at so in rw same (begun_by latest by)
]

pub turned_last : (before key : Option ℕ) (latest new : Latest) → new ≡ turned before key latest
    → new.last ≡ latest.last
turned_last before key latest new so = elim (cases_Bool (is_same before key)) [
  | inl e ↦ let same : new ≡ latest = rw e at so in ap (λ (x : Latest). x.last) same
  | inr e ↦
      let same : new ≡ record latest { base = latest.last } = rw e at so in ap (λ (x : Latest). x.last) same
]

-- the stretch with one more step
pub stretch_more : (key : Option ℕ) (x : Step) (steps : List Step) (keys : List (Option ℕ))
    → stretch_of key (x ∷ steps) (key ∷ keys) ≡ x ∷ stretch_of key steps keys
stretch_more key x steps keys = rw (same_self key) refl

-- a step's issue, counted on, and that of the next one
pub issue_low : (latency : UnitId → ℕ) (w : ℕ) (x : Step) (xs : List Step) (latest : Latest)
    → IsLatest (floors_of latency w (x ∷ xs)) latest
    → slice_index latest.issues 0 ≡ latest.base + last_issue (floors_of latency w (x ∷ xs))
issue_low latency w x xs latest is =
    let i = is.issues 0 (omega arith) in
    let f = low_issue latency w x xs in
    omega (arith, i, f)

pub next_after : (latency : UnitId → ℕ) (w : ℕ) (x : Step) (xs : List Step) (latest : Latest) (next : ℕ)
    → IsLatest (floors_of latency w (x ∷ xs)) latest
    → next ≡ latest.base + floor_issue w (floors_of latency w (x ∷ xs))
    → (slice_index latest.issues 0 ≤ next) × (next - slice_index latest.issues 0 ≡ cycles_on latency w (x ∷ xs))
next_after latency w x xs latest next is so =
    let i = issue_low latency w x xs latest is in
    let n = low_next latency w x xs in
    (omega (arith, i, n, so), omega (arith, i, n, so))

pub cycles_more : (latency : UnitId → ℕ) (w : ℕ) (key : Option ℕ) (x : Step) (steps : List Step)
    (keys : List (Option ℕ)) (cycles new : List ℕ) (n : ℕ) → cycles ≡ reverse (floors_before latency w steps keys)
    → new ≡ cycles ++ (n ∷ []) → n ≡ cycles_on latency w (x ∷ stretch_of key steps keys)
    → new ≡ reverse (floors_before latency w (x ∷ steps) (key ∷ keys))
cycles_more latency w key x steps keys cycles new n are so is =
    so ∙ ap (λ (y : List ℕ). y ++ (n ∷ [])) are
    ∙ ap (λ (m : ℕ). reverse (floors_before latency w steps keys) ++ (m ∷ [])) is
    ∙ sym (rev_cons (cycles_on latency w (x ∷ stretch_of key steps keys)) (floors_before latency w steps keys))

-- the last step has all cycles that are left

set_last : (a b : ℕ) (xs : List ℕ) → set (reverse (a ∷ xs)) (length (reverse (a ∷ xs)) - 1) b ≡ reverse (b ∷ xs)
set_last a b xs =
    let n : length (reverse xs) ≡ length (reverse (a ∷ xs)) - 1 =
    omega (arith, length-reverse xs, length-reverse (a ∷ xs)) in
    ap (λ (ys : List ℕ). set ys (length (reverse (a ∷ xs)) - 1) b) (rev_cons a xs)
    ∙ set_at (reverse xs) a [] b (length (reverse (a ∷ xs)) - 1) n ∙ sym (rev_cons b xs)

pub ended : (latency : UnitId → ℕ) (w : ℕ) (before : Option ℕ) (steps : List Step) (keys : List (Option ℕ))
    (latest : Latest) (cycles : List ℕ) (left : ℕ) → length steps ≡ length keys → IsBefore before keys
    → IsLatest (floors_of latency w (stretch_of before steps keys)) latest
    → slice_index latest.issues 0 ≤ latest.end → left ≡ latest.end - slice_index latest.issues 0 + 1
    → cycles ≡ reverse (floors_before latency w steps keys)
    → set cycles (length cycles - 1) left ≡ reverse (floor_cycles latency w steps keys)
ended latency w before [] keys latest cycles left count is shows order so are =
    rw are (set_past [] 0 left (omega arith))
ended latency w before (s ∷ steps) [] latest cycles left count is shows order so are = absurd (omega arith)
ended latency w before (s ∷ steps) (k ∷ keys) latest cycles left count is shows order so are =
    let same : before ≡ k = is k keys refl in
    let here : IsLatest (floors_of latency w (s ∷ stretch_of k steps keys)) latest =
    rw (stretch_more k s steps keys) at
    (subst (λ (x : Option ℕ). IsLatest (floors_of latency w (stretch_of x (s ∷ steps) (k ∷ keys))) latest) same
    shows) in
    let i = issue_low latency w s (stretch_of k steps keys) latest here in
    let f = low_issue latency w s (stretch_of k steps keys) in
    let e = here.end in
    let rest : left ≡ cycles_left latency w (s ∷ stretch_of k steps keys) = omega (arith, i, f, e, order, so) in
    rw (are, rest) (set_last (cycles_on latency w (s ∷ stretch_of k steps keys))
    (cycles_left latency w (s ∷ stretch_of k steps keys)) (floors_before latency w steps keys))
