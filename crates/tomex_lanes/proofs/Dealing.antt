-- Which rows are dealt to which worker.
use Rattle.std.proofs.Common.{◌≡◌, ◌≢◌, ℕ, zero, suc, Bool, true, false, List, [], ◌∷◌, ◌++◌, sym, ap, ◌∙◌, subst, All}
use Rattle.std.proofs.Common.{Contains, ◌+◌, ◌-◌, ◌%◌, ◌<◌, ◌≤◌, ◌==◌, if◌then◌else◌, length, refl, arith, inl, inr}
use Rattle.std.proofs.Common.{get_or, slice_get, slice_set, Some}
use mathlib.Core.Logic.{dite}
use native.Mathlib.Decide.{ℕ_discrete}
use Rattle.std.specs.List.{flat_map}
use Rattle.std.specs.Prelude.{nat_lt}
use Rattle.std.proofs.lemmas.List.{append-nil, get_or_append_left, get_or-append_right, length-append, set-append_left}
use Rattle.std.proofs.lemmas.List.{set-append_right, set-get_or}
use Rattle.std.proofs.lemmas.Option.{get_or_from_slice_get, slice_get-get_or}
use Rattle.std.proofs.lemmas.Bool.{cases_Bool, cases_order, eq-eqb, ne_eqb, lt-ltb, le-ltb}
use Rattle.std.proofs.lemmas.Grind.{flat_map-append}
use Rattle.std.proofs.lemmas.List.Elements.{Contains-append_left, Contains-append_right, Contains-push, All-nil}
use Rattle.std.proofs.lemmas.List.Elements.{All-cons, All-append, All-weaker, All-push}
use Rattle.std.proofs.lemmas.Bool.Decides.{nat_tests}
use Rattle.tomex_lanes.specs.Rows.{rows_of}
use Rattle.tomex_lanes.specs.Lanes.{Dealt, AreBelow, deal, lane_of, with_other}

pub rows_of-here : (workers worker n : ℕ) → n % workers ≡ worker
    → rows_of workers worker (n + 1) ≡ rows_of workers worker n ++ n ∷ []
rows_of-here workers worker n is =
    let one : n + 1 ≡ suc n = omega arith in
    let test : ((n % workers) == worker) ≡ true = grind (arith, nat_tests) in
    ap (rows_of workers worker) one ∙ ap (λ b. rows_of workers worker n ++ (if b then n ∷ [] else [])) test

pub rows_of-else : (workers worker n : ℕ) → n % workers ≢ worker
    → rows_of workers worker (n + 1) ≡ rows_of workers worker n
rows_of-else workers worker n not =
    let one : n + 1 ≡ suc n = omega arith in
    let test : ((n % workers) == worker) ≡ false = grind (arith, nat_tests) in
    ap (rows_of workers worker) one
    ∙ (ap (λ b. rows_of workers worker n ++ (if b then n ∷ [] else [])) test
    ∙ append-nil (rows_of workers worker n))

-- each row below n is in the list of its worker
pub covers : (workers n row : ℕ) → row < n → Contains (rows_of workers (row % workers) n) row
covers workers zero row low = absurd (omega arith)
covers workers (suc n) row low =
    dite (ℕ_discrete row n)
    (λ (is : row ≡ n).
    let test : ((n % workers) == (row % workers)) ≡ true = let same : n % workers ≡ row % workers =
    ap (λ k. k % workers) (sym is) in grind (arith, nat_tests) in
    subst (λ l. Contains l row) (ap (λ b. rows_of workers (row % workers) n ++ (if b then n ∷ [] else [])) (sym test))
    (subst (λ k. Contains (rows_of workers (row % workers) n ++ k ∷ []) row) is
    (Contains-push (rows_of workers (row % workers) n) row)))
    (λ not. Contains-append_left (rows_of workers (row % workers) n) (if (n % workers) == (row % workers) then n
    ∷ [] else []) row (covers workers n row (omega (arith, not))))

one_or_none : (n : ℕ) (b : Bool) → AreBelow (suc n) (if b then n ∷ [] else [])
one_or_none n true = All-cons (λ r. r < suc n) n [] (omega arith) (All-nil (λ r. r < suc n))
one_or_none n false = All-nil (λ r. r < suc n)

pub rows_of-below : (workers worker n : ℕ) → AreBelow n (rows_of workers worker n)
rows_of-below workers worker zero = All-nil (λ r. r < 0)
rows_of-below workers worker (suc n) =
    All-append (λ r. r < suc n) (rows_of workers worker n) (if (n % workers) == worker then n ∷ [] else [])
    (All-weaker (λ r. r < n) (λ r. r < suc n) (λ r low. omega arith) (rows_of workers worker n)
    (rows_of-below workers worker n))
    (one_or_none n ((n % workers) == worker))

-- a row of the list of a worker below n
among : (workers count n worker row : ℕ) → worker < n → Contains (rows_of workers worker count) row
    → Contains (flat_map (λ (l : Dealt). l.rows) (deal workers count n)) row
among workers count zero worker row low has = absurd (omega arith)
among workers count (suc n) worker row low has =
    let lane : Dealt = lane_of workers n count (workers - 1) in
    let lists : Dealt → List ℕ = λ l. l.rows in
    subst (λ l. Contains l row) (sym (flat_map-append lists (deal workers count n) (lane ∷ [])))
    (dite (ℕ_discrete worker n)
    (λ (is : worker ≡ n).
    let here : Contains (rows_of workers n count) row = subst (λ k. Contains (rows_of workers k count) row) is has in
    Contains-append_right (flat_map lists (deal workers count n)) (flat_map lists (lane ∷ [])) row
    (Contains-append_left (rows_of workers n count) [] row here))
    (λ not. Contains-append_left (flat_map lists (deal workers count n)) (flat_map lists (lane ∷ [])) row
    (among workers count n worker row (omega (arith, not)) has)))

pub each_is_dealt : (workers count row : ℕ) → 1 ≤ workers → row < count
    → Contains (flat_map (λ (l : Dealt). l.rows) (deal workers count workers)) row
each_is_dealt workers count row some low = let rest : row % workers < workers = grind arith in
    among workers count workers (row % workers) row rest (covers workers count row low)

pub length-deal : (workers count n : ℕ) → length (deal workers count n) ≡ n
length-deal workers count zero = refl
length-deal workers count (suc n) = length-append (deal workers count n) _ ∙ (let e = length-deal workers count n in
    omega arith)

pub deal-counts : (workers count n : ℕ) → All (λ (l : Dealt). l.count ≡ count) (deal workers count n)
deal-counts workers count zero = All-nil (λ (l : Dealt). l.count ≡ count)
deal-counts workers count (suc n) =
    All-push (λ (l : Dealt). l.count ≡ count) (deal workers count n) (lane_of workers n count (workers - 1))
    (deal-counts workers count n) refl

-- Lanes that are connected one after another: each knows the lists of a number of others.

abbrev pub lanes_with : ℕ → ℕ → (ℕ → ℕ) → ℕ → List Dealt
lanes_with workers count known zero = []
lanes_with workers count known (suc n) = lanes_with workers count known n ++ lane_of workers n count (known n) ∷ []

pub length-lanes : (workers count : ℕ) (known : ℕ → ℕ) (n : ℕ) → length (lanes_with workers count known n) ≡ n
length-lanes workers count known zero = refl
length-lanes workers count known (suc n) = length-append (lanes_with workers count known n) _
    ∙ (let e = length-lanes workers count known n in omega arith)

pub lanes-counts : (workers count : ℕ) (known : ℕ → ℕ) (n : ℕ)
    → All (λ (l : Dealt). l.count ≡ count) (lanes_with workers count known n)
lanes-counts workers count known zero = All-nil (λ (l : Dealt). l.count ≡ count)
lanes-counts workers count known (suc n) =
    All-push (λ (l : Dealt). l.count ≡ count) (lanes_with workers count known n) (lane_of workers n count (known n))
    (lanes-counts workers count known n) refl

pub lanes-same : (workers count : ℕ) (f g : ℕ → ℕ) (n : ℕ) → ((i : ℕ) → i < n → f i ≡ g i)
    → lanes_with workers count f n ≡ lanes_with workers count g n
lanes-same workers count f g zero each = refl
lanes-same workers count f g (suc n) each =
    ap (λ ls. ls ++ lane_of workers n count (f n) ∷ []) (lanes-same workers count f g n (λ i l. each i (omega arith)))
    ∙ ap (λ k. lanes_with workers count g n ++ lane_of workers n count k ∷ []) (each n (omega arith))

pub lanes-all : (workers count n : ℕ) → lanes_with workers count (λ i. workers - 1) n ≡ deal workers count n
lanes-all workers count zero = refl
lanes-all workers count (suc n) =
    ap (λ ls. ls ++ lane_of workers n count (workers - 1) ∷ []) (lanes-all workers count n)

pub lane-at : (workers count : ℕ) (known : ℕ → ℕ) (n i : ℕ) → i < n → slice_get (lanes_with workers count known n) i
    ≡ Some (lane_of workers i count (known i))
lane-at workers count known zero i l = absurd (omega arith)
lane-at workers count known (suc n) i l =
    let d : Dealt = lane_of workers i count (known i) in
    let all : List Dealt = lanes_with workers count known (suc n) in
    let long : length all ≡ suc n = length-lanes workers count known (suc n) in
    let before : length (lanes_with workers count known n) ≡ n = length-lanes workers count known n in
    slice_get-get_or all i d (omega arith) ∙ ap Some (elim (cases_order i n) [
      | inl e ↦
          get_or-append_right (lanes_with workers count known n) (lane_of workers n count (known n) ∷ []) n i d before
          (omega arith)
          ∙ last (lane_of workers n count (known n)) d (i - n) (omega arith)
          (ap (λ k. lane_of workers k count (known k)) (sym e))
      | inr (inl less) ↦
          get_or_append_left (lanes_with workers count known n) (lane_of workers n count (known n) ∷ []) d i
          (omega arith)
          ∙ there (lanes_with workers count known n) i d (lane-at workers count known n i less)
      | inr (inr more) ↦ absurd (omega arith)
    ])
  where
    last : (x d : Dealt) (k : ℕ) → k ≡ 0 → x ≡ d → get_or (x ∷ []) k d ≡ d
    last x d k e f = ap (λ j. get_or (x ∷ []) j d) e ∙ f

    there : (xs : List Dealt) (i : ℕ) (d : Dealt) → slice_get xs i ≡ Some d → get_or xs i d ≡ d
    there xs i d e = get_or_from_slice_get xs i d d e

-- one lane is replaced
pub lane-set : (workers count : ℕ) (known : ℕ → ℕ) (k n to : ℕ) → to < n
    → slice_set (lanes_with workers count known n) to (lane_of workers to count k) ≡ lanes_with workers count
    (λ i. if i == to then k else known i) n
lane-set workers count known k zero to l = absurd (omega arith)
lane-set workers count known k (suc n) to l =
    let before : length (lanes_with workers count known n) ≡ n = length-lanes workers count known n in
    let new : ℕ → ℕ = λ i. if i == to then k else known i in
    elim (cases_order to n) [
      | inl e ↦
          let here : k ≡ new n = sym (rw (eq-eqb n to (sym e)) refl) in
          let same : lanes_with workers count known n ≡ lanes_with workers count new n =
          lanes-same workers count known new n (λ i m. sym (rw (ne_eqb i to (λ z. absurd (omega arith))) refl)) in
          set-append_right (lanes_with workers count known n) (lane_of workers n count (known n) ∷ []) n to
          (lane_of workers to count k) before (omega arith)
          ∙ (ap (λ ls. lanes_with workers count known n ++ ls)
          (only (lane_of workers n count (known n)) (lane_of workers to count k) (to - n) (omega arith))
          ∙ (ap (λ j. lanes_with workers count known n ++ lane_of workers j count k ∷ []) e
          ∙ (ap (λ ls. ls ++ lane_of workers n count k ∷ []) same
          ∙ ap (λ j. lanes_with workers count new n ++ lane_of workers n count j ∷ []) here)))
      | inr (inl less) ↦
          let here : known n ≡ new n = sym (rw (ne_eqb n to (λ z. absurd (omega arith))) refl) in
          set-append_left (lanes_with workers count known n) (lane_of workers n count (known n) ∷ []) to
          (lane_of workers to count k) (omega arith)
          ∙ (ap (λ ls. ls ++ lane_of workers n count (known n) ∷ []) (lane-set workers count known k n to less)
          ∙ ap (λ j. lanes_with workers count new n ++ lane_of workers n count j ∷ []) here)
      | inr (inr more) ↦ absurd (omega arith)
    ]
  where
    only : (x y : Dealt) (j : ℕ) → j ≡ 0 → slice_set (x ∷ []) j y ≡ y ∷ []
    only x y j e = ap (λ i. slice_set (x ∷ []) i y) e

-- lanes before one are connected to all others, that lane to k of them, and lanes after it to none
abbrev pub connected : ℕ → ℕ → ℕ → ℕ → ℕ
connected workers to k i = if i == to then k else (if nat_lt i to then workers - 1 else 0)

pub none_connected : (workers count n : ℕ) → lanes_with workers count (λ i. 0) n ≡ lanes_with workers count
    (connected workers 0 0) n
none_connected workers count n = lanes-same workers count (λ i. 0) (connected workers 0 0) n (λ i l. none i)
  where
    none : (i : ℕ) → 0 ≡ connected workers 0 0 i
    none i = elim (cases_Bool (i == 0)) [
      | inl e ↦ rw e refl
      | inr e ↦ rw (e, le-ltb i 0 (omega arith)) refl
    ]

pub one_connected : (workers count to k : ℕ) → to < workers
    → slice_set (lanes_with workers count (connected workers to k) workers) to (lane_of workers to count (suc k))
    ≡ lanes_with workers count (connected workers to (suc k)) workers
one_connected workers count to k l =
    lane-set workers count (connected workers to k) (suc k) workers to l
    ∙ lanes-same workers count (λ i. if i == to then suc k else connected workers to k i) (connected workers to (suc k))
    workers (λ i m. elim (cases_Bool (i == to)) [
      | inl e ↦ rw e refl
      | inr e ↦ rw e refl
    ])

pub next_connected : (workers count to : ℕ) → lanes_with workers count (connected workers to (workers - 1)) workers
    ≡ lanes_with workers count (connected workers (to + 1) 0) workers
next_connected workers count to =
    lanes-same workers count (connected workers to (workers - 1)) (connected workers (to + 1) 0) workers
    (λ i l. elim (cases_order i to) [
      | inl e ↦ rw (eq-eqb i to e, ne_eqb i (to + 1) (λ z. absurd (omega arith)), lt-ltb i (to + 1) (omega arith)) refl
      | inr (inl less) ↦ rw (
        ne_eqb i to (λ z. absurd (omega arith)),
        lt-ltb i to less,
        ne_eqb i (to + 1)
            (λ z. absurd (omega arith)),
        lt-ltb i (to + 1) (omega arith),
      ) refl
      | inr (inr more) ↦ rw (ne_eqb i to (λ z. absurd (omega arith)), le-ltb i to (omega arith)) (after i more)
    ])
  where
    after : (i : ℕ) → to < i → 0 ≡ connected workers (to + 1) 0 i
    after i more = elim (cases_Bool (i == to + 1)) [
      | inl e ↦ rw e refl
      | inr e ↦ rw (e, le-ltb i (to + 1) (omega arith)) refl
    ]

pub all_connected : (workers count : ℕ) → lanes_with workers count (connected workers workers 0) workers
    ≡ deal workers count workers
all_connected workers count =
    lanes-same workers count (connected workers workers 0) (λ i. workers - 1) workers
    (λ i l. rw (ne_eqb i workers (λ z. absurd (omega arith)), lt-ltb i workers l) refl)
    ∙ lanes-all workers count workers

-- a lane and the one that it is connected to next
pub thief-at : (workers count to k : ℕ) → to < workers
    → slice_get (lanes_with workers count (connected workers to k) workers) to ≡ Some (lane_of workers to count k)
thief-at workers count to k l =
    let here : connected workers to k to ≡ k = rw (eq-eqb to to refl) refl in
    lane-at workers count (connected workers to k) workers to l ∙ ap (λ j. Some (lane_of workers to count j)) here

-- writing a lane back unchanged changes nothing
pub set_same : (xs : List Dealt) (i : ℕ) (x y : Dealt) → slice_get xs i ≡ Some x → y ≡ x → slice_set xs i y ≡ xs
set_same xs i x y here same = ap (slice_set xs i) (same ∙ sym (get_or_from_slice_get xs i x x here)) ∙ set-get_or xs i x

-- one more list is added to a lane
pub dealt_more : (workers count to step from : ℕ) (thief victim : Dealt) → 1 ≤ step → from ≡ (to + step) % workers
    → thief ≡ lane_of workers to count (step - 1) → victim.rows ≡ rows_of workers from count
    → with_other thief victim.rows ≡ lane_of workers to count step
dealt_more workers count to zero from thief victim some at is list = absurd (omega arith)
dealt_more workers count to (suc k) from thief victim some at is list =
    let one : suc k - 1 ≡ k = omega arith in
    let mine : thief ≡ lane_of workers to count k = is ∙ ap (lane_of workers to count) one in
    let theirs : victim.rows ≡ rows_of workers ((to + suc k) % workers) count =
    list ∙ ap (λ f. rows_of workers f count) at in
    ap (λ (l : Dealt). with_other l victim.rows) mine ∙ ap (with_other (lane_of workers to count k)) theirs
