-- The busy places in issue order are those of the steps under way, the oldest first.
use Rattle.tomex_cycle.proofs.Words.{nat_lt, ◌==◌, is_some, w128, bit_at-trailing_zeros, cases_Bool, nat_tests}
use Rattle.tomex_cycle.proofs.Words.{cases_order, both_ways, ltb-true, ltb-false, eq-eqb, eqb-true, get_or_past, Loaded}
use Rattle.tomex_cycle.proofs.Words.{Configuration, step_pool, Done, has, IsInIssueOrder, Rises, is_listed, has_one}
use Rattle.tomex_cycle.proofs.Words.{none_in, AreBusy, Pools, Clocks, ShowsStations, order_of, place_of, station_at}
use Rattle.tomex_cycle.proofs.Words.{◌||◌, IsUpTo, if◌then◌else◌, ⊤, ◌&&◌, count_by, lt-ltb, le-ltb, and_parts}
use Rattle.tomex_cycle.proofs.Words.{length-append, sum_by-cons, IsPicked, holds_place, ℕ, ◌+◌, ◌<◌, ◌≤◌, ◌≡◌, ◌∙◌, ◌^◌}
use Rattle.tomex_cycle.proofs.Words.{true, false, arith, refl, List, [], ◌∷◌, ◌++◌, Option, Some, None, ap, sym, inl}
use Rattle.tomex_cycle.proofs.Words.{inr, length, slice_index, zero, suc, Bool, append-nil, take, filter, min}
use Rattle.tomex_cycle.proofs.Words.{take-append-le, take_all, filter-append, first_picked, or_right, and_right}
use Rattle.tomex_cycle.proofs.Places.{low, place_low, AreLow, ShowsPart, shows_part, held_here, older_shown}
use Rattle.tomex_cycle.proofs.Truth.{or_false}

pub in-append : (xs ys : List ℕ) (x : ℕ) → is_listed (xs ++ ys) x ≡ (is_listed xs x || is_listed ys x)
in-append [] ys x = refl
in-append (y ∷ xs) ys x = elim (cases_Bool (y == x)) [
  | inl e ↦ rw e refl
  | inr e ↦ rw e (in-append xs ys x)
]

-- a step that holds a place is in the order
pub in_order : (i : Loaded) (c : Clocks) (h : List Done) (x : ℕ)
    → is_some (station_at i c h x) ≡ is_listed (order_of c.end h) x
in_order i c [] x = refl
in_order i c (d ∷ older) x = in_by i c d older x (place_of d) refl (in_order i c older x)
  where
    in_by : (i : Loaded) (c : Clocks) (d : Done) (older : List Done) (x : ℕ) (p : Option ℕ) → place_of d ≡ p
        → is_some (station_at i c older x) ≡ is_listed (order_of c.end older) x
        → is_some (station_at i c (d ∷ older) x) ≡ is_listed (order_of c.end (d ∷ older)) x
    in_by i c d older x None e before = elim (cases_Bool (nat_lt c.end d.at.end)) [
      | inl l ↦ rw (e, l) before
      | inr l ↦ rw (e, l) before
    ]
    in_by i c d older x (Some p) e before = elim (cases_Bool (nat_lt c.end d.at.end)) [
      | inr l ↦ rw (e, l, and_right (p == x) false refl) before
      | inl l ↦ elim (cases_Bool (p == x)) [
        | inl k ↦ rw (e, l, k, in-append (order_of c.end older) (p ∷ []) x)
            (sym (or_right (is_listed (order_of c.end older) x) ((p == x) || false) (rw k refl)))
        | inr k ↦ rw (e, l, k, in-append (order_of c.end older) (p ∷ []) x)
            (before ∙ sym (rw k (or_false (is_listed (order_of c.end older) x))))
      ]
    ]

-- places of the order are below 96
pub order_low : (end : ℕ) (h : List Done) (x : ℕ) → AreLow h → is_listed (order_of end h) x ≡ true → x < 96
order_low end [] x few e = absurd (cc)
order_low end (d ∷ older) x few e = low_by end d older x (place_of d) refl few (order_low end older x few.1) e
  where
    low_by : (end : ℕ) (d : Done) (older : List Done) (x : ℕ) (p : Option ℕ) → place_of d ≡ p → AreLow (d ∷ older)
        → (is_listed (order_of end older) x ≡ true → x < 96) → is_listed (order_of end (d ∷ older)) x ≡ true → x < 96
    low_by end d older x None f few before e = elim (cases_Bool (nat_lt end d.at.end)) [
      | inl l ↦ before (rw (l, f) at e)
      | inr l ↦ before (rw l at e)
    ]
    low_by end d older x (Some p) f few before e = elim (cases_Bool (nat_lt end d.at.end)) [
      | inr l ↦ before (rw l at e)
      | inl l ↦ elim (cases_Bool (p == x)) [
        | inl k ↦ let same : p ≡ x = eqb-true p x k in rw (← same) (place_low (step_pool d.step) d.at.station p few.0 f)
        | inr k ↦
            let there : is_listed (order_of end older ++ (p ∷ [])) x ≡ true = rw (l, f) at e in
            let here = sym (in-append (order_of end older) (p ∷ []) x) ∙ there in
            before (sym (rw k (or_false (is_listed (order_of end older) x))) ∙ here)
      ]
    ]

-- Ages rise along the order.

rises-append : (issue_numbers xs : List ℕ) (p : ℕ) → Rises issue_numbers xs
    → ((y : ℕ) → is_listed xs y ≡ true → slice_index issue_numbers y < slice_index issue_numbers p)
    → Rises issue_numbers (xs ++ (p ∷ []))
rises-append issue_numbers [] p rises each = ((λ y e. absurd (cc)), tt)
rises-append issue_numbers (x ∷ xs) p rises each = (
  (λ y e. elim (cases_Bool (is_listed xs y)) [
    | inl k ↦ rises.0 y k
    | inr k ↦ elim (cases_Bool (p == y)) [
      | inl m ↦ let same : p ≡ y = eqb-true p y m in rw (← same) (each x (rw (eq-eqb x x refl) refl))
      | inr m ↦
          let f : (is_listed xs y || ((p == y) || false)) ≡ true = sym (in-append xs (p ∷ []) y) ∙ e in
          absurd (cc)
    ]
  ]),
  rises-append issue_numbers xs p rises.1 (λ y e. each y (rw e (or_right (x == y) true refl))),
)

pub record AreOlder (issue_numbers : List ℕ) (end : ℕ) (part : List Done) : Type 0 where
  pub rises : Rises issue_numbers (order_of end part)
  pub below : (x : ℕ) → is_listed (order_of end part) x ≡ true → slice_index issue_numbers x < length part

below_by : {issue_numbers : List ℕ} {end : ℕ} (p x : ℕ) (d : Done) {older : List Done}
    → AreOlder issue_numbers end older → slice_index issue_numbers p ≡ length older
    → (is_listed (order_of end older) x || ((p == x) || false)) ≡ true
    → slice_index issue_numbers x < length (d ∷ older)
below_by {issue_numbers} {end} p x d {older} before issue_number k = grind (arith, nat_tests)

order_rises : {i : Loaded} {c : Clocks} {st : Pools} (part : List Done) → ShowsPart i c st part
    → AreOlder st.issue_numbers c.end part
order_rises [] shown = record { rises = tt; below = λ x k. absurd (cc) }
order_rises {i} {c} {st} (d ∷ older) shown =
    let before : AreOlder st.issue_numbers c.end older = order_rises older (older_shown shown) in
    elim (cases_Bool (nat_lt c.end d.at.end)) [
      | inr l ↦ longer (rw l refl) before
      | inl l ↦ by_place (place_of d) refl l before
    ]
  where
    longer : order_of c.end (d ∷ older) ≡ order_of c.end older → AreOlder st.issue_numbers c.end older
        → AreOlder st.issue_numbers c.end (d ∷ older)
    longer e f = grind (arith, nat_tests)

    by_place : (o : Option ℕ) → place_of d ≡ o → nat_lt c.end d.at.end ≡ true → AreOlder st.issue_numbers c.end older
        → AreOlder st.issue_numbers c.end (d ∷ older)
    by_place None f l before = longer (rw (l, f) refl) before
    by_place (Some p) f l before =
        let number : slice_index st.issue_numbers p ≡ length older = (held_here shown p (rw (f, l, eq-eqb p p refl)
        refl)).number in
        let order : order_of c.end (d ∷ older) ≡ order_of c.end older ++ (p ∷ []) = rw (l, f) refl in
        record {
          rises = rw order (rises-append st.issue_numbers (order_of c.end older) p before.rises
              (λ y k. let m : slice_index st.issue_numbers y < length older = before.below y k in omega arith));
          below = λ x k. below_by p x d before number
              (sym (in-append (order_of c.end older) (p ∷ []) x) ∙ (rw order at k));
        }

-- the order lists the busy places in issue order
pub order_is : {i : Loaded} {config : Configuration} {c : Clocks} {s : ℕ} {h : List Done} {st : Pools}
    → IsUpTo i config s h → s ≤ c.end + 1 → ShowsStations i c h st → AreBusy st.slots st.busy st.issue_numbers
    → IsInIssueOrder st.busy st.issue_numbers (order_of c.end h)
order_is {i} {c = c} {h = h} {st} up s shown filled = record {
  members = λ x l. filled.each x l ∙ elim (cases_Bool (nat_lt x 96)) [
    | inl k ↦ ap is_some (shown.slots x (ltb-true x 96 k)) ∙ in_order i c h x
    | inr k ↦
        let high : 96 ≤ x = ltb-false x 96 k in
        ap is_some (get_or_past st.slots x None (let n : length st.slots ≡ 96 = shown.places in omega arith))
        ∙ sym (beyond c.end h x (low h up) high)
  ];
  low = λ x e. let k : x < 96 = order_low c.end h x (low h up) e in omega arith;
  rises = (order_rises h (shows_part up s shown)).rises;
}
  where
    beyond : (end : ℕ) (h : List Done) (x : ℕ) → AreLow h → 96 ≤ x → is_listed (order_of end h) x ≡ false
    beyond end h x few high = elim (cases_Bool (is_listed (order_of end h) x)) [
      | inr e ↦ e
      | inl e ↦ let k : x < 96 = order_low end h x few e in absurd (omega arith)
    ]

-- No station is busy.

pub empty_order : {i : Loaded} {config : Configuration} {c : Clocks} {s : ℕ} {h : List Done} {st : Pools}
    → IsUpTo i config s h → s ≤ c.end + 1 → ShowsStations i c h st → AreBusy st.slots st.busy st.issue_numbers
    → st.busy ≡ 0 → order_of c.end h ≡ []
empty_order {c = c} {h = h} {st} up s shown filled e =
    empty (order_of c.end h) st.busy st.issue_numbers e (order_is up s shown filled)
  where
    empty : (xs : List ℕ) (busy : ℕ) (issue_numbers : List ℕ) → busy ≡ 0 → IsInIssueOrder busy issue_numbers xs
        → xs ≡ []
    empty [] busy issue_numbers e by = refl
    empty (x ∷ xs) busy issue_numbers e by =
        let inside : is_listed (x ∷ xs) x ≡ true = rw (eq-eqb x x refl) refl in
        absurd (both_ways (has busy x) (rw e (none_in x)) (by.members x (by.low x inside) ∙ inside))

pub empty_set : (busy : ℕ) (issue_numbers : List ℕ) → busy < 2 ^ 128 → IsInIssueOrder busy issue_numbers [] → busy ≡ 0
empty_set busy issue_numbers small by = elim (cases_order 0 busy) [
  | inl e ↦ sym e
  | inr (inr l) ↦ absurd (omega arith)
  | inr (inl l) ↦
      let one = bit_at-trailing_zeros w128 busy l small in
      absurd (both_ways (has busy _) (by.members _ one.0) (has_one busy _ one.1))
]

-- The oldest of those that are ready are those that the recurrence serves: fewer than n older ones are.

-- whether what holds a place goes
abbrev pub goes_at : ℕ → (Done → Bool) → List Done → ℕ → Bool
goes_at t goes [] x = false
goes_at t goes (d ∷ older) x = if holds_place t x d then goes d else goes_at t goes older x

-- a step goes if it is ready and fewer than n older ones go
pub record Serves (t n set : ℕ) (goes : Done → Bool) (d : Done) (older : List Done) : Type 0 where
  pub idle : nat_lt t d.at.end ≡ false → goes d ≡ false
  pub nowhere : place_of d ≡ None → goes d ≡ false
  pub ready : (x : ℕ) → holds_place t x d ≡ true → goes d ≡ (has set x && nat_lt (count_by goes older) n)

abbrev pub AreServed : ℕ → ℕ → ℕ → (Done → Bool) → List Done → Type 0
AreServed t n set goes [] = ⊤
AreServed t n set goes (d ∷ older) = Serves t n set goes d older × AreServed t n set goes older

count_on : (goes : Done → Bool) (d : Done) (older : List Done) → goes d ≡ true
    → count_by goes (d ∷ older) ≡ 1 + count_by goes older
count_on goes d older e = rw (sum_by-cons, e) refl

count_off : (goes : Done → Bool) (d : Done) (older : List Done) → goes d ≡ false
    → count_by goes (d ∷ older) ≡ count_by goes older
count_off goes d older e = rw (sum_by-cons, e) (omega arith)

-- the first n of the ready ones, as far as a part of the history goes
pub record IsServed (t n set : ℕ) (goes : Done → Bool) (part : List Done) : Type 0 where
  pub count : count_by goes part ≡ min n (length (filter (has set) (order_of t part)))
  pub taken : (x : ℕ) → is_listed (take n (filter (has set) (order_of t part))) x ≡ goes_at t goes part x

-- who doesn't go changes nothing
same_by : {t n set : ℕ} {goes : Done → Bool} (d : Done) {older : List Done} → goes d ≡ false → filter (has set)
    (order_of t (d ∷ older)) ≡ filter (has set) (order_of t older)
    → ((x : ℕ) → holds_place t x d ≡ true → goes_at t goes older x ≡ false) → IsServed t n set goes older
    → IsServed t n set goes (d ∷ older)
same_by {t} {n} {goes} d {older} stays same alone before = record {
  count = count_off goes d older stays ∙ (before.count ∙ ap (λ (xs : List ℕ). min n (length xs)) (sym same));
  taken = λ x. ap (λ (xs : List ℕ). is_listed (take n xs) x) same ∙ (before.taken x ∙ grind (arith, nat_tests));
}

one_more : (xs : List ℕ) (p n x : ℕ) → length xs < n
    → is_listed (take n (xs ++ (p ∷ []))) x ≡ (is_listed (take n xs) x || (p == x))
one_more xs p n x l =
    let whole = take_all n (xs ++ (p ∷ [])) (rw length-append (omega arith)) in
    let before : take n xs ≡ xs = take_all n xs (omega arith) in
    rw (whole, before) (in-append xs (p ∷ []) x ∙ ap (λ b. is_listed xs x || b) (or_false (p == x)))

-- a step that is ready goes if fewer than n do
ready_by : {t n set : ℕ} (p : ℕ) {goes : Done → Bool} {d : Done} {older : List Done} → place_of d ≡ Some p
    → nat_lt t d.at.end ≡ true → has set p ≡ true → Serves t n set goes d older
    → ((x : ℕ) → holds_place t x d ≡ true → goes_at t goes older x ≡ false) → IsServed t n set goes older
    → IsServed t n set goes (d ∷ older)
ready_by {t} {n} {set} p {goes} {d} {older} place late member serves alone before =
    let held : holds_place t p d ≡ true = rw (place, late, eq-eqb p p refl) refl in
    let ready : goes d ≡ nat_lt (count_by goes older) n = serves.ready p held ∙ rw member refl in
    let order : filter (has set) (order_of t (d ∷ older)) ≡ filter (has set) (order_of t older) ++ (p ∷ []) =
    rw (late, place) (filter-append (has set) (order_of t older) (p ∷ []) ∙ rw member refl) in
    go (filter (has set) (order_of t older)) refl order held ready
  where
    holds_other : (x : ℕ) → (p == x) ≡ false → holds_place t x d ≡ false
    holds_other x e = rw (place, e) refl

    go : (xs : List ℕ) → filter (has set) (order_of t older) ≡ xs → filter (has set)
        (order_of t (d ∷ older)) ≡ filter (has set) (order_of t older) ++ (p ∷ []) → holds_place t p d ≡ true
        → goes d ≡ nat_lt (count_by goes older) n → IsServed t n set goes (d ∷ older)
    go xs e order held ready = elim (cases_Bool (nat_lt (length xs) n)) [
      | inl l ↦
          let few : length xs < n = ltb-true _ _ l in
          let so_many : count_by goes older ≡ length xs = before.count ∙ (ap (λ (ys : List ℕ). min n (length ys)) e
          ∙ omega arith) in
          let on : goes d ≡ true = ready ∙ lt-ltb (count_by goes older) n (omega arith) in
          record {
            count = count_on goes d older on ∙ (rw (order, e, length-append) (omega arith));
            taken = λ x. rw (order, e) (one_more xs p n x few ∙ elim (cases_Bool (p == x)) [
              | inl k ↦
                  let same : p ≡ x = eqb-true p x k in
                  or_right (is_listed (take n xs) x) (p == x) k ∙ sym (rw (← same, held) on)
              | inr k ↦ rw (k, holds_other x k) (or_false (is_listed (take n xs) x)
                  ∙ (ap (λ (ys : List ℕ). is_listed (take n ys) x) (sym e) ∙ before.taken x))
            ]);
          }
      | inr l ↦
          let full : n ≤ length xs = ltb-false _ _ l in
          let so_many : count_by goes older ≡ n = before.count ∙ (ap (λ (ys : List ℕ). min n (length ys)) e ∙ omega
          arith) in
          let off : goes d ≡ false = ready ∙ le-ltb (count_by goes older) n (omega arith) in
          record {
            count = count_off goes d older off ∙ (rw (order, e, length-append) (omega arith));
            taken = λ x.
                let was = ap (λ (ys : List ℕ). is_listed (take n ys) x) (sym e) ∙ before.taken x in
                rw (order, e, take-append-le n xs (p ∷ []) full) (was ∙ elim (cases_Bool (holds_place t x d)) [
                  | inr h ↦ rw h refl
                  | inl h ↦ rw (h, off) (alone x h)
                ]);
          }
    ]

-- nobody older goes from a place that is held
abbrev pub AreAlone : ℕ → (Done → Bool) → List Done → Type 0
AreAlone t goes [] = ⊤
AreAlone t goes (d ∷ older) = ((x : ℕ) → holds_place t x d ≡ true → goes_at t goes older x ≡ false)
    × AreAlone t goes older

served : (t n set : ℕ) (goes : Done → Bool) (part : List Done) → AreServed t n set goes part → AreAlone t goes part
    → IsServed t n set goes part
served t n set goes [] each alone = record { count = omega arith; taken = λ x. none_taken n x }
  where
    none_taken : (n x : ℕ) → is_listed (take n []) x ≡ false
    none_taken zero x = refl
    none_taken (suc n) x = refl
served t n set goes (d ∷ older) each alone =
    let before : IsServed t n set goes older = served t n set goes older each.1 alone.1 in
    elim (cases_Bool (nat_lt t d.at.end)) [
      | inr l ↦ same_by d (each.0.idle l) (rw l refl) alone.0 before
      | inl l ↦ by_place (place_of d) refl l before
    ]
  where
    by_place : (o : Option ℕ) → place_of d ≡ o → nat_lt t d.at.end ≡ true → IsServed t n set goes older
        → IsServed t n set goes (d ∷ older)
    by_place None e l before = same_by d (each.0.nowhere e) (rw (l, e) refl) alone.0 before
    by_place (Some p) e l before = elim (cases_Bool (has set p)) [
      | inl m ↦ ready_by p e l m each.0 alone.0 before
      | inr m ↦
          let held : holds_place t p d ≡ true = rw (e, l, eq-eqb p p refl) refl in
          let off : goes d ≡ false = each.0.ready p held ∙ rw m refl in
          same_by d off (rw (l, e) (filter-append (has set) (order_of t older) (p ∷ []) ∙ rw m
          (append-nil (filter (has set) (order_of t older))))) alone.0 before
    ]

-- Some of a listing are listed in issue order too.

in-filter : (q : ℕ → Bool) (xs : List ℕ) (x : ℕ) → is_listed (filter q xs) x ≡ (q x && is_listed xs x)
in-filter q [] x = sym (and_right (q x) false refl)
in-filter q (y ∷ xs) x = elim (cases_Bool (q y)) [
  | inl e ↦ elim (cases_Bool (y == x)) [
    | inl k ↦ let same : y ≡ x = eqb-true y x k in rw (e, k, ← same, e) refl
    | inr k ↦ rw (e, k) (in-filter q xs x)
  ]
  | inr e ↦ elim (cases_Bool (y == x)) [
    | inl k ↦ let same : y ≡ x = eqb-true y x k in rw (e, in-filter q xs x, ← same, e) refl
    | inr k ↦ rw (e, k) (in-filter q xs x)
  ]
]

rises-filter : (q : ℕ → Bool) (issue_numbers xs : List ℕ) → Rises issue_numbers xs → Rises issue_numbers (filter q xs)
rises-filter q issue_numbers [] rises = rises
rises-filter q issue_numbers (x ∷ xs) rises = elim (cases_Bool (q x)) [
  | inr e ↦ rw e (rises-filter q issue_numbers xs rises.1)
  | inl e ↦ rw e (
    (λ y k. rises.0 y (and_parts (q y) (is_listed xs y) (sym (in-filter q xs y) ∙ k)).1),
    rises-filter q issue_numbers xs rises.1,
  )
]

pub some_in_order : {busy : ℕ} (set : ℕ) {issue_numbers xs : List ℕ} → IsInIssueOrder busy issue_numbers xs
    → ((x : ℕ) → x < 128 → has set x ≡ true → has busy x ≡ true)
    → IsInIssueOrder set issue_numbers (filter (has set) xs)
some_in_order set {issue_numbers} {xs} by inside = record {
  members = λ x l. grind (arith, nat_tests, in-filter (has set) xs x);
  low = λ x k. by.low x (and_parts (has set x) (is_listed xs x) (sym (in-filter (has set) xs x) ∙ k)).1;
  rises = rises-filter (has set) issue_numbers xs by.rises;
}

-- the set is that of what goes from the places that are held
abbrev pub IsGoing : ℕ → (Done → Bool) → List Done → ℕ → Type 0
IsGoing t goes h picked = (x : ℕ) → x < 128 → has picked x ≡ goes_at t goes h x

-- what is picked of the ready ones goes
pub picked_goes : (t : ℕ) {n busy set picked : ℕ} {issue_numbers : List ℕ} (goes : Done → Bool) (h : List Done)
    → IsInIssueOrder busy issue_numbers (order_of t h) → ((x : ℕ) → x < 128 → has set x ≡ true → has busy x ≡ true)
    → IsPicked set issue_numbers n picked → AreServed t n set goes h → AreAlone t goes h → IsGoing t goes h picked
picked_goes t {n} {set = set} {picked} {issue_numbers} goes h by inside pick each alone x l =
    first_picked set n picked issue_numbers (filter (has set) (order_of t h)) pick
    (some_in_order set by inside) x l ∙ (served t n set goes h each alone).taken x
