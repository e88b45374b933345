-- A search by issue order finds what a pass over the busy places, the oldest first, finds.
use Rattle.tomex_cycle.proofs.Words.{◌==◌, if◌then◌else◌, is_some, cases_Bool, both_ways, eqb-true, has, IsInIssueOrder}
use Rattle.tomex_cycle.proofs.Words.{Rises, is_listed, Station, bytes_in, lacks_address, AreBusy, has_address, has_base}
use Rattle.tomex_cycle.proofs.Words.{lets_pass, is_clear, slot, ℕ, ◌<◌, ◌≤◌, ◌≡◌, ◌∙◌, Bool, true, false, arith, refl}
use Rattle.tomex_cycle.proofs.Words.{ap, sym, inl, inr, List, [], ◌∷◌, ◌++◌, Option, Some, None, slice_index, Decides}
use Rattle.tomex_cycle.proofs.Words.{IsNextAddress, IsOldestLacking, HasAtMostOneAccess, IsClear, lets_no_address}
use Rattle.tomex_cycle.proofs.Words.{lets_none, in_head, in_tail}

-- Lists that rise.

-- the middle of a list in ascending order is older than what comes after it, and younger than what comes before
pub older_in : (issue_numbers older younger : List ℕ) (x y : ℕ) → Rises issue_numbers (older ++ (x ∷ younger))
    → is_listed (older ++ (x ∷ younger)) y ≡ true → slice_index issue_numbers y < slice_index issue_numbers x
    → is_listed older y ≡ true
older_in issue_numbers [] younger x y rises h l = elim (cases_Bool (x == y)) [
  | inl e ↦ let same : x ≡ y = eqb-true x y e in let k : slice_index issue_numbers x < slice_index issue_numbers x =
      rw (← same) at l in absurd (omega arith)
  | inr e ↦ let k : slice_index issue_numbers x < slice_index issue_numbers y = rises.0 y (rw e at h) in
      absurd (omega arith)
]
older_in issue_numbers (z ∷ older) younger x y rises h l = elim (cases_Bool (z == y)) [
  | inl e ↦ rw e refl
  | inr e ↦ rw e (older_in issue_numbers older younger x y rises.1 (rw e at h) l)
]

middle_in : (older younger : List ℕ) (x : ℕ) → is_listed (older ++ (x ∷ younger)) x ≡ true
middle_in [] younger x = in_head x younger
middle_in (z ∷ older) younger x = in_tail z x (older ++ (x ∷ younger)) (middle_in older younger x)

pub older_before : (issue_numbers older younger : List ℕ) (x y : ℕ) → Rises issue_numbers (older ++ (x ∷ younger))
    → is_listed older y ≡ true → slice_index issue_numbers y < slice_index issue_numbers x
older_before issue_numbers [] younger x y rises h = absurd (cc)
older_before issue_numbers (z ∷ older) younger x y rises h = elim (cases_Bool (z == y)) [
  | inl e ↦ let same : z ≡ y = eqb-true z y e in rw (← same) (rises.0 x (middle_in older younger x))
  | inr e ↦ older_before issue_numbers older younger x y rises.1 (rw e at h)
]

part_in : (older younger : List ℕ) (x y : ℕ) → is_listed older y ≡ true → is_listed (older ++ (x ∷ younger)) y ≡ true
part_in [] younger x y h = absurd (cc)
part_in (z ∷ older) younger x y h = elim (cases_Bool (z == y)) [
  | inl e ↦ rw e refl
  | inr e ↦ rw e (part_in older younger x y (rw e at h))
]

-- Older accesses.

all_clear : (slots : List (Option Station)) (xs : List ℕ) (s : Station) (next : ℕ)
    → ((x : ℕ) → is_listed xs x ≡ true → lets_pass (slot slots x) s next ≡ true) → is_clear slots xs s next ≡ true
all_clear slots [] s next each = refl
all_clear slots (x ∷ xs) s next each =
    rw (each x (in_head x xs), all_clear slots xs s next (λ y h. each y (in_tail x y xs h))) refl

not_clear : (slots : List (Option Station)) (xs : List ℕ) (s : Station) (next y : ℕ) → is_listed xs y ≡ true
    → lets_pass (slot slots y) s next ≡ false → is_clear slots xs s next ≡ false
not_clear slots [] s next y h e = absurd (cc)
not_clear slots (x ∷ xs) s next y h e = elim (cases_Bool (x == y)) [
  | inl k ↦ let same : x ≡ y = eqb-true x y k in rw (same, e) refl
  | inr k ↦ elim (cases_Bool (lets_pass (slot slots x) s next)) [
    | inl l ↦ rw (l, not_clear slots xs s next y (rw k at h) e) refl
    | inr l ↦ rw l refl
  ]
]

let_by : (slots : List (Option Station)) (xs : List ℕ) (s : Station) (next x : ℕ) → is_clear slots xs s next ≡ true
    → is_listed xs x ≡ true → lets_pass (slot slots x) s next ≡ true
let_by slots xs s next x clear h = elim (cases_Bool (lets_pass (slot slots x) s next)) [
  | inl e ↦ e
  | inr e ↦ absurd (both_ways (is_clear slots xs s next) (not_clear slots xs s next x h e) clear)
]

lets_free : (o : Option Station) (s : Station) (next : ℕ) → is_some o ≡ false → lets_pass o s next ≡ true
lets_free None s next e = refl
lets_free (Some other) s next e = let z : true ≡ false = e in absurd (cc)

clear_by : (slots : List (Option Station)) {busy : ℕ} {issue_numbers : List ℕ} (older younger : List ℕ) (place : ℕ)
    (s : Station) (next : ℕ) → IsInIssueOrder busy issue_numbers (older ++ (place ∷ younger))
    → IsClear slots issue_numbers place s next → is_clear slots older s next ≡ true
clear_by slots {issue_numbers} older younger place s next by each = all_clear slots older s next (λ x h.
    let inside : is_listed (older ++ (place ∷ younger)) x ≡ true = part_in older younger place x h in
    each x (by.low x inside) (older_before issue_numbers older younger place x by.rises h))

clear_all : {slots : List (Option Station)} {busy : ℕ} {issue_numbers : List ℕ} (older younger : List ℕ) (place : ℕ)
    (s : Station) (next : ℕ) → AreBusy slots busy issue_numbers
    → IsInIssueOrder busy issue_numbers (older ++ (place ∷ younger)) → is_clear slots older s next ≡ true
    → IsClear slots issue_numbers place s next
clear_all {slots} {busy} {issue_numbers} older younger place s next filled by clear x l less = elim
    (cases_Bool (has busy x)) [
      | inr e ↦ lets_free (slot slots x) s next (sym (filled.each x l) ∙ e)
      | inl e ↦ let_by slots older s next x clear
          (older_in issue_numbers older younger place x by.rises (sym (by.members x l) ∙ e) less)
    ]

-- no older one blocks it exactly if none of a listing in issue order does
pub clear_is : (b : Bool) {slots : List (Option Station)} {busy : ℕ} {issue_numbers : List ℕ} (older younger : List ℕ)
    (place : ℕ) (s : Station) (next : ℕ) → AreBusy slots busy issue_numbers
    → IsInIssueOrder busy issue_numbers (older ++ (place ∷ younger))
    → Decides b (IsClear slots issue_numbers place s next) → b ≡ is_clear slots older s next
clear_is true {slots} older younger place s next filled by says =
    sym (clear_by slots older younger place s next by (says.0 refl))
clear_is false {slots} older younger place s next filled by says = elim (cases_Bool (is_clear slots older s next)) [
  | inr e ↦ sym e
  | inl e ↦ says.1 (clear_all older younger place s next filled by e) ∙ sym e
]

-- a station with no access waits for none
pub no_access : (slots : List (Option Station)) (xs : List ℕ) (s : Station) (next : ℕ) → bytes_in s ≡ None
    → is_clear slots xs s next ≡ true
no_access slots [] s next e = refl
no_access slots (x ∷ xs) s next e = rw (lets_none (slot slots x) s next e) (no_access slots xs s next e)

-- the one access with an address is in no way but its own
pub alone_clear : (slots : List (Option Station)) {busy : ℕ} {issue_numbers : List ℕ} (older younger : List ℕ)
    (place next : ℕ) (s : Station) → HasAtMostOneAccess slots → place < 128 → slot slots place ≡ Some s
    → has_address (Some s) ≡ true → IsInIssueOrder busy issue_numbers (older ++ (place ∷ younger))
    → is_clear slots older s next ≡ true
alone_clear slots {issue_numbers} older younger place next s single l here access by = clear_by slots older younger
    place s next by (λ x low less. elim (cases_Bool (has_address (slot slots x))) [
      | inr e ↦ lets_no_address (slot slots x) s next e
      | inl e ↦
          let same : x ≡ place = single x place low l e (ap has_address here ∙ access) in
          let none : slice_index issue_numbers place < slice_index issue_numbers place = rw same at less in
          absurd (omega arith)
    ])

-- Addresses.

-- of the stations in these places, the first without its address
abbrev pub first_waiting : List (Option Station) → List ℕ → Option ℕ
first_waiting slots [] = None
first_waiting slots (x ∷ xs) = if lacks_address (slot slots x) then Some x else first_waiting slots xs

abbrev pub where_base_is_there : List (Option Station) → Option ℕ → Option ℕ
where_base_is_there slots None = None
where_base_is_there slots (Some x) = if has_base (slot slots x) then Some x else None

-- over the busy places, the oldest first
abbrev pub next_address : List (Option Station) → List ℕ → Option ℕ
next_address slots order = where_base_is_there slots (first_waiting slots order)

none_waits : (slots : List (Option Station)) (xs : List ℕ)
    → ((x : ℕ) → is_listed xs x ≡ true → lacks_address (slot slots x) ≡ false) → first_waiting slots xs ≡ None
none_waits slots [] each = refl
none_waits slots (x ∷ xs) each = rw (each x (in_head x xs)) (none_waits slots xs (λ y h. each y (in_tail x y xs h)))

oldest_waits : (slots : List (Option Station)) (issue_numbers xs : List ℕ) (x : ℕ) → Rises issue_numbers xs
    → is_listed xs x ≡ true → lacks_address (slot slots x) ≡ true → ((y : ℕ) → is_listed xs y ≡ true → lacks_address
    (slot slots y) ≡ true → slice_index issue_numbers x ≤ slice_index issue_numbers y) → first_waiting slots xs ≡ Some x
oldest_waits slots issue_numbers [] x rises h e least = absurd (cc)
oldest_waits slots issue_numbers (z ∷ zs) x rises h e least = elim (cases_Bool (z == x)) [
  | inl k ↦ let same : z ≡ x = eqb-true z x k in rw (same, e) refl
  | inr k ↦ elim (cases_Bool (lacks_address (slot slots z))) [
    | inl m ↦
        let older : slice_index issue_numbers x ≤ slice_index issue_numbers z = least z (in_head z zs) m in
        let younger : slice_index issue_numbers z < slice_index issue_numbers x = rises.0 x (rw k at h) in
        absurd (omega arith)
    | inr m ↦ rw m (oldest_waits slots issue_numbers zs x rises.1 (rw k at h) e (λ y i l. least y (in_tail z y zs i) l))
  ]
]

lacks_busy : (o : Option Station) → lacks_address o ≡ true → is_some o ≡ true
lacks_busy None e = e
lacks_busy (Some s) e = refl

first_is : {slots : List (Option Station)} {busy : ℕ} {issue_numbers order : List ℕ} {x : ℕ}
    → AreBusy slots busy issue_numbers → IsInIssueOrder busy issue_numbers order → IsOldestLacking slots issue_numbers x
    → first_waiting slots order ≡ Some x
first_is {slots} {busy} {issue_numbers} {order} {x} filled by oldest =
    let busy_there = filled.each x oldest.low ∙ lacks_busy (slot slots x) oldest.lacks in
    oldest_waits slots issue_numbers order x by.rises (sym (by.members x oldest.low) ∙ busy_there) oldest.lacks
    (λ y h e. oldest.oldest y (by.low y h) e)

-- the next address is the next of a listing in issue order
pub next_in_order : {slots : List (Option Station)} {busy : ℕ} {issue_numbers order : List ℕ} (next : Option ℕ)
    → AreBusy slots busy issue_numbers → IsInIssueOrder busy issue_numbers order
    → IsNextAddress slots issue_numbers next → next ≡ next_address slots order
next_in_order {slots} {order} (Some x) filled by is =
    let first : first_waiting slots order ≡ Some x = first_is filled by is.0 in
    sym (ap (where_base_is_there slots) first ∙ rw is.1 refl)
next_in_order {slots} {order} None filled by (inl none) =
    let first : first_waiting slots order ≡ None = none_waits slots order (λ x h. none x (by.low x h)) in
    sym (ap (where_base_is_there slots) first)
next_in_order {slots} {order} None filled by (inr waits) =
    let first : first_waiting slots order ≡ Some waits.0 = first_is filled by waits.1 in
    sym (ap (where_base_is_there slots) first ∙ rw waits.2 refl)
