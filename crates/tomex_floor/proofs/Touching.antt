-- The finishes that an access waits for, byte by byte.
use Rattle.std.proofs.Common.{ℕ, ◌+◌, ◌<◌, ◌≤◌, ◌≡◌, ◌∙◌, ◌⊎◌, Bool, true, false, arith, refl, ap, sym, inl, inr}
use Rattle.std.proofs.Common.{List, [], ◌∷◌, zero, suc}
use Rattle.std.proofs.Common.{Option, Some, None, max}
use Rattle.std.specs.Prelude.{◌*◌, ◌/◌, ◌%◌, unwrap_or, nat_lt, nat_le, nat_eq, ◌&&◌, ◌||◌, if◌then◌else◌}
use Rattle.std.proofs.Math.Bool.{or-false}
use Rattle.std.proofs.lemmas.Bool.{cases_Bool, leb-false, leb-true, ltb-false, ltb-true}
use Rattle.std.proofs.lemmas.Bool.Decides.{nat_tests}
use Rattle.tomex_rvdec.specs.declared.op.Op.{Op}
use Rattle.tomex_rvexec.specs.Steps.{access_size, bytes_at, bytes_of, is_store, address_of, shares_byte}
use Rattle.tomex_rvexec.specs.declared.step.ByteRange.{ByteRange}
use Rattle.tomex_rvexec.specs.declared.step.Step.{Step}
use Rattle.tomex_timing.specs.declared.times.Done.{Done}
use Rattle.tomex_timing.specs.Recurrence.{conflicts}
use Rattle.tomex_floor.specs.Floor.{last_finish}
use Rattle.tomex_floor.specs.Kept.{Touched, below, has_byte, has_some, shares_some, touched_in}
use Rattle.tomex_floor.specs.Kept.{conflict_below, no_word, raised, touched_from, touched_of, waited_for}
use Rattle.tomex_floor.specs.declared.accesses.Word.{Word}
use Rattle.std.specs.HashMap.{HashMap, get}

-- equal tests have the same greatest finish
finish_same : (p q : Step → Bool) → ((x : Step) → p x ≡ q x) → (h : List Done) → last_finish p h ≡ last_finish q h
finish_same p q same [] = refl
finish_same p q same (d ∷ h) = rw (same d.step, finish_same p q same h) refl

none_finished : (h : List Done) → last_finish (λ x. false) h ≡ 0
none_finished [] = refl
none_finished (d ∷ h) = let rest = none_finished h in omega arith

-- the finishes that pass one of two tests
finish_either : (p q : Step → Bool) (h : List Done)
    → last_finish (λ x. p x || q x) h ≡ max (last_finish p h) (last_finish q h)
finish_either p q [] = refl
finish_either p q (d ∷ h) =
    let rest = finish_either p q h in
    elim (cases_Bool (p d.step)) [
      | inl e ↦ elim (cases_Bool (q d.step)) [
        | inl f ↦ rw (e, f, rest) (omega arith)
        | inr f ↦ rw (e, f, rest) (omega arith)
      ]
      | inr e ↦ elim (cases_Bool (q d.step)) [
        | inl f ↦ rw (e, f, rest) (omega arith)
        | inr f ↦ rw (e, f, rest) (omega arith)
      ]
    ]

-- an access has bytes, in order

abbrev IsFull : Option ByteRange → Type 0
IsFull o = (r : ByteRange) → o ≡ Some r → r.from < r.to

full_at : (op : Op) (address : ℕ) → IsFull (bytes_at op address)
full_at op address r is = elim (cases_Bool (nat_eq (access_size op) 0)) [
  | inl e ↦ let no : None ≡ Some r = rw e at is in cc
  | inr e ↦
      let some : Some (record { from = address; to = address + access_size op }) ≡ Some r = rw e at is in
      let from : address ≡ r.from = cc in
      let to : address + access_size op ≡ r.to = cc in
      grind (arith, nat_tests)
]

pub is_full : (x : Step) → IsFull (bytes_of x)
is_full x = full_at x.instr.op (address_of x)

-- one more byte

some_more : (from b : ℕ) (o : Option ByteRange) → IsFull o → from ≤ b
    → has_some from (b + 1) o ≡ (has_some from b o || has_byte b o)
some_more from b None full low = refl
some_more from b (Some r) full low = let l = full r refl in grind (arith, nat_tests)

split : (a b s : Bool) → ((a || b) && s) ≡ ((a && s) || (b && s))
split true true s = elim (cases_Bool s) [ inl e ↦ rw e refl | inr e ↦ rw e refl ]
split true false s = elim (cases_Bool s) [ inl e ↦ rw e refl | inr e ↦ rw e refl ]
split false true s = refl
split false false s = refl

abbrev at_byte : ℕ → Bool → Step → Bool
at_byte b store x = has_byte b (bytes_of x) && (is_store x || store)

shares_more : (from b : ℕ) (store : Bool) (x : Step) → from ≤ b
    → shares_some from (b + 1) store x ≡ (shares_some from b store x || at_byte b store x)
shares_more from b store x low =
    ap (λ (t : Bool). t && (is_store x || store)) (some_more from b (bytes_of x) (is_full x) low)
    ∙ split (has_some from b (bytes_of x)) (has_byte b (bytes_of x)) (is_store x || store)

or_true : (a : Bool) → (a || true) ≡ true
or_true true = refl
or_true false = refl

and_true : (a : Bool) → (a && true) ≡ a
and_true true = refl
and_true false = refl

waited_is : (b : ℕ) (store : Bool) (h : List Done)
    → waited_for store (touched_in h b) ≡ last_finish (at_byte b store) h
waited_is b true h =
    finish_same (λ x. has_byte b (bytes_of x)) (at_byte b true)
    (λ x. sym (ap (λ (t : Bool). has_byte b (bytes_of x) && t) (or_true (is_store x))
    ∙ and_true (has_byte b (bytes_of x))))
    h
waited_is b false h =
    finish_same (λ x. has_byte b (bytes_of x) && is_store x) (at_byte b false)
    (λ x. sym (ap (λ (t : Bool). has_byte b (bytes_of x) && t) (or-false (is_store x)))) h

pub latest_more : (from b : ℕ) (store : Bool) (h : List Done) (f : Touched) (latest : ℕ) → from ≤ b
    → f ≡ touched_in h b → latest ≡ last_finish (shares_some from b store) h
    → max (waited_for store f) latest ≡ last_finish (shares_some from (b + 1) store) h
latest_more from b store h f latest low is so =
    let a = finish_same (shares_some from (b + 1) store) (λ x. shares_some from b store x || at_byte b store x)
    (λ x. shares_more from b store x low) h in
    let c = finish_either (shares_some from b store) (at_byte b store) h in
    let w : waited_for store f ≡ last_finish (at_byte b store) h = rw is (waited_is b store h) in
    omega (arith, a, c, w, so)

none_between : (from : ℕ) (o : Option ByteRange) → has_some from from o ≡ false
none_between from None = refl
none_between from (Some r) = grind (arith, nat_tests)

pub latest_none : (from : ℕ) (store : Bool) (h : List Done) → last_finish (shares_some from from store) h ≡ 0
latest_none from store h =
    finish_same (shares_some from from store) (λ x. false)
    (λ x. ap (λ (t : Bool). t && (is_store x || store)) (none_between from (bytes_of x))) h ∙ none_finished h

-- an access that shares some of a step's bytes conflicts with it

shares_is : (o : Option ByteRange) (r : ByteRange) → r.from < r.to → shares_byte o (Some r) ≡ has_some r.from r.to o
shares_is None r full = refl
shares_is (Some a) r full = grind (arith, nat_tests)

pub conflict_is : (s : Step) (r : ByteRange) (h : List Done) → bytes_of s ≡ Some r
    → last_finish (shares_some r.from r.to (is_store s)) h ≡ last_finish (λ x. conflicts x s) h
conflict_is s r h is =
    finish_same (shares_some r.from r.to (is_store s)) (λ x. conflicts x s)
    (λ x. sym (ap (λ (o : Option ByteRange). shares_byte (bytes_of x) o && (is_store x || is_store s)) is
    ∙ ap (λ (t : Bool). t && (is_store x || is_store s)) (shares_is (bytes_of x) r (is_full s r is)))) h

shares_none : (o : Option ByteRange) → shares_byte o None ≡ false
shares_none None = refl
shares_none (Some a) = refl

pub no_conflict : (s : Step) (h : List Done) → bytes_of s ≡ None → last_finish (λ x. conflicts x s) h ≡ 0
no_conflict s h is =
    finish_same (λ x. conflicts x s) (λ x. false)
    (λ x. ap (λ (o : Option ByteRange). shares_byte (bytes_of x) o && (is_store x || is_store s)) is
    ∙ ap (λ (t : Bool). t && (is_store x || is_store s)) (shares_none (bytes_of x))) h ∙ none_finished h

-- a range up to a byte, and including the byte

pub below_more : (from to b : ℕ) (store : Bool) (h : List Done) (t : Touched) (latest : ℕ) → from ≤ b → b < to
    → t ≡ touched_in h b → latest ≡ last_finish (shares_some from (below from to b) store) h
    → max (waited_for store t) latest ≡ last_finish (shares_some from (below from to (b + 1)) store) h
below_more from to b store h t latest low high is so =
    let here : below from to b ≡ b = omega arith in
    let next : below from to (b + 1) ≡ b + 1 = omega arith in
    rw next (latest_more from b store h t latest low is (rw here at so))

pub below_same : (from to b : ℕ) (store : Bool) (h : List Done) → (b < from) ⊎ (to ≤ b) → from < to
    → last_finish (shares_some from (below from to (b + 1)) store) h
    ≡ last_finish (shares_some from (below from to b) store) h
below_same from to b store h (inl low) full =
    let same : below from to (b + 1) ≡ below from to b = omega arith in rw same refl
below_same from to b store h (inr high) full =
    let same : below from to (b + 1) ≡ below from to b = omega arith in rw same refl

pub below_turn : (from to b next : ℕ) (store : Bool) (h : List Done) (t : Touched) (latest new : ℕ) → from < to
    → next ≡ b + 1 → t ≡ touched_in h b → latest ≡ last_finish (shares_some from (below from to b) store) h
    → new ≡ (if nat_le from b && nat_lt b to then max (waited_for store t) latest else latest)
    → new ≡ last_finish (shares_some from (below from to next) store) h
below_turn from to b next store h t latest new full one is so so_new = rw one (elim (cases_Bool (nat_le from b)) [
  | inl e ↦ elim (cases_Bool (nat_lt b to)) [
    | inl f ↦
        let now : new ≡ max (waited_for store t) latest = rw (e, f) at so_new in
        now ∙ below_more from to b store h t latest (leb-true from b e) (ltb-true b to f) is so
    | inr f ↦
        let now : new ≡ latest = rw (e, f) at so_new in
        now ∙ (so ∙ sym (below_same from to b store h (inr (ltb-false b to f)) full))
  ]
  | inr e ↦
      let now : new ≡ latest = rw e at so_new in
      now ∙ (so ∙ sym (below_same from to b store h (inl (leb-false from b e)) full))
])

-- a byte of a word
pub touched_here : {S : Type 0} (n w lane : ℕ) (m : HashMap ℕ Word S) → lane < 4
    → touched_from n m (4 * w + lane) ≡ touched_of n (unwrap_or (get nat_eq m w) no_word) lane
touched_here n w lane m l =
    let q : (4 * w + lane) / 4 ≡ w = omega arith in let r : (4 * w + lane) % 4 ≡ lane = omega arith in rw (q, r) refl

-- at the four bytes of a word an access waits for what it waits for below the next word
pub raised_is : (n : ℕ) (word : Word) (first : ℕ) (r : ByteRange) (store : Bool) (h : List Done) {latest : ℕ}
    → r.from < r.to → ((lane : ℕ) → lane < 4 → touched_of n word lane ≡ touched_in h (first + lane))
    → latest ≡ conflict_below r first store h
    → raised n word first r store 4 latest ≡ conflict_below r (first + 4) store h
raised_is n word first r store h {latest} some are so = up_to 4 (omega arith)
  where
    up_to : (k : ℕ) → k ≤ 4 → raised n word first r store k latest ≡ conflict_below r (first + k) store h
    up_to zero l = let e : first + 0 ≡ first = omega arith in rw e so
    up_to (suc k) l =
        below_turn r.from r.to (first + k) (first + suc k) store h _ _ _ some (omega arith) (are k (omega arith))
        (up_to k (omega arith)) refl
