-- Which accesses an older one blocks, and the turns of the search for those that block.
use Rattle.std.proofs.Common.{ℕ, ◌<◌, ◌≤◌, ◌≡◌, ◌∙◌, Bool, true, false, arith, refl, sym, inl, inr, ◌⊎◌, List, Option}
use Rattle.std.proofs.Common.{Some, None, slice_index, slice_index_or}
use Rattle.std.specs.Prelude.{◌==◌, ◌&&◌, ◌||◌, Decides, not, nat_lt, is_some}
use Rattle.std.proofs.lemmas.Bool.{cases_Bool, both_ways, ltb-true, eqb-true, eqb-false, lt-ltb}
use Rattle.tomex_bus.proofs.Members.{none_rest}
use Rattle.tomex_rvexec.specs.declared.step.ByteRange.{ByteRange}
use Rattle.tomex_bus.specs.Sets.{has, IsWithout}
use Rattle.tomex_tags.specs.declared.station.Station.{Station}
use Rattle.tomex_rvexec.specs.Steps.{bytes_at, is_store, shares_byte}
use Rattle.tomex_rvexec.proofs.Fields.{bytes_of_op}
use Rattle.tomex_tags.specs.Contents.{bytes_from, bytes_in, is_memory_op, lacks_address, slot, step_in}
use Rattle.tomex_tags.specs.Pools.{Pools}
use Rattle.tomex_tags.specs.WaitSets.{IsSetOf, has_address, holds_store}
use Rattle.tomex_membuf.specs.Addresses.{IsOldestLacking, NoneLacks}
use Rattle.tomex_membuf.specs.Order.{is_finished_before, IsClear, IsClearAt, lets_pass}

pub share_none : (o : Option ByteRange) → shares_byte o None ≡ false
share_none None = refl
share_none (Some b) = refl

pub lets_none : (o : Option Station) (s : Station) (next : ℕ) → bytes_in s ≡ None → lets_pass o s next ≡ true
lets_none None s next e = refl
lets_none (Some other) s next e = rw (e, share_none (bytes_in other)) refl

-- Turns of the search for older accesses.

-- those that were visited let it pass
abbrev pub AreLooked : List (Option Station) → List ℕ → ℕ → ℕ → Station → ℕ → Type 0
AreLooked slots issue_numbers issue_number rest s next = (x : ℕ) → x < 128 → slice_index issue_numbers x < issue_number
    → (has rest x ≡ true) ⊎ (lets_pass (slice_index_or slots x None) s next ≡ true)

lets_by : (older lets_pass : Bool) → older ≡ true → (older && not lets_pass) ≡ false → lets_pass ≡ true
lets_by true true e f = refl
lets_by true false e f = absurd (cc)
lets_by false lets_pass e f = absurd (cc)

pub looked_more : (slots : List (Option Station)) (rest left : ℕ) (issue_numbers : List ℕ) (other issue_number : ℕ)
    (s : Station) (next : ℕ) → AreLooked slots issue_numbers issue_number rest s next
    → IsWithout rest other left → (nat_lt (slice_index issue_numbers other) issue_number && not
    (lets_pass (slice_index_or slots other None) s next)) ≡ false
    → AreLooked slots issue_numbers issue_number left s next
looked_more slots rest left issue_numbers other issue_number s next looked without free x l less = elim
    (cases_Bool (other == x)) [
      | inl k ↦
          let same : other ≡ x = eqb-true other x k in
          inr (lets_by (nat_lt (slice_index issue_numbers x) issue_number)
          (lets_pass (slice_index_or slots x None) s next)
          (lt-ltb (slice_index issue_numbers x) issue_number less) (rw same at free))
      | inr k ↦ elim (looked x l less) [
        | inr e ↦ inr e
        | inl e ↦ inl (without.others x l (λ z. eqb-false other x k (sym z)) ∙ e)
      ]
    ]

-- none of them is left
pub looked_all : (slots : List (Option Station)) (rest : ℕ) (issue_numbers : List ℕ) (issue_number place : ℕ)
    (s : Station) (next : ℕ) → rest ≡ 0 → issue_number ≡ slice_index issue_numbers place
    → AreLooked slots issue_numbers issue_number rest s next → IsClear slots issue_numbers place s next
looked_all slots rest issue_numbers issue_number place s next empty same looked x l less = elim
    (looked x l (omega arith)) [
      | inr e ↦ e
      | inl e ↦ absurd (both_ways (has rest x) (none_rest rest x empty) e)
    ]

blocked_test : (older lets_pass : Bool) → (older && not lets_pass) ≡ true → (older ≡ true) × (lets_pass ≡ false)
blocked_test true true e = absurd (cc)
blocked_test true false e = (refl, refl)
blocked_test false lets_pass e = absurd (cc)

-- one blocks it
pub found_blocked : (slots : List (Option Station)) (issue_numbers : List ℕ) (place other issue_number : ℕ)
    (s : Station) (next : ℕ) (b : Bool) → issue_number ≡ slice_index issue_numbers place → other < 128
    → b ≡ (nat_lt (slice_index issue_numbers other) issue_number && not
    (lets_pass (slice_index_or slots other None) s next)) → b ≡ true → IsClear slots issue_numbers place s next → ⊥
found_blocked slots issue_numbers place other issue_number s next b same small said e clear =
    let two = blocked_test (nat_lt (slice_index issue_numbers other) issue_number)
    (lets_pass (slice_index_or slots other None) s next) (sym said ∙ e) in
    let less : slice_index issue_numbers other < issue_number = ltb-true _ _ two.0 in
    both_ways (lets_pass (slice_index_or slots other None) s next) two.1 (clear other small (omega arith))

pub no_option : {A : Type 0} (o : Option A) → is_some o ≡ false → o ≡ None
no_option None e = refl
no_option (Some a) e = let z : true ≡ false = e in absurd (cc)

-- nothing waits for a station without an address
pub lets_no_address : (o : Option Station) (s : Station) (next : ℕ) → has_address o ≡ false → lets_pass o s next ≡ true
lets_no_address None s next e = refl
lets_no_address (Some other) s next e = rw (no_bytes (is_memory_op other.instr.op) other.address refl e) refl
  where
    no_bytes : (memory : Bool) (a : Option ℕ) → is_memory_op other.instr.op ≡ memory → (memory && is_some a) ≡ false
        → bytes_from other.instr.op a ≡ None
    no_bytes memory None m f = refl
    no_bytes true (Some a) m f = absurd (cc)
    no_bytes false (Some a) m f = no_option (bytes_at other.instr.op a) (bytes_of_op other.instr.op a ∙ m)

-- a load waits for no load
lets_no_store : (o : Option Station) (s : Station) (next : ℕ) → holds_store o ≡ false → is_store (step_in s) ≡ false
    → lets_pass o s next ≡ true
lets_no_store None s next e f = refl
lets_no_store (Some other) s next e f =
    rw (e, f) (let_by (shares_byte (bytes_in other) (bytes_in s)) (is_finished_before other.finish next))
  where
    let_by : (shares before : Bool) → (not (shares && (false || false)) || before) ≡ true
    let_by true before = refl
    let_by false before = refl

pub lets_unaddressed : (slots : List (Option Station)) (addressed : ℕ) (s : Station) (next x : ℕ)
    → IsSetOf has_address slots addressed → x < 128 → has addressed x ≡ false
    → lets_pass (slice_index_or slots x None) s next ≡ true
lets_unaddressed slots addressed s next x of l e =
    lets_no_address (slice_index_or slots x None) s next (sym (of x l) ∙ e)

pub lets_loads : (slots : List (Option Station)) (addressed stores found : ℕ) (s : Station) (next x : ℕ)
    → IsSetOf has_address slots addressed → IsSetOf holds_store slots stores
    → ((y : ℕ) → has found y ≡ (has addressed y && has stores y)) → is_store (step_in s) ≡ false → x < 128
    → has found x ≡ false → lets_pass (slice_index_or slots x None) s next ≡ true
lets_loads slots addressed stores found s next x of are both load l e = elim (cases_Bool (has addressed x)) [
  | inr f ↦ lets_unaddressed slots addressed s next x of l f
  | inl f ↦ lets_no_store (slice_index_or slots x None) s next (sym (are x l) ∙ (sym (both x ∙ rw f refl) ∙ e)) load
]

-- an older one is another one
pub left_out : (set left place x : ℕ) (issue_numbers : List ℕ) → IsWithout set place left → x < 128
    → slice_index issue_numbers x < slice_index issue_numbers place → has left x ≡ false → has set x ≡ false
left_out set left place x issue_numbers without l less e = elim (cases_Bool (place == x)) [
  | inl k ↦ let same : place ≡ x = eqb-true place x k in
      let none : slice_index issue_numbers x < slice_index issue_numbers x = rw same at less in absurd (omega arith)
  | inr k ↦ sym (without.others x l (λ z. eqb-false place x k (sym z))) ∙ e
]

pub looked_first : (slots : List (Option Station)) (rivals : ℕ) (issue_numbers : List ℕ) (issue_number : ℕ)
    (s : Station) (next : ℕ)
    → ((x : ℕ) → x < 128 → slice_index issue_numbers x < issue_number → has rivals x ≡ false
    → lets_pass (slice_index_or slots x None) s next ≡ true) → AreLooked slots issue_numbers issue_number rivals s next
looked_first slots rivals issue_numbers issue_number s next others x l less = elim (cases_Bool (has rivals x)) [
  | inl e ↦ inl e
  | inr e ↦ inr (others x l less e)
]

-- a test of the station in a place is one of the place
pub clear_here : (pools : Pools) (place next : ℕ) (s : Station) (r : Bool) → slot pools.slots place ≡ Some s
    → Decides r (IsClear pools.slots pools.issue_numbers place s next) → Decides r (IsClearAt pools place next)
clear_here pools place next s r here says = (
  λ yes t there. let same : s ≡ t = cc in rw (← same) (says.0 yes),
  λ clear. says.1 (clear s here),
)

-- and the other way round
pub clear_there : (pools : Pools) (place next : ℕ) (s : Station) (r : Bool) → slot pools.slots place ≡ Some s
    → Decides r (IsClearAt pools place next) → Decides r (IsClear pools.slots pools.issue_numbers place s next)
clear_there pools place next s r here says = (
  λ yes. says.0 yes s here,
  λ clear. says.1 (λ t there. let same : s ≡ t = cc in rw (← same) clear),
)

-- nothing blocks a free place
pub clear_free : (pools : Pools) (place next : ℕ) → slot pools.slots place ≡ None
    → Decides true (IsClearAt pools place next)
clear_free pools place next free = (λ yes s there. absurd (cc), λ clear. refl)

-- The next address.

pub none_lacks : (slots : List (Option Station)) (lacking : ℕ) → IsSetOf lacks_address slots lacking → lacking ≡ 0
    → NoneLacks slots
none_lacks slots lacking of empty x l = sym (of x l) ∙ none_rest lacking x empty

pub oldest_lacking : (slots : List (Option Station)) (lacking x : ℕ) (issue_numbers : List ℕ)
    → IsSetOf lacks_address slots lacking → x < 128 → has lacking x ≡ true
    → ((y : ℕ) → y < 128 → has lacking y ≡ true → slice_index issue_numbers x ≤ slice_index issue_numbers y)
    → IsOldestLacking slots issue_numbers x
oldest_lacking slots lacking x issue_numbers of l member least = record {
  low = l;
  lacks = sym (of x l) ∙ member;
  oldest = λ y m e. least y m (of y m ∙ e);
}
