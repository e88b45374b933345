-- Which kind of unit runs the operations of a place, and which numbers of a pool are open.
use Rattle.std.proofs.Common.{ℕ, ◌+◌, ◌*◌, ◌/◌, ◌<◌, ◌≤◌, ◌≡◌, ◌∙◌, Bool, true, false, arith, refl, inl, inr, List}
use Rattle.std.proofs.Common.{Option, Some, None, slice_index_or}
use Rattle.std.specs.Prelude.{◌&&◌, ◌||◌, not, nat_lt, is_none, is_some}
use Rattle.std.proofs.lemmas.Bool.{cases_Bool, lt-ltb, ltb-true, ltb-false}
use Rattle.std.proofs.lemmas.List.{get_or_past}
use Rattle.tomex_rvdec.specs.Operands.{pool_of, unit_of_pool}
use Rattle.tomex_rvdec.specs.Places.{place_of_pool}
use Rattle.tomex_rvdec.specs.declared.pool.PoolId.{PoolId}
use Rattle.tomex_rvdec.specs.declared.pool.PoolId.TheVariants as pools
use Rattle.tomex_rvdec.specs.declared.pool.UnitId.{UnitId}
use Rattle.tomex_rvdec.specs.declared.op.Op.{Op}
use Rattle.tomex_rvdec.specs.declared.pool.UnitId.TheVariants as units
use Rattle.tomex_rvexec.specs.Steps.{is_in}
use Rattle.tomex_timing.specs.History.{is_of}
use Rattle.tomex_timing.specs.Recurrence.{IsLeast}
use Rattle.tomex_bus.specs.Sets.{has}
use Rattle.tomex_bus.proofs.Bits.{agree, agreed}
use Rattle.tomex_tags.specs.Contents.{is_memory_op, lacks_address}
use Rattle.tomex_tags.specs.Places.{is_served, is_store_place, pool_at}
use Rattle.tomex_tags.specs.Pools.{AreBusy, AreOwn, IsOwn, is_open}
use Rattle.tomex_tags.specs.WaitSets.{IsSetOf, has_address, holds_store, waits, waits_for}
use Rattle.tomex_tags.specs.declared.station.Station.{Station}

pub are_served : (set : ℕ) (unit : UnitId) → agree (has set) (is_served unit) 128 ≡ true → (x : ℕ) → x < 128
    → has set x ≡ is_served unit x
are_served set unit e x l = agreed (has set) (is_served unit) 128 e x l

-- a pool's place in the order
pub pool_place : (pool : PoolId) → pool_at (place_of_pool pool) ≡ pool
pool_place pools.Alu = refl
pool_place pools.Mul = refl
pool_place pools.Div = refl
pool_place pools.Load = refl
pool_place pools.Store = refl
pool_place pools.Bru = refl

served_from : (b : Bool) (x : ℕ) (unit : UnitId) → x < 96 → (nat_lt x 96 && b) ≡ b
served_from b x unit l = rw (lt-ltb x 96 l) refl

is_memory_pool : (pool : PoolId) → (is_in pools.Load (Some pool) || is_in pools.Store (Some pool))
    ≡ is_of units.Mem (Some (unit_of_pool pool))
is_memory_pool pools.Alu = refl
is_memory_pool pools.Mul = refl
is_memory_pool pools.Div = refl
is_memory_pool pools.Load = refl
is_memory_pool pools.Store = refl
is_memory_pool pools.Bru = refl

memory_at : (x : ℕ) (op : Op) (pool : PoolId) → pool_of op ≡ Some pool
    → is_memory_op op ≡ is_of units.Mem (Some (unit_of_pool pool))
memory_at x op pool e = rw e (is_memory_pool pool)

are_store_places : (set : ℕ) → agree (has set) is_store_place 128 ≡ true → (x : ℕ) → x < 128
    → has set x ≡ is_store_place x
are_store_places set e x l = agreed (has set) is_store_place 128 e x l

pub places_of_stores : (x : ℕ) → x < 128 → has 1208907372870555465154560 x ≡ is_store_place x
places_of_stores = are_store_places 1208907372870555465154560 refl

-- a store is a station in a place of the store buffers
stores_by : (x : ℕ) (o : Option Station) → x < 96 → IsOwn x o → (is_some o && is_store_place x) ≡ holds_store o
stores_by x None l own = refl
stores_by x (Some s) l own = rw (lt-ltb x 96 l, own) refl

none_past : (slots : List (Option Station)) (busy : ℕ) (issue_numbers : List ℕ) (x : ℕ)
    → AreBusy slots busy issue_numbers → x < 128 → 96 ≤ x → slice_index_or slots x None ≡ None
none_past slots busy issue_numbers x filled l high = get_or_past slots x None (rw filled.places high)

pub are_stores : (slots : List (Option Station)) (busy places stores : ℕ) (issue_numbers : List ℕ)
    → AreBusy slots busy issue_numbers → AreOwn slots → ((x : ℕ) → x < 128 → has places x ≡ is_store_place x)
    → ((x : ℕ) → has stores x ≡ (has busy x && has places x)) → IsSetOf holds_store slots stores
are_stores slots busy places stores issue_numbers filled own are both x l =
    both x ∙ rw (filled.each x l, are x l) (elim (cases_Bool (nat_lt x 96)) [
      | inl e ↦ let low : x < 96 = ltb-true x 96 e in stores_by x (slice_index_or slots x None) low (own x low)
      | inr e ↦ rw (none_past slots busy issue_numbers x filled l (ltb-false x 96 e)) refl
    ])

-- a load or store is a station in a place of theirs; it has its address if it isn't among those without one
addressed_by : (x : ℕ) (o : Option Station) → x < 96 → IsOwn x o
    → ((is_some o && is_served units.Mem x) && not (lacks_address o)) ≡ has_address o
addressed_by x None l own = refl
addressed_by x (Some s) l own =
    rw (
      served_from (is_of units.Mem (Some (unit_of_pool (pool_at (x / 16))))) x units.Mem l,
      ← memory_at x s.instr.op
          (pool_at (x / 16)) own,
    ) (turned (is_memory_op s.instr.op) (is_some s.address))
  where
    turned : (m a : Bool) → (m && not (m && not a)) ≡ (m && a)
    turned false a = refl
    turned true true = refl
    turned true false = refl

pub are_addressed : (slots : List (Option Station)) (busy served lacking memory found : ℕ) (issue_numbers : List ℕ)
    → AreBusy slots busy issue_numbers → AreOwn slots → IsSetOf lacks_address slots lacking
    → ((x : ℕ) → x < 128 → has served x ≡ is_served units.Mem x)
    → ((x : ℕ) → has memory x ≡ (has busy x && has served x))
    → ((x : ℕ) → x < 128 → has found x ≡ (has memory x && not (has lacking x))) → IsSetOf has_address slots found
are_addressed slots busy served lacking memory found issue_numbers filled own without serves both but x l =
    but x l ∙ rw (both x, filled.each x l, serves x l, without x l) (elim (cases_Bool (nat_lt x 96)) [
      | inl e ↦ let low : x < 96 = ltb-true x 96 e in addressed_by x (slice_index_or slots x None) low (own x low)
      | inr e ↦ rw (none_past slots busy issue_numbers x filled l (ltb-false x 96 e)) refl
    ])

waits_by : (x : ℕ) (unit : UnitId) (o : Option Station) → x < 96 → IsOwn x o
    → (waits o && is_served unit x) ≡ waits_for unit o
waits_by x unit None l own = refl
waits_by x unit (Some s) l own =
    rw (served_from (is_of unit (Some (unit_of_pool (pool_at (x / 16))))) x unit l, own) refl

pub wait_for : (slots : List (Option Station)) (busy waiting served found : ℕ) (issue_numbers : List ℕ) (unit : UnitId)
    → AreBusy slots busy issue_numbers → AreOwn slots → IsSetOf waits slots waiting
    → ((x : ℕ) → x < 128 → has served x ≡ is_served unit x)
    → ((x : ℕ) → has found x ≡ (has waiting x && has served x)) → IsSetOf (waits_for unit) slots found
wait_for slots busy waiting served found issue_numbers unit filled own wait serves both x l =
    both x ∙ rw (wait x l, serves x l) (elim (cases_Bool (nat_lt x 96)) [
      | inl e ↦ let low : x < 96 = ltb-true x 96 e in waits_by x unit (slice_index_or slots x None) low (own x low)
      | inr e ↦ rw (none_past slots busy issue_numbers x filled l (ltb-false x 96 e)) refl
    ])

-- The least number of a pool whose place is open.

open_is : (slots : List (Option Station)) (busy taken n p : ℕ) (issue_numbers : List ℕ) (pool : PoolId)
    → AreBusy slots busy issue_numbers → p ≡ place_of_pool pool → p < 6 → n < 16
    → ((x : ℕ) → x < 16 → has taken x ≡ has busy (16 * p + x)) → is_open slots pool n ≡ not (has taken n)
open_is slots busy taken n p issue_numbers pool filled e l m in_pool =
    rw (in_pool n m, filled.each (16 * p + n) (omega arith), ← e) (turned (slice_index_or slots (16 * p + n) None))
  where
    turned : (o : Option Station) → is_none o ≡ not (is_some o)
    turned None = refl
    turned (Some s) = refl

pub least_open : (slots : List (Option Station)) (busy taken p n : ℕ) (issue_numbers : List ℕ) (pool : PoolId)
    → AreBusy slots busy issue_numbers → p ≡ place_of_pool pool → p < 6 → n < 16
    → ((x : ℕ) → x < 16 → has taken x ≡ has busy (16 * p + x)) → has taken n ≡ false
    → ((i : ℕ) → i < n → has taken i ≡ true) → IsLeast (is_open slots pool) n
least_open slots busy taken p n issue_numbers pool filled e l low in_pool here least = (
  rw (open_is slots busy taken n p issue_numbers pool filled e l low in_pool, here) refl,
  λ i less. rw (open_is slots busy taken i p issue_numbers pool filled e l (omega arith) in_pool, least i less) refl,
)

pub none_before : {slots : List (Option Station)} {busy : ℕ} (taken : ℕ) {p : ℕ} (least count : ℕ)
    {issue_numbers : List ℕ} (pool : PoolId) → AreBusy slots busy issue_numbers → p ≡ place_of_pool pool → p < 6
    → least ≤ 16 → ((x : ℕ) → x < 16 → has taken x ≡ has busy (16 * p + x)) → ((i : ℕ) → i < least → has taken i ≡ true)
    → count ≤ least → (n : ℕ) → n < count → is_open slots pool n ≡ false
none_before {slots} {busy} taken {p} least count {issue_numbers} pool filled e l few in_pool none high n less =
    rw (open_is slots busy taken n p issue_numbers pool filled e l (omega arith) in_pool, none n (omega arith)) refl
