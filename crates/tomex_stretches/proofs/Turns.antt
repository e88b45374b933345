-- The evaluator's record, counted on from stretch to stretch, is that of the stretch's floor.
use Rattle.std.proofs.Common.{ℕ, ◌+◌, ◌-◌, ◌<◌, ◌≤◌, ◌≡◌, ◌∙◌, Bool, true, false, arith, refl, ap}
use Rattle.std.proofs.Common.{List, [], ◌∷◌, Option, Some, None, max, zero, suc, length}
use Rattle.std.specs.Prelude.{if◌then◌else◌, unwrap_or, IfSome, slice_index}
use Rattle.std.specs.HashMap.{HashMap}
use Rattle.std.proofs.lemmas.Bool.Decides.{nat_tests}
use Rattle.std.proofs.lemmas.Grind.{common_steps}
use Rattle.tomex_rvdec.specs.declared.pool.UnitId.{UnitId}
use Rattle.tomex_rvexec.specs.Steps.{is_branch, is_number, step_dest, step_unit}
use Rattle.tomex_rvexec.specs.declared.step.Step.{Step}
use Rattle.tomex_timing.specs.declared.recent.Facts.{Facts}
use Rattle.tomex_timing.specs.declared.times.Done.{Done}
use Rattle.tomex_timing.specs.declared.times.Times.{Times}
use Rattle.tomex_timing.specs.History.{cycle_of, is_memory, writer_end}
use Rattle.tomex_timing.specs.Recent.{facts_of, is_memory_pool, written_by}
use Rattle.tomex_floor.specs.Floor.{floor_address, floor_end, floor_issue, floor_start, floor_times, issue_back}
use Rattle.tomex_floor.specs.Floor.{last_finish}
use Rattle.tomex_floor.specs.Kept.{Touched, shares_some, touched_in, waited_for}
use Rattle.tomex_floor.proofs.Touching.{latest_more as floor_byte}
use Rattle.tomex_stretches.specs.Kept.{AreLaterBy, AreTouched, AreTouchedBy, IsLatest, IsLatestBy, finishes_at}
use Rattle.tomex_stretches.specs.Kept.{latest_after, waited_of}
use Rattle.tomex_stretches.specs.declared.accesses.Finishes.{Finishes}
use Rattle.tomex_stretches.specs.declared.latest.Latest.{Latest}

pub cycle_is : (address : Option ℕ) → unwrap_or address 0 ≡ cycle_of address
cycle_is None = refl
cycle_is (Some t) = refl

-- times of a step with a unit
pub later_times : (latency : UnitId → ℕ) (w : ℕ) (h : List Done) (s : Step) (u : UnitId) (base start : ℕ) (at : Times)
    → step_unit s ≡ Some u → at.issue ≡ base + floor_issue w h
    → cycle_of at.address - base ≡ cycle_of (floor_address h s (floor_issue w h))
    → start ≡ base + floor_start h s (floor_issue w h) (cycle_of (floor_address h s (floor_issue w h)))
    → at.finish ≡ start + latency u - 1
    → ((t : ℕ) → at.finish ≡ base + t → at.end ≡ base + floor_end s t)
    → AreLaterBy base at (floor_times latency w h s)
later_times latency w h s u base start at unit issue address from finish end =
    let low = floor_start h s (floor_issue w h) (cycle_of (floor_address h s (floor_issue w h))) in
    let is : at.finish ≡ base + (floor_start h s (floor_issue w h) (cycle_of (floor_address h s (floor_issue w h)))
    + latency u - 1) = omega (arith, from, finish) in
    rw unit (record { issue = issue; address = address; finish = is; end = end _ is })

-- nothing that is older matters to a stretch that begins
pub begun : (latest : Latest) → IsLatestBy latest.last latest → IsLatest [] (record latest { base = latest.last })
begun latest by = record {
  count = by.count;
  ends = λ r l. let k = by.ends r l in omega (arith, k);
  issued = by.issued;
  issues = λ n l. let k = by.issues n l in omega (arith, k);
  branch = omega (arith, by.branch);
  address = omega (arith, by.address);
  end = omega (arith, by.end);
}

pub begun_by : (latest : Latest) → IsLatestBy latest.last latest
    → IsLatestBy latest.last (record latest { base = latest.last })
begun_by latest by = record {
  count = by.count;
  ends = by.ends;
  issued = by.issued;
  issues = by.issues;
  branch = by.branch;
  address = by.address;
  end = by.end;
  base = omega arith;
}

pub none_touched : {S : Type 0} (g : ℕ) (m : HashMap ℕ Finishes S) → AreTouchedBy g m → AreTouched g [] m
none_touched g m by = record {
  store = λ b. let k = by.store b in omega (arith, k);
  access = λ b. let k = by.access b in omega (arith, k);
}

-- the latest of each kind of cycle after one more step

ends_count : (dest : Option ℕ) (end : ℕ) (ends : List ℕ) → length ends ≡ 32 → length (written_by dest end ends) ≡ 32
ends_count None end ends count = count
ends_count (Some n) end ends count = grind (arith, common_steps)

ends_more : (dest : Option ℕ) (base end low : ℕ) (ends : List ℕ) (h : List Done) (r : ℕ) → length ends ≡ 32
    → IfSome dest (λ n. n < 32) → ((r : ℕ) → r < 32 → slice_index ends r - base ≡ writer_end h r) → r < 32
    → end - base ≡ low
    → slice_index (written_by dest end ends) r - base ≡ (if is_number dest r then low else writer_end h r)
ends_more None base end low ends h r count small are l is = are r l
ends_more (Some n) base end low ends h r count small are l is =
    let before = are r l in grind (arith, nat_tests, common_steps)

ends_by : (dest : Option ℕ) (end g : ℕ) (ends : List ℕ) (r : ℕ) → length ends ≡ 32 → IfSome dest (λ n. n < 32)
    → ((r : ℕ) → r < 32 → slice_index ends r ≤ g) → r < 32 → end ≤ g → slice_index (written_by dest end ends) r ≤ g
ends_by None end g ends r count small are l is = are r l
ends_by (Some n) end g ends r count small are l is =
    let before = are r l in grind (arith, nat_tests, common_steps)

issues_more : (base : ℕ) (h : List Done) (d : Done) (issue : ℕ) (issues : List ℕ) (n : ℕ)
    → ((n : ℕ) → n < 4 → slice_index issues n - base ≡ issue_back h n) → n < 4 → issue - base ≡ d.at.issue
    → slice_index (issue ∷ slice_index issues 0 ∷ slice_index issues 1 ∷ slice_index issues 2 ∷ []) n - base
    ≡ issue_back (d ∷ h) n
issues_more base h d issue issues zero are l is = is
issues_more base h d issue issues (suc zero) are l is = are 0 (omega arith)
issues_more base h d issue issues (suc (suc zero)) are l is = are 1 (omega arith)
issues_more base h d issue issues (suc (suc (suc zero))) are l is = are 2 (omega arith)
issues_more base h d issue issues (suc (suc (suc (suc n)))) are l is = absurd (omega arith)

issues_by : (issue g : ℕ) (issues : List ℕ) (n : ℕ) → ((n : ℕ) → n < 4 → slice_index issues n ≤ g) → n < 4 → issue ≤ g
    → slice_index (issue ∷ slice_index issues 0 ∷ slice_index issues 1 ∷ slice_index issues 2 ∷ []) n ≤ g
issues_by issue g issues zero are l is = is
issues_by issue g issues (suc zero) are l is = are 0 (omega arith)
issues_by issue g issues (suc (suc zero)) are l is = are 1 (omega arith)
issues_by issue g issues (suc (suc (suc zero))) are l is = are 2 (omega arith)
issues_by issue g issues (suc (suc (suc (suc n)))) are l is = absurd (omega arith)

branch_more : (b : Bool) (base finish low m k : ℕ) → finish ≡ base + low → m - base ≡ k
    → (if b then max finish m else m) - base ≡ max (if b then low else 0) k
branch_more true base finish low m k is so = omega (arith, is, so)
branch_more false base finish low m k is so = omega (arith, is, so)

choice_less : (b : Bool) (base m n j k : ℕ) → m - base ≡ j → n - base ≡ k
    → (if b then m else n) - base ≡ (if b then j else k)
choice_less true base m n j k is so = is
choice_less false base m n j k is so = so

pub latest_more : (h : List Done) (s : Step) (at t : Times) (latest : Latest) → IfSome (step_dest s) (λ r. r < 32)
    → IsLatest h latest → AreLaterBy latest.base at t
    → IsLatest (record { step = s; at = t } ∷ h) (latest_after (facts_of s) at latest)
latest_more h s at t latest low is later = record {
  count = ends_count (step_dest s) at.end latest.ends is.count;
  ends = λ r l. ends_more (step_dest s) latest.base at.end t.end latest.ends h r is.count low is.ends l
      (omega (arith, later.end));
  issued = refl;
  issues = λ n l. issues_more latest.base h (record { step = s; at = t }) at.issue latest.issues n is.issues l
      (omega (arith, later.issue));
  branch = branch_more (is_branch s) latest.base at.finish t.finish latest.branch (last_finish is_branch h)
      later.finish is.branch;
  address = choice_less (is_memory s) latest.base (cycle_of at.address) latest.address _ _ later.address is.address;
  end = omega (arith, later.end, is.end);
}

less_than : (b : Bool) (m n g : ℕ) → m ≤ g → n ≤ g → (if b then m else n) ≤ g
less_than true m n g l k = l
less_than false m n g l k = k

pub latest_by : (f : Facts) (at : Times) (latest : Latest) → IfSome f.dest (λ r. r < 32)
    → IsLatestBy latest.last latest → at.issue ≤ at.end → at.finish ≤ at.end
    → IsLatestBy (latest_after f at latest).last (latest_after f at latest)
latest_by f at latest low by first second = record {
  count = ends_count f.dest at.end latest.ends by.count;
  ends = λ r l. ends_by f.dest at.end (max (max at.end (cycle_of at.address)) latest.last) latest.ends r by.count low
      (λ r l. let k = by.ends r l in omega (arith, k)) l (omega arith);
  issued = refl;
  issues = λ n l. issues_by at.issue (max (max at.end (cycle_of at.address)) latest.last) latest.issues n
      (λ n l. let k = by.issues n l in omega (arith, k)) l (omega (arith, first));
  branch = less_than f.is_branch (max at.finish latest.branch) latest.branch _ (omega (arith, second, by.branch))
      (omega (arith, by.branch));
  address = less_than (is_memory_pool f.pool) (cycle_of at.address) latest.address _ (omega arith)
      (omega (arith, by.address));
  end = omega (arith, by.end);
  base = omega (arith, by.base);
}

pub touched_later : {S : Type 0} (f g : ℕ) (m : HashMap ℕ Finishes S) → f ≤ g → AreTouchedBy f m → AreTouchedBy g m
touched_later f g m l by = record {
  store = λ b. let k = by.store b in omega (arith, k, l);
  access = λ b. let k = by.access b in omega (arith, k, l);
}

-- one more byte of an access

abbrev touched : ℕ → ℕ → Touched
touched store access = record { store = store; access = access }

waited_less : (is_store : Bool) (base : ℕ) (f : Finishes)
    → waited_of is_store f - base ≡ waited_for is_store (record { store = f.store - base; access = f.access - base })
waited_less true base f = refl
waited_less false base f = refl

pub byte_more : {S : Type 0} (base from b latest new : ℕ) (is_store : Bool) (h : List Done) (m : HashMap ℕ Finishes S)
    → from ≤ b → AreTouched base h m → latest - base ≡ last_finish (shares_some from b is_store) h
    → new ≡ max (waited_of is_store (finishes_at m b)) latest
    → new - base ≡ last_finish (shares_some from (b + 1) is_store) h
byte_more base from b latest new is_store h m low are so is =
    let same : touched ((finishes_at m b).store - base) ((finishes_at m b).access - base) ≡ touched_in h b =
    ap (λ (n : ℕ). touched n ((finishes_at m b).access - base)) (are.store b)
    ∙ ap (λ (n : ℕ). touched (touched_in h b).store n) (are.access b) in
    let more = floor_byte from b is_store h (touched ((finishes_at m b).store - base) ((finishes_at m b).access - base))
    (latest - base) low same so in
    let w = waited_less is_store base (finishes_at m b) in
    omega (arith, is, more, w)

pub byte_by : {S : Type 0} (g b : ℕ) (is_store : Bool) (m : HashMap ℕ Finishes S) → AreTouchedBy g m
    → waited_of is_store (finishes_at m b) ≤ g
byte_by g b true m by = by.access b
byte_by g b false m by = by.store b
