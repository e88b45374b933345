-- What stations and registers show after one more step.
use Rattle.std.proofs.Common.{◌≡◌, ◌∙◌, ◌<◌, ◌≤◌, ◌+◌, ◌*◌, ◌/◌, ◌%◌, ℕ, zero, suc, arith, refl, ap, sym, List, [], ◌∷◌}
use Rattle.std.proofs.Common.{ap₂, get_or, Bool, Option, Some, None, map, reverse, take, true, false, inl}
use Rattle.std.proofs.Common.{inr, length, replicate}
use Rattle.std.specs.Prelude.{◌≢◌, ◌==◌, ◌&&◌, nat_lt, nat_le, if◌then◌else◌, slice_index_or, IfSome}
use Rattle.std.specs.List.{range_with_len}
use Rattle.std.proofs.lemmas.Bool.{and_right, cases_Bool, eq-eqb, ltb-false, ltb-true, ne_eqb}
use Rattle.std.proofs.lemmas.Bool.{false_from_ne_true, eqb-true, and_from, and_parts}
use Rattle.std.proofs.lemmas.Simd.{map-map}
use Rattle.std.proofs.lemmas.List.{reverse-append, map-append, take_more}
use Rattle.std.proofs.lemmas.List.FromFn.{get_or-map-range_with_len}
use Rattle.tomex_rvdec.proofs.Places.{pool_low}
use Rattle.tomex_rvdec.specs.Places.{place_of_pool}
use Rattle.tomex_rvdec.specs.declared.pool.PoolId.{PoolId}
use Rattle.tomex_rvdec.specs.declared.pool.PoolId.TheVariants as pools
use Rattle.tomex_rvexec.specs.Steps.{is_in, is_number, j_of, k_of, step_dest, step_pool}
use Rattle.tomex_rvexec.specs.declared.step.Operand.{Operand}
use Rattle.tomex_timing.specs.Tables.{a_of, all_tags, busy_of, field_from, field_of, is_under_way, producer}
use Rattle.tomex_timing.specs.Tables.{qi_of, station_fields}
use Rattle.tomex_timing.specs.Tables.{tag_at, unsent_tag}
use Rattle.tomex_timing.specs.declared.tables.Busy.{Busy}
use Rattle.tomex_timing.specs.declared.tables.Field.{Field}
use Rattle.tomex_timing.specs.declared.tables.Tag.{Tag}
use Rattle.tomex_timing.specs.declared.times.Done.{Done}
use Rattle.tomex_snapshots.specs.declared.snapshot.Snapshot.{Snapshot}
use Rattle.tomex_snapshots.specs.declared.entries.Entry.{Entry}
use Rattle.tomex_snapshots.specs.Entries.{done_of, history_of}
use Rattle.tomex_snapshots.specs.Takers.{occupant}
use Rattle.tomex_snapshots.specs.Kept.{IsSnapshot, snapshot_after, busy_in, field_in, registers_after, set_in}
use Rattle.tomex_snapshots.specs.Kept.{stations_after, stations_with}
use Rattle.tomex_snapshots.proofs.Lists.{map_below, set_is}

-- the station of a place
abbrev pool_at : ℕ → PoolId
pool_at zero = pools.Alu
pool_at (suc zero) = pools.Mul
pool_at (suc (suc zero)) = pools.Div
pool_at (suc (suc (suc zero))) = pools.Load
pool_at (suc (suc (suc (suc zero)))) = pools.Store
pool_at (suc (suc (suc (suc (suc n))))) = pools.Bru

abbrev tag_at_place : ℕ → Tag
tag_at_place x = record { pool = pool_at (x / 16); number = x % 16 }

tags_are_places : all_tags ≡ map tag_at_place (range_with_len 0 96)
tags_are_places = refl

place_back : (q : ℕ) → q < 6 → place_of_pool (pool_at q) ≡ q
place_back zero l = refl
place_back (suc zero) l = refl
place_back (suc (suc zero)) l = refl
place_back (suc (suc (suc zero))) l = refl
place_back (suc (suc (suc (suc zero)))) l = refl
place_back (suc (suc (suc (suc (suc zero))))) l = refl
place_back (suc (suc (suc (suc (suc (suc n)))))) l = absurd (omega (arith, l))

pool_back : (p : PoolId) → pool_at (place_of_pool p) ≡ p
pool_back pools.Alu = refl
pool_back pools.Mul = refl
pool_back pools.Div = refl
pool_back pools.Load = refl
pool_back pools.Store = refl
pool_back pools.Bru = refl

-- a place is only that of its station
other_place : (p : PoolId) (n k : ℕ) → k < 96 → k ≢ 16 * place_of_pool p + n
    → (place_of_pool p == place_of_pool (pool_at (k / 16)) && n == k % 16) ≡ false
other_place p n k l apart = false_from_ne_true _ (λ e.
    let both = and_parts _ _ e in
    let pool : place_of_pool p ≡ place_of_pool (pool_at (k / 16)) = eqb-true _ _ both.0 in
    let number : n ≡ k % 16 = eqb-true _ _ both.1 in
    let back : place_of_pool (pool_at (k / 16)) ≡ k / 16 = place_back (k / 16) (omega (arith, l)) in
    apart (omega (arith, pool, number, back)))

same_place : (p : PoolId) (n : ℕ) → n < 16 → tag_at_place (16 * place_of_pool p + n) ≡ record { pool = p; number = n }
same_place p n l =
    let q : (16 * place_of_pool p + n) / 16 ≡ place_of_pool p = omega (arith, l) in
    let r : (16 * place_of_pool p + n) % 16 ≡ n = omega (arith, l) in
    rw (q, r, pool_back p) refl

-- the entry of one station in a table of all
pub at_station : (f : Tag → Option Busy) (p : PoolId) (n : ℕ) (d : Option Busy) → n < 16
    → slice_index_or (map f all_tags) (16 * place_of_pool p + n) d ≡ f (record { pool = p; number = n })
at_station f p n d l =
    let low = pool_low p in
    ap (λ (tags : List Tag). slice_index_or (map f tags) (16 * place_of_pool p + n) d) tags_are_places
    ∙ (ap (λ (xs : List (Option Busy)). slice_index_or xs (16 * place_of_pool p + n) d)
    (map-map f tag_at_place (range_with_len 0 96))
    ∙ (get_or-map-range_with_len (λ x. f (tag_at_place x)) 0 96 (16 * place_of_pool p + n)
    (16 * place_of_pool p + n) d (omega (arith, low, l)) (omega arith) ∙ ap f (same_place p n l)))

-- the entry of one register in a table of all
pub at_register : (f : ℕ → Option Tag) (r : ℕ) (d : Option Tag) → r < 32
    → slice_index_or (map f (range_with_len 0 32)) r d ≡ f r
at_register f r d l = get_or-map-range_with_len f 0 32 r r d l (omega arith)

-- a table with another value for a register
pub note_is : (f : ℕ → Option Tag) (c : Bool) (dest : Option ℕ) (v : Option Tag)
    → (if c then set_in (map f (range_with_len 0 32)) dest v else map f (range_with_len 0 32))
    ≡ map (λ r. if c && is_number dest r then v else f r) (range_with_len 0 32)
note_is f false dest v = refl
note_is f true None v = refl
note_is f true (Some q) v =
    set_is 32 f (λ r. if q == r then v else f r) q v None (rw (eq-eqb q q refl) refl)
    (λ k l e. rw (ne_eqb q k (λ same. e (sym same))) refl)

operand_is : (by : ℕ) (h : List Done) (producers : List (Option Tag)) (o : Option Operand)
    → producers ≡ map (producer by h) (range_with_len 0 32) → IfSome o (λ x. x.register < 32)
    → field_in producers o ≡ field_of by h o
operand_is by h producers None is low = refl
operand_is by h producers (Some o) is low = ap (field_from o.value)
    (ap (λ (xs : List (Option Tag)). slice_index_or xs o.register None) is ∙ at_register (producer by h) o.register
    None low)

busy_is : (by : ℕ) (h : List Done) (producers : List (Option Tag)) (tag : Tag) (e : Entry)
    → producers ≡ map (producer by h) (range_with_len 0 32) → IfSome (j_of e.step) (λ o. o.register < 32)
    → IfSome (k_of e.step) (λ o. o.register < 32)
    → busy_in by tag e producers ≡ busy_of by tag (done_of e) h
busy_is by h producers tag e is low_j low_k =
    ap₂ (λ (x y : Field). record { tag = tag; instr = e.step.instr; j = x; k = y; a = a_of by (done_of e) })
    (operand_is by h producers (j_of e.step) is low_j) (operand_is by h producers (k_of e.step) is low_k)

-- the content of a place
abbrev in_place : ℕ → ℕ → List Done → ℕ → Option Busy
in_place by at h x = occupant by at h (tag_at_place x)

in_places : (by at : ℕ) (h : List Done) → map (occupant by at h) all_tags ≡ map (in_place by at h) (range_with_len 0 96)
in_places by at h =
    ap (λ (tags : List Tag). map (occupant by at h) tags) tags_are_places
    ∙ map-map (occupant by at h) tag_at_place (range_with_len 0 96)

-- a step that isn't in this place leaves it as it is
elsewhere : (by at : ℕ) (d : Done) (h : List Done) (x : ℕ)
    → (is_under_way at d && is_in (pool_at (x / 16)) (step_pool d.step) && is_number d.at.station (x % 16)) ≡ false
    → in_place by at (d ∷ h) x ≡ in_place by at h x
elsewhere by at d h x absent = rw absent refl

-- a step in this place is seen there
within : (by at : ℕ) (d : Done) (h : List Done) (x : ℕ)
    → (is_under_way at d && is_in (pool_at (x / 16)) (step_pool d.step) && is_number d.at.station (x % 16)) ≡ true
    → in_place by at (d ∷ h) x ≡ Some (busy_of by (tag_at_place x) d h)
within by at d h x present = rw present refl

in_station : (u a : Bool) (pool other : Option PoolId) (station number : Option ℕ) (p : PoolId) (k : ℕ)
    → pool ≡ other → station ≡ number → u ≡ true → (is_in p other && is_number number k) ≡ a
    → (u && is_in p pool && is_number station k) ≡ a
in_station u a pool other station number p k same_pool same_station going is = rw (going, same_pool, same_station) is

module _ (count : ℕ) (few : count ≤ 96) (by at : ℕ) (e : Entry) (h : List Done) (producers : List (Option Tag))
    (made : producers ≡ map (producer by h) (range_with_len 0 32)) (low_j : IfSome (j_of e.step) (λ o. o.register < 32))
    (low_k : IfSome (k_of e.step) (λ o. o.register < 32)) (going : is_under_way at (done_of e) ≡ true) where
  not_there : (pool : Option PoolId) (station : Option ℕ) → step_pool e.step ≡ pool → e.at.station ≡ station
      → ((x : ℕ) → x < count → (is_in (pool_at (x / 16)) pool && is_number station (x % 16)) ≡ false)
      → map (in_place by at h) (range_with_len 0 count) ≡ map (in_place by at (done_of e ∷ h)) (range_with_len 0 count)
  not_there pool station same_pool same_station absent =
      map_below count (in_place by at h) (in_place by at (done_of e ∷ h)) (λ x l. sym (elsewhere by at (done_of e) h x
      (in_station (is_under_way at (done_of e)) false (step_pool e.step) pool e.at.station station (pool_at (x / 16))
      (x % 16) same_pool same_station going (absent x l))))

  in_its_place : (p : PoolId) (n : ℕ) → step_pool e.step ≡ Some p → e.at.station ≡ Some n → n < 16
      → in_place by at (done_of e ∷ h) (16 * place_of_pool p + n)
      ≡ Some (busy_in by (record { pool = p; number = n }) e producers)
  in_its_place p n same_pool same_station l =
      let x : ℕ = 16 * place_of_pool p + n in
      let tag : Tag = record { pool = p; number = n } in
      let q : x / 16 ≡ place_of_pool p = omega (arith, l) in
      let r : x % 16 ≡ n = omega (arith, l) in
      let present : (is_in (pool_at (x / 16)) (Some p) && is_number (Some n) (x % 16)) ≡ true =
      rw (q, r, pool_back p) (and_from _ _ (eq-eqb (place_of_pool p) (place_of_pool p) refl) (eq-eqb n n refl)) in
      within by at (done_of e) h x (in_station (is_under_way at (done_of e)) true (step_pool e.step) (Some p)
      e.at.station
      (Some n) (pool_at (x / 16)) (x % 16) same_pool same_station going present)
      ∙ (ap (λ (t : Tag). Some (busy_of by t (done_of e) h)) (same_place p n l)
      ∙ ap (λ (b : Busy). Some b) (sym (busy_is by h producers tag e made low_j low_k)))

  -- the step goes into its place, if it has one
  put_in : (pool : Option PoolId) (station : Option ℕ) → step_pool e.step ≡ pool → e.at.station ≡ station
      → stations_with by e producers (map (in_place by at h) (range_with_len 0 count)) (tag_at pool station)
      ≡ map (in_place by at (done_of e ∷ h)) (range_with_len 0 count)
  put_in None station same_pool same_station = not_there None station same_pool same_station (λ x l. refl)
  put_in (Some p) None same_pool same_station =
      not_there (Some p) None same_pool same_station (λ x l. and_right _ false refl)
  put_in (Some p) (Some n) same_pool same_station = elim (cases_Bool (nat_lt n 16)) [
    | inl low ↦
        let l : n < 16 = ltb-true n 16 low in
        rw low (set_is count (in_place by at h) (in_place by at (done_of e ∷ h)) (16 * place_of_pool p + n)
        (Some (busy_in by (record { pool = p; number = n }) e producers)) None
        (in_its_place p n same_pool same_station l) (λ k lk apart. elsewhere by at (done_of e) h k
        (in_station (is_under_way at (done_of e)) false (step_pool e.step) (Some p) e.at.station (Some n)
        (pool_at (k / 16)) (k % 16) same_pool same_station going (other_place p n k (omega (arith, lk, few)) apart))))
    | inr high ↦
        let l : 16 ≤ n = ltb-false n 16 high in
        rw high (not_there (Some p) (Some n) same_pool same_station (λ x lx. and_right _ _
        (ne_eqb n (x % 16) (λ same. let big : n ≡ x % 16 = same in absurd (omega (arith, l, big))))))
  ]

places_more : (count : ℕ) → count ≤ 96 → (by at : ℕ) (e : Entry) (h : List Done) (producers : List (Option Tag))
    → producers ≡ map (producer by h) (range_with_len 0 32) → IfSome (j_of e.step) (λ o. o.register < 32)
    → IfSome (k_of e.step) (λ o. o.register < 32)
    → stations_after by at e producers (map (in_place by at h) (range_with_len 0 count))
    ≡ map (in_place by at (done_of e ∷ h)) (range_with_len 0 count)
places_more count few by at e h producers made low_j low_k = elim (cases_Bool (is_under_way at (done_of e))) [
  | inl going ↦ rw going
      (put_in count few by at e h producers made low_j low_k going (step_pool e.step) e.at.station refl refl)
  | inr over ↦ rw over (map_below count (in_place by at h) (in_place by at (done_of e ∷ h))
      (λ x l. sym (elsewhere by at (done_of e) h x (rw over refl))))
]

-- what stations show
stations_more : (by at : ℕ) (e : Entry) (h : List Done) (producers : List (Option Tag)) (stations : List (Option Busy))
    → producers ≡ map (producer by h) (range_with_len 0 32) → IfSome (j_of e.step) (λ o. o.register < 32)
    → IfSome (k_of e.step) (λ o. o.register < 32) → stations ≡ map (occupant by at h) all_tags
    → stations_after by at e producers stations ≡ map (occupant by at (done_of e ∷ h)) all_tags
stations_more by at e h producers stations made low_j low_k is =
    ap (λ (xs : List (Option Busy)). stations_after by at e producers xs) (is ∙ in_places by at h)
    ∙ (places_more 96 (omega arith) by at e h producers made low_j low_k ∙ sym (in_places by at (done_of e ∷ h)))

-- one more step
pub snapshot_more : (by at : ℕ) (e : Entry) (h : List Done) (snapshot new : Snapshot) → IsSnapshot by at h snapshot
    → IfSome (j_of e.step) (λ o. o.register < 32) → IfSome (k_of e.step) (λ o. o.register < 32)
    → new ≡ snapshot_after by at e snapshot → IsSnapshot by at (done_of e ∷ h) new
snapshot_more by at e h snapshot new old low_j low_k is = rw is (record {
  stations = stations_more by at e h snapshot.producers snapshot.stations old.producers low_j low_k old.stations;
  registers = ap (λ (xs : List (Option Tag)). registers_after by e xs) old.registers
      ∙ note_is (qi_of by h) (nat_le e.at.issue by) (step_dest e.step) (unsent_tag by (done_of e));
  producers = ap (λ (xs : List (Option Tag)). set_in xs (step_dest e.step) (unsent_tag by (done_of e))) old.producers
      ∙ note_is (producer by h) true (step_dest e.step) (unsent_tag by (done_of e));
})

-- before the first step
pub snapshot_none : (by at : ℕ) (snapshot : Snapshot)
    → snapshot ≡ record { stations = replicate 96 None; registers = replicate 32 None; producers = replicate 32 None }
    → IsSnapshot by at [] snapshot
snapshot_none by at snapshot is = rw is (record { stations = refl; registers = refl; producers = refl })

-- the history of one more step
pub history_more : (es : List Entry) (i : ℕ) (e first : Entry) → i < length es → e ≡ get_or es i first
    → history_of (take (i + 1) es) ≡ done_of e ∷ history_of (take i es)
history_more es i e first l is =
    ap history_of (take_more es i first l)
    ∙ (ap reverse (map-append done_of (take i es) (get_or es i first ∷ []))
    ∙ (reverse-append (map done_of (take i es)) (done_of (get_or es i first) ∷ [])
    ∙ ap (λ (x : Entry). done_of x ∷ history_of (take i es)) (sym is)))

-- with the same fields it shows the same as tables do
pub held_is : (t : ℕ) (h : List Done) (tag : Tag) → occupant t t h tag ≡ station_fields t h tag
held_is t [] tag = refl
held_is t (d ∷ older) tag =
    let is_there : Bool = is_under_way t d && is_in tag.pool (step_pool d.step) && is_number d.at.station tag.number in
    ap (λ (x : Option Busy). if is_there then Some (busy_of t tag d older) else x) (held_is t older tag)
