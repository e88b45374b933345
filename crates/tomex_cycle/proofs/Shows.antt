-- The tables of what the state shows.
use Rattle.tomex_cycle.proofs.Words.{nat_lt, nat_le, if◌then◌else◌, ◌&&◌, map, filter_map, range_with_len, cases_Bool}
use Rattle.tomex_cycle.proofs.Words.{nat_tests, le-leb, Loaded, Configuration, is_in, is_number, step_pool, step_dest}
use Rattle.tomex_cycle.proofs.Words.{address_of, Busy, Tag, Done, cycle_of, is_memory, Tables, tables_of}
use Rattle.tomex_cycle.proofs.Words.{station_fields, qi_of}
use Rattle.tomex_cycle.proofs.Words.{producer, all_tags, place_of_pool, AreIssuedBy, clocks, holds_place, station_at}
use Rattle.tomex_cycle.proofs.Words.{station_of, ShowsStations, ShowsRegisters, place_of_tag, Pools, RegStatus, IsUpTo}
use Rattle.tomex_cycle.proofs.Words.{slot, ℕ, ◌+◌, ◌*◌, ◌/◌, ◌%◌, ◌<◌, ◌≤◌, ◌≡◌, ◌∙◌, Bool, arith, refl, List, [], ◌∷◌}
use Rattle.tomex_cycle.proofs.Words.{Option, Some, None, ap, sym, inl, inr, length, slice_index_or, option_map}
use Rattle.tomex_cycle.proofs.Words.{ext_get_or, get_or-map-range_with_len, length-map-range_with_len, busy_of}
use Rattle.tomex_cycle.proofs.Words.{is_under_way, a_from, busy_from, pool_at, tag_at_place, ◌≢◌, AllByRecursion}
use Rattle.tomex_cycle.proofs.Words.{both_ways, Operand, is_branch, j_of, k_of, times_of, field_of, field_from}
use Rattle.tomex_cycle.proofs.Words.{times_are, IsSnapshot, IsYetToIssue, byte_at, first_timed, RunEndsAfter, fetch_of}
use Rattle.tomex_cycle.proofs.Words.{place_of, Core, zero, suc, ◌-◌, true, ◌++◌, subst}
use Rattle.tomex_cycle.proofs.Places.{low, AreLow, IsLow, same_place, issued_more}
use Rattle.tomex_cycle.proofs.Quiet.{AllSteady, AllQuiet}
use Rattle.tomex_cycle.proofs.Runs.{next_done, not_by, run_next, run_timed, step_is}

a_same : (t imm address cycle : ℕ) (memory : Bool) → (if memory then Some (if nat_lt t cycle then imm else address) else
    None) ≡ a_from memory (if memory && nat_le cycle t then Some address else None) imm
a_same t imm address cycle memory = grind (arith, nat_tests)

busy_same : (i : Loaded) (t : ℕ) (tag : Tag) (d : Done) (older : List Done)
    → busy_of t tag d older ≡ busy_from tag (station_of i (clocks t t t) d older)
busy_same i t tag d older =
    rw (a_same t d.step.instr.imm (address_of d.step) (cycle_of d.at.address) (is_memory d.step)) refl

turn_and : (a b c : Bool) → ((true && a) && b && c) ≡ ((b && c) && a)
turn_and a b c = grind (arith, nat_tests)

holds_test : (t : ℕ) (tag : Tag) (d : Done) → tag.number < 16 → IsLow d → d.at.issue ≤ t → (is_under_way t d && is_in
    tag.pool (step_pool d.step) && is_number d.at.station tag.number) ≡ holds_place t (place_of_tag tag) d
holds_test t tag d small few issued =
    rw (le-leb d.at.issue t issued, same_place tag.pool tag.number (step_pool d.step) d.at.station small few)
    (turn_and (nat_lt t d.at.end) (is_in tag.pool (step_pool d.step)) (is_number d.at.station tag.number))

-- what a station shows is the content of its place
pub shown_is : (i : Loaded) (t : ℕ) (tag : Tag) (h : List Done) → tag.number < 16 → AreLow h → AreIssuedBy t h
    → station_fields t h tag ≡ option_map (busy_from tag) (station_at i (clocks t t t) h (place_of_tag tag))
shown_is i t tag [] small few issued = refl
shown_is i t tag (d ∷ older) small few issued =
    let e = holds_test t tag d small few.0 issued.0 in
    let rest = shown_is i t tag older small few.1 issued.1 in
    elim (cases_Bool (holds_place t (place_of_tag tag) d)) [
      | inl h ↦ rw (e, h) (ap (λ (x : Busy). Some x) (busy_same i t tag d older))
      | inr h ↦ rw (e, h) rest
    ]

-- Qi of what has issued
pub qi_is : (t : ℕ) (h : List Done) (r : ℕ) → AreIssuedBy t h → qi_of t h r ≡ producer t h r
qi_is t [] r issued = refl
qi_is t (d ∷ older) r issued = elim (cases_Bool (is_number (step_dest d.step) r)) [
  | inl e ↦ rw (le-leb d.at.issue t issued.0, e) refl
  | inr e ↦ rw (le-leb d.at.issue t issued.0, e) (qi_is t older r issued.1)
]

place_by : (x q : ℕ) → q ≡ x / 16 → x < 96 → 16 * place_of_pool (pool_at q) + x % 16 ≡ x
place_by x q e l = grind (arith, nat_tests)

pub same_tables : (a : Tables) (t : ℕ) (busy : List Busy) (registers : List (Option Tag)) → a.cycle ≡ t → a.busy ≡ busy
    → a.registers ≡ registers → a ≡ record { cycle = t; busy = busy; registers = registers }
same_tables a t busy registers e f g =
    let x : ℕ → Tables = λ k. record { cycle = k; busy = a.busy; registers = a.registers } in
    let y : List Busy → Tables = λ k. record { cycle = t; busy = k; registers = a.registers } in
    let z : List (Option Tag) → Tables = λ k. record { cycle = t; busy = busy; registers = k } in
    ap x e ∙ (ap y f ∙ ap z g)

place_back : (x : ℕ) → x < 96 → place_of_tag (tag_at_place x) ≡ x
place_back x l = place_by x (x / 16) (omega arith) (omega arith)

filter_map-map : {A B C : Type 0} (f : A → B) (g : B → Option C) (xs : List A)
    → filter_map g (map f xs) ≡ filter_map (λ x. g (f x)) xs
filter_map-map f g [] = refl
filter_map-map f g (x ∷ xs) = rw (filter_map-map f g xs) refl

list_by : {A : Type 0} (n : ℕ) (xs : List (Option A)) (f : ℕ → Option A) → length xs ≡ n
    → ((x : ℕ) → x < n → slice_index_or xs x None ≡ f x) → xs ≡ map f (range_with_len 0 n)
list_by n xs f count each = ext_get_or None xs (map f (range_with_len 0 n))
    (count ∙ sym (length-map-range_with_len f 0 n)) (λ x l. let k : x < n = omega arith in
    each x k ∙ sym (get_or-map-range_with_len f 0 n x x None k (omega arith)))

pub tables_is : {i : Loaded} {config : Configuration} {t : ℕ} {h : List Done} {st : Pools} {rg : RegStatus}
    (busy : List (Option Busy)) → IsUpTo i config t h → ShowsStations i (clocks t t t) h st → ShowsRegisters i t h rg
    → length busy ≡ 96
    → ((x : ℕ) → x < 96 → slice_index_or busy x None ≡ option_map (busy_from (tag_at_place x)) (slot st.slots
    x)) → ◌≡◌ {A = Tables} (record { cycle = t; busy = filter_map (λ b. b) busy; registers = rg.tags })
    (tables_of t h)
tables_is {i} {t = t} {h} {rg = rg} busy up slots status count each =
    let f : ℕ → Option Busy = λ x. station_fields t h (tag_at_place x) in
    let a : busy ≡ map f (range_with_len 0 96) = list_by 96 busy f count (λ x l.
    let p : place_of_tag (tag_at_place x) ≡ x = place_back x l in
    let s = shown_is i t (tag_at_place x) h (omega arith) (low h up) up.issued in
    each x l ∙ (ap (option_map (busy_from (tag_at_place x))) (slots.slots x l) ∙ sym (rw p at s))) in
    let b = ap (filter_map (λ (x : Option Busy). x)) a ∙ (filter_map-map f (λ x. x) (range_with_len 0 96) ∙ sym
    (filter_map-map tag_at_place (station_fields t h) (range_with_len 0 96))) in
    let c : rg.tags ≡ map (qi_of t h) (range_with_len 0 32) = list_by 32 rg.tags (qi_of t h) status.status
    (λ r l. status.tags r l ∙ sym (qi_is t h r up.issued)) in
    same_tables _ t (filter_map (station_fields t h) all_tags) (map (qi_of t h) (range_with_len 0 32)) refl b c

-- What a state shows after a cycle it shows after a later one, if only results finish in between.

-- both cycles compare alike with the times of the step
pub record IsAlike (u w : ℕ) (d : Done) : Type 0 where
  pub address : nat_le (cycle_of d.at.address) u ≡ nat_le (cycle_of d.at.address) w
  pub start : nat_le d.at.start u ≡ nat_le d.at.start w
  pub finish : is_branch d.step ≡ true → nat_lt u d.at.finish ≡ nat_lt w d.at.finish
  pub end : nat_lt u d.at.end ≡ nat_lt w d.at.end

abbrev pub AllAlike : ℕ → ℕ → List Done → Type 0
AllAlike u w h = AllByRecursion (IsAlike u w) h

-- nothing happens after the cycle u up to w
abbrev pub AllQuietAfter : ℕ → ℕ → List Done → Type 0
AllQuietAfter u w h = (k : ℕ) → u < k → k ≤ w → AllQuiet k h

-- nothing does but finishes of results
abbrev pub AllSteadyAfter : ℕ → ℕ → List Done → Type 0
AllSteadyAfter u w h = (k : ℕ) → u < k → k ≤ w → AllSteady k h

le_alike : (x u w : ℕ) → u ≤ w → ((k : ℕ) → u < k → k ≤ w → x ≢ k) → nat_le x u ≡ nat_le x w
le_alike x u w l never = grind (arith, nat_tests)

lt_alike : (x u w : ℕ) → u ≤ w → ((k : ℕ) → u < k → k ≤ w → x ≢ k) → nat_lt u x ≡ nat_lt w x
lt_alike x u w l never = grind (arith, nat_tests)

pub all_alike : (u w : ℕ) (h : List Done) → u ≤ w → AllSteadyAfter u w h → AllAlike u w h
all_alike u w [] l steady = tt
all_alike u w (d ∷ h) l steady = (
  record {
    address = le_alike (cycle_of d.at.address) u w l (λ k a b. (steady k a b).0.address);
    start = le_alike d.at.start u w l (λ k a b. (steady k a b).0.start);
    finish = λ branch. lt_alike d.at.finish u w l
        (λ k a b e. both_ways (is_branch d.step) ((steady k a b).0.finish e).1 branch);
    end = lt_alike d.at.end u w l (λ k a b. (steady k a b).0.end);
  },
  all_alike u w h l (λ k a b. (steady k a b).1),
)

producer_alike : (u w r : ℕ) (h : List Done) → AllAlike u w h → producer u h r ≡ producer w h r
producer_alike u w r [] same = refl
producer_alike u w r (d ∷ h) same = elim (cases_Bool (is_number (step_dest d.step) r)) [
  | inl e ↦ rw (e, same.0.end) refl
  | inr e ↦ rw e (producer_alike u w r h same.1)
]

field_alike : (u w : ℕ) (h : List Done) (o : Option Operand) → AllAlike u w h → field_of u h o ≡ field_of w h o
field_alike u w h None same = refl
field_alike u w h (Some o) same = ap (field_from o.value) (producer_alike u w o.register h same)

station_alike : (i : Loaded) (u w : ℕ) (d : Done) (older : List Done) → AllAlike u w (d ∷ older)
    → station_of i (clocks u u u) d older ≡ station_of i (clocks w w w) d older
station_alike i u w d older same =
    grind (arith, nat_tests, field_alike u w older (j_of d.step) same.1, field_alike u w older (k_of d.step) same.1)

stations_alike : (i : Loaded) (u w x : ℕ) (h : List Done) → AllAlike u w h
    → station_at i (clocks u u u) h x ≡ station_at i (clocks w w w) h x
stations_alike i u w x [] same = refl
stations_alike i u w x (d ∷ older) same =
    let holds : holds_place u x d ≡ holds_place w x d = ap (λ b. is_number (place_of d) x && b) same.0.end in
    elim (cases_Bool (holds_place w x d)) [
      | inl e ↦ rw (holds, e, station_alike i u w d older same) refl
      | inr e ↦ rw (holds, e) (stations_alike i u w x older same.1)
    ]

byte_alike : (i : Loaded) (u w a : ℕ) (h : List Done) → AllAlike u w h → byte_at i u h a ≡ byte_at i w h a
byte_alike i u w a [] same = refl
byte_alike i u w a (d ∷ older) same = rw (same.0.start, byte_alike i u w a older same.1) refl

fetch_alike : (i : Loaded) (u w : ℕ) (h : List Done) → AllAlike u w h → fetch_of i u h ≡ fetch_of i w h
fetch_alike i u w h h4 = grind (arith, nat_tests)

-- a run's beginning is a part of the run
pub run_part : {config : Configuration} {i : Loaded} {n : ℕ} (k j : ℕ) → RunEndsAfter i config n → j + k ≤ n + 1
    → (newer : List Done) × (first_timed config i (j + k) ≡ newer ++ first_timed config i k)
run_part k zero run l = let e : 0 + k ≡ k = omega arith in ([], rw e refl)
run_part {config} {i} k (suc j) run l =
    let before = run_part k j run (omega arith) in
    let x = step_is (j + k) run (omega arith) in
    let e : suc j + k ≡ j + k + 1 = omega arith in
    let g = run_next config i (j + k) x.0 x.1 in
    let same : first_timed config i (j + k) ≡ before.0 ++ first_timed config i k = before.1 in (
      next_done config (first_timed config i (j + k)) x.0 ∷ before.0,
      rw (e, g) (ap (λ xs. next_done config (first_timed config i (j + k)) x.0 ∷ xs) same),
    )

pub run_split : {config : Configuration} {i : Loaded} {n : ℕ} (k m : ℕ) → RunEndsAfter i config n → k ≤ m → m ≤ n + 1
    → (newer : List Done) × (first_timed config i m ≡ newer ++ first_timed config i k)
run_split {config} {i} k m run l high =
    let e : m - k + k ≡ m = omega arith in
    subst (λ (x : ℕ). (newer : List Done) × (first_timed config i x ≡ newer ++ first_timed config i k)) e
    (run_part k (m - k) run (omega arith))

steady_tail : (k : ℕ) (newer h : List Done) → AllSteady k (newer ++ h) → AllSteady k h
steady_tail k [] h steady = steady
steady_tail k (d ∷ newer) h steady = steady_tail k newer h steady.1

steady_part : {config : Configuration} {i : Loaded} {n : ℕ} (m k : ℕ) → RunEndsAfter i config n → m ≤ n + 1
    → AllSteady k (first_timed config i (n + 1)) → AllSteady k (first_timed config i m)
steady_part {config} {i} {n} m k run l steady =
    let part = run_split m (n + 1) run l (omega arith) in
    steady_tail k part.0 (first_timed config i m) (rw part.1 at steady)

-- the next step doesn't issue there either
yet_later : {config : Configuration} {i : Loaded} {n : ℕ} (count u w : ℕ) → RunEndsAfter i config n → count ≤ n → u ≤ w
    → IsYetToIssue i config count u → AllSteadyAfter u w (first_timed config i (n + 1)) → IsYetToIssue i config count w
yet_later {config} {i} count u w run l m yet steady x e v low =
    let h : List Done = first_timed config i count in
    let late : u < (times_of config h x).issue = not_by h x u run.lawful (run_timed i count run.lawful) (yet x e) in
    let never : (k : ℕ) → u < k → k ≤ w → (times_of config h x).issue ≢ k = λ k a b. (rw (run_next config i count x e)
    at (steady_part (count + 1) k run (omega arith) (steady k a b))).0.issue in
    let past : w < (times_of config h x).issue = grind (arith, nat_tests) in
    (times_are config h x run.lawful (run_timed i count run.lawful)).issue.1 v (omega arith)

-- the snapshot after the cycle u is that after w
pub shifted : {config : Configuration} {i : Loaded} {n u : ℕ} (w : ℕ) {s : Core} → RunEndsAfter i config n → u ≤ w
    → AllSteadyAfter u w (first_timed config i (n + 1)) → IsSnapshot i config n u s → IsSnapshot i config n w s
shifted {config} {i} {n} {u} w {s} run l steady old =
    let h : List Done = first_timed config i s.issued in
    let slots : ShowsStations i (clocks u u u) h s.front.pools = old.issue.shown.slots in
    let status : ShowsRegisters i u h s.front.registers = old.issue.shown.status in
    let same : AllAlike u w h = all_alike u w h l (λ k a b. steady_part s.issued k run old.issue.few (steady k a b)) in
    record {
      issue = record {
        few = old.issue.few;
        shown = record {
          slots = record {
            places = slots.places;
            slots = λ x small. slots.slots x small ∙ stations_alike i u w x h same;
            order_count = slots.order_count;
            issue_numbers = slots.issue_numbers;
          };
          status = record {
            count = status.count;
            status = status.status;
            tags = λ r small. status.tags r small ∙ producer_alike u w r h same;
            values = λ r small none. status.values r small (producer_alike u w r h same ∙ none);
          };
          from = old.issue.shown.from ∙ fetch_alike i u w h same;
        };
        issued = issued_more u w h l old.issue.issued;
        next = λ less. yet_later s.issued u w run less l (old.issue.next less) steady;
      };
      bytes = record {
        base = old.bytes.base;
        size = old.bytes.size;
        bytes = λ a from to. old.bytes.bytes a from to ∙ byte_alike i u w a h same;
      };
    }
