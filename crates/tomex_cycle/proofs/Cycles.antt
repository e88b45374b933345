-- The phases, one after the other, make a cycle.
use Rattle.tomex_cycle.proofs.Words.{nat_lt, if◌then◌else◌, Result, Ok, not, cases_Bool, lt-leb, and_parts, Loaded}
use Rattle.tomex_cycle.proofs.Words.{Configuration, Fault, overwrites, Bytes, Done, greatest_end, AreTimed}
use Rattle.tomex_cycle.proofs.Words.{RunEndsAfter, first_timed, byte_at, clocks, ShowsMemory, IsIssuedTo, IsSnapshot}
use Rattle.tomex_cycle.proofs.Words.{IsYetToIssue, MakesStarts, MakesAddress, MakesIssue, MakesEnds, is_done, Progress}
use Rattle.tomex_cycle.proofs.Words.{Running, Ended, AreBusy, Pools, Core, Front, IsNextCycle, IsUpTo, core, front, ℕ}
use Rattle.tomex_cycle.proofs.Words.{◌+◌, ◌<◌, ◌≤◌, ◌≡◌, ◌∙◌, Bool, true, false, arith, refl, List, [], ◌∷◌, ◌++◌}
use Rattle.tomex_cycle.proofs.Words.{Option, None, sym, inl, inr, ◌≢◌, ◌&&◌, ◌==◌, is_some, w128, nat_tests}
use Rattle.tomex_cycle.proofs.Words.{bit_at-trailing_zeros, both_ways, eq-eqb, eqb-true, ne_eqb, is_number, j_of}
use Rattle.tomex_cycle.proofs.Words.{step_unit, Field, Value, Unread, cycle_of, field_of, has, has_one, AreDone}
use Rattle.tomex_cycle.proofs.Words.{AreEnding, finishes, events_in, IsInIssueOrder, AreIssuedBy, IsStarting, Clocks}
use Rattle.tomex_cycle.proofs.Words.{holds_place, order_of, place_of, station_at, station_of, ShowsStations, has_base}
use Rattle.tomex_cycle.proofs.Words.{is_value, is_there, Station, slot, ◌^◌, Some, ap, ◌⊎◌, length, max, trailing_zeros}
use Rattle.tomex_cycle.proofs.Words.{AddressHappens, EndsHappen, StartsHappen}
use Rattle.tomex_cycle.proofs.Runs.{done_is, rest_to, run_timed, AreLater, issued_up_to, starts_after, store_unit}
use Rattle.tomex_cycle.proofs.EndsFetch.{done_in, ending_low}
use Rattle.tomex_timing.specs.declared.tables.Field.TheVariants.{Waits}
use Rattle.tomex_cycle.proofs.Shows.{run_split}
use Rattle.tomex_cycle.proofs.Orders.{order_is}
use Rattle.tomex_cycle.proofs.Addresses.{waiting_is, chosen, holds_by, none_waits, or_else, test_is, waits_for_address}
use Rattle.tomex_cycle.proofs.Addresses.{waits_so}
use Rattle.tomex_cycle.proofs.IssueOrder.{next_address, where_base_is_there}
use Rattle.tomex_cycle.proofs.EndsState.{ending_is, ends_in}
use Rattle.tomex_cycle.proofs.Places.{low, ShowsPart, shows_part, held_here, older_shown, older_up_to, place_or_none}
use Rattle.tomex_cycle.proofs.Quiet.{AllQuiet}
use Rattle.tomex_cycle.proofs.StartsPicked.{starting_is, starts_at}
use Rattle.tomex_cycle.specs.Views.{front}

-- what issues later hasn't written memory yet
bytes_later : (config : Configuration) (i : Loaded) (newer h : List Done) (t u a : ℕ) → AreTimed config (newer ++ h)
    → AreLater t newer → u ≡ t + 1 → byte_at i u (newer ++ h) a ≡ byte_at i u h a
bytes_later config i [] h t u a timed later e = refl
bytes_later config i (d ∷ newer) h t u a timed later e =
    let rest : byte_at i u (newer ++ h) a ≡ byte_at i u h a = bytes_later config i newer h t u a timed.1 later.1 e in
    elim (cases_Bool (overwrites d.step a)) [
      | inl o ↦
          let l : d.at.issue < d.at.start = starts_after d timed.0 (store_unit d.step (and_parts _ _ o).0) in
          rw (o, lt-leb d.at.start u (omega arith)) rest
      | inr o ↦ rw o rest
    ]

memory_issued : {config : Configuration} {i : Loaded} {n : ℕ} (k m t : ℕ) {u : ℕ} {bytes : Bytes}
    → RunEndsAfter i config n → (k ≤ n → IsYetToIssue i config k t) → k ≤ m → m ≤ n + 1 → u ≡ t + 1
    → ShowsMemory i u (first_timed config i k) bytes → ShowsMemory i u (first_timed config i m) bytes
memory_issued {config} {i} k m t {u} {bytes} run next low high e shown =
    let rest = rest_to k m t run next low high in
    let timed : AreTimed config (rest.0 ++ first_timed config i k) = rw (← rest.1.same) (run_timed i m run.lawful) in
    record {
      base = shown.base;
      size = shown.size;
      bytes = λ a from to. shown.bytes a from to
          ∙ rw rest.1.same (sym (bytes_later config i rest.0 (first_timed config i k) t u a timed rest.1.later e));
    }

-- what the phases of a cycle make of its state, as far as the issues
pub record AreMade (i : Loaded) (config : Configuration) (next : ℕ) (old : Core) (fault : Option Fault)
    (result : Result Bool Fault) (new : Core) : Type 0 where
  pub started : Pools
  pub placed : Pools
  pub starts : MakesStarts config next old.front.pools old.memory fault started new.memory
  pub addresses : MakesAddress next started placed
  pub issues : MakesIssue i config next old.issued (front placed old.front.registers old.front.fetch) result
      new.issued new.front

-- so in a run that ends
pub record IsUnderWay (i : Loaded) (config : Configuration) (n t next : ℕ) (old : Core) (fault : Option Fault)
    (result : Result Bool Fault) (new : Core) : Type 0 where
  pub good : fault ≡ None
  pub some : result ≡ Ok (nat_lt old.issued new.issued)
  pub low : old.issued ≤ new.issued
  pub after : IsIssuedTo i config n next next (clocks next next t) new.issued new.front
  pub bytes : ShowsMemory i next (first_timed config i new.issued) new.memory

pub under_way : {i : Loaded} {config : Configuration} {n t next : ℕ} {old new : Core} {fault : Option Fault}
    {result : Result Bool Fault} → AreMade i config next old fault result new → IsNextCycle i config n t next
    → IsSnapshot i config n t old → IsUnderWay i config n t next old fault result new
under_way {i} {config} {n} {t} {next} {old} {new} made at before =
    let h : List Done = first_timed config i old.issued in
    let up : IsUpTo i config t h = issued_up_to at.run before.issue in
    let started = made.starts i h t at.next up before.issue.shown.slots before.bytes in
    let issued = made.issues n t at (record {
      few = before.issue.few;
      shown = record {
        slots = made.addresses i config h t at.next up started.1;
        status = before.issue.shown.status;
        from = before.issue.shown.from;
      };
      issued = before.issue.issued;
      next = before.issue.next;
    }) in
    record {
      good = started.0;
      some = issued.0;
      low = issued.1;
      after = issued.2;
      bytes = memory_issued old.issued new.issued t at.run before.issue.next issued.1 issued.2.few at.next started.2;
    }

pub cycle_made : {i : Loaded} {config : Configuration} {n t next : ℕ} {old mid : Core} {fault : Option Fault}
    {result : Result Bool Fault} {new : Front} → IsNextCycle i config n t next
    → IsUnderWay i config n t next old fault result mid → MakesEnds config next mid.front new
    → IsSnapshot i config n next (core mid.issued new mid.memory)
cycle_made {i} {config} {t} {mid} at on ends = record {
  issue = record {
    few = on.after.few;
    shown = ends i (first_timed config i mid.issued) t at.next (issued_up_to at.run on.after) on.after.shown;
    issued = on.after.issued;
    next = on.after.next;
  };
  bytes = on.bytes;
}

progress_same : (a : Bool) (over : Bool) (p : Progress) → over ≡ not a → p ≡ (if over then Ended else Running)
    → p ≡ (if a then Running else Ended)
progress_same true over p e f = rw e at f
progress_same false over p e f = rw e at f

pub cycle_answer : {i : Loaded} {config : Configuration} {n next : ℕ} {s : Core} {over : Bool} {p : Progress}
    → RunEndsAfter i config n → IsSnapshot i config n next s
    → AreBusy s.front.pools.slots s.front.pools.busy s.front.pools.issue_numbers
    → over ≡ is_done s.front.fetch s.front.pools.busy → p ≡ (if over then Ended else Running)
    → p ≡ (if nat_lt next (greatest_end (first_timed config i (n + 1))) then Running else Ended)
cycle_answer {i} {config} {n} {next} {s} {over} {p} run shown filled e f = progress_same
    (nat_lt next (greatest_end (first_timed config i (n + 1)))) over p
    (e ∙ done_is s.front.fetch run shown.issue filled)
    f

-- What a phase or a station shows is an event of the cycle.

pub quiet_none : (u : ℕ) (h : List Done) → AllQuiet u h → events_in u h ≡ 0
quiet_none u [] quiet = refl
quiet_none u (d ∷ h) quiet = rw (
  ne_eqb d.at.issue u quiet.0.issue,
  ne_eqb (cycle_of d.at.address) u quiet.0.address,
  ne_eqb d.at.start u quiet.0.start,
  ne_eqb d.at.finish u quiet.0.finish,
  ne_eqb d.at.end u quiet.0.end,
) (let z : events_in u h ≡ 0 = quiet_none u h quiet.1 in omega arith)

pub events_older : (u : ℕ) (newer h : List Done) → events_in u h ≤ events_in u (newer ++ h)
events_older u [] h = omega arith
events_older u (d ∷ newer) h = let l : events_in u h ≤ events_in u (newer ++ h) = events_older u newer h in omega arith

-- a run is over in a cycle in which something happens
pub over_happens : (u : ℕ) (h : List Done) → 0 < u → greatest_end h ≡ u → 0 < events_in u h
over_happens u [] l e = omega arith
over_happens u (d ∷ h) l e = elim (cases_Bool (d.at.end == u)) [
  | inl k ↦ rw k (omega arith)
  | inr k ↦
      let f : greatest_end h ≡ u = rest d.at.end (greatest_end h) u e k in
      let more : 0 < events_in u h = over_happens u h l f in
      omega arith
]
  where
    rest : (a b u : ℕ) → max a b ≡ u → (a == u) ≡ false → b ≡ u
    rest a b u e f = grind (arith, nat_tests)

-- Starts.

starts_happen : (t u x : ℕ) (h : List Done) → starts_at t u h x ≡ true → 0 < events_in u h
starts_happen t u x [] e = absurd (cc)
starts_happen t u x (d ∷ h) e = elim (cases_Bool (holds_place t x d)) [
  | inl k ↦ rw (and_parts (is_some (step_unit d.step)) (d.at.start == u) (rw k at e)).1 (omega arith)
  | inr k ↦ let more : 0 < events_in u h = starts_happen t u x h (rw k at e) in omega arith
]

-- a set that isn't empty has a member
pub member_of : (set : ℕ) → set < 2 ^ 128 → set ≢ 0 → (x : ℕ) × (x < 128) × (has set x ≡ true)
member_of set fits some =
    let one = bit_at-trailing_zeros w128 set (omega arith) fits in
    let here : has set (trailing_zeros w128 set) ≡ true = has_one set (trailing_zeros w128 set) one.1 in
    let small : trailing_zeros w128 set < 128 = grind (arith, nat_tests) in
    (trailing_zeros w128 set, small, here)

pub start_happens : {i : Loaded} {config : Configuration} {t u : ℕ} {st : Pools} {h : List Done} {starting : ℕ}
    → IsUpTo i config t h → ShowsStations i (clocks t t t) h st
    → AreBusy st.slots st.busy st.issue_numbers → IsStarting config st u starting → u ≡ t + 1 → starting < 2 ^ 128
    → starting ≢ 0 → 0 < events_in u h
start_happens {t = t} {u} {h = h} {starting} up shown filled begins e fits some =
    let x = member_of starting fits some in
    starts_happen t u x.0 h (sym (starting_is x.0 up shown filled begins e x.1) ∙ x.2)

-- Ends.

ends_happen : (u x : ℕ) (h : List Done) → ends_in u h x ≡ true → 0 < events_in u h
ends_happen u x [] e = absurd (cc)
ends_happen u x (d ∷ h) e = elim (cases_Bool (is_number (place_of d) x && (d.at.end == u))) [
  | inl k ↦ rw (and_parts (is_number (place_of d) x) (d.at.end == u) k).1 (omega arith)
  | inr k ↦ let more : 0 < events_in u h = ends_happen u x h (rw k at e) in omega arith
]

pub end_happens : {i : Loaded} {config : Configuration} {t u : ℕ} {st : Pools} {h : List Done} (ending : ℕ)
    → IsUpTo i config u h → ShowsStations i (clocks u u t) h st
    → AreBusy st.slots st.busy st.issue_numbers → AreEnding st config.buses u ending → u ≡ t + 1 → ending < 2 ^ 128
    → ending ≢ 0 → 0 < events_in u h
end_happens {config = config} {u = u} {st} {h} ending up shown filled ends e fits some =
    let x = member_of ending fits some in
    ends_happen u x.0 h (sym (ending_is x.0 up e shown filled ends
    (ending_low st config.buses u ending ends filled x.0 x.1 x.2)) ∙ x.2)

-- Finishes.

pub finish_happens : (i : Loaded) (c : Clocks) (v x : ℕ) (h : List Done) → finishes v (station_at i c h x) ≡ true
    → 0 < events_in v h
finish_happens i c v x [] e = absurd (cc)
finish_happens i c v x (d ∷ h) e = elim (cases_Bool (holds_place c.end x d)) [
  | inl k ↦
      let f : finishes v (Some (station_of i c d h)) ≡ true = rw k at e in
      rw (eq-eqb d.at.finish v (done_in c.start d.at.start d.at.finish v f)) (omega arith)
  | inr k ↦ let more : 0 < events_in v h = finish_happens i c v x h (rw k at e) in omega arith
]

pub not_zero : (n : ℕ) → not (n == 0) ≡ true → n ≢ 0
not_zero n e z = let f : false ≡ true = rw (eq-eqb n 0 z) at e in absurd (cc)

pub due_happens : {i : Loaded} (t u : ℕ) {st : Pools} {h : List Done} (due : ℕ) → ShowsStations i (clocks u u t) h st
    → AreDone st.slots u due → due < 2 ^ 128 → due ≢ 0 → 0 < events_in u h
due_happens {i} t u {st} {h} due shown done fits some =
    let x = member_of due fits some in
    let finishes_now : finishes u (slot st.slots x.0) ≡ true = sym (done x.0 x.1) ∙ x.2 in
    let low : x.0 < 96 = elim (place_or_none st.slots x.0 shown.places) [
      | inl l ↦ l
      | inr none ↦ absurd (both_ways _ (ap (finishes u) none) finishes_now)
    ] in
    finish_happens i (clocks u u t) u x.0 h (ap (finishes u) (sym (shown.slots x.0 low)) ∙ finishes_now)

-- Issues.

pub issue_happens : {i : Loaded} {config : Configuration} {n : ℕ} (t u count more : ℕ) → RunEndsAfter i config n
    → u ≡ t + 1 → (count ≤ n → IsYetToIssue i config count t) → count ≤ more → more ≤ n + 1 → more ≢ count
    → AreIssuedBy u (first_timed config i more) → 0 < events_in u (first_timed config i more)
issue_happens {i} {config} t u count more run e yet l few apart issued =
    let rest = rest_to count more t run yet l few in
    rw rest.1.same (some_issue t u rest.0 (first_timed config i count) e rest.1.later (rw rest.1.same at issued)
    (let c : more ≡ length rest.0 + count = rest.1.count in omega arith))
  where
    some_issue : (t u : ℕ) (newer h : List Done) → u ≡ t + 1 → AreLater t newer → AreIssuedBy u (newer ++ h)
        → 0 < length newer → 0 < events_in u (newer ++ h)
    some_issue t u [] h e later issued l = absurd (omega arith)
    some_issue t u (d ∷ newer) h e later issued l = rw (eq-eqb d.at.issue u (omega arith)) (omega arith)

-- Addresses.

there_by : (f : Field) → is_value f ≡ true → is_there f ≡ true
there_by (Value v) e = refl
there_by (Waits tag) e = absurd (cc)
there_by Unread e = refl

pub chosen_happens : {i : Loaded} {config : Configuration} {t u x : ℕ} {st : Pools} (part : List Done)
    → IsUpTo i config t part → u ≡ t + 1 → ShowsPart i (clocks u t t) st part → chosen t part ≡ Some x
    → has_base (slot st.slots x) ≡ true → 0 < events_in u part
chosen_happens [] up e shown c base = absurd (cc)
chosen_happens {t = t} {u} {x} (d ∷ older) up e shown c base =
    elder (chosen t older) refl c (λ k. chosen_happens older (older_up_to up) e (older_shown shown) k base)
  where
    elder : (o : Option ℕ) → chosen t older ≡ o
        → or_else o (if waits_for_address t d then place_of d else None) ≡ Some x
        → (chosen t older ≡ Some x → 0 < events_in u older) → 0 < events_in u (d ∷ older)
    elder (Some z) f c again =
        let same : z ≡ x = cc in
        let more : 0 < events_in u older = again (f ∙ ap (λ (k : ℕ). Some k) same) in
        omega arith
    elder None f c again = elim (cases_Bool (waits_for_address t d)) [
      | inr w ↦ let g : None ≡ Some x = rw w at c in absurd (cc)
      | inl w ↦
          let (busy, memory, late) = waits_so t d w in
          let test = test_is t u d up e memory (none_waits t older (older_up_to up) f) late in
          let slot = (held_here shown x (holds_by t x d (rw w at c) w)).slot in
          let value : is_value (field_of t older (j_of d.step)) ≡ true = ap has_base (sym slot) ∙ base in
          let at : cycle_of d.at.address ≡ u = eqb-true _ _ (sym test ∙ there_by (field_of t older (j_of d.step)) value)
          in
          rw (eq-eqb (cycle_of d.at.address) u at) (omega arith)
    ]

-- the phase, by the search for the next address
pub address_happens : (next x : ℕ) (old : Pools) → AreBusy old.slots old.busy old.issue_numbers
    → ((order : List ℕ) → IsInIssueOrder old.busy old.issue_numbers order → Some x ≡ next_address old.slots order)
    → AddressHappens next old
address_happens next x old filled some i config h t e up shown =
    let by = order_is up (omega arith) shown filled in
    let part = shows_part up (omega arith) shown in
    let found = here old.slots (chosen t h) (rw (waiting_is h up part) at (some (order_of t h) by)) in
    chosen_happens h up e part found.0 found.1
  where
    here : (slots : List (Option Station)) (o : Option ℕ) → Some x ≡ where_base_is_there slots o
        → (o ≡ Some x) × (has_base (slot slots x) ≡ true)
    here slots o e = grind (arith, nat_tests)

-- what happens in a part of a run happens in the run
pub run_happens : {config : Configuration} {i : Loaded} {n : ℕ} (k u : ℕ) → RunEndsAfter i config n → k ≤ n + 1
    → 0 < events_in u (first_timed config i k) → 0 < events_in u (first_timed config i (n + 1))
run_happens {config} {i} {n} k u run l some =
    let part = run_split k (n + 1) run l (omega arith) in
    let more = events_older u part.0 (first_timed config i k) in
    rw part.1 (omega arith)

-- something happens in a cycle if a phase reports it
pub cycle_happens : {i : Loaded} {config : Configuration} {n t next : ℕ} {old new : Core} {fault : Option Fault}
    {result : Result Bool Fault} (made : AreMade i config next old fault result new) → IsNextCycle i config n t next
    → IsSnapshot i config n t old → StartsHappen config next old.front.pools
    ⊎ (AddressHappens next made.started ⊎ ((new.issued ≢ old.issued) ⊎ EndsHappen config next new.front.pools))
    → 0 < events_in next (first_timed config i (n + 1))
cycle_happens {i} {config} {n} {t} {next} {old} {new} made at before which =
    let h : List Done = first_timed config i old.issued in
    let up : IsUpTo i config t h = issued_up_to at.run before.issue in
    let on = under_way made at before in
    elim which [
      | inl starts ↦ run_happens old.issued next at.run before.issue.few
          (starts i h t at.next up before.issue.shown.slots)
      | inr (inl address) ↦ run_happens old.issued next at.run before.issue.few (address i config h t at.next up
          (made.starts i h t at.next up before.issue.shown.slots before.bytes).1)
      | inr (inr (inl more)) ↦ run_happens new.issued next at.run on.after.few (issue_happens t next old.issued
          new.issued at.run at.next before.issue.next on.low on.after.few more on.after.issued)
      | inr (inr (inr ends)) ↦ run_happens new.issued next at.run on.after.few (ends i (first_timed config i new.issued)
          t at.next (issued_up_to at.run on.after) on.after.shown.slots)
    ]
