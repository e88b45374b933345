-- What the stations show of a cycle: if they stay as they were, and no operation finishes in it, nothing happens
-- in it; if operations start, and leave none that waits for a unit, it is settled.
use Rattle.tomex_cycle.proofs.Words.{◌≢◌, nat_lt, nat_le, ◌&&◌, if◌then◌else◌, MatchOption, cases_Bool, nat_tests}
use Rattle.tomex_cycle.proofs.Words.{both_ways, le-ltb, lt-ltb, ltb-true, ltb-false, le-leb, and_from, and_parts}
use Rattle.tomex_cycle.proofs.Words.{eq-eqb, Loaded, Configuration, IsWithinLimits, UnitId, address_of, is_number}
use Rattle.tomex_cycle.proofs.Words.{step_unit, Done, cycle_of, is_memory, AreTimed, IsTimed, IsLeast, can_issue}
use Rattle.tomex_cycle.proofs.Words.{can_start, AllSettled, finishes, AreResults, NoneWaits, clocks, holds_place}
use Rattle.tomex_cycle.proofs.Words.{place_of, station_at, station_of, ShowsStations, is_waiting, Pools, waits, Station}
use Rattle.tomex_cycle.proofs.Words.{IsUpTo, step_pool, slot, ◌⊎◌, IsTimetableOf, IsSnapshot, first_timed, Finishes}
use Rattle.tomex_cycle.proofs.Words.{Core, IsNextCycle, is_some, ℕ, ◌+◌, ◌<◌, ◌≤◌, ◌≡◌, ◌∙◌, Bool, true, false, arith}
use Rattle.tomex_cycle.proofs.Words.{refl, List, [], ◌∷◌, ◌++◌, Option, Some, None, ap, sym, inl, inr, slice_index_or}
use Rattle.tomex_cycle.proofs.Quiet.{IsAtRest, AllDue, AllFree, AllQuiet, HasResult, IsQuiet, settled_rests}
use Rattle.tomex_cycle.proofs.Quiet.{issue_quiet, last_issue_settled, not_least, quiet_settles}
use Rattle.tomex_cycle.proofs.Places.{low, place_low, station_here, is_vacant, vacant, vacant_none, held_place}
use Rattle.tomex_cycle.proofs.Places.{ShowsPart, busy_at, not_vacant, shows_part, held_here, older_shown, later_up_to}
use Rattle.tomex_cycle.proofs.Places.{older_up_to, part_up_to}
use Rattle.tomex_timing.proofs.Tests.{can_start_is}
use Rattle.tomex_cycle.proofs.Runs.{AreLater, reach, issued_up_to, starts_after}
use Rattle.tomex_cycle.proofs.StartsPicked.{ready_is, no_address}
use Rattle.tomex_cycle.proofs.Truth.{some_not_none}
use Rattle.tomex_cycle.proofs.Known.{free_to}

-- after the step that held a place has ended the place is empty, since no younger step could take it before
left_empty : {i : Loaded} {config : Configuration} (t u x : ℕ) (newer : List Done) (d : Done) (older : List Done)
    → IsUpTo i config t (newer ++ (d ∷ older)) → u ≡ t + 1 → holds_place t x d ≡ true → d.at.end ≤ u
    → station_at i (clocks u u u) (newer ++ (d ∷ older)) x ≡ None
left_empty {i} t u x [] d older up e held over =
    let at : is_number (place_of d) x ≡ true = (and_parts (is_number (place_of d) x) (nat_lt t d.at.end) held).0 in
    let free : is_vacant u x older ≡ true = vacant d older u x up (omega arith) at in
    rw (at, le-ltb u d.at.end over) (vacant_none i (clocks u u u) older x free)
left_empty t u x (n ∷ newer) d older up e held over = elim (cases_Bool (holds_place u x n)) [
  | inr h ↦ rw h (left_empty t u x newer d older (older_up_to up) e held over)
  | inl h ↦
      let at : is_number (place_of n) x ≡ true = (and_parts (is_number (place_of n) x) (nat_lt u n.at.end) h).0 in
      absurd (not_vacant t x newer d older held (vacant n (newer ++ (d ∷ older)) t x up (omega arith) at))
]

-- The station of a busy step, if a cycle leaves the stations as they are, or as its starts leave them.

pub record IsKept (i : Loaded) (s t u : ℕ) (new : Pools) (d : Done) (older : List Done) (x : ℕ) : Type 0 where
  pub small : x < 96
  pub late : u < d.at.end
  pub slot : slot new.slots x ≡ Some (station_of i (clocks u u u) d older)
  pub stays : station_of i (clocks s t t) d older ≡ station_of i (clocks u u u) d older

pub record AreKept (i : Loaded) (s t u : ℕ) (new : Pools) (part : List Done) : Type 0 where
  pub each : (newer : List Done) (d : Done) (older : List Done) → part ≡ newer ++ (d ∷ older) → (x : ℕ)
      → holds_place t x d ≡ true → IsKept i s t u new d older x

older_kept : {i : Loaded} {s t u : ℕ} {new : Pools} {d : Done} {older : List Done} → AreKept i s t u new (d ∷ older)
    → AreKept i s t u new older
older_kept {d = d} kept =
    record { each = λ newer e rest same. kept.each (d ∷ newer) e rest (ap (λ xs. d ∷ xs) same) }

some_same : {a b : Station} → Some a ≡ Some b → a ≡ b
some_same e = cc

pub are_kept : {i : Loaded} {config : Configuration} {s t u : ℕ} {mid new : Pools} {h : List Done}
    → IsUpTo i config t h → u ≡ t + 1 → ShowsStations i (clocks s t t) h mid
    → ShowsStations i (clocks u u u) h new → new.slots ≡ mid.slots → AreKept i s t u new h
are_kept {i} {s = s} {t} {u} {new = new} up e before after same = record {
  each = λ newer d older split x held.
      let here = rw split at up in
      let place = (and_parts (is_number (place_of d) x) (nat_lt t d.at.end) held).0 in
      let few = (low (d ∷ older) (part_up_to newer here)).0 in
      let small : x < 96 = place_low (step_pool d.step) d.at.station x few (held_place t x d held) in
      let was : slot new.slots x ≡ Some (station_of i (clocks s t t) d older) =
      ap (λ xs. slice_index_or xs x None) same ∙ (before.slots x small
      ∙ rw split (station_here (clocks s t t) newer d older x here (omega arith) held)) in
      elim (cases_Bool (nat_lt u d.at.end)) [
        | inr l ↦ absurd (some_not_none (station_of i (clocks s t t) d older) (sym was ∙ (after.slots x small
            ∙ rw split (left_empty t u x newer d older here e held (ltb-false u d.at.end l)))))
        | inl l ↦
            let now = after.slots x small ∙ rw split (station_here (clocks u u u) newer d older x here (omega arith)
            (rw (place, l) refl)) in
            record { small = small; late = ltb-true u d.at.end l; slot = now; stays = some_same (sym was ∙ now) }
      ];
}

not_begun : (t u start finish : ℕ) → u ≡ t + 1
    → (if nat_le start t then Some finish else None) ≡ (if nat_le start u then Some finish else None) → start ≢ u
not_begun t u start finish e same = grind (arith, nat_tests)

not_given : (t u a address : ℕ) (memory : Bool) → u ≡ t + 1 → (memory ≡ false → a ≡ 0)
    → (if memory && nat_le a t then Some address else None) ≡ (if memory && nat_le a u then Some address else None)
    → a ≢ u
not_given t u a address memory e none same = grind (arith, nat_tests)

not_done : (u v start finish : ℕ) → start ≤ u → is_number (if nat_le start u then Some finish else None) v ≡ false
    → finish ≢ v
not_done u v start finish l none = grind (arith, nat_tests)

-- what has ended by a cycle has nothing left in the next one
over_quiet : {i : Loaded} {config : Configuration} (t u : ℕ) (d : Done) (older : List Done)
    → IsUpTo i config t (d ∷ older) → d.at.end ≤ t → u ≡ t + 1 → IsQuiet u d
over_quiet t u d older up over e =
    let r = reach d older up.lawful up.timed in
    record {
      issue = λ z. omega arith;
      address = λ z. omega arith;
      start = λ z. omega arith;
      finish = λ z. omega arith;
      end = λ z. omega arith;
    }

-- a busy step, if the cycle leaves its station as it was
busy_rests : {i : Loaded} {config : Configuration} {s t u x : ℕ} {new : Pools} (d : Done) (older : List Done)
    → IsUpTo i config t (d ∷ older) → u ≡ t + 1 → IsKept i s t u new d older x
    → ((x : ℕ) → x < 96 → finishes u (slot new.slots x) ≡ false) → IsAtRest u d
busy_rests {t = t} {u} {x} d older up e kept free =
    let order : d.at.start ≤ d.at.finish = (reach d older up.lawful up.timed).order in
    let issued : d.at.issue ≤ t = up.issued.0 in
    let late : u < d.at.end = kept.late in
    record {
      issue = λ z. omega arith;
      address = not_given t u (cycle_of d.at.address) (address_of d.step) (is_memory d.step) e
          (no_address d up.timed.0) (ap (λ (s : Station). s.address) kept.stays);
      finish = λ z. not_done u u d.at.start d.at.finish (omega arith)
          (ap (finishes u) (sym kept.slot) ∙ free x kept.small) z;
      end = λ z. omega arith;
    }

pub issued_quiet : {i : Loaded} {config : Configuration} {t u : ℕ} {new : Pools} (part : List Done)
    → IsUpTo i config t part → u ≡ t + 1 → AreKept i t t u new part
    → ((x : ℕ) → x < 96 → finishes u (slot new.slots x) ≡ false) → AllQuiet u part
issued_quiet [] up e kept free = tt
issued_quiet {t = t} {u} (d ∷ older) up e kept free = (
  elim (cases_Bool (nat_lt t d.at.end)) [
    | inr l ↦ over_quiet t u d older up (ltb-false t d.at.end l) e
    | inl l ↦
        let (x, place, held) = busy_at d up l in
        let stays = kept.each [] d older refl x held in
        let rests : IsAtRest u d = busy_rests d older up e stays free in
        record {
          issue = rests.issue;
          address = rests.address;
          start = not_begun t u d.at.start d.at.finish e (ap (λ (s : Station). s.finish) stays.stays);
          finish = rests.finish;
          end = rests.end;
        }
  ],
  issued_quiet older (older_up_to up) e (older_kept kept) free,
)

-- what starts in the next cycle waits for a unit in this one
waits_before : {i : Loaded} {config : Configuration} (u : ℕ) (d : Done) (older : List Done)
    → IsUpTo i config u (d ∷ older) → d.at.start ≡ u + 1 → is_waiting (station_of i (clocks u u u) d older) ≡ true
waits_before {i} {config} u d older up e = of (step_unit d.step) up.timed.0.start
  where
    of : (unit : Option UnitId) → MatchOption unit (d.at.start ≡ d.at.issue)
        (λ k. IsLeast (can_start config older d.step k d.at.issue (cycle_of d.at.address)) d.at.start)
        → is_waiting (station_of i (clocks u u u) d older) ≡ true
    of None s = let same : d.at.start ≡ d.at.issue = s in let past : d.at.issue ≤ u =
        up.issued.0 in absurd (omega arith)
    of (Some k) s =
        let can = can_start_is config older d.step k d.at.issue (cycle_of d.at.address) (u + 1) (rw e at s.0) in
        ready_is u (u + 1) d older up refl ∙ and_from _ _ (and_from _ _ (and_from _ _
        (lt-ltb u d.at.start (omega arith)) (lt-ltb _ _ can.after_j)) (lt-ltb _ _ can.after_k))
        (lt-ltb _ _ can.after_address)

pub issued_settles : {i : Loaded} {config : Configuration} {t u : ℕ} {new : Pools} (part : List Done)
    → IsUpTo i config t part → u ≡ t + 1 → AreKept i u t u new part
    → ((x : ℕ) → x < 96 → finishes u (slot new.slots x) ≡ false) → NoneWaits new.slots
    → AllSettled u part
issued_settles [] up e kept free idle = tt
issued_settles {t = t} {u} (d ∷ older) up e kept free idle = (
  elim (cases_Bool (nat_lt t d.at.end)) [
    | inr l ↦
        let over : d.at.end ≤ t = ltb-false t d.at.end l in
        let quiet : IsQuiet u d = over_quiet t u d older up over e in
        let r = reach d older up.lawful up.timed in
        record {
          issue = quiet.issue;
          address = quiet.address;
          finish = quiet.finish;
          end = quiet.end;
          no_issue_next = λ z. omega arith;
          no_start_next = λ z. omega arith;
        }
    | inl l ↦
        let (x, place, held) = busy_at d up l in
        let stays = kept.each [] d older refl x held in
        let rests : IsAtRest u d = busy_rests d older up e stays free in
        let issued : d.at.issue ≤ t = up.issued.0 in
        record {
          issue = rests.issue;
          address = rests.address;
          finish = rests.finish;
          end = rests.end;
          no_issue_next = λ z. omega arith;
          no_start_next = λ z. both_ways _ (ap waits (sym stays.slot) ∙ idle x stays.small)
              (waits_before u d older (later_up_to u (omega arith) up) z);
        }
  ],
  issued_settles older (older_up_to up) e (older_kept kept) free idle,
)

start_after : {config : Configuration} (d : Done) {older : List Done} → IsTimed config older d.step d.at
    → (d.at.start ≡ d.at.issue) ⊎ (d.at.issue < d.at.start)
start_after {config} d {older} timed = of (step_unit d.step) refl timed.start
  where
    of : (o : Option UnitId) → step_unit d.step ≡ o → MatchOption o (d.at.start ≡ d.at.issue)
        (λ u. IsLeast (can_start config older d.step u d.at.issue (cycle_of d.at.address)) d.at.start)
        → (d.at.start ≡ d.at.issue) ⊎ (d.at.issue < d.at.start)
    of None e same = inl same
    of (Some u) e least = inr (starts_after d timed (ap is_some e))

address_after : {config : Configuration} (d : Done) {older : List Done} (u : ℕ) → IsTimed config older d.step d.at
    → u < d.at.issue → cycle_of d.at.address ≡ u → 0 < u → ⊥
address_after d {older} u timed l e low = grind (arith, nat_tests)

-- what issues later has nothing before, and doesn't issue in the next cycle
pub later_settled : {config : Configuration} (u : ℕ) (newer h : List Done) → IsWithinLimits config
    → AreTimed config (newer ++ h) → AreLater u newer → 0 < u → AllSettled u h → AllSettled u (newer ++ h)
later_settled u [] h good timed later low settled = settled
later_settled {config} u (d ∷ newer) h good timed later low settled =
    let older : AllSettled u (newer ++ h) = later_settled u newer h good timed.1 later.1 low settled in
    let l : u < d.at.issue = later.0 in
    let apart : d.at.issue ≢ u + 1 = not_least (can_issue config (newer ++ h) d.step) d.at.issue u (issue_quiet u
    (newer ++ h) d.step low good timed.1 (settled_rests u (newer ++ h) older) (last_issue_settled u (newer ++ h) older))
    timed.0.issue in
    let s : (d.at.start ≡ d.at.issue) ⊎ (d.at.issue < d.at.start) = start_after d timed.0 in
    let r = reach d (newer ++ h) good timed in (
      record {
        issue = λ z. omega arith;
        address = λ z. address_after d u timed.0 l z low;
        finish = λ z. elim s [ inl same ↦ omega arith | inr more ↦ omega arith ];
        end = λ z. omega arith;
        no_issue_next = apart;
        no_start_next = λ z. elim s [ inl same ↦ apart (omega arith) | inr more ↦ omega arith ];
      },
      older,
    )

pub later_due : (P : Done → Type 0) (config : Configuration) (u w : ℕ) (newer h : List Done)
    → AreTimed config (newer ++ h) → AreLater u newer → AllDue P u w h → AllDue P u w (newer ++ h)
later_due P config u w [] h timed later due = due
later_due P config u w (d ∷ newer) h timed later due = (
  (λ started _. let l : u < d.at.issue = later.0 in
      absurd (elim (start_after d timed.0) [ inl same ↦ omega arith | inr more ↦ omega arith ])),
  later_due P config u w newer h timed.1 later.1 due,
)

-- of what had started, and finishes in a cycle, the stations show what holds of it
pub issued_due : (P : Done → Type 0) {i : Loaded} {config : Configuration} {u w : ℕ} {st : Pools} (part : List Done)
    → IsUpTo i config u part → u < w → ShowsPart i (clocks u u u) st part
    → ((d : Done) (x : ℕ) (s : Station) → x < 96 → place_of d ≡ Some x → slot st.slots x ≡ Some s
    → s.instr ≡ d.step.instr → finishes w (Some s) ≡ true → P d) → AllDue P u w part
issued_due P [] up l shown of = tt
issued_due P {i} {u = u} {w} (d ∷ older) up l shown of = (
  (λ started same. elim (cases_Bool (nat_lt u d.at.end)) [
    | inl k ↦
        let (x, place, held) = busy_at d up k in
        let now = held_here shown x held in
        of d x (station_of i (clocks u u u) d older) now.small place now.slot refl
        (rw (le-leb d.at.start u started) (eq-eqb d.at.finish w same))
    | inr k ↦
        let over : d.at.end ≤ u = ltb-false u d.at.end k in
        let end : d.at.finish ≤ d.at.end = (reach d older up.lawful up.timed).finish in
        absurd (omega arith)
  ]),
  issued_due P older (older_up_to up) l (older_shown shown) of,
)

-- no station shows a finish
pub issued_free : {i : Loaded} {config : Configuration} {u w : ℕ} {st : Pools} {h : List Done} → IsUpTo i config u h
    → u < w → ShowsStations i (clocks u u u) h st
    → ((x : ℕ) → x < 96 → finishes w (slot st.slots x) ≡ false) → AllFree u w h
issued_free {w = w} {h = h} up l shown free =
    issued_due (λ d. ⊥) h up l (shows_part up (omega arith) shown) (λ d x s small place slot instr done. both_ways
    (finishes w (Some s)) (ap (finishes w) (sym slot) ∙ free x small) done)

-- they show only finishes of results
pub issued_results : {i : Loaded} {config : Configuration} {u w : ℕ} {st : Pools} {h : List Done}
    → IsUpTo i config u h → u < w → ShowsStations i (clocks u u u) h st → AreResults st.slots w → AllDue HasResult u w h
issued_results {w = w} {st} {h} up l shown results = issued_due HasResult h up l (shows_part up (omega arith) shown) of
  where
    of : (d : Done) (x : ℕ) (s : Station) → x < 96 → place_of d ≡ Some x → slot st.slots x ≡ Some s
        → s.instr ≡ d.step.instr → finishes w (Some s) ≡ true → HasResult d
    of d x s e f g h k = grind (arith, nat_tests)

-- A cycle that issues nothing, computes no address and ends nothing, and leaves nothing that waits for a unit, is
-- settled.

-- a cycle leaves the stations as its starts left them, which is as they were or with none that waits for a unit
pub record IsIdle (next : ℕ) (old started new : Pools) : Type 0 where
  pub same : new.slots ≡ started.slots
  pub none : (started.slots ≡ old.slots) ⊎ NoneWaits new.slots
  pub free : (x : ℕ) → x < 96 → finishes next (slot new.slots x) ≡ false

-- no operation finishes in the cycle, as is known after it
pub none_finishes : {slots : List (Option Station)} (next : ℕ) {f : Finishes} → IsTimetableOf slots (next + 1) f
    → f.unsent ≡ 0 → (x : ℕ) → x < 96 → finishes next (slot slots x) ≡ false
none_finishes next known unsent x l =
    free_to next 0 known unsent (λ a y k. absurd (omega arith)) x next l (omega arith) (omega arith)

pub cycle_settles : {i : Loaded} {config : Configuration} {n t next : ℕ} {old new : Core} {started : Pools}
    → IsNextCycle i config n t next → IsSnapshot i config n t old → IsSnapshot i config n next new
    → new.issued ≡ old.issued → ShowsStations i (clocks next t t) (first_timed config i old.issued) started
    → IsIdle next old.front.pools started new.front.pools → AllSettled next (first_timed config i new.issued)
cycle_settles {i} {config} {t = t} {next} {old} {new} at before after count shown idle =
    let h : List Done = first_timed config i old.issued in
    let up : IsUpTo i config t h = issued_up_to at.run before.issue in
    let now : ShowsStations i (clocks next next next) h new.front.pools = rw count at after.issue.shown.slots in
    rw count (elim idle.none [
      | inl quiet ↦ quiet_settles next h up.lawful up.timed (let e : next ≡ t + 1 = at.next in omega arith)
          (issued_quiet h up at.next (are_kept up at.next before.issue.shown.slots now (idle.same ∙ quiet)) idle.free)
      | inr rests ↦ issued_settles h up at.next (are_kept up at.next shown now idle.same) idle.free rests
    ])
