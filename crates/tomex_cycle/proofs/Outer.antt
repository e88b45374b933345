-- What contracts see of a machine follows from what holds of each one.
use Rattle.tomex_cycle.proofs.Words.{nat_lt, if◌then◌else◌, cases_Bool, ltb-true, ltb-false, le-ltb, Loaded}
use Rattle.tomex_cycle.proofs.Words.{Configuration, EndsWithin, greatest_end, Inner, Progress, Running, Ended, IsAt}
use Rattle.tomex_cycle.proofs.Words.{RunEndsAfter, first_timed, Seen, seen_after, IsSound, IsNextCycle, slice_index}
use Rattle.tomex_cycle.proofs.Words.{map, filter_map, range_with_len, cases_order, lt-ltb, lt-leb, le-leb}
use Rattle.tomex_cycle.proofs.Words.{get_or-replicate, IsWithinLimits, EndKind, byte_after, register_after, Bytes}
use Rattle.tomex_cycle.proofs.Words.{is_number, step_dest, is_store, Tag, Done, Tables, tables_of}
use Rattle.tomex_cycle.proofs.Words.{station_fields, qi_of}
use Rattle.tomex_cycle.proofs.Words.{all_tags, producer, At, Stopped, run_of, steps_in, byte_at, clocks, ShowsRegisters}
use Rattle.tomex_cycle.proofs.Words.{ShowsStations, IsSnapshot, IsYetToIssue, overwrites, step_ends_it, step_follows}
use Rattle.tomex_cycle.proofs.Words.{step_joins, timed_by, Pools, Core, Front, IsUpTo, core, core_of, slot, ℕ, ◌+◌, ◌<◌}
use Rattle.tomex_cycle.proofs.Words.{◌≤◌, ◌≡◌, ◌∙◌, ◌^◌, true, arith, refl, ap, inl, inr, min, subst, false, List, []}
use Rattle.tomex_cycle.proofs.Words.{◌∷◌, ◌++◌, Option, None, sym, length, replicate, slice_index_or, total, is_end}
use Rattle.tomex_cycle.proofs.Words.{IsLoaded, Leaves, State, start_of, IsFresh, IsState, end_is, same_registers}
use Rattle.tomex_cycle.proofs.Words.{same_memory, run_state, end_writes_no_register, end_writes_no_byte, AllBy}
use Rattle.tomex_cycle.proofs.Runs.{run_whole, run_timed, steps_are, run_none, rest_to, AreLater, issued_up_to}
use Rattle.tomex_cycle.proofs.Runs.{more_left, stops}
use Rattle.tomex_rvexec.specs.History.{history as first_steps}
use Rattle.tomex_cycle.proofs.Shows.{same_tables}

-- while the status is Running the total lies ahead
pub running_low : (cycle all : ℕ) (last : Progress) → last ≡ (if nat_lt cycle all then Running else Ended)
    → last ≡ Running → cycle < all
running_low cycle all last e f = elim (cases_Bool (nat_lt cycle all)) [
  | inl l ↦ ltb-true _ _ l
  | inr l ↦ let g : last ≡ Ended = rw l at e in absurd (cc)
]

other_high : (cycle all : ℕ) (last : Progress) → last ≡ (if nat_lt cycle all then Running else Ended)
    → (last ≡ Running → ⊥) → all ≤ cycle
other_high cycle all last e f = elim (cases_Bool (nat_lt cycle all)) [
  | inl l ↦ let g : last ≡ Running = rw l at e in absurd (f g)
  | inr l ↦ ltb-false _ _ l
]

-- what is seen, of its parts
abbrev pub seen_at : Loaded → Configuration → ℕ → Progress → Seen
seen_at i config cycle last = record { image = i; config = config; cycle = cycle; status = last }

same_seen : (i : Loaded) (config : Configuration) (a b : ℕ) (x y : Progress) → a ≡ b → x ≡ y
    → seen_at i config a x ≡ seen_at i config b y
same_seen i config a b x y e f = rw (e, f) refl

-- the run of a sound machine whose program ends
pub sound_run : {A : Type 0} {i : Loaded} {config : Configuration} {cycle : ℕ} {last : Progress} {inner : Inner A}
    → IsSound i config cycle last inner → (ends : EndsWithin i 262144) → RunEndsAfter i config ends.0
sound_run sound ends = record {
  lawful = sound.lawful;
  loaded = sound.loaded;
  few = ends.3;
  state = ends.1;
  kind = ends.2;
  ends = ends.4;
}

-- the machine is as it is after as many ticks as its cycle says
pub seen_is : {A : Type 0} {i : Loaded} {config : Configuration} {cycle : ℕ} {last : Progress} {inner : Inner A}
    → IsSound i config cycle last inner → EndsWithin i 262144
    → seen_at i config cycle last ≡ seen_after i config cycle
seen_is {i} {config} {cycle} {last} sound ends =
    let run : RunEndsAfter i config ends.0 = sound_run sound ends in
    let after = sound.after ends.0 run in
    let e : total config i ≡ greatest_end (first_timed config i (ends.0 + 1)) = ap greatest_end (run_whole run) in
    same_seen i config cycle (min cycle (total config i)) last
    (if nat_lt cycle (total config i) then Running else Ended) (omega arith) (rw e after.answer)

-- a cycle keeps what holds
pub sound_next : {A : Type 0} {i : Loaded} {config : Configuration} {cycle : ℕ} {old : Inner A} (now : Progress)
    (new : Inner A) → IsSound i config cycle Running old → cycle < 2 ^ 40
    → ((n t : ℕ) → IsNextCycle i config n t (cycle + 1) → IsAt i config n t old → IsAt i config n (cycle + 1) new
    × (now ≡ (if nat_lt (cycle + 1) (greatest_end (first_timed config i (n + 1))) then Running else Ended)))
    → IsSound i config (cycle + 1) now new
sound_next {i} {config} {cycle} now new sound low made = record {
  lawful = sound.lawful;
  loaded = sound.loaded;
  low = omega arith;
  after = λ n run.
      let before = sound.after n run in
      let k : cycle < greatest_end (first_timed config i (n + 1)) = running_low cycle _ Running before.answer refl in
      let next = made n cycle (record { run = run; next = refl }) before.snapshot in
      record { high = omega arith; answer = next.1; snapshot = next.0 };
}

-- the same, of a value that is seen
pub now_seen : {A : Type 0} {i : Loaded} {config : Configuration} {cycle : ℕ} {last : Progress} {inner : Inner A}
    {seen : Seen} → seen_at i config cycle last ≡ seen → IsSound i config cycle last inner
    → EndsWithin seen.image 262144 → seen ≡ seen_after seen.image seen.config seen.cycle
now_seen e sound =
    let P : Seen → Type 0 = λ x. EndsWithin x.image 262144 → x ≡ seen_after x.image x.config x.cycle in
    subst P e (λ ends. seen_is sound ends)

-- a machine that has ended is as it is after any more ticks
pub over_seen : (i : Loaded) (config : Configuration) (k to : ℕ) (seen : Seen) → seen ≡ seen_after i config k
    → (seen.status ≡ Running → ⊥) → k ≤ to → seen ≡ seen_after i config to
over_seen i config k to seen e over l =
    let last : seen.status ≡ (if nat_lt k (total config i) then Running else Ended) = ap (λ (x : Seen). x.status) e in
    let low : total config i ≤ k = other_high k (total config i) seen.status last over in
    e ∙ same_seen i config (min k (total config i)) (min to (total config i))
    (if nat_lt k (total config i) then Running else Ended) (if nat_lt to (total config i) then Running else Ended)
    (omega arith) (rw (le-ltb k (total config i) low, le-ltb to (total config i) (omega arith)) refl)

end_is_not_running : (last : Progress) → is_end last ≡ true → last ≡ Running → ⊥
end_is_not_running last e f = let g : is_end Running ≡ true = rw f at e in absurd (cc)

-- a machine that has ended hands out the end of the run
pub finish_seen : {A : Type 0} {i : Loaded} {config : Configuration} {cycle : ℕ} {last : Progress} {inner : Inner A}
    {seen : Seen} (P : Loaded → Type 0) → seen_at i config cycle last ≡ seen
    → ((i : Loaded) (config : Configuration) (n t : ℕ) → RunEndsAfter i config n → IsAt i config n t inner
    → greatest_end (first_timed config i (n + 1)) ≤ t → P i)
    → IsSound i config cycle last inner → is_end seen.status ≡ true → EndsWithin seen.image 262144 → P seen.image
finish_seen {i} {config} {cycle} {last} P e made sound =
    let Q : Seen → Type 0 = λ x. is_end x.status ≡ true → EndsWithin x.image 262144 → P x.image in
    subst Q e (λ over ends.
    let after = sound.after ends.0 (sound_run sound ends) in
    made i config ends.0 cycle (sound_run sound ends) after.snapshot
    (other_high cycle _ last after.answer (end_is_not_running last over)))

-- The first snapshot, the end and the tables.

none_issued : (config : Configuration) (i : Loaded) → IsYetToIssue i config 0 0
none_issued config i x e s l =
    let z : s ≡ 0 = omega arith in
    rw z refl

none_at : {A : Type 0} (n : ℕ) (xs : List (Option A)) → xs ≡ replicate n None → (x : ℕ) → x < n
    → slice_index_or xs x None ≡ None
none_at n xs e x l = rw (e, get_or-replicate) refl

shows_none : (i : Loaded) (st : Pools) → length st.slots ≡ 96 → ((x : ℕ) → x < 96 → slot st.slots x ≡ None)
    → st.issue_numbers ≡ replicate 128 0 → ShowsStations i (clocks 0 0 0) [] st
shows_none i st places slots issue_numbers = record {
  places = places;
  slots = slots;
  order_count = rw issue_numbers refl;
  issue_numbers = λ x l. rw issue_numbers (get_or-replicate 128 x 0 0 (omega arith));
}

-- before the first cycle
pub start_shown : {config : Configuration} {n : ℕ} {s : Front} {m : Bytes} (i : Loaded)
    → s.pools.slots ≡ replicate 96 None → s.pools.issue_numbers ≡ replicate 128 0 → s.registers.tags ≡ replicate 32 None
    → s.registers.values ≡ (start_of i).regs → s.fetch ≡ At i.entry → m.base ≡ i.window.base → m.bytes ≡ i.memory
    → length i.memory ≡ i.window.size → IsSnapshot i config n 0 (core 0 s m)
start_shown {config} {s = s} i slots issue_numbers tags values from base bytes size =
    let e : first_timed config i 0 ≡ [] = run_none config i in
    record {
      issue = record {
        few = omega arith;
        shown = rw e (record {
          slots = shows_none i s.pools (ap length slots) (none_at 96 s.pools.slots slots) issue_numbers;
          status = record {
            count = ap length values;
            status = ap length tags;
            tags = none_at 32 s.registers.tags tags;
            values = λ r l q. ap (λ xs. slice_index xs r) values;
          };
          from = from;
        });
        issued = rw e tt;
        next = λ l. none_issued config i;
      };
      bytes = rw e (record { base = base; size = ap length bytes ∙ size; bytes = λ a low high. rw (base, bytes) refl });
    }

pub sound_start : {A : Type 0} {i : Loaded} {config : Configuration} {inner : Inner A} → IsWithinLimits config
    → IsLoaded i.window i.memory i.entry → IsFresh i inner → IsSound i config 0 Running inner
sound_start {i} {config} {inner} good loaded fresh = record {
  lawful = good;
  loaded = loaded;
  low = omega arith;
  after = λ n run.
      let k : 0 < greatest_end (first_timed config i (n + 1)) = more_left inner.issued 0 run (let none : inner.issued
      ≡ 0 = fresh.none in omega arith) (fresh.start config n).issue.next in
      record {
        high = omega arith;
        answer = rw (lt-ltb 0 (greatest_end (first_timed config i (n + 1))) k) refl;
        snapshot = fresh.start config n;
      };
}

-- what issues later isn't in the tables
shown_later : (t : ℕ) (newer h : List Done) (tag : Tag) → AreLater t newer → station_fields t (newer ++ h) tag
    ≡ station_fields t h tag
shown_later t [] h tag later = refl
shown_later t (d ∷ newer) h tag later = rw (lt-leb d.at.issue t later.0) (shown_later t newer h tag later.1)

qi_later : (t : ℕ) (newer h : List Done) (r : ℕ) → AreLater t newer → qi_of t (newer ++ h) r ≡ qi_of t h r
qi_later t [] h r later = refl
qi_later t (d ∷ newer) h r later = rw (lt-leb d.at.issue t later.0) (qi_later t newer h r later.1)

filter_same : {A B : Type 0} (f g : A → Option B) → ((x : A) → f x ≡ g x) → (xs : List A)
    → filter_map f xs ≡ filter_map g xs
filter_same f g same [] = refl
filter_same f g same (x ∷ xs) = rw (same x, filter_same f g same xs) refl

map_same : {A B : Type 0} (f g : A → B) → ((x : A) → f x ≡ g x) → (xs : List A) → map f xs ≡ map g xs
map_same f g same [] = refl
map_same f g same (x ∷ xs) = rw (same x, map_same f g same xs) refl

tables_later : (t : ℕ) (newer h : List Done) → AreLater t newer → tables_of t (newer ++ h) ≡ tables_of t h
tables_later t newer h later = same_tables (tables_of t (newer ++ h)) t (filter_map (station_fields t h) all_tags)
    (map (qi_of t h) (range_with_len 0 32)) refl
    (filter_same (station_fields t (newer ++ h)) (station_fields t h) (λ tag. shown_later t newer h tag later) all_tags)
    (map_same (qi_of t (newer ++ h)) (qi_of t h) (λ r. qi_later t newer h r later) (range_with_len 0 32))

-- the tables of the whole run are those of what has issued
tables_whole : {config : Configuration} {i : Loaded} {n : ℕ} (count t : ℕ) → RunEndsAfter i config n → count ≤ n + 1
    → (count ≤ n → IsYetToIssue i config count t)
    → tables_of t (run_of config i) ≡ tables_of t (first_timed config i count)
tables_whole {config} {i} {n} count t run few next =
    let rest = rest_to count (n + 1) t run next few (omega arith) in
    let e : run_of config i ≡ rest.0 ++ first_timed config i count = run_whole run ∙ rest.1.same in
    ap (tables_of t) e ∙ tables_later t rest.0 (first_timed config i count) rest.1.later

-- the machine's tables, pointwise
pub tables_seen : {A : Type 0} {config : Configuration} {i : Loaded} {cycle : ℕ} {last : Progress} {seen : Seen}
    {inner : Inner A} {tables : Tables} → seen_at i config cycle last ≡ seen
    → ((i : Loaded) (h : List Done) (config : Configuration) → IsUpTo i config cycle h
    → ShowsStations i (clocks cycle cycle cycle) h inner.pools → ShowsRegisters i cycle h inner.registers
    → tables ≡ tables_of cycle h) → IsSound i config cycle last inner → EndsWithin seen.image 262144
    → tables ≡ tables_of seen.cycle (run_of seen.config seen.image)
tables_seen {config = config} {i} {cycle} {inner = inner} {tables} e made sound =
    let P : Seen → Type 0 = λ x. EndsWithin x.image 262144 → tables ≡ tables_of x.cycle (run_of x.config x.image) in
    subst P e (λ ends.
    let run : RunEndsAfter i config ends.0 = sound_run sound ends in
    let shot = (sound.after ends.0 run).snapshot.issue in
    made i (first_timed config i inner.issued) config (issued_up_to run shot) shot.shown.slots shot.shown.status
    ∙ sym (tables_whole inner.issued cycle run shot.few shot.next))

no_writer : (t : ℕ) (h : List Done) (r : ℕ) → greatest_end h ≤ t → producer t h r ≡ None
no_writer t [] r l = refl
no_writer t (d ∷ older) r l = elim (cases_Bool (is_number (step_dest d.step) r)) [
  | inl e ↦ rw (e, le-ltb t d.at.end (omega arith)) refl
  | inr e ↦ rw e (no_writer t older r (omega arith))
]

bytes_ended : (i : Loaded) (t g a : ℕ) (h : List Done) → AllBy g h → g ≤ t
    → byte_at i t h a ≡ byte_after i (steps_in h) a
bytes_ended i t g a [] by l = refl
bytes_ended i t g a (d ∷ older) by l = elim (cases_Bool (overwrites d.step a)) [
  | inl e ↦ rw (e, le-leb d.at.start t (omega arith)) refl
  | inr e ↦ rw e (bytes_ended i t g a older by.1 l)
]

-- what a run that is over leaves
pub record IsOver {i : Loaded} {config : Configuration} {n : ℕ} (run : RunEndsAfter i config n) (s : Core) : Type 0
  where
    pub steps : s.issued ≡ n + 1
    pub stopped : s.front.fetch ≡ Stopped run.kind run.state.pc
    pub regs : s.front.registers.values ≡ run.state.regs
    pub base : s.memory.base ≡ run.state.image.window.base
    pub bytes : s.memory.bytes ≡ run.state.memory

all_issued : {config : Configuration} {i : Loaded} {n : ℕ} (t count : ℕ) → RunEndsAfter i config n → count ≤ n + 1
    → (count ≤ n → IsYetToIssue i config count t) → greatest_end (first_timed config i (n + 1)) ≤ t → count ≡ n + 1
all_issued {config} {i} {n} t count run few next l = elim (cases_order count (n + 1)) [
  | inl e ↦ e
  | inr (inl less) ↦ let k : t < greatest_end (first_timed config i (n + 1)) =
      more_left count t run (omega arith) next in absurd (omega arith)
  | inr (inr more) ↦ absurd (omega arith)
]

over_at : {config : Configuration} {i : Loaded} {n : ℕ} (t : ℕ) (s : Front) (m : Bytes) (run : RunEndsAfter i config n)
    → IsSnapshot i config n t (core (n + 1) s m) → greatest_end (first_timed config i (n + 1)) ≤ t
    → IsOver run (core (n + 1) s m)
over_at {config} {i} {n} t rest m run shot l =
    let s : State = run.state in
    let kind : EndKind = run.kind in
    let h : List Done = first_timed config i (n + 1) in
    let last = stops t run in
    let kind_is = step_ends_it i n s kind last.0 run.ends last.1 in
    let steps = steps_are config i (n + 1) ∙ step_joins i n last.0 last.1 in
    let leaves : Leaves i (first_steps i n) s = end_is i n s kind run.loaded run.ends in
    let state : IsState s = run_state i n s run.loaded run.ends.leads in
    let pc = (step_follows i n n s kind last.0 run.loaded run.ends (omega arith) last.1).pc ∙ sym leaves.pc in
    let no_dest : step_dest last.0 ≡ None = end_writes_no_register last.0 kind kind_is in
    let no_store : is_store last.0 ≡ false = end_writes_no_byte last.0 kind kind_is in
    let by = timed_by config h run.lawful (run_timed i (n + 1) run.lawful) in
    let status : ShowsRegisters i t h rest.registers = shot.issue.shown.status in
    let base : m.base ≡ i.window.base = shot.bytes.base in
    record {
      steps = refl;
      stopped = shot.issue.shown.from ∙ last.2 ∙ ap (λ (x : ℕ). Stopped kind x) pc;
      regs = same_registers i (first_steps i n) s rest.registers.values leaves state status.count
          (λ r k. status.values r k (no_writer t h r l)
          ∙ (ap (λ xs. register_after i xs r) steps ∙ rw no_dest refl));
      base = base ∙ sym (ap (λ x. x.window.base) leaves.image);
      bytes = same_memory i (first_steps i n) s m.bytes leaves state (record {
        count = shot.bytes.size;
        each = λ a low high. rw base at (shot.bytes.bytes a low high) ∙ (bytes_ended i t (greatest_end h) a h by l
            ∙ (ap (λ xs. byte_after i xs a) steps ∙ rw no_store refl));
      });
    }

pub is_over_at : {A : Type 0} {config : Configuration} {i : Loaded} {n : ℕ} (t : ℕ) (at : Inner A)
    (run : RunEndsAfter i config n) → IsAt i config n t at → greatest_end (first_timed config i (n + 1)) ≤ t
    → IsOver run (core_of at)
is_over_at {config = config} {i} {n} t at run shot l =
    let e : at.issued ≡ n + 1 = all_issued t at.issued run shot.issue.few shot.issue.next l in
    let s : Core = core_of at in
    let P : ℕ → Type 0 = λ x. IsSnapshot i config n t (core x s.front s.memory) → IsOver run (core x s.front s.memory)
    in
    subst P (sym e) (λ seen. over_at t s.front s.memory run seen l) shot
