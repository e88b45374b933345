-- A branch that is done in the cycle is the youngest step, and its station gives the next pc.
use Rattle.tomex_cycle.proofs.IssuesTest.{finished_from}
use Rattle.tomex_cycle.proofs.EndsLoops.{all_applied, ended_below, first_applied, hears_none, ends_same}
use Rattle.tomex_cycle.proofs.Words.{nat_lt, nat_le, if◌then◌else◌, ◌&&◌, ◌==◌, not, is_some, cases_Bool, nat_tests}
use Rattle.tomex_cycle.proofs.Words.{ltb-true, lt-ltb, le-ltb, and_parts, eqb-true, eqb-false, Loaded, Configuration}
use Rattle.tomex_cycle.proofs.Words.{PoolId, unit_with_pool, unread_j, unread_k, EndKind, Operand, Step, end_of}
use Rattle.tomex_cycle.proofs.Words.{next_pc_of, is_branch, is_in, is_number, j_of, k_of, operand, step_pool, step_unit}
use Rattle.tomex_cycle.proofs.Words.{step_dest, Done, source_end, writer_end, IsTimed, are_branches_finished, field_of}
use Rattle.tomex_cycle.proofs.Words.{producer, tag_at, tag_of, Fetch, MakesEnds, steps_in, clocks, fetch_after}
use Rattle.tomex_cycle.proofs.Words.{fetch_of, holds_place, sent_at, station_at, station_of, ShowsRegisters}
use Rattle.tomex_cycle.proofs.Words.{ShowsStations, EndsIn, Receives, IsDoneBranch, finishes, sent_below, AreEnding}
use Rattle.tomex_cycle.proofs.Words.{AreNamed, step_in, value_in, place_at, place_of_tag, Pools, AreBusy, RegStatus}
use Rattle.tomex_cycle.proofs.Words.{Station, has, AreLow, dest_of, Tag, Front, front, ◌||◌, IsUpTo, eq-eqb, slot}
use Rattle.tomex_cycle.proofs.Words.{none_in, AreDone, IsTimetableOf, LeavesTimetable, Finishes, ℕ, ◌+◌, ◌<◌, ◌≤◌, ◌≡◌}
use Rattle.tomex_cycle.proofs.Words.{◌∙◌, Bool, true, false, arith, refl, List, [], ◌∷◌, Option, Some, None, ap, sym}
use Rattle.tomex_cycle.proofs.Words.{inl, inr, ◌⊎◌, slice_index_or, IsSome, length, slice_index, after_branch}
use Rattle.tomex_cycle.proofs.Words.{target_in}
use Rattle.tomex_cycle.proofs.Places.{AreLow as AreLowNumbers, low, held_place, number_is_some, ShowsPart, shows_part}
use Rattle.tomex_cycle.proofs.Places.{held_here, older_shown, older_up_to, busy_by}
use Rattle.tomex_rvexec.specs.History.{Follows as Reads}
use Rattle.tomex_cycle.specs.Ends.{Follows}
use Rattle.tomex_cycle.proofs.EndsState.{ends_in, ending_is, j_cases, k_cases, later, registers_at, sent_all}
use Rattle.tomex_cycle.proofs.EndsState.{stations_at}
use Rattle.tomex_cycle.proofs.Runs.{reach, can_start_then, starts_after}
use Rattle.tomex_cycle.proofs.StartsDone.{low_of}
use Rattle.tomex_cycle.proofs.Truth.{or_cases, pool_in}
use Rattle.tomex_rvdec.specs.declared.pool.PoolId.TheVariants as pools
use Rattle.tomex_cycle.specs.declared.fetch.Fetch.TheVariants as from

-- Branches have the last places.

branch_from : (pool : Option PoolId) (station : Option ℕ) (x : ℕ) → ((n : ℕ) → station ≡ Some n → n < 16)
    → place_at (tag_at pool station) ≡ Some x → 80 ≤ x → is_in pools.Bru pool ≡ true
branch_from pool station x h3 h4 h5 = grind (arith, nat_tests)

pub place_high : (pool : Option PoolId) (station : Option ℕ) (x : ℕ) → is_in pools.Bru pool ≡ true
    → place_at (tag_at pool station) ≡ Some x → 80 ≤ x
place_high pool station x h3 h4 = grind (arith, nat_tests)

pool_IsSome : (pool : Option PoolId) → is_in pools.Bru pool ≡ true → IsSome pool
pool_IsSome None e = absurd (cc)
pool_IsSome (Some p) e = refl

pub done_in : (c start finish v : ℕ) → is_number (if nat_le start c then Some finish else None) v ≡ true → finish ≡ v
done_in c start finish v e = grind (arith, nat_tests)

finish_is : (u start finish : ℕ) → start ≤ finish
    → is_number (if nat_le start u then Some finish else None) u ≡ (finish == u)
finish_is u start finish l = grind (arith, nat_tests)

-- an older branch was done before a branch issued
no_older : (i : Loaded) (t u v x : ℕ) (h : List Done) → AreLowNumbers h → are_branches_finished h v ≡ true → v ≤ u
    → 80 ≤ x → finishes u (station_at i (clocks u u t) h x) ≡ true → ⊥
no_older i t u v x [] few all l high e = cc
no_older i t u v x (d ∷ older) few all l high e =
    let two = and_parts (not (is_branch d.step) || nat_lt d.at.finish v) (are_branches_finished older v) all in
    elim (cases_Bool (holds_place t x d)) [
      | inr free ↦ no_older i t u v x older few.1 two.1 l high (rw free at e)
      | inl held ↦
          let here : finishes u (Some (station_of i (clocks u u t) d older)) ≡ true = rw held at e in
          let end : d.at.finish ≡ u = done_in u d.at.start d.at.finish u here in
          let branch = branch_from (step_pool d.step) d.at.station x few.0 (held_place t x d held) high in
          let f : (not true || nat_lt d.at.finish v) ≡ true = rw branch at two.0 in
          let k : d.at.finish < v = ltb-true d.at.finish v f in
          absurd (omega arith)
    ]

-- The step of a station that has started.

producer_none : (t r : ℕ) (h : List Done) → writer_end h r ≤ t → producer t h r ≡ None
producer_none t r [] l = refl
producer_none t r (d ∷ older) l = elim (cases_Bool (is_number (Rattle.tomex_rvexec.specs.Steps.step_dest d.step) r)) [
  | inl e ↦ let k : d.at.end ≤ t = rw e at l in rw (e, le-ltb t d.at.end k) refl
  | inr e ↦ rw e (producer_none t r older (rw e at l))
]

value_there : (t v r : ℕ) (older : List Done) (o : Option Operand) → source_end older o ≤ t → (o ≡ None → v ≡ 0)
    → (o ≡ None) ⊎ (o ≡ Some (operand v r)) → value_in (field_of t older o) ≡ v
value_there t v r older o l zero_is (inl none) = rw none (sym (zero_is none))
value_there t v r older o l zero_is (inr some) =
    let k : writer_end older r ≤ t = rw some at l in
    rw (some, producer_none t r older k) refl

-- a station that has started holds its step
pub step_back : (i : Loaded) {config : Configuration} (c : Rattle.tomex_cycle.specs.Views.Clocks) (d : Done)
    {older : List Done} → IsTimed config older d.step d.at → Reads i (steps_in older) d.step → IsSome (step_pool d.step)
    → is_some (step_unit d.step) ≡ true → d.at.start ≤ c.end + 1 → step_in (station_of i c d older) ≡ d.step
step_back i c d {older} timed reads pool some l =
    let (unit, can) = can_start_then d timed some in
    let a : source_end older (j_of d.step) < d.at.start = can.after_j in
    let b : source_end older (k_of d.step) < d.at.start = can.after_k in
    let j : value_in (field_of c.end older (j_of d.step)) ≡ d.step.vj = value_there c.end d.step.vj d.step.instr.rs1
    older (j_of d.step) (omega arith) (unread_j i (steps_in older) d.step reads pool) (j_cases d.step) in
    let k : value_in (field_of c.end older (k_of d.step)) ≡ d.step.vk = value_there c.end d.step.vk d.step.instr.rs2
    older (k_of d.step) (omega arith) (unread_k i (steps_in older) d.step reads) (k_cases d.step) in
    let f : ℕ → Step = λ x. record d.step { vj = x; vk = value_in (field_of c.end older (k_of d.step)) } in
    let g : ℕ → Step = λ x. record d.step { vk = x } in
    ap f j ∙ ap g k

-- Where the next instruction comes from.

wait_less : (branch : Bool) (t u finish : ℕ) → u ≡ t + 1 → (branch && nat_lt t finish) ≡ false
    → (branch && nat_lt u finish) ≡ false
wait_less branch t u finish e h = grind (arith, nat_tests)

-- the youngest step is a branch that isn't done after cycle t
waits_for : {i : Loaded} {config : Configuration} {t u : ℕ} (d : Done) (older : List Done) {st : Pools}
    (found : Option ℕ) → IsUpTo i config u (d ∷ older) → u ≡ t + 1 → ShowsStations i (clocks u u t) (d ∷ older) st
    → is_branch d.step ≡ true → t < d.at.finish → IsDoneBranch u st.slots found
    → after_branch st.slots found ≡ fetch_after d.step (is_branch d.step && nat_lt u d.at.finish) None
waits_for {i} {config} {t} {u} d older {st} None up e shown branch late done =
    let r = reach d older up.lawful up.timed in
    let order : d.at.start ≤ d.at.finish = r.order in
    let unit = unit_with_pool d.step ∙ pool_in (step_pool d.step) pools.Bru branch in
    let begins : d.at.issue < d.at.start = starts_after d up.timed.0 unit in
    let (x, place, held) = busy_by t d up.timed.0 (omega arith) (lt-ltb t d.at.end (omega arith)) in
    let there = held_here (shows_part up (omega arith) shown) x held in
    let not_yet = done x (place_high (step_pool d.step) d.at.station x branch place) there.small in
    let here : is_number (if nat_le d.at.start u then Some d.at.finish else None) u ≡ false =
    rw there.slot at not_yet in
    let other = eqb-false d.at.finish u (sym (finish_is u d.at.start d.at.finish order) ∙ here) in
    rw (branch, lt-ltb u d.at.finish (later t u d.at.finish e late other)) refl
waits_for {i} {config} {t} {u} d older {st} (Some x) up e shown branch late done =
    let issued : d.at.issue ≤ u = up.issued.0 in
    let fin : finishes u (station_at i (clocks u u t) (d ∷ older) x) ≡ true = ap (finishes u) (sym
    (shown.slots x done.1)) ∙ done.2 in
    elim (cases_Bool (holds_place t x d)) [
      | inr free ↦ absurd (no_older i t u d.at.issue x older (low older (older_up_to up))
          (finished_from config older d.step d.at.issue up.timed.0.issue.0) issued done.0 (rw free at fin))
      | inl held ↦
          let here : finishes u (Some (station_of i (clocks u u t) d older)) ≡ true = rw held at fin in
          let end : d.at.finish ≡ u = done_in u d.at.start d.at.finish u here in
          let slot : slot st.slots x ≡ Some (station_of i (clocks u u t) d older) = shown.slots x done.1 ∙ rw held refl
          in
          let order : d.at.start ≤ d.at.finish = (reach d older up.lawful up.timed).order in
          let back = step_back i (clocks u u t) d up.timed.0 up.past.0 (pool_IsSome (step_pool d.step) branch)
          (unit_with_pool d.step ∙ pool_in (step_pool d.step) pools.Bru branch) (omega arith) in
          rw (branch, le-ltb u d.at.finish (omega arith)) (ap (λ (o : Option Station). from.At (target_in o)) slot
          ∙ ap (λ (s : Step). from.At (next_pc_of s)) back)
    ]

follow_by : {i : Loaded} {config : Configuration} {t u : ℕ} (d : Done) (older : List Done) {st : Pools} {result : Fetch}
    (o : Option EndKind) → IsUpTo i config u (d ∷ older) → u ≡ t + 1 → ShowsStations i (clocks u u t) (d ∷ older) st
    → Follows u st.slots (fetch_after d.step (is_branch d.step && nat_lt t d.at.finish) o) result
    → result ≡ fetch_after d.step (is_branch d.step && nat_lt u d.at.finish) o
follow_by d older (Some kind) up e shown f = f
follow_by {t = t} {u} d older {st} {result} None up e shown f = elim
    (cases_Bool (is_branch d.step && nat_lt t d.at.finish)) [
      | inr w ↦
          let g : result ≡ from.At (next_pc_of d.step) = rw w at f in
          rw (wait_less (is_branch d.step) t u d.at.finish e w) g
      | inl w ↦
          let two = and_parts (is_branch d.step) (nat_lt t d.at.finish) w in
          let g : Follows u st.slots from.Waits result = rw w at f in
          g.2 ∙ waits_for d older g.0 up e shown two.0 (ltb-true t d.at.finish two.1) g.1
    ]

pub follow_is : {i : Loaded} {config : Configuration} {t u : ℕ} (h : List Done) {st : Pools} {result : Fetch}
    → IsUpTo i config u h → u ≡ t + 1 → ShowsStations i (clocks u u t) h st
    → Follows u st.slots (fetch_of i t h) result → result ≡ fetch_of i u h
follow_is [] up e shown f = f
follow_is (d ∷ older) up e shown f = follow_by d older (end_of d.step) up e shown f

-- Each Qi names a busy station whose destination is that register.

named_in : {i : Loaded} {t u r : ℕ} {st : Pools} (part : List Done) (tag : Tag) (s : Station)
    → ShowsPart i (clocks u u t) st part → producer t part r ≡ Some tag → slot st.slots (place_of_tag tag) ≡ Some s
    → dest_of s.instr ≡ Some r
named_in [] tag s shown from here = absurd (cc)
named_in {i} {t} {u} {r} {st} (d ∷ older) tag s shown from here = elim (cases_Bool (is_number (step_dest d.step) r)) [
  | inr k ↦ named_in older tag s (older_shown shown) (rw k at from) here
  | inl k ↦ elim (cases_Bool (nat_lt t d.at.end)) [
    | inr l ↦ let z : None ≡ Some tag = rw (k, l) at from in absurd (cc)
    | inl l ↦
        let same : tag_of d ≡ Some tag = rw (k, l) at from in
        let there = (held_here shown (place_of_tag tag) (rw (same, l, eq-eqb (place_of_tag tag) (place_of_tag tag) refl)
        refl)).slot in
        let g : station_of i (clocks u u t) d older ≡ s = cc in
        ap (λ (z : Station). dest_of z.instr) (sym g) ∙ number_is_some (step_dest d.step) r k
  ]
]

tag_here : (o : Option Tag) (x : ℕ) → is_number (place_at o) x ≡ true
    → (tag : Tag) × (o ≡ Some tag) × (place_of_tag tag ≡ x)
tag_here None x e = absurd (cc)
tag_here (Some tag) x e = (tag, refl, eqb-true _ _ e)

names_are : {i : Loaded} {config : Configuration} {t u : ℕ} {st : Pools} {rg : RegStatus} {h : List Done}
    → IsUpTo i config u h → u ≡ t + 1 → ShowsStations i (clocks u u t) h st → ShowsRegisters i t h rg
    → AreNamed st.slots rg
names_are {st = st} {rg} {h} up next shown regs r x l e s here =
    let tag = tag_here (slice_index_or rg.tags r None) x e in
    named_in h tag.0 s (shows_part up (omega arith) shown) (sym (regs.tags r l) ∙ tag.1)
    (ap (λ y. slot st.slots y) tag.2 ∙ here)

-- what ends is busy
pub ending_low : (st : Pools) (buses next ending : ℕ) → AreEnding st buses next ending
    → AreBusy st.slots st.busy st.issue_numbers → (x : ℕ) → x < 128 → has ending x ≡ true → x < 96
ending_low st buses next ending ends filled x l e = low_of st x filled l (elim (or_cases _ _ (sym (ends.all x l) ∙ e)) [
  | inl k ↦ (and_parts _ _ (sym (ends.are_unsent x l) ∙ ends.sent.inside x l k)).0
  | inr k ↦ (and_parts _ _ k).0
])

-- The whole phase.

pub made_ends : (config : Configuration) {next : ℕ} (old : Front) {pools : Pools} {registers : RegStatus}
    {fetch : Fetch}
    (picked : ℕ) → AreEnding old.pools config.buses next picked
    → AreBusy old.pools.slots old.pools.busy old.pools.issue_numbers → Follows next old.pools.slots old.fetch fetch
    → (AreLow picked → EndsIn (λ x. has picked x) (sent_below old.pools.slots picked 96) old.pools pools)
    → (length old.pools.slots ≡ 96 → AreLow picked → AreNamed old.pools.slots old.registers
    → Receives (sent_below old.pools.slots picked 96) old.registers registers)
    → MakesEnds config next old (front pools registers fetch)
made_ends config {next} old picked ends filled follows made heard_ i h t e up s =
    let slots : List (Option Station) = old.pools.slots in
    let shown : ShowsStations i (clocks next next t) h old.pools = s.slots in
    let regs : ShowsRegisters i t h old.registers = s.status in
    let ended : (x : ℕ) → x < 96 → has picked x ≡ ends_in next h x = λ x l. ending_is x up e shown filled ends l in
    let low : AreLow picked = λ x l k. ending_low old.pools config.buses next picked ends filled x l k in
    let m = made low shown.places in
    let sent = sent_all t h slots picked up e shown.slots ended in
    record {
      slots = record {
        places = m.places;
        slots = λ x l. m.slots x l ∙ (ends_same (has picked x) (sent_below slots picked 96) (sent_at i next h)
            (slot slots x) sent
            ∙ (rw (ended x l, shown.slots x l) (sym (stations_at t next x [] h up e))));
        order_count = ap length m.issue_numbers ∙ shown.order_count;
        issue_numbers = λ x l. ap (λ xs. slice_index xs x) m.issue_numbers ∙ shown.issue_numbers x l;
      };
      status = registers_at up e regs sent (heard_ shown.places low (names_are up e shown regs) regs.count regs.status);
      from = follow_is h up e shown (rw s.from at follows);
    }

-- If nothing ends, nothing changes.

pub ends_none : (config : Configuration) {next : ℕ} (ending : ℕ) (old : Front) {fetch : Fetch}
    → AreEnding old.pools config.buses next ending → AreBusy old.pools.slots old.pools.busy old.pools.issue_numbers
    → Follows next old.pools.slots old.fetch fetch → ending ≡ 0
    → MakesEnds config next old (front old.pools old.registers fetch)
ends_none config ending old ends filled follows e = made_ends config old 0 (rw e at ends) filled follows
    (λ low count. ended_below (all_applied low (first_applied 0 old.pools old.registers count) refl).0)
    (λ count low. (all_applied low (first_applied 0 old.pools old.registers count) refl).1)

pub none_over : (slots : List (Option Station)) (next ending : ℕ) (f : Finishes) → length slots ≡ 96
    → LeavesTimetable slots next ending f → ending ≡ 0 → IsTimetableOf slots (next + 1) f
none_over slots next ending f count leaves e = leaves slots (λ y. None) count
    (λ x l. rw (e, none_in x) (hears_none (λ y. None) (slot slots x) (λ y. refl)))

-- if nothing finishes, no branch is followed
pub none_followed : (next due : ℕ) (slots : List (Option Station)) (fetch : Fetch) → AreDone slots next due → due ≡ 0
    → Follows next slots fetch fetch
none_followed next due slots fetch h4 h5 = grind (arith, nat_tests)
