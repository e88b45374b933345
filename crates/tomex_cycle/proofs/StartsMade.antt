-- In the cycle in which it starts an access finds in memory the bytes that the run has before it.
use Rattle.tomex_timing.proofs.Orders.{conflict_at, start_clear}
use Rattle.tomex_cycle.proofs.Words.{nat_lt, not, is_some, MatchOption, cases_Bool, ltb-true, nat_tests, lt-leb, le-leb}
use Rattle.tomex_cycle.proofs.Words.{and_parts, or_right, or_left, Loaded, Configuration, IsWithinLimits, UnitId}
use Rattle.tomex_cycle.proofs.Words.{ByteRange, Step, covers, overwrites, byte_after, bytes_of, is_store, step_pool}
use Rattle.tomex_cycle.proofs.Words.{step_unit, unit_with_pool, Done, cycle_of, AreTimed, IsTimed, IsLeast, can_start}
use Rattle.tomex_cycle.proofs.Words.{conflicts, are_conflicts_finished, byte_at, steps_in, ◌||◌, IsUpTo, nat_le, ◌&&◌}
use Rattle.tomex_cycle.proofs.Words.{◌==◌, option_map, IfSome, IsSome, eqb-true, eqb-false, option_of, Op, sources_of}
use Rattle.tomex_cycle.proofs.Words.{unit_of, IsAllowed, byte_in, result_of, Bytes, j_of, k_of, operand, unread_j}
use Rattle.tomex_cycle.proofs.Words.{unread_k, source_end, field_of, producer, ArePast, IsInside, station_after_start}
use Rattle.tomex_cycle.proofs.Words.{station_after_start_if}
use Rattle.tomex_cycle.proofs.Words.{ShowsMemory, clocks, holds_place, station_at, station_of, step_in, is_there}
use Rattle.tomex_cycle.proofs.Words.{value_in, Station, lt-ltb, ℕ, ◌+◌, ◌<◌, ◌≤◌, ◌≡◌, ◌∙◌, true, arith, refl, List, []}
use Rattle.tomex_cycle.proofs.Words.{◌∷◌, ◌++◌, Option, Some, None, inl, inr, length, append_assoc, ◌-◌, false, ap, sym}
use Rattle.tomex_cycle.proofs.Words.{end_at, same_result}
use Rattle.tomex_rvexec.specs.Results.{is_among}
use Rattle.tomex_cycle.proofs.Runs.{reach, can_start_then, store_unit}
use Rattle.tomex_cycle.proofs.Places.{older_up_to, part_up_to}
use Rattle.tomex_cycle.specs.Starts.{finish_from}
use Rattle.tomex_cycle.proofs.Fields.{there_test}
use Rattle.tomex_cycle.proofs.StartsBegun.{inside_as}
use Rattle.tomex_cycle.proofs.StartsPicked.{there_value, starts_at, starts_in}
use Rattle.tomex_rvdec.specs.declared.op.Op.TheVariants as ops

-- what starts waits for each older access to its bytes
pub starts_clear : {config : Configuration} (d : Done) {older : List Done} → IsTimed config older d.step d.at
    → is_some (step_unit d.step) ≡ true → are_conflicts_finished older d.step d.at.start ≡ true
starts_clear {config} d {older} timed some = start_clear config d older timed some

finished_one : (d e : Done) (a : ℕ) → covers e.step a ≡ true → covers d.step a ≡ true
    → (is_store e.step || is_store d.step) ≡ true
    → (not (conflicts e.step d.step) || nat_lt e.at.finish d.at.start) ≡ true → e.at.finish < d.at.start
finished_one d e a ce cd store clear =
    let k : conflicts e.step d.step ≡ true = conflict_at e.step d.step a ce cd store in
    let f : (not true || nat_lt e.at.finish d.at.start) ≡ true = rw k at clear in
    ltb-true e.at.finish d.at.start f

-- the older stores on a byte have all been made when an access to it starts
older_made : (i : Loaded) {config : Configuration} (t a : ℕ) (d : Done) (h : List Done) → IsWithinLimits config
    → AreTimed config h → covers d.step a ≡ true → d.at.start ≡ t + 1
    → are_conflicts_finished h d.step d.at.start ≡ true → byte_at i t h a ≡ byte_after i (steps_in h) a
older_made i t a d [] good timed c at clear = refl
older_made i t a d (e ∷ older) good timed c at clear =
    let two = and_parts (not (conflicts e.step d.step) || nat_lt e.at.finish d.at.start) (are_conflicts_finished older
    d.step d.at.start) clear in
    let rest : byte_at i t older a ≡ byte_after i (steps_in older) a = older_made i t a d older good timed.1 c at two.1
    in
    elim (cases_Bool (overwrites e.step a)) [
      | inr o ↦ rw o rest
      | inl o ↦
          let p = and_parts (is_store e.step) (covers e.step a) o in
          let l = finished_one d e a p.1 c (or_left (is_store e.step) (is_store d.step) p.0) two.0 in
          let r : e.at.start ≤ e.at.finish = (reach e older good timed).order in
          rw (o, le-leb e.at.start t (omega arith)) refl
    ]

clear_at : (newer : List Done) (d : Done) (older : List Done) (n : Done) (a : ℕ) → covers d.step a ≡ true
    → covers n.step a ≡ true → is_store n.step ≡ true
    → are_conflicts_finished (newer ++ (d ∷ older)) n.step n.at.start ≡ true → d.at.finish < n.at.start
clear_at [] d older n a cd cn store clear =
    finished_one n d a cd cn (or_right (is_store d.step) (is_store n.step) store)
    (and_parts (not (conflicts d.step n.step) || nat_lt d.at.finish n.at.start)
    (are_conflicts_finished older n.step n.at.start) clear).0
clear_at (e ∷ newer) d older n a cd cn store clear =
    clear_at newer d older n a cd cn store (and_parts (not (conflicts e.step n.step) || nat_lt e.at.finish n.at.start)
    (are_conflicts_finished (newer ++ (d ∷ older)) n.step n.at.start) clear).1

-- and younger ones haven't
newer_waits : {i : Loaded} {config : Configuration} {s : ℕ} (t a : ℕ) (d : Done) (newer older : List Done)
    → IsUpTo i config s (newer ++ (d ∷ older)) → covers d.step a ≡ true → t < d.at.start
    → byte_at i t (newer ++ (d ∷ older)) a ≡ byte_at i t older a
newer_waits t a d [] older up c l = elim (cases_Bool (overwrites d.step a)) [
  | inl o ↦ rw (o, lt-leb d.at.start t l) refl
  | inr o ↦ rw o refl
]
newer_waits t a d (n ∷ newer) older up c l =
    let rest = newer_waits t a d newer older (older_up_to up) c l in
    elim (cases_Bool (overwrites n.step a)) [
      | inr o ↦ rw o rest
      | inl o ↦
          let p = and_parts (is_store n.step) (covers n.step a) o in
          let clear = starts_clear n up.timed.0 (store_unit n.step p.0) in
          let m : d.at.finish < n.at.start = clear_at newer d older n a c p.1 p.0 clear in
          let part = part_up_to newer (older_up_to up) in
          let r : d.at.start ≤ d.at.finish = (reach d older part.lawful part.timed).order in
          rw (o, lt-leb n.at.start t (omega arith)) rest
    ]

-- so an access that starts in cycle t + 1 finds what the run has
pub found_is : {i : Loaded} {config : Configuration} {s : ℕ} (t a : ℕ) (d : Done) (newer older : List Done)
    → IsUpTo i config s (newer ++ (d ∷ older)) → is_some (step_unit d.step) ≡ true → covers d.step a ≡ true
    → d.at.start ≡ t + 1 → byte_at i t (newer ++ (d ∷ older)) a ≡ byte_after i (steps_in older) a
found_is {i} t a d newer older up some c at =
    let here = part_up_to newer up in
    newer_waits t a d newer older up c (omega arith)
    ∙ older_made i t a d older here.lawful here.timed.1 c at (starts_clear d here.timed.0 some)

-- What starts has its finish and its result.

-- both operands of a step that starts in the next cycle are there
operands_there : {i : Loaded} {config : Configuration} (t u : ℕ) (d : Done) (older : List Done)
    → IsUpTo i config t (d ∷ older) → u ≡ t + 1 → starts_in u d ≡ true
    → (is_there (field_of t older (j_of d.step)) ≡ true) × (is_there (field_of t older (k_of d.step)) ≡ true)
operands_there t u d older up e starts =
    let two = and_parts (is_some (step_unit d.step)) (d.at.start == u) starts in
    let (unit, can) = can_start_then d up.timed.0 two.0 in
    let at : d.at.start ≡ u = eqb-true _ _ two.1 in
    let j : source_end older (j_of d.step) < d.at.start = can.after_j in
    let k : source_end older (k_of d.step) < d.at.start = can.after_k in (
      there_test t older (j_of d.step) (older_up_to up) ∙ lt-ltb _ _ (omega arith),
      there_test t older (k_of d.step) (older_up_to up) ∙ lt-ltb _ _ (omega arith),
    )

value_is : (t v : ℕ) (older : List Done) (source : Option ℕ)
    → is_there (field_of t older (option_map (operand v) source)) ≡ true
    → (option_map (operand v) source ≡ None → v ≡ 0) → value_in (field_of t older (option_map (operand v) source)) ≡ v
value_is t v older None there unread = sym (unread refl)
value_is t v older (Some r) there unread = there_value v (producer t older r) there

pub some_is : {A : Type 0} (o : Option A) → is_some o ≡ true → IsSome o
some_is None e = absurd (cc)
some_is (Some x) e = refl

-- its station holds it
pub step_is : {i : Loaded} {config : Configuration} (t u : ℕ) (d : Done) (older : List Done)
    → IsUpTo i config t (d ∷ older) → u ≡ t + 1 → starts_in u d ≡ true
    → step_in (station_of i (clocks t t t) d older) ≡ d.step
step_is {i} t u d older up e starts =
    let there = operands_there t u d older up e starts in
    let pool = sym (unit_with_pool d.step) ∙ (and_parts (is_some (step_unit d.step)) (d.at.start == u) starts).0 in
    let j : value_in (field_of t older (j_of d.step)) ≡ d.step.vj = value_is t d.step.vj older (sources_of
    d.step.instr).j there.0 (unread_j i (steps_in older) d.step up.past.0 (some_is (step_pool d.step) pool)) in
    let k : value_in (field_of t older (k_of d.step)) ≡ d.step.vk = value_is t d.step.vk older (sources_of
    d.step.instr).k there.1 (unread_k i (steps_in older) d.step up.past.0) in
    rw (j, k) refl

goes_on : (op : Op) → is_some (unit_of op) ≡ true → end_at op ≡ None
goes_on ops.Ecall e = absurd (cc)
goes_on ops.Ebreak e = absurd (cc)
goes_on _ e = refl

-- and its access is inside memory
pub inside_is : {i : Loaded} {t : ℕ} (u : ℕ) (d : Done) (older : List Done) {h : List Done} {m : Bytes}
    → ArePast i (d ∷ older) → starts_in u d ≡ true → ShowsMemory i t h m → IsInside m d.step
inside_is {i} u d older {m} past starts shown =
    let unit = (and_parts (is_some (step_unit d.step)) (d.at.start == u) starts).0 in
    let allowed : IsAllowed i d.step = past.1 (goes_on d.step.instr.op unit) in
    inside_as (bytes_of d.step) m.base i.window.base (length m.bytes) i.window.size shown.base shown.size allowed.access

covered : (o : Option ByteRange) (a base size : ℕ) → IfSome o (λ r. (base ≤ r.from) × (r.to ≤ base + size))
    → is_among o a ≡ true → (base ≤ a) × (a < base + size)
covered o a base size h4 h5 = grind (arith, nat_tests)

-- its result is that of the run
result_is : {i : Loaded} {config : Configuration} {t : ℕ} (u : ℕ) (d : Done) (newer older : List Done) {m : Bytes}
    → IsUpTo i config t (newer ++ (d ∷ older)) → u ≡ t + 1 → starts_in u d ≡ true
    → ShowsMemory i t (newer ++ (d ∷ older)) m
    → result_of d.step (byte_in m) ≡ result_of d.step (byte_after i (steps_in older))
result_is {i} {t = t} u d newer older {m} up e starts shown =
    let two = and_parts (is_some (step_unit d.step)) (d.at.start == u) starts in
    let at : d.at.start ≡ u = eqb-true _ _ two.1 in
    let allowed : IsAllowed i d.step = (part_up_to newer up).past.1 (goes_on d.step.instr.op two.0) in
    same_result d.step (byte_in m) (byte_after i (steps_in older)) (λ a c.
    let in_window = covered (bytes_of d.step) a i.window.base i.window.size allowed.access c in
    shown.bytes a in_window.0 in_window.1 ∙ found_is t a d newer older up two.0 c (at ∙ e))

finish_at : (config : Configuration) (finish start issue u : ℕ) (o : Option UnitId) → is_some o ≡ true
    → MatchOption o (finish ≡ issue) (λ unit. finish ≡ start + (option_of config unit).latency - 1) → start ≡ u
    → Some finish ≡ finish_from config u o
finish_at config finish start issue u None some timed e = absurd (cc)
finish_at config finish start issue u (Some unit) some timed e =
    ap (λ (n : ℕ). Some n) (timed ∙ ap (λ (n : ℕ). n + (option_of config unit).latency - 1) e)

-- a station as its operation starts
pub begun_is : {i : Loaded} {config : Configuration} (t u : ℕ) (d : Done) (newer older : List Done) (m : Bytes)
    → IsUpTo i config t (newer ++ (d ∷ older)) → u ≡ t + 1 → starts_in u d ≡ true
    → ShowsMemory i t (newer ++ (d ∷ older)) m
    → station_of i (clocks u t t) d older ≡ station_after_start config u m (station_of i (clocks t t t) d older)
begun_is {i} {config} t u d newer older m up e starts shown =
    let two = and_parts (is_some (step_unit d.step)) (d.at.start == u) starts in
    let at : d.at.start ≡ u = eqb-true _ _ two.1 in
    let part = part_up_to newer up in
    let step : step_in (station_of i (clocks t t t) d older) ≡ d.step = step_is t u d older part e starts in
    let finish : Some d.at.finish ≡ finish_from config u (step_unit d.step) = finish_at config d.at.finish d.at.start
    d.at.issue u (step_unit d.step) two.0 part.timed.0.finish at in
    let value = sym (result_is u d newer older up e starts shown) ∙ ap (λ (x : Step). result_of x (byte_in m))
    (sym step) in
    let set : Option ℕ → ℕ → Station = λ f v. record (station_of i (clocks t t t) d older) { finish = f; value = v } in
    let first : station_of i (clocks u t t) d older ≡ set (Some d.at.finish) (result_of d.step (byte_after i
    (steps_in older))) = rw (le-leb d.at.start u (omega arith)) refl in
    first ∙ (ap (λ f. set f (result_of d.step (byte_after i (steps_in older)))) finish
    ∙ ap (λ v. set (finish_from config u (step_unit d.step)) v) value)

-- what has no unit issued before
pub late_unit : (o : Option UnitId) (start issue t u : ℕ) (Q : UnitId → Type 0) → MatchOption o (start ≡ issue) Q
    → issue ≤ t → u ≡ t + 1 → (is_some o && (start == u)) ≡ false → start ≡ u → ⊥
late_unit None start issue t u Q timed l e starts at = let f : start ≡ issue = timed in omega arith
late_unit (Some v) start issue t u Q timed l e starts at = eqb-false start u starts at

pub not_u : (start t u : ℕ) → u ≡ t + 1 → (start ≡ u → ⊥) → nat_le start u ≡ nat_le start t
not_u start t u e f = grind (arith, nat_tests)

-- the station of a step that doesn't start stays
pub kept_is : {i : Loaded} {config : Configuration} (t u : ℕ) (d : Done) (older : List Done)
    → IsUpTo i config t (d ∷ older) → u ≡ t + 1 → starts_in u d ≡ false
    → station_of i (clocks u t t) d older ≡ station_of i (clocks t t t) d older
kept_is {config = config} t u d older up e starts =
    let same = not_u d.at.start t u e (late_unit (step_unit d.step) d.at.start d.at.issue t u (λ v. IsLeast
    (can_start config older d.step v d.at.issue (cycle_of d.at.address)) d.at.start) up.timed.0.start up.issued.0 e
    starts) in
    rw same refl

-- so each place has its next station
pub begins_at : {i : Loaded} {config : Configuration} (t u x : ℕ) (newer part : List Done) (m : Bytes)
    → IsUpTo i config t (newer ++ part) → u ≡ t + 1 → ShowsMemory i t (newer ++ part) m
    → station_at i (clocks u t t) part x ≡ station_after_start_if config u m (starts_at t u part x)
    (station_at i (clocks t t t) part x)
begins_at t u x newer [] m up e shown = refl
begins_at {i} {config} t u x newer (d ∷ older) m up e shown = elim (cases_Bool (holds_place t x d)) [
  | inr held ↦
      let all : IsUpTo i config t ((newer ++ (d ∷ [])) ++ older) = rw (append_assoc newer (d ∷ []) older) up in
      rw held (begins_at t u x (newer ++ (d ∷ [])) older m all e (rw (append_assoc newer (d ∷ []) older) shown))
  | inl held ↦ elim (cases_Bool (starts_in u d)) [
    | inl starts ↦ rw (held, starts) (ap (λ (s : Station). Some s) (begun_is t u d newer older m up e starts shown))
    | inr starts ↦ rw (held, starts) (ap (λ (s : Station). Some s) (kept_is t u d older (part_up_to newer up) e starts))
  ]
]
