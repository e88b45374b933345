-- A cycle in which nothing happens, and those after it up to the next finish, keep what holds of the machine.
use Rattle.tomex_cycle.proofs.Words.{◌≢◌, nat_lt, ◌==◌, if◌then◌else◌, cases_Bool, cases_order, ltb-true, ltb-false}
use Rattle.tomex_cycle.proofs.Words.{lt-ltb, eqb-true, eqb-false, Loaded, Configuration, EndsWithin, Done, greatest_end}
use Rattle.tomex_cycle.proofs.Words.{AreTimed, Inner, Progress, Running, Ended, CycleOutcome, AreResults, IsFree}
use Rattle.tomex_cycle.proofs.Words.{IsSkipped, progress_of, IsAt, MakesCycle, RunEndsAfter, first_timed, Seen}
use Rattle.tomex_cycle.proofs.Words.{seen_after, IsSound, AllSettled, events_in, ◌⊎◌, nat_tests, finishes, GoesOn}
use Rattle.tomex_cycle.proofs.Words.{SkipsTo, run_of, clocks, Station, slot, eq-eqb, ℕ, ◌+◌, ◌-◌, ◌<◌, ◌≤◌, ◌≡◌, ◌^◌}
use Rattle.tomex_cycle.proofs.Words.{arith, refl, List, [], ◌∷◌, ◌++◌, ap, sym, inl, inr, subst, ◌∙◌, true, Option}
use Rattle.tomex_cycle.proofs.Words.{zero, suc, ◌*◌, FinishesNext, suc-eq-add-one, IsCounted, eventful_by, events_by}
use Rattle.tomex_cycle.proofs.Quiet.{AllSteady, HasResult, settled_next, settled_quiet, quiet_settles, quiet_steady}
use Rattle.tomex_cycle.proofs.Runs.{rest_to, run_timed, issued_up_to, run_whole}
use Rattle.tomex_cycle.proofs.Shows.{AllSteadyAfter, AllQuietAfter, shifted}
use Rattle.tomex_cycle.proofs.SettledStations.{issued_free, issued_results, later_settled, later_due}
use Rattle.tomex_cycle.proofs.Outer.{running_low, seen_is, sound_next, sound_run, seen_at}
use Rattle.tomex_cycle.proofs.Cycles.{finish_happens, over_happens, run_happens, quiet_none}
use Rattle.tomex_cycle.specs.declared.progress.CycleOutcome.TheVariants as made_as

-- no run is over in a cycle in which nothing happens but finishes of results
over_elsewhere : (u : ℕ) (h : List Done) → 0 < u → AllSteady u h → greatest_end h ≢ u
over_elsewhere u [] l steady e = omega arith
over_elsewhere u (d ∷ h) l steady e = elim (cases_Bool (d.at.end == u)) [
  | inl k ↦ steady.0.end (eqb-true _ _ k)
  | inr k ↦ let apart : d.at.end ≢ u = eqb-false _ _ k in over_elsewhere u h l steady.1 (omega arith)
]

-- nothing happens in the cycles after a settled one, up to the next finish
pub settled_past : {A : Type 0} {i : Loaded} {config : Configuration} {n : ℕ} (u w : ℕ) (at : Inner A)
    → RunEndsAfter i config n → 0 < u → u ≤ w → IsAt i config n u at → AllSettled u (first_timed config i at.issued)
    → IsFree at.pools.slots u w → AllQuietAfter u w (first_timed config i (n + 1))
settled_past {i} {config} {n} u w at run low l now settled free k a b =
    let h : List Done = first_timed config i at.issued in
    let rest = rest_to at.issued (n + 1) u run now.issue.next now.issue.few (omega arith) in
    let whole : AreTimed config (rest.0 ++ h) = rw rest.1.same at (run_timed i (n + 1) run.lawful) in
    let all : AllSettled u (rest.0 ++ h) = later_settled u rest.0 h run.lawful whole rest.1.later low settled in
    rw rest.1.same (settled_quiet u (w - u) (rest.0 ++ h) run.lawful whole low all (λ v from to. later_due (λ d. ⊥)
    config u v rest.0 h whole rest.1.later (issued_free (issued_up_to run now.issue) from now.issue.shown.slots
    (λ x small. free x v small (omega arith) (omega arith)))) k a (omega arith))

-- so the last of them is settled too
settled_last : {A : Type 0} {i : Loaded} {config : Configuration} {n : ℕ} (u w : ℕ) (at : Inner A)
    → RunEndsAfter i config n → 0 < u → u ≤ w → IsAt i config n u at → AllSettled u (first_timed config i at.issued)
    → IsFree at.pools.slots u w → AllSettled w (first_timed config i (n + 1))
settled_last {i} {config} {n} u w at run low l now settled free = elim (cases_order u w) [
  | inl e ↦
      let h : List Done = first_timed config i at.issued in
      let rest = rest_to at.issued (n + 1) u run now.issue.next now.issue.few (omega arith) in
      rw (← e, rest.1.same) (later_settled u rest.0 h run.lawful
      (rw rest.1.same at (run_timed i (n + 1) run.lawful)) rest.1.later low settled)
  | inr (inl less) ↦ quiet_settles w (first_timed config i (n + 1)) run.lawful (run_timed i (n + 1) run.lawful)
      (omega arith) (settled_past u w at run low l now settled free w less (omega arith))
  | inr (inr beyond) ↦ absurd (omega arith)
]

-- after a settled cycle only finishes of results happen in the next one, if the stations show no others
next_steady : {A : Type 0} {i : Loaded} {config : Configuration} {n : ℕ} (u : ℕ) (at : Inner A)
    → RunEndsAfter i config n → 0 < u → IsAt i config n u at → AllSettled u (first_timed config i (n + 1))
    → AreResults at.pools.slots (u + 1) → AllSteady (u + 1) (first_timed config i (n + 1))
next_steady {i} {config} {n} u at run low now settled results =
    let h : List Done = first_timed config i at.issued in
    let rest = rest_to at.issued (n + 1) u run now.issue.next now.issue.few (omega arith) in
    let timed : AreTimed config (first_timed config i (n + 1)) = run_timed i (n + 1) run.lawful in
    let due = later_due HasResult config u (u + 1) rest.0 h (rw rest.1.same at timed) rest.1.later
    (issued_results (issued_up_to run now.issue) (omega arith) now.issue.shown.slots results) in
    settled_next HasResult u (first_timed config i (n + 1)) (λ d result. result.0) run.lawful timed low settled
    (rw rest.1.same due)

-- the machine is as it is after cycles in which nothing happens but finishes of results
steady_sound : {A : Type 0} {i : Loaded} {config : Configuration} {u : ℕ} {at : Inner A} (w : ℕ)
    → IsSound i config u Running at → u ≤ w → w ≤ 2 ^ 40
    → ((n : ℕ) → RunEndsAfter i config n → AllSteadyAfter u w (first_timed config i (n + 1)))
    → IsSound i config w Running at
steady_sound {i} {config} {u} {at} w next l high all = record {
  lawful = next.lawful;
  loaded = next.loaded;
  low = high;
  after = λ n run.
      let after = next.after n run in
      let steady : AllSteadyAfter u w (first_timed config i (n + 1)) = all n run in
      let end : ℕ = greatest_end (first_timed config i (n + 1)) in
      let on : u < end = running_low u end Running after.answer refl in
      let below : w < end = elim (cases_Bool (nat_lt w end)) [
        | inl k ↦ ltb-true _ _ k
        | inr k ↦ absurd (over_elsewhere end (first_timed config i (n + 1)) (omega arith)
            (steady end on (ltb-false _ _ k)) refl)
      ] in
      record {
        high = omega arith;
        answer = sym (ap (λ b. if b then Running else Ended) (lt-ltb w end below));
        snapshot = shifted w run l steady after.snapshot;
      };
}

-- a running machine has made a cycle
pub record HasMade {A : Type 0} (i : Loaded) (config : Configuration) (cycle : ℕ) (old : Inner A) (made : CycleOutcome)
    (new : Inner A) : Type 0 where
  pub sound : IsSound i config cycle Running old
  pub makes : MakesCycle i config (cycle + 1) old made new

pub has_made : {A : Type 0} {i : Loaded} {config : Configuration} {cycle : ℕ} {last : Progress} {old : Inner A}
    {made : CycleOutcome} (new : Inner A) → last ≡ Running → IsSound i config cycle last old
    → MakesCycle i config (cycle + 1) old made new → HasMade i config cycle old made new
has_made new runs sound makes = record { sound = rw runs at sound; makes = makes }

-- what the cycle leaves of a run that ends
pub made_in : {A : Type 0} {i : Loaded} {config : Configuration} {cycle : ℕ} {old new : Inner A} {made : CycleOutcome}
    → HasMade i config cycle old made new → (n : ℕ) → RunEndsAfter i config n → IsAt i config n (cycle + 1) new
    × (progress_of made ≡ (if nat_lt (cycle + 1) (greatest_end (first_timed config i (n + 1))) then Running else Ended))
    × (made ≡ made_as.Active → 0 < events_in (cycle + 1) (first_timed config i (n + 1)))
    × (made ≡ made_as.Settled → AllSettled (cycle + 1) (first_timed config i new.issued))
made_in {cycle = cycle} has n run =
    has.makes n cycle (record { run = run; next = refl }) (has.sound.after n run).snapshot

-- a cycle keeps what holds
pub sound_made : {A : Type 0} {i : Loaded} {config : Configuration} {cycle : ℕ} {old new : Inner A}
    {made : CycleOutcome} → HasMade i config cycle old made new → cycle + 1 ≤ 2 ^ 40
    → IsSound i config (cycle + 1) (progress_of made) new
sound_made {new = new} {made} has high = sound_next (progress_of made) new has.sound (omega arith)
    (λ n t at old. let r = has.makes n t at old in (r.0, r.1))

-- so do those that are passed after it
sound_free : {A : Type 0} {i : Loaded} {config : Configuration} {cycle : ℕ} {old new : Inner A} (w : ℕ)
    → HasMade i config cycle old made_as.Settled new → cycle + 1 ≤ w → w ≤ 2 ^ 40 → IsFree new.pools.slots (cycle + 1) w
    → IsSound i config w Running new
sound_free {i} {config} {cycle} {new = new} w has l high free =
    steady_sound w (sound_made has (omega arith)) l high (λ n run v from to.
    let shot = made_in has n run in
    quiet_steady v (first_timed config i (n + 1))
    (settled_past (cycle + 1) w new run (omega arith) l shot.0 (shot.3 refl) free v from to))

-- and so does one more, in which nothing happens but finishes of results
sound_taken : {A : Type 0} {i : Loaded} {config : Configuration} {cycle : ℕ} {old new : Inner A} (w : ℕ)
    → HasMade i config cycle old made_as.Settled new → cycle + 1 ≤ w → w + 1 ≤ 2 ^ 40
    → IsFree new.pools.slots (cycle + 1) w → AreResults new.pools.slots (w + 1) → IsSound i config (w + 1) Running new
sound_taken {cycle = cycle} {new = new} w has l high free results =
    let next = sound_free w has l (omega arith) free in
    steady_sound (w + 1) next (omega arith) high (λ n run v from to.
    let shot = made_in has n run in
    let last = settled_last (cycle + 1) w new run (omega arith) l shot.0 (shot.3 refl) free in
    let at : v ≡ w + 1 = omega arith in
    rw at (next_steady w new run (omega arith) (next.after n run).snapshot last results))

-- so it does as far as no station changes
pub sound_passed : {A : Type 0} {i : Loaded} {config : Configuration} {cycle to w before after : ℕ}
    {old new : Inner A} → HasMade i config cycle old made_as.Settled new → w ≤ 2 ^ 40
    → IsSkipped new.pools.slots (cycle + 1) to w before after → IsSound i config w Running new
sound_passed {w = w} has high passed = elim passed.last [
  | inl here ↦ let e : w ≡ passed.last_free = here.0 in
      rw e (sound_free passed.last_free has passed.least (omega arith) passed.free)
  | inr one ↦ let e : w ≡ passed.last_free + 1 = one.0 in
      rw e (sound_taken passed.last_free has passed.least (omega arith) passed.free one.3)
]

-- the count of cycles made is no part of what holds
pub sound_counted : {A : Type 0} {i : Loaded} {config : Configuration} {cycle : ℕ} {now : Progress} {inner : Inner A}
    (made : ℕ) → IsSound i config cycle now inner → IsSound i config cycle now (record inner { cycles_made = made })
sound_counted made sound = record {
  lawful = sound.lawful;
  loaded = sound.loaded;
  low = sound.low;
  after = λ n run.
      let after = sound.after n run in
      record { high = after.high; answer = after.answer; snapshot = after.snapshot };
}

-- what contracts see of it
pub later_seen : {A : Type 0} {i : Loaded} {config : Configuration} {cycle w : ℕ} {last now : Progress}
    {inner : Inner A} {seen : Seen} → seen_at i config cycle last ≡ seen → IsSound i config w now inner
    → EndsWithin seen.image 262144 → seen_at i config w now ≡ seen_after seen.image seen.config w
later_seen {i} {config} {w = w} {now = now} e sound =
    let P : Seen → Type 0 = λ x. EndsWithin x.image 262144 → seen_at i config w now ≡ seen_after x.image x.config w in
    subst P e (λ ends. seen_is sound ends)

-- What is made and what is passed, as counts of cycles see it.

-- a program that runs on moves, or nothing happens before the next finish
runs_how : (made : CycleOutcome) → progress_of made ≡ Running → (made ≡ made_as.Active) ⊎ (made ≡ made_as.Settled)
runs_how made h1 = grind (arith, nat_tests)

pub active_not_settled : (made : CycleOutcome) → made ≡ made_as.Active → made ≡ made_as.Settled → ⊥
active_not_settled made e f = cc

shown_finish : {A : Type 0} {i : Loaded} {config : Configuration} {n u : ℕ} (v x : ℕ) (at : Inner A)
    → RunEndsAfter i config n → IsAt i config n u at → x < 96 → finishes v (slot at.pools.slots x) ≡ true
    → 0 < events_in v (first_timed config i (n + 1))
shown_finish {i} {config} {n} {u} v x at run shot small e =
    run_happens at.issued v run shot.issue.few (finish_happens i (clocks u u u) v x (first_timed config i at.issued)
    (ap (finishes v) (sym (shot.issue.shown.slots.slots x small)) ∙ e))

-- one cycle is made, and those after it are passed
pub go_passes : {A : Type 0} {i : Loaded} {config : Configuration} {cycle : ℕ} {old new : Inner A}
    {made : CycleOutcome} (w to : ℕ) → HasMade i config cycle old made new → cycle + 1 ≤ w
    → (cycle + 1 < w → (made ≡ made_as.Settled) × IsFree new.pools.slots (cycle + 1) w)
    → (made ≡ made_as.Settled → w < to → FinishesNext new.pools.slots w) → EndsWithin i 262144
    → SkipsTo (run_of config i) to cycle w
go_passes {i} {config} {cycle} {new = new} {made} w to has l skips stops within =
    let n : ℕ = within.0 in
    let run : RunEndsAfter i config n = sound_run has.sound within in
    let h : List Done = first_timed config i (n + 1) in
    let before = has.sound.after n run in
    let shot = made_in has n run in
    let low : cycle < greatest_end h = running_low cycle (greatest_end h) Running before.answer refl in
    rw (run_whole run) (record {
      on = l;
      quiet = λ k a b.
          let skip = skips (omega arith) in
          quiet_none k h (settled_past (cycle + 1) w new run (omega arith) l shot.0 (shot.3 skip.0) skip.1 k a b);
      pays = elim (cases_Bool (nat_lt (cycle + 1) (greatest_end h))) [
        | inr over ↦ let high : greatest_end h ≤ cycle + 1 = ltb-false _ _ over in
            inl (over_happens (cycle + 1) h (omega arith) (omega arith))
        | inl on ↦ elim (runs_how made (shot.1 ∙ ap (λ b. if b then Running else Ended) on)) [
          | inl moving ↦ inl (shot.2 moving)
          | inr quiet ↦ elim (cases_Bool (nat_lt w to)) [
            | inr past ↦ inr (inl (ltb-false _ _ past))
            | inl short ↦ let f = stops quiet (ltb-true _ _ short) in
                inr (inr (shown_finish (w + 1) f.0 new run shot.0 f.1 f.2))
          ]
        ]
      ];
    })

-- in the cycle after those that are passed something finishes
soon_happens : {A : Type 0} {i : Loaded} {config : Configuration} {cycle : ℕ} {old new : Inner A} {made : CycleOutcome}
    (w : ℕ) → HasMade i config cycle old made new → FinishesNext new.pools.slots w → EndsWithin i 262144
    → 0 < events_in (w + 1) (run_of config i)
soon_happens {i} {config} {new = new} w has soon within =
    let run : RunEndsAfter i config within.0 = sound_run has.sound within in
    rw (run_whole run) (shown_finish (w + 1) soon.0 new run (made_in has within.0 run).0 soon.1 soon.2)

-- after a cycle in which nothing happens
pub settled_goes : {A : Type 0} {i : Loaded} {config : Configuration} {cycle to now after : ℕ} {old new : Inner A}
    (before : ℕ) → HasMade i config cycle old made_as.Settled new
    → IsSkipped new.pools.slots (cycle + 1) to now (before + 1) after → EndsWithin i 262144
    → GoesOn (run_of config i) to cycle now before after
settled_goes {i} {config} {cycle} {to} {now} {after} before has passed within =
    let first : SkipsTo (run_of config i) to cycle passed.last_free = go_passes passed.last_free to has passed.least
    (λ less. (refl, passed.free)) (λ s. passed.stops) within in
    elim passed.last [
      | inl here ↦ let e : now ≡ passed.last_free = here.0 in inl (here.1, rw e first)
      | inr one ↦
          let e : now ≡ passed.last_free + 1 = one.0 in
          let some = soon_happens passed.last_free has (passed.stops one.1) within in
          inr (
            passed.last_free,
            one.1,
            omega arith,
            first,
            rw e (record { on = omega arith; quiet = λ v a b. absurd (omega arith); pays = inl some }),
          )
    ]

-- the count stays below the cycle
pub passed_low : {slots : List (Option Station)} {cycle to now before after : ℕ}
    → IsSkipped slots cycle to now before after → before ≤ cycle → after ≤ now
passed_low {cycle} {now} {before} {after} passed low = grind (arith, nat_tests)

-- How many cycles are made: each in which something happens, and after one in which nothing does none up to the next
-- finish.

events_next : (h : List Done) (t : ℕ) → events_by h (t + 1) ≡ events_by h t + events_in (t + 1) h
events_next h t = ap (λ (k : ℕ). events_by h k) (sym (suc-eq-add-one t))
    ∙ ap (λ (k : ℕ). events_by h t + events_in k h) (suc-eq-add-one t)

busy_next : (h : List Done) (t : ℕ)
    → eventful_by h (t + 1) ≡ eventful_by h t + (if events_in (t + 1) h == 0 then 0 else 1)
busy_next h t = ap (λ (k : ℕ). eventful_by h k) (sym (suc-eq-add-one t))
    ∙ ap (λ (k : ℕ). eventful_by h t + (if events_in k h == 0 then 0 else 1)) (suc-eq-add-one t)

busy_low : (h : List Done) (t : ℕ) → eventful_by h (t + 1) ≤ eventful_by h t + 1
busy_low h t = grind (arith, nat_tests)

-- over cycles in which nothing happens both counts stay
pub stays_by : (h : List Done) (u n : ℕ) → ((k : ℕ) → u < k → k ≤ u + n → events_in k h ≡ 0)
    → (eventful_by h (u + n) ≡ eventful_by h u) × (events_by h (u + n) ≡ events_by h u)
stays_by h u zero none = let e : u + 0 ≡ u = omega arith in rw e (refl, refl)
stays_by h u (suc n) none =
    let before = stays_by h u n (λ k a b. none k a (omega arith)) in
    let at : u + suc n ≡ u + n + 1 = omega arith in
    let idle : events_in (u + n + 1) h ≡ 0 = none (u + n + 1) (omega arith) (omega arith) in
    let busy : eventful_by h (u + n + 1) ≡ eventful_by h (u + n) + 0 = busy_next h (u + n) ∙ rw (eq-eqb
    (events_in (u + n + 1) h) 0 idle) refl in
    let events : events_by h (u + n + 1) ≡ events_by h (u + n) + 0 = events_next h (u + n) ∙ ap (λ (k : ℕ). events_by h
    (u + n) + k) idle in
    rw at (omega arith, omega arith)

-- what is counted of a way so far: one cycle more may be owed, which the next one's event pays
pub record IsPaid (h : List Done) (to from now before after : ℕ) : Type 0 where
  pub least : eventful_by h now + before ≤ after + eventful_by h from
  pub most : (after + 2 * events_by h from ≤ before + 2 * events_by h now)
      ⊎ ((after + 2 * events_by h from ≤ before + 2 * events_by h now + 1) × ((to ≤ now) ⊎ (0 < events_in (now + 1) h)))

pub paid_first : {h : List Done} {to from before : ℕ} → IsPaid h to from from before before
paid_first = record { least = omega arith; most = inl (omega arith) }

paid_next : {h : List Done} {to from c w before after : ℕ} → c < to → IsPaid h to from c before after → SkipsTo h to c w
    → IsPaid h to from w before (after + 1)
paid_next {h} {from} {c} {w} {before} {after} ahead paid passes =
    let at : c + 1 + (w - (c + 1)) ≡ w = omega arith in
    let same = subst (λ (x : ℕ). (eventful_by h x ≡ eventful_by h (c + 1)) × (events_by h x ≡ events_by h (c + 1))) at
    (stays_by h (c + 1) (w - (c + 1)) (λ k a b. passes.quiet k a (omega arith))) in
    let one : eventful_by h (c + 1) ≤ eventful_by h c + 1 = busy_low h c in
    let more : events_by h (c + 1) ≡ events_by h c + events_in (c + 1) h = events_next h c in
    let least : eventful_by h c + before ≤ after + eventful_by h from = paid.least in
    record {
      least = omega arith;
      most = elim paid.most [
        | inl even ↦ elim passes.pays [
          | inl some ↦ inl (omega arith)
          | inr next ↦ inr (omega arith, next)
        ]
        | inr owed ↦ elim owed.1 [
          | inl past ↦ absurd (omega arith)
          | inr some ↦ let l : after + 2 * events_by h from ≤ before + 2 * events_by h c + 1 = owed.0 in
              inl (omega arith)
        ]
      ];
    }

pub paid_on : {h : List Done} {to from c w before after more : ℕ} → c < to → IsPaid h to from c before after
    → GoesOn h to c w after more → IsPaid h to from w before more
paid_on {after} {more} ahead paid goes = elim goes [
  | inl one ↦ let e : more ≡ after + 1 = one.0 in rw e (paid_next ahead paid one.1)
  | inr two ↦
      let e : more ≡ after + 1 + 1 = omega arith in
      rw e (paid_next two.1 (paid_next ahead paid two.3) two.4)
]

pub paid_counts : {h : List Done} {to from now before after : ℕ} → IsPaid h to from now before after
    → IsCounted h from now before after
paid_counts paid = record {
  least = paid.least;
  most = elim paid.most [
    | inl even ↦ omega arith
    | inr owed ↦ owed.0
  ];
}
