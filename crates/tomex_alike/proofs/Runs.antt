-- A run that comes back to a state: by induction over the steps ahead.
use Rattle.std.proofs.Common.{ℕ, zero, suc, ◌+◌, ◌-◌, ◌<◌, ◌≤◌, ◌≡◌, ◌∙◌, arith, refl, sym, ap, Option, Some, None}
use Rattle.std.proofs.Common.{List, [], ◌∷◌, ◌++◌, drop, get_or, length, take}
use Rattle.std.specs.Prelude.{slice_index_or}
use Rattle.std.proofs.Math.Seq.{get_or-append_seam}
use Rattle.std.proofs.lemmas.List.{get_or_append_left, get_or-drop, length-append, length-drop, length-take-le}
use Rattle.std.proofs.lemmas.List.{take-append-drop, take_more}
use Rattle.tomex_rvexec.specs.declared.step.Step.{Step}
use Rattle.tomex_config.specs.Configuration.{Configuration, IsWithinLimits}
use Rattle.tomex_timing.specs.Ahead.{one}
use Rattle.tomex_config.specs.declared.part.Part.{Part}
use Rattle.tomex_timing.specs.declared.times.Done.{Done}
use Rattle.tomex_timing.specs.declared.times.Times.{Times}
use Rattle.tomex_timing.specs.History.{is_memory}
use Rattle.tomex_timing.specs.Issue.{first_issue}
use Rattle.tomex_timing.specs.Needs.{peak, stalls}
use Rattle.tomex_timing.specs.Recurrence.{AreTimed}
use Rattle.tomex_timing.specs.Search.{history, times_in, times_of}
use Rattle.tomex_timing.proofs.Histories.{are_timed, history_more, length-times_in, times_more, younger_change_nothing}
use Rattle.tomex_timing.proofs.Programs.{addi}
use Rattle.tomex_timing.proofs.Search.{times_are}
use Rattle.tomex_alike.specs.Alike.{AreAsFar, IsAddressAsFar, IsAsFar}
use Rattle.tomex_alike.specs.Laws.{AreRepeated, AsksForNothingNew, ComesBack, IsRepeated, RepeatsItself}
use Rattle.tomex_alike.specs.Laws.{RunsAskForNothingNew, RunsRepeat}
use Rattle.tomex_alike.specs.Laws.{address_later, first_issue_at, history_to, later, next, window, window_to}
use Rattle.tomex_alike.proofs.Blocks.{steps_repeat}
use Rattle.tomex_alike.proofs.Issue.{issue_first}
use Rattle.tomex_alike.proofs.Shift.{far_far}
use Rattle.tomex_alike.proofs.Totals.{total_far}

-- A run without steps has none to take: any step stands for those at its places.
any : Step
any = addi 0 0 0 0 0

-- what is as far is the same, as much later as the cycles from which it is seen
cycle_later : (n m a b : ℕ) → n ≤ m → IsAsFar n m a b → b ≡ a + (m - n)
cycle_later n m a b l f = omega (arith, f.first, f.second, f.far)

end_later : (n m a b : ℕ) → n ≤ m → IsAsFar n m (a + 1) (b + 1) → b ≡ a + (m - n)
end_later n m a b l f = omega (arith, f.first, f.second, f.far)

address_is_later : (n m : ℕ) (a b : Option ℕ) → n ≤ m → IsAddressAsFar n m a b → b ≡ address_later (m - n) a
address_is_later n m None None l f = refl
address_is_later n m None (Some b) l f = absurd f
address_is_later n m (Some a) None l f = absurd f
address_is_later n m (Some a) (Some b) l f = ap Some (cycle_later n m a b l f)

abbrev times_made : (issue : ℕ) → Option ℕ → (start finish end : ℕ) → Option ℕ → Times
times_made i a s f e n = record { issue = i; address = a; start = s; finish = f; end = e; station = n }

times_later : (n m : ℕ) (a b : Times) → n ≤ m → AreAsFar n m a b → b ≡ later (m - n) a
times_later n m a b l f =
    let i = cycle_later n m a.issue b.issue l f.issue in
    let k = address_is_later n m a.address b.address l f.address in
    let s = cycle_later n m a.start b.start l f.start in
    let t = cycle_later n m a.finish b.finish l f.finish in
    let e = cycle_later n m a.end b.end l f.end in
    let all : times_made b.issue b.address b.start b.finish b.end b.station
    ≡ times_made (a.issue + (m - n)) (address_later (m - n) a.address) (a.start + (m - n)) (a.finish + (m - n))
    (a.end + (m - n)) a.station = rw (i, k, s, t, e, sym f.station) refl in
    all

window_more : (w : ℕ) (xs : List Step) (x : Step) → window w (xs ++ (x ∷ [])) ≡ window w xs + one (is_memory x)
window_more w [] x = refl
window_more w (y ∷ xs) x = window_more (w + one (is_memory y)) xs x

-- the next step may issue no earlier than the one before it might
first_no_earlier : (config : Configuration) (h : List Done) (s : Step) → IsWithinLimits config → AreTimed config h
    → first_issue config h ≤ first_issue config (next config h s)
first_no_earlier config h s good timed =
    issue_first config h s (times_of config h s) good timed (times_are config h s good timed)

module _ (config : Configuration) (steps : List Step) (good : IsWithinLimits config) where
  timed_to : (i : ℕ) → AreTimed config (history_to config steps i)
  timed_to i = are_timed config (take i steps) good

  -- the step at a place comes next there
  history_next : (i : ℕ) (z : Step) → i < length steps
      → history_to config steps (i + 1) ≡ next config (history_to config steps i) (slice_index_or steps i z)
  history_next i z l =
      ap (history config) (take_more steps i z l) ∙ history_more config (take i steps) (slice_index_or steps i z)

  next_timed : (i : ℕ) (s : Step) → AreTimed config (next config (history_to config steps i) s)
  next_timed i s = (times_are config (history_to config steps i) s good (timed_to i), timed_to i)

  -- and has its times
  times_there : (i : ℕ) (z : Times) → i < length steps → slice_index_or (times_in config steps) i z
      ≡ times_of config (history_to config steps i) (slice_index_or steps i any)
  times_there i z l =
      let v = times_of config (history_to config steps i) (slice_index_or steps i any) in
      let rest = younger_change_nothing config (take (i + 1) steps) (drop (i + 1) steps) in
      let whole : times_in config steps ≡ times_in config (take (i + 1) steps) ++ rest.0 =
      ap (times_in config) (sym (take-append-drop (i + 1) steps)) ∙ rest.1 in
      let up_to : times_in config (take (i + 1) steps) ≡ times_in config (take i steps) ++ (v ∷ []) =
      ap (times_in config) (take_more steps i any l) ∙ times_more config (take i steps) (slice_index_or steps i any) in
      let count : length (times_in config (take i steps)) ≡ i =
      length-times_in config (take i steps) ∙ length-take-le i steps (omega arith) in
      let longer = length-append (times_in config (take i steps)) (v ∷ []) in
      let here : get_or (times_in config (take i steps) ++ (v ∷ [])) (length (times_in config (take i steps))) z ≡ v =
      get_or-append_seam (times_in config (take i steps)) v [] z in
      rw (whole, up_to, get_or_append_left (times_in config (take i steps) ++ (v ∷ [])) rest.0 z i (omega arith))
      (rw count at here)

  -- later steps issue no earlier, take no less and wait no less
  pub record IsNoLess (g h : List Done) : Type 0 where
    pub first : first_issue config g ≤ first_issue config h
    pub taken : (part : Part) → peak part g ≤ peak part h
    pub stalled : (part : Part) → stalls config part g ≤ stalls config part h

  no_less_after : (i n : ℕ) → i + n ≤ length steps
      → IsNoLess (history_to config steps i) (history_to config steps (i + n))
  no_less_after i zero l =
      let e : i + 0 ≡ i = omega arith in
      rw e (record { first = omega arith; taken = λ part. omega arith; stalled = λ part. omega arith })
  no_less_after i (suc n) l =
      let e : i + suc n ≡ (i + n) + 1 = omega arith in
      let before = no_less_after i n (omega arith) in
      let up = first_no_earlier config (history_to config steps (i + n)) (slice_index_or steps (i + n) any) good
      (timed_to (i + n)) in
      rw (e, history_next (i + n) any (omega arith)) (record {
        first = omega (arith, before.first, up);
        taken = λ part. omega (arith, before.taken part);
        stalled = λ part. omega (arith, before.stalled part);
      })

  pub no_less : (a b : ℕ) → a ≤ b → b ≤ length steps → IsNoLess (history_to config steps a) (history_to config steps b)
  no_less a b l k =
      let e : a + (b - a) ≡ b = omega arith in
      rw e at (no_less_after a (b - a) (omega arith))

  module _ (w p i n : ℕ) (back : ComesBack config w steps p i n) where
    -- the first k steps have been repeated
    abbrev AreRepeatedTo : ℕ → Type 0
    AreRepeatedTo k = AreRepeated config (window_to w steps p k) (history_to config steps p) (history_to config steps i)
        (history_to config steps (p + k)) (history_to config steps (i + k))

    step_at : (k : ℕ) → k < n → AreRepeatedTo k → IsRepeated config (window_to w steps p k)
        (history_to config steps (p + k)) (history_to config steps (i + k)) (slice_index_or steps (p + k) any)
        (slice_index_or steps (i + k) any)
        (times_of config (history_to config steps (p + k)) (slice_index_or steps (p + k) any))
        (times_of config (history_to config steps (i + k)) (slice_index_or steps (i + k) any))
    step_at k l so =
        steps_repeat config (window_to w steps p k) (history_to config steps (p + k)) (history_to config steps (i + k))
        _ _ _ _ good (timed_to (p + k)) (timed_to (i + k)) so.alike (back.same k any l)
        (times_are config _ _ good (timed_to (p + k))) (times_are config _ _ good (timed_to (i + k)))

    window_next : (k : ℕ) → k < n
        → window_to w steps p (k + 1) ≡ window_to w steps p k + one (is_memory (slice_index_or steps (p + k) any))
    window_next k l =
        let long : length (drop p steps) ≡ length steps - p = length-drop p steps in
        let a = back.earlier in
        let b = back.there in
        ap (window w) (take_more (drop p steps) k any (omega (arith, long, a, b)))
        ∙ (window_more w (take k (drop p steps)) (get_or (drop p steps) k any)
        ∙ ap (λ s. window_to w steps p k + one (is_memory s)) (get_or-drop p steps k any))

    repeated : (k : ℕ) → k ≤ n → AreRepeatedTo k
    repeated zero l =
        let e : p + 0 ≡ p = omega arith in
        let f : i + 0 ≡ i = omega arith in
        rw (e, f) (record {
          alike = back.state;
          first = record { first = omega arith; second = omega arith; far = omega arith };
          total = total_far config w _ _ good (timed_to p) (timed_to i) back.state;
          stalls = λ part. omega arith;
          peak = λ part m. refl;
        })
    repeated (suc k) l =
        let a = back.earlier in
        let b = back.there in
        let so = repeated k (omega arith) in
        let here = step_at k (omega arith) so in
        let c : suc k ≡ k + 1 = omega arith in
        let e : p + (k + 1) ≡ (p + k) + 1 = omega arith in
        let f : i + (k + 1) ≡ (i + k) + 1 = omega arith in
        rw (
          c,
          e,
          f,
          window_next k (omega arith),
          history_next (p + k) any (omega (arith, a, b)),
          history_next (i + k) any (omega (arith, b)),
        ) (record {
          alike = here.alike;
          first = far_far _ _ _ _ _ _ so.first here.first;
          total = far_far _ _ _ _ _ _ (far_far _ _ _ _ _ _ so.first here.first) (total_far config _ _ _ good
              (next_timed (p + k) _) (next_timed (i + k) _) here.alike);
          stalls = λ part. omega (arith, so.stalls part, here.waits part);
          peak = λ part m.
              let taken = here.taken part in
              let same = so.peak part (omega arith) in
              omega (arith, taken, same, m);
        })

    apart : first_issue_at config steps p ≤ first_issue_at config steps i
    apart =
        let a = back.earlier in
        let b = back.there in
        (no_less p i (omega (arith, a)) (omega (arith, b))).first

    -- each step has the times of its like, as much later
    time_repeated : (k : ℕ) (z : Times) → k < n
        → slice_index_or (times_in config steps) (i + k) z
        ≡ later (first_issue_at config steps i - first_issue_at config steps p)
        (slice_index_or (times_in config steps) (p + k) z)
    time_repeated k z l =
        let a = back.earlier in
        let b = back.there in
        let so = repeated k (omega arith) in
        let here = step_at k l so in
        let f = so.first in
        let low = apart in
        let c : first_issue_at config steps (i + k) - first_issue_at config steps (p + k)
        ≡ first_issue_at config steps i - first_issue_at config steps p =
        omega (arith, f.first, f.second, f.far, low) in
        rw (times_there (i + k) z (omega (arith, a, b)), times_there (p + k) z (omega (arith, a, b)))
        (rw c at (times_later _ _ _ _ (omega (arith, f.first, f.second, f.far, low)) here.times))

    repeats_itself : RepeatsItself config w steps p i n
        (first_issue_at config steps i - first_issue_at config steps p)
    repeats_itself =
        let so = repeated n (omega arith) in
        record {
          since = omega (arith, apart);
          times = time_repeated;
          state = so.alike;
          first = cycle_later _ _ _ _ apart so.first;
          total = end_later _ _ _ _ apart so.total;
        }

    -- what a step takes and waits for, its like has taken and waited for before it
    before_it : (k : ℕ) → k < n → IsNoLess (history_to config steps (p + k + 1)) (history_to config steps (i + k))
    before_it k l =
        let a = back.earlier in
        let b = back.there in
        no_less (p + k + 1) (i + k) (omega (arith, a)) (omega (arith, b))

    taken_to : (part : Part) (k : ℕ) → k ≤ n
        → peak part (history_to config steps (i + k)) ≡ peak part (history_to config steps i)
    taken_to part zero l =
        let e : i + 0 ≡ i = omega arith in
        rw e refl
    taken_to part (suc k) l =
        let a = back.earlier in
        let b = back.there in
        let so = taken_to part k (omega arith) in
        let same = (step_at k (omega arith) (repeated k (omega arith))).taken part in
        let had = rw (history_next (p + k) any (omega (arith, a, b))) at ((before_it k (omega arith)).taken part) in
        let e : i + suc k ≡ (i + k) + 1 = omega arith in
        rw (e, history_next (i + k) any (omega (arith, b))) (omega (arith, so, same, had))

    unstalled_to : (part : Part) (k : ℕ) → k ≤ n → stalls config part (history_to config steps i) ≡ 0
        → stalls config part (history_to config steps (i + k)) ≡ 0
    unstalled_to part zero l none =
        let e : i + 0 ≡ i = omega arith in
        rw e none
    unstalled_to part (suc k) l none =
        let so = unstalled_to part k (omega arith) none in
        let added = (repeated (suc k) l).stalls part in
        let e : p + k + 1 ≡ p + suc k = omega arith in
        let had = rw e at ((before_it k (omega arith)).stalled part) in
        omega (arith, so, added, had, none)

    asks_for_nothing_new : (part : Part) → AsksForNothingNew config part steps p i n
    asks_for_nothing_new part = record {
      taken = taken_to part n (omega arith);
      stalled = (repeated n (omega arith)).stalls part;
      unstalled = unstalled_to part n (omega arith);
    }

pub runs_repeat : RunsRepeat
runs_repeat config w steps p i n good back = repeats_itself config steps good w p i n back

pub runs_ask_for_nothing_new : RunsAskForNothingNew
runs_ask_for_nothing_new config w part steps p i n good back =
    asks_for_nothing_new config steps good w p i n back part
