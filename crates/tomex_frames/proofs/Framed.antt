-- Each view has one frame, round a step that works.
use Rattle.std.proofs.Common.{ℕ, zero, suc, ◌+◌, ◌-◌, ◌<◌, ◌≤◌, ◌≡◌, ◌∙◌, ap, subst, sym, Bool, true, false, arith}
use Rattle.std.proofs.Common.{refl, inl, inr, List, [], ◌∷◌, Option, Some, None, length}
use Rattle.std.specs.Prelude.{◌==◌, ◌&&◌, count_by, is_some, nat_le, sum_by}
use Rattle.std.specs.List.{filter, range_with_len}
use Rattle.std.proofs.lemmas.Bool.{and_parts, and_right, cases_lt, eq-eqb, eqb-true, le-leb, leb-true, lt-leb, or_cases}
use Rattle.std.proofs.lemmas.List.Elements.{All-contains, All-from_recursion, All-weaker, recursion_from_All}
use Rattle.std.proofs.lemmas.List.Sums.{sum_by-cons}
use Rattle.tomex_rvexec.specs.Steps.{is_number, step_dest, step_unit}
use Rattle.tomex_rvexec.specs.declared.step.Step.{Step}
use Rattle.tomex_config.specs.Configuration.{Configuration, IsWithinLimits}
use Rattle.tomex_timing.specs.Ahead.{one}
use Rattle.tomex_timing.specs.History.{cycle_of, is_memory}
use Rattle.tomex_timing.specs.Needs.{cycles_that}
use Rattle.tomex_timing.specs.Search.{history, times_in}
use Rattle.tomex_timing.specs.declared.times.Done.{Done}
use Rattle.tomex_timing.proofs.Histories.{are_timed, total_of-history}
use Rattle.tomex_path.specs.declared.link.Link.{Link}
use Rattle.tomex_path.specs.Holds.{cycle_at, event_of}
use Rattle.tomex_path.specs.Laws.{IsChain, cycles_of, works}
use Rattle.tomex_path.specs.Path.{hold_by}
use Rattle.tomex_path.specs.Within.{IsWithin}
use Rattle.tomex_path.proofs.LinkBounds.{links_within}
use Rattle.tomex_path.proofs.Turned.{path_adds_up, path_rises}
use Rattle.tomex_path.proofs.Whole.{later}
use Rattle.tomex_path.proofs.Works.{events_are_held}
use Rattle.tomex_snapshots.specs.Entries.{entries_of, is_listed_in}
use Rattle.tomex_snapshots.specs.declared.entries.Entry.{Entry}
use Rattle.tomex_snapshots.specs.declared.entries.Span.{Span}
use Rattle.tomex_frames.specs.Cells.{doing_in, doing_text}
use Rattle.tomex_frames.specs.Laws.{IsOn, rows_of}
use Rattle.tomex_frames.specs.OnPath.{at_cycle, framed_step}
use Rattle.tomex_frames.specs.PathLaws.{EachViewHasOneFrame, FramesAddUp, FramesAreCycles, LineIsTheWaitBefore}
use Rattle.tomex_frames.specs.PathLaws.{SaysBefore, SaysWait, cycles_in, framed_rows, frames_of, is_work, run_path}
use Rattle.tomex_frames.specs.Status.{listed_cycles}
use Rattle.tomex_frames.specs.declared.on_path.OnPath.{OnPath}
use Rattle.tomex_frames.proofs.Counts.{cut, same}
use Rattle.tomex_frames.proofs.AtCycle.{HasItsCycles, IsHere, all_both, chain_at, has_step, have_cycles, is_own}
use Rattle.tomex_frames.proofs.PathRows.{IsLinkOf, links_of_steps, one_kept, row_of, timed_at}
use Rattle.tomex_frames.proofs.PathWaits.{event_says}
use Rattle.tomex_frames.proofs.Placed.{entry_at, placed}
use Rattle.tomex_frames.proofs.Views.{is_listed}
use Rattle.tomex_frames.proofs.Waits.{IsPlaced, after, at_issue, before, computes, executes, writes}

-- a step that works in a cycle: its row says so

module _ (last : ℕ) (e : Entry) (placed : IsPlaced last e) where
  issues_shown : (t : ℕ) → t ≡ e.at.issue → is_work (doing_in t e) ≡ true
  issues_shown t is = ap is_work (at_issue last e placed t (omega arith) (omega arith))

  address_shown : (t : ℕ) (address : Option ℕ) → 0 < t → e.at.address ≡ address → t ≡ cycle_of address
      → is_work (doing_in t e) ≡ true
  address_shown t None low has is = absurd (omega (arith, is))
  address_shown t (Some a) low has is =
      let between = placed.address a has in
      let here : is_number e.at.address t ≡ true = rw has (eq-eqb a t (omega (arith, is))) in
      ap is_work (computes last e placed t (omega (arith, between.0, is)) (omega (arith, between.1, is)) here)

  unit_shown : (t : ℕ) → e.at.start ≤ t → t ≤ e.at.finish → is_work (doing_in t e) ≡ true
  unit_shown t l m = elim (cases_lt e.at.issue t) [
    | inl past ↦ ap is_work (executes last e placed t (omega (arith, placed.start)) (omega arith))
    | inr early ↦ issues_shown t (omega (arith, placed.begun))
  ]

  end_shown : (t : ℕ) → t ≡ e.at.end → is_work (doing_in t e) ≡ true
  end_shown t is = elim (cases_lt e.at.finish t) [
    | inl past ↦ ap is_work (writes last e placed t (omega (arith, placed.bus)) (omega arith))
    | inr early ↦ unit_shown t (omega (arith, placed.finish, placed.end)) early
  ]

  work_shown : (d : Done) (t : ℕ) → d.at ≡ e.at → 0 < t → works d t ≡ true → is_work (doing_in t e) ≡ true
  work_shown d t same low w = elim (or_cases _ (is_some (step_dest d.step) && t == d.at.end) w) [
    | inr sends ↦
        let f : t ≡ d.at.end = eqb-true t d.at.end (and_parts (is_some (step_dest d.step)) _ sends).1 in
        end_shown t (f ∙ ap (λ at. at.end) same)
    | inl w ↦ elim (or_cases _ (is_some (step_unit d.step) && nat_le d.at.start t && nat_le t d.at.finish) w) [
      | inr unit ↦
          let two = and_parts (is_some (step_unit d.step) && nat_le d.at.start t) (nat_le t d.at.finish) unit in
          let l : d.at.start ≤ t =
          leb-true d.at.start t (and_parts (is_some (step_unit d.step)) (nat_le d.at.start t) two.0).1 in
          let m : t ≤ d.at.finish = leb-true t d.at.finish two.1 in
          unit_shown t (omega (arith, l, ap (λ at. at.start) same)) (omega (arith, m, ap (λ at. at.finish) same))
      | inl w ↦ elim (or_cases (t == d.at.issue) (is_memory d.step && t == cycle_of d.at.address) w) [
        | inl issue ↦ issues_shown t (eqb-true t d.at.issue issue ∙ ap (λ at. at.issue) same)
        | inr address ↦
            let f : t ≡ cycle_of d.at.address =
            eqb-true t (cycle_of d.at.address) (and_parts (is_memory d.step) _ address).1 in
            address_shown t d.at.address low (sym (ap (λ at. at.address) same)) f
      ]
    ]
  ]

  -- and the step is there
  there_if_works : (t : ℕ) → is_work (doing_in t e) ≡ true → (e.from ≤ t) × (t ≤ e.at.end)
  there_if_works t w = (from, to)
    where
      from : e.from ≤ t
      from = elim (cases_lt t e.from) [
        | inl early ↦ let no : is_work (doing_in t e) ≡ false = ap is_work (before last e placed t early) in absurd (cc)
        | inr l ↦ l
      ]

      to : t ≤ e.at.end
      to = elim (cases_lt e.at.end t) [
        | inl late ↦
            let no : is_work (doing_in t e) ≡ false = ap is_work (after last e placed t (omega arith)) in
            absurd (cc)
        | inr l ↦ l
      ]

-- the frame of a view

pub record IsFramed (path : List Link) (page : Span) (es : List Entry) (t : ℕ) : Type 0 where
  pub here : IsHere None path t
  pub row : Entry
  pub rows : framed_rows path page es t ≡ row ∷ []
  pub step : row.number ≡ here.place.link.step
  pub works : is_work (doing_in t row) ≡ true

module _ (config : Configuration) (steps : List Step) (good : IsWithinLimits config) where
  abbrev pub h : List Done
  h = history config steps

  abbrev pub es : List Entry
  es = entries_of config steps

  abbrev pub path : List Link
  path = run_path config steps

  pub chain : IsChain 1 (cycles_in config steps) path
  chain = rw (total_of-history h) (path_adds_up config h good (are_timed config steps good)).0

  row_works : (l : Link) (of : IsLinkOf config h l) (t : ℕ) → 0 < t → l.from ≤ t → t ≤ l.to
      → is_work (doing_in t (entry_at (length of.older + 1) config of.older of.d)) ≡ true
  row_works l of t low from to =
      let timed = timed_at config steps of.newer of.older of.d good of.split in
      let row : Entry = entry_at (length of.older + 1) config of.older of.d in
      let first : l.from ≡ (hold_by config of.by of.older of.d).from = ap (λ (k : Link). k.from) of.is in
      let last : l.to ≡ cycle_at (event_of of.by) of.d.at = ap (λ (k : Link). k.to) of.is in
      let held = events_are_held config (event_of of.by) of.d of.older good timed
      (later config good of.older of.d timed of.by of.passes) in
      work_shown of.d.at.end row
      (placed config of.older of.d (length of.older + 1) of.d.at.end good timed (omega arith)) of.d t refl low
      (held.work t (omega (arith, first)) (omega (arith, last)))

  pub framed : (page : Span) (t : ℕ) → IsOn page t → 0 < t → t ≤ cycles_in config steps → IsFramed path page es t
  framed page t on low high =
      let here : IsHere None path t = chain_at None path 1 (cycles_in config steps) t chain low high in
      let l : Link = here.place.link in
      let of : IsLinkOf config h l =
      All-contains (IsLinkOf config h) path l (links_of_steps config h) here.on_path in
      let row : Entry = entry_at (length of.older + 1) config of.older of.d in
      let timed = timed_at config steps of.newer of.older of.d good of.split in
      let is_placed : IsPlaced of.d.at.end row =
      placed config of.older of.d (length of.older + 1) of.d.at.end good timed (omega arith) in
      let step : l.step ≡ length of.older + 1 = ap (λ (k : Link). k.step) of.is in
      let shown = row_works l of t low here.from here.to in
      let there = there_if_works of.d.at.end row is_placed t shown in
      let only = row_of config steps of.newer of.older of.d good of.split in
      let kept = one_kept (λ e. length of.older + 1 == e.number) (is_listed_in (listed_cycles page es t)) es row only
      (is_listed page es row t on there.0 there.1) in
      record {
        here = here;
        row = row;
        rows = ap (λ (p : Option OnPath). filter (λ e. is_number (framed_step p) e.number) (rows_of page es t)) here.is
            ∙ (ap (λ (n : ℕ). filter (λ e. n == e.number) (rows_of page es t)) step ∙ kept);
        step = sym step;
        works = shown;
      }

pub each_view_has_one_frame : EachViewHasOneFrame
each_view_has_one_frame config steps page t good on low high =
    let is = framed config steps good page t on low high in
    record {
      link = is.here.place.link;
      on_path = is.here.on_path;
      from = is.here.from;
      to = is.here.to;
      row = is.row;
      rows = is.rows;
      step = is.step;
      works = is.works;
    }

-- over a whole run

sum_over : (f g : ℕ → ℕ) (n a : ℕ) → ((t : ℕ) → a ≤ t → t < a + n → f t ≡ g t)
    → sum_by f (range_with_len a n) ≡ sum_by g (range_with_len a n)
sum_over f g zero a each = refl
sum_over f g (suc n) a each =
    let rest = sum_over f g n (a + 1) (λ t l m. each t (omega arith) (omega arith)) in
    let own = each a (omega arith) (omega arith) in
    let x = sum_by-cons f a (range_with_len (a + 1) n) in
    let y = sum_by-cons g a (range_with_len (a + 1) n) in
    omega (arith, rest, own, x, y)

ones : (n a : ℕ) → sum_by (λ t. 1) (range_with_len a n) ≡ n
ones zero a = refl
ones (suc n) a =
    let rest = ones n (a + 1) in
    let x = sum_by-cons (λ (t : ℕ). 1) a (range_with_len (a + 1) n) in
    omega (arith, rest, x)

pub frames_add_up : FramesAddUp
frames_add_up config steps page good on =
    sum_over (λ t. length (framed_rows (run_path config steps) (page t) (entries_of config steps) t)) (λ t. 1)
    (cycles_in config steps) 1
    (λ t l m. ap length (framed config steps good (page t) t (on t) (omega arith) (omega arith)).rows)
    ∙ ones (cycles_in config steps) 1

-- the cycles from the first one of a link to its last
own_cycles : (l : Link) (total : ℕ) → 1 ≤ l.from → l.from ≤ l.to → l.to ≤ total
    → sum_by (λ t. one (is_own l t)) (range_with_len 1 total) ≡ cycles_of l
own_cycles l total low order high =
    let p : ℕ → Bool = is_own l in
    let x = cut p 1 l.from (total + 1) low (omega arith) in
    let y = cut p l.from (l.to + 1) (total + 1) (omega arith) (omega arith) in
    let a = same p false 1 l.from (λ t k m. rw (lt-leb l.from t m) refl) in
    let b = same p true l.from (l.to + 1) (λ t k m. rw (le-leb l.from t k, le-leb t l.to (omega arith)) refl) in
    let c = same p false (l.to + 1) (total + 1)
    (λ t k m. and_right (nat_le l.from t) (nat_le t l.to) (lt-leb t l.to (omega arith))) in
    let whole : total ≡ total + 1 - 1 = omega arith in
    let all : count_by p (range_with_len 1 total) ≡ cycles_that p 1 (total + 1) =
    ap (λ k. count_by p (range_with_len 1 k)) whole in
    omega arith

count_one : (p : Entry → Bool) (e : Entry) → count_by p (e ∷ []) ≡ one (p e)
count_one p e =
    let more = sum_by-cons (λ (x : Entry). one (p x)) e [] in
    omega (arith, more)

frames_of_link : (config : Configuration) (steps : List Step) (page : ℕ → Span) → IsWithinLimits config
    → ((t : ℕ) → IsOn (page t) t) → (l : Link)
    → ((t : ℕ) → 1 ≤ t → t ≤ cycles_in config steps
    → has_step (at_cycle t (run_path config steps)) l.step ≡ is_own l t)
    → 1 ≤ l.from → l.from ≤ l.to → l.to ≤ cycles_in config steps
    → frames_of (run_path config steps) page (entries_of config steps) (cycles_in config steps) l.step ≡ cycles_of l
frames_of_link config steps page good on l has low order high =
    sum_over (λ t. count_by (λ e. e.number == l.step) (framed_rows path (page t) (entries_of config steps) t))
    (λ t. one (is_own l t)) (cycles_in config steps) 1 (λ t k m. each t (omega arith) (omega arith))
    ∙ own_cycles l (cycles_in config steps) low order high
  where
    path : List Link
    path = run_path config steps

    each : (t : ℕ) → 1 ≤ t → t ≤ cycles_in config steps
        → count_by (λ e. e.number == l.step) (framed_rows path (page t) (entries_of config steps) t)
        ≡ one (is_own l t)
    each t k m =
        let is = framed config steps good (page t) t (on t) k m in
        let here : has_step (Some is.here.place) l.step ≡ is_own l t =
        ap (λ (p : Option OnPath). has_step p l.step) (sym is.here.is) ∙ has t k m in
        ap (count_by (λ e. e.number == l.step)) is.rows
        ∙ (count_one (λ e. e.number == l.step) is.row ∙ ap (λ (n : ℕ). one (n == l.step)) is.step ∙ ap one here)

pub frames_are_cycles : FramesAreCycles
frames_are_cycles config steps page good on =
    let path : List Link = run_path config steps in
    let total : ℕ = cycles_in config steps in
    let within = links_within config steps (times_in config steps) path good refl refl in
    let has = have_cycles None path 1 total 0 (chain config steps good) (path_rises config (history config steps)) in
    All-from_recursion
    (λ l. frames_of path page (entries_of config steps) total l.step ≡ cycles_of l) path
    (all_both (IsWithin (length steps) total) (HasItsCycles None path 1 total)
    (λ l. frames_of path page (entries_of config steps) total l.step ≡ cycles_of l)
    (λ l is owns. frames_of_link config steps page good on l owns is.from is.order is.to) path
    (recursion_from_All (IsWithin (length steps) total) path within) has)

-- what a row says before a link

pub line_is_the_wait_before : LineIsTheWaitBefore
line_is_the_wait_before config steps good =
    All-weaker (IsLinkOf config (history config steps)) (SaysBefore (entries_of config steps)) says
    (run_path config steps) (links_of_steps config (history config steps))
  where
    says : (l : Link) → IsLinkOf config (history config steps) l → SaysBefore (entries_of config steps) l
    says l of =
        let timed = timed_at config steps of.newer of.older of.d good of.split in
        let n : ℕ = length of.older + 1 in
        let row : Entry = entry_at n config of.older of.d in
        let is_placed = placed config of.older of.d n of.d.at.end good timed (omega arith) in
        let step : l.step ≡ n = ap (λ (k : Link). k.step) of.is in
        record {
          row = row;
          is = ap (λ (m : ℕ). filter (λ e. m == e.number) (entries_of config steps)) step
              ∙ row_of config steps of.newer of.older of.d good of.split;
          says = subst (λ (k : Link). SaysWait k.reason (doing_text (doing_in (k.from - 1) row))) (sym of.is)
              (event_says config of.older of.d n is_placed (event_of of.by));
        }
