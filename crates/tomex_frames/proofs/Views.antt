-- What a run's views list, and how often a word is in them.
use Rattle.std.proofs.Common.{ℕ, ◌+◌, ◌-◌, ◌<◌, ◌≤◌, ◌≡◌, ◌∙◌, ap, subst, sym, true, false, arith, refl}
use Rattle.std.proofs.Common.{inl, inr, None, List, [], ◌∷◌, ◌++◌, length, max, reverse}
use Rattle.std.specs.Prelude.{All, codes, count_by, if◌then◌else◌, nat_le, sum_by}
use Rattle.std.specs.List.{Contains, filter, flat_map, range_with_len}
use Rattle.std.specs.Str.{bytes_eq}
use Rattle.std.proofs.lemmas.Bool.{and_from, cases_Bool, cases_lt, le-leb}
use Rattle.std.proofs.lemmas.List.{reverse-append, reverse-reverse}
use Rattle.std.proofs.lemmas.List.Elements.{All-contains, All-weaker, Contains-append_left, Contains-push}
use Rattle.std.proofs.lemmas.List.Sums.{sum_by-cons}
use Rattle.tomex_rvexec.specs.declared.step.Step.{Step}
use Rattle.tomex_config.specs.Configuration.{Configuration, IsWithinLimits}
use Rattle.tomex_timing.specs.History.{last_issue}
use Rattle.tomex_timing.specs.Needs.{stalls_by, waits_in}
use Rattle.tomex_timing.specs.Search.{history, times_in, times_of, total_of}
use Rattle.tomex_timing.specs.declared.need.Waits.{Waits}
use Rattle.tomex_timing.specs.declared.times.Done.{Done}
use Rattle.tomex_timing.specs.declared.times.Times.{Times}
use Rattle.tomex_timing.proofs.Accounts.{kind_stalls, station_stalls}
use Rattle.tomex_timing.proofs.Histories.{are_timed, history_more, length-times_in}
use Rattle.tomex_timing.proofs.WaitLists.{length-waits_in, waits_add_up}
use Rattle.tomex_html.specs.Html.{table_end}
use Rattle.tomex_snapshots.specs.Entries.{entries_from, entries_of, is_listed_in}
use Rattle.tomex_snapshots.specs.declared.entries.Entry.{Entry}
use Rattle.tomex_snapshots.specs.declared.entries.Span.{Span}
use Rattle.tomex_frames.specs.Cells.{doing_in, doing_text}
use Rattle.tomex_frames.specs.Blank.{blank_status, blank_step}
use Rattle.tomex_frames.specs.Laws.{BlankRowsAreOfSteps, IsOn, NextIsListed, NothingIsLost, RowsAreOfSteps, ShowsWaits}
use Rattle.tomex_frames.specs.Laws.{StepsShowTheirWaits, ViewsShowStalls, WaitsComeBeforeIssues, cycles_with}
use Rattle.tomex_frames.specs.Laws.{rows_of, rows_with, says}
use Rattle.tomex_frames.specs.Constants.{status_head}
use Rattle.tomex_frames.specs.Status.{listed_cycles, status_table, step_row}
use Rattle.tomex_frames.proofs.Sums.{by_steps, contains_kept, count_kept, sum_both, sum_same}
use Rattle.tomex_frames.proofs.Placed.{entries_more, entry_at, placed_run}
use Rattle.tomex_frames.proofs.Waits.{IsPlaced, after, before, shown_waits}

-- which steps are listed

-- a step that is there in a cycle of the page
pub is_listed : (page : Span) (es : List Entry) (e : Entry) (t : ℕ) → IsOn page t → e.from ≤ t → t ≤ e.at.end
    → is_listed_in (listed_cycles page es t) e ≡ true
is_listed page es e t on from to = elim (cases_Bool (nat_le (count_by (is_listed_in page) es) 16)) [
  | inl few ↦ rw few (and_from _ _ (le-leb e.from page.to (omega (arith, on)))
      (le-leb page.from e.at.end (omega (arith, on))))
  | inr many ↦ rw many (and_from _ _ (le-leb e.from t from) (le-leb (t - 2) e.at.end (omega arith)))
]

rows_kept_of : (row : Entry → List ℕ) (span : Span) (es : List Entry)
    → flat_map (λ e. if is_listed_in span e then row e else []) es ≡ flat_map row (filter (is_listed_in span) es)
rows_kept_of row span [] = refl
rows_kept_of row span (e ∷ es) = elim (cases_Bool (is_listed_in span e)) [
  | inl there ↦ rw there (ap (λ (z : List ℕ). row e ++ z) (rows_kept_of row span es))
  | inr absent ↦ rw absent (rows_kept_of row span es)
]

pub rows_are_of_steps : RowsAreOfSteps
unfolding status_table
rows_are_of_steps framed page es t =
    ap (λ (z : List ℕ). status_head ++ (z ++ table_end))
    (rows_kept_of (step_row framed t) (listed_cycles page es t) es)

pub blank_rows_are_of_steps : BlankRowsAreOfSteps
unfolding blank_status
blank_rows_are_of_steps page es t =
    ap (λ (z : List ℕ). status_head ++ (z ++ table_end)) (rows_kept_of blank_step (listed_cycles page es t) es)

pub nothing_is_lost : NothingIsLost
nothing_is_lost page es e t on there from to =
    contains_kept (is_listed_in (listed_cycles page es t)) es e there (is_listed page es e t on from to)

pub waits_come_before_issues : WaitsComeBeforeIssues
waits_come_before_issues config steps good =
    All-weaker (IsPlaced (total_of (times_in config steps))) (λ e. e.from ≤ e.at.issue) (λ e is. is.order)
    (entries_of config steps) (placed_run config steps good)

-- before the last issue some step waits to issue
next_back : (config : Configuration) (ys : List Step) (t : ℕ) → IsWithinLimits config → 0 < t
    → t < last_issue (history config (reverse ys))
    → (e : Entry) × Contains (entries_of config (reverse ys)) e × (e.from ≤ t) × (t < e.at.issue)
next_back config [] t good low soon = absurd (omega (arith, soon))
next_back config (y ∷ ys) t good low soon =
    let xs : List Step = reverse ys in
    let h : List Done = history config xs in
    let d : Done = record { step = y; at = times_of config h y } in
    let e : Entry = entry_at (1 + length xs) config h d in
    let more : reverse (y ∷ ys) ≡ xs ++ (y ∷ []) = reverse-append (y ∷ []) ys in
    let whole : history config (reverse (y ∷ ys)) ≡ d ∷ h = ap (history config) more ∙ history_more config xs y in
    let own : t < d.at.issue = subst (λ (z : List Done). t < last_issue z) whole soon in
    let all : entries_of config (reverse (y ∷ ys)) ≡ entries_of config xs ++ (e ∷ []) =
    ap (entries_of config) more ∙ entries_more config xs y good in
    elim (cases_lt t (max 1 (last_issue h))) [
      | inl sooner ↦
          let other = next_back config ys t good low (omega arith) in
          (other.0, rw all (Contains-append_left (entries_of config xs) (e ∷ []) other.0 other.1), other.2, other.3)
      | inr later ↦ (e, rw all (Contains-push (entries_of config xs) e), later, own)
    ]

pub next_is_listed : NextIsListed
next_is_listed config steps page t good on low soon =
    let back : reverse (reverse steps) ≡ steps = reverse-reverse steps in
    let next = rw back at (next_back config (reverse steps) t good low (rw back soon)) in
    let es : List Entry = entries_of config steps in
    let is : IsPlaced (total_of (times_in config steps)) next.0 =
    All-contains (IsPlaced (total_of (times_in config steps))) es next.0 (placed_run config steps good) next.1 in (
      next.0,
      nothing_is_lost page es next.0 t on next.1 next.2 (omega (arith, next.3, is.begun, is.finish, is.end)),
      next.3,
    )

-- what their rows say

pub steps_show_their_waits : StepsShowTheirWaits
steps_show_their_waits config steps good =
    let last : ℕ = total_of (times_in config steps) in
    All-weaker (IsPlaced last) (ShowsWaits last) (λ e is. shown_waits last e is) (entries_of config steps)
    (placed_run config steps good)

-- a step whose row says something is there
there_if_said : (words : List ℕ) (last t : ℕ) (e : Entry) → bytes_eq words [] ≡ false → IsPlaced last e
    → says words t e ≡ true → (e.from ≤ t) × (t ≤ e.at.end)
there_if_said words last t e some is said = (from, to)
  where
    silent : doing_in t e ≡ None → ⊥
    silent none =
        let no : says words t e ≡ false = ap (λ d. bytes_eq words (doing_text d)) none ∙ some in
        absurd (cc)

    from : e.from ≤ t
    from = elim (cases_lt t e.from) [
      | inl early ↦ absurd (silent (before last e is t early))
      | inr l ↦ l
    ]

    to : t ≤ e.at.end
    to = elim (cases_lt e.at.end t) [
      | inl late ↦ absurd (silent (after last e is t (omega arith)))
      | inr l ↦ l
    ]

rows_kept : (words : List ℕ) (page : ℕ → Span) (last : ℕ) (es : List Entry) → bytes_eq words [] ≡ false
    → ((t : ℕ) → IsOn (page t) t) → All (IsPlaced last) es → (ts : List ℕ)
    → sum_by (λ t. count_by (says words t) (rows_of (page t) es t)) ts ≡ sum_by (λ t. count_by (says words t) es) ts
rows_kept words page last es some on placed [] = refl
rows_kept words page last es some on placed (t ∷ ts) =
    let kept : count_by (says words t) (rows_of (page t) es t) ≡ count_by (says words t) es =
    count_kept (says words t) (is_listed_in (listed_cycles (page t) es t)) es
    (All-weaker (IsPlaced last) (λ e. says words t e ≡ true → is_listed_in (listed_cycles (page t) es t) e ≡ true)
    (λ e is said. let there = there_if_said words last t e some is said in
    is_listed (page t) es e t (on t) there.0 there.1) es placed) in
    sum_by-cons (λ t. count_by (says words t) (rows_of (page t) es t)) t ts
    ∙ (rw (kept, rows_kept words page last es some on placed ts) refl
    ∙ sym (sum_by-cons (λ t. count_by (says words t) es) t ts))

rows_by_steps : (words : List ℕ) (page : ℕ → Span) (last : ℕ) (es : List Entry) → bytes_eq words [] ≡ false
    → ((t : ℕ) → IsOn (page t) t) → All (IsPlaced last) es
    → rows_with words page last es ≡ sum_by (cycles_with words last) es
rows_by_steps words page last es some on placed =
    rows_kept words page last es some on placed (range_with_len 1 last)
    ∙ by_steps (says words) (range_with_len 1 last) es

-- the waits of entries are those of the run
waits_of_entries : (cause : Waits → ℕ) (xs : List Step) (times : List Times) (waits : List Waits) (number from : ℕ)
    → length times ≡ length xs → length waits ≡ length xs
    → sum_by (λ (e : Entry). cause e.waits) (entries_from number from xs times waits) ≡ sum_by cause waits
waits_of_entries cause [] [] [] number from a b = refl
waits_of_entries cause [] (t ∷ times) waits number from a b = absurd (omega (arith, a))
waits_of_entries cause [] [] (v ∷ waits) number from a b = absurd (omega (arith, b))
waits_of_entries cause (y ∷ xs) [] waits number from a b = absurd (omega (arith, a))
waits_of_entries cause (y ∷ xs) (t ∷ times) [] number from a b = absurd (omega (arith, b))
waits_of_entries cause (y ∷ xs) (t ∷ times) (v ∷ waits) number from a b =
    let e : Entry = record { number = number; from = from; step = y; at = t; waits = v } in
    let rest = waits_of_entries cause xs times waits (number + 1) t.issue (omega (arith, a)) (omega (arith, b)) in
    let own = sum_by-cons (λ (e : Entry). cause e.waits) e (entries_from (number + 1) t.issue xs times waits) in
    let all = sum_by-cons cause v waits in
    omega arith

pub views_show_stalls : ViewsShowStalls
views_show_stalls config steps page good on = record {
  branch = of_cause (codes "waits: branch") (λ w. w.branch) refl (λ e is. is.branch);
  width = of_cause (codes "waits: width") (λ w. w.width) refl (λ e is. is.width);
  station = of_cause (codes "waits: station") (λ w. w.station) refl (λ e is. is.station)
      ∙ station_stalls config h (are_timed config steps good);
  operands = operands;
  memory = of_cause (codes "waits: memory") (λ w. w.memory) refl (λ e is. is.memory);
  unit = of_cause (codes "waits: unit") (λ w. w.unit) refl (λ e is. is.unit)
      ∙ kind_stalls config h (are_timed config steps good);
  bus = of_cause (codes "waits: bus") (λ w. w.bus) refl (λ e is. is.bus);
}
  where
    last : ℕ
    last = total_of (times_in config steps)

    h : List Done
    h = history config steps

    es : List Entry
    es = entries_of config steps

    shown : All (ShowsWaits last) es
    shown = steps_show_their_waits config steps good

    rows : (words : List ℕ) → bytes_eq words [] ≡ false
        → rows_with words page last es ≡ sum_by (cycles_with words last) es
    rows words some = rows_by_steps words page last es some on (placed_run config steps good)

    waits_by : (cause : Waits → ℕ) → sum_by (λ (e : Entry). cause e.waits) es ≡ stalls_by cause config h
    waits_by cause = waits_of_entries cause steps (times_in config steps) (waits_in config steps) 1 1
        (length-times_in config steps) (length-waits_in config steps) ∙ waits_add_up config steps cause

    of_cause : (words : List ℕ) (cause : Waits → ℕ) → bytes_eq words [] ≡ false
        → ((e : Entry) → ShowsWaits last e → cycles_with words last e ≡ cause e.waits)
        → rows_with words page last es ≡ stalls_by cause config h
    of_cause words cause some each = rows words some
        ∙ (sum_same (cycles_with words last) (λ e. cause e.waits) es
        (All-weaker (ShowsWaits last) (λ e. cycles_with words last e ≡ cause e.waits) each es shown) ∙ waits_by cause)

    operands : rows_with (codes "waits: operand") page last es + rows_with (codes "waits: address") page last es
        + rows_with (codes "address") page last es
        ≡ stalls_by (λ w. w.operand) config h + stalls_by (λ w. w.address) config h
    operands =
        let f : Entry → ℕ = cycles_with (codes "waits: operand") last in
        let g : Entry → ℕ = cycles_with (codes "waits: address") last in
        let k : Entry → ℕ = cycles_with (codes "address") last in
        let each = sum_same (λ e. f e + g e + k e) (λ e. e.waits.operand + e.waits.address) es
        (All-weaker (ShowsWaits last) (λ e. f e + g e + k e ≡ e.waits.operand + e.waits.address)
        (λ e is. is.operands) es shown) in
        let three = sum_both (λ e. f e + g e) k es in
        let two = sum_both f g es in
        let both = sum_both (λ e. e.waits.operand) (λ e. e.waits.address) es in
        let a = rows (codes "waits: operand") refl in
        let b = rows (codes "waits: address") refl in
        let d = rows (codes "address") refl in
        let x = waits_by (λ w. w.operand) in
        let y = waits_by (λ w. w.address) in
        omega arith
