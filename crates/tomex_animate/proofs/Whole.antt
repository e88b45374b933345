-- A page's views are the same texts without the steps that are past before it, and without later ones.
use Rattle.std.proofs.Common.{◌≡◌, ◌∙◌, ◌<◌, ◌≤◌, ◌+◌, ◌-◌, ℕ, zero, suc, arith, refl, ap, sym, List, [], ◌∷◌, ◌++◌}
use Rattle.std.proofs.Common.{ap₂, Bool, Option, Some, None, false, inl, inr, length}
use Rattle.std.specs.Prelude.{◌≢◌, nat_lt, nat_le, if◌then◌else◌, codes, count_by, max, min, unwrap_or}
use Rattle.std.specs.List.{AllByRecursion, filter, flat_map, list_any, range_with_len}
use Rattle.std.proofs.lemmas.Bool.{and_left, and_parts, and_right, cases_Bool, lt-leb, ltb-true, ne_eqb}
use Rattle.std.proofs.lemmas.List.{append-nil}
use Rattle.std.proofs.lemmas.List.Concat.{flat_map-append}
use Rattle.std.proofs.lemmas.List.Elements.{filter-append, recursion_from_All}
use Rattle.std.proofs.lemmas.List.Sums.{length-filter}
use Rattle.tomex_rvexec.specs.Steps.{is_number}
use Rattle.tomex_rvexec.specs.declared.step.Step.{Step}
use Rattle.tomex_config.specs.Configuration.{Configuration}
use Rattle.tomex_path.specs.declared.link.Link.{Link}
use Rattle.tomex_timing.specs.Tables.{all_tags}
use Rattle.tomex_timing.specs.declared.tables.Busy.{Busy}
use Rattle.tomex_timing.specs.declared.tables.Tag.{Tag}
use Rattle.tomex_timing.specs.declared.times.Done.{Done}
use Rattle.tomex_timing.specs.declared.times.Times.{Times}
use Rattle.tomex_timing.specs.History.{cycle_of}
use Rattle.tomex_snapshots.specs.declared.entries.Entry.{Entry}
use Rattle.tomex_snapshots.specs.declared.entries.Span.{Span}
use Rattle.tomex_snapshots.specs.Entries.{history_of, is_listed_in}
use Rattle.tomex_animate.specs.Stretch.{earliest}
use Rattle.tomex_snapshots.specs.Takers.{occupant, operand_takers, register_takers, takers, takers_from, takers_to}
use Rattle.tomex_frames.specs.Events.{all_events, event_text, events, happens, item, item_if, items, sent_text}
use Rattle.tomex_animate.specs.Machine.{cycles_of}
use Rattle.tomex_html.specs.Html.{table_end}
use Rattle.tomex_animate.specs.declared.cells.Cells.{Cells}
use Rattle.tomex_animate.specs.declared.cells.Cells.TheVariants.{Filled, Blank}
use Rattle.tomex_animate.specs.Page.{blank_frame, frame, view_of}
use Rattle.tomex_animate.specs.Stretch.{IsStretch}
use Rattle.tomex_frames.specs.OnPath.{at_cycle, framed_step}
use Rattle.tomex_frames.specs.Stations.{pool_rows, register_at, register_cell, register_status, registers_text, row_in}
use Rattle.tomex_frames.specs.Stations.{station_row, station_table, all_pools}
use Rattle.tomex_frames.specs.Blank.{blank_status, blank_step}
use Rattle.tomex_frames.specs.Constants.{status_head}
use Rattle.tomex_frames.specs.Status.{listed_cycles, status_table, step_row}
use Rattle.tomex_frames.specs.declared.events.Event.{Event}
use Rattle.tomex_frames.specs.declared.events.Event.TheVariants.{Issue, Address, Start, Finish, Write}
use Rattle.tomex_snapshots.specs.declared.takers.Taker.{Taker}
use Rattle.tomex_rvdec.specs.declared.pool.PoolId.{PoolId}
use Rattle.tomex_config.specs.Configuration.{stations_of}
use Rattle.tomex_snapshots.proofs.Noted.{held_is}
use Rattle.tomex_snapshots.proofs.Lists.{flat_map_same}
use Rattle.tomex_animate.proofs.Histories.{Later, Past, ShowSame, show_same}

-- pieces of text that some steps don't have
pub flat_none : (f : Entry → List ℕ) (P : Entry → Type 0) → ((e : Entry) → P e → f e ≡ []) → (es : List Entry)
    → AllByRecursion P es → flat_map f es ≡ []
flat_none f P none [] all = refl
flat_none f P none (e ∷ es) all = rw (none e all.0, flat_none f P none es all.1) refl

flat_mid : (f : Entry → List ℕ) (P Q : Entry → Type 0) → ((e : Entry) → P e → f e ≡ []) → ((e : Entry) → Q e → f e ≡ [])
    → (front some rest : List Entry) → AllByRecursion P front → AllByRecursion Q rest
    → flat_map f (front ++ (some ++ rest)) ≡ flat_map f some
flat_mid f P Q none_p none_q front some rest p q =
    flat_map-append f front (some ++ rest)
    ∙ (ap₂ (λ (a b : List ℕ). a ++ b) (flat_none f P none_p front p) (flat_map-append f some rest)
    ∙ (ap (λ (z : List ℕ). flat_map f some ++ z) (flat_none f Q none_q rest q) ∙ append-nil (flat_map f some)))

any_none : (f : Entry → Bool) (P : Entry → Type 0) → ((e : Entry) → P e → f e ≡ false) → (es : List Entry)
    → AllByRecursion P es → list_any f es ≡ false
any_none f P none [] all = refl
any_none f P none (e ∷ es) all = rw (none e all.0) (any_none f P none es all.1)

any_before : (f : Entry → Bool) (Q : Entry → Type 0) → ((e : Entry) → Q e → f e ≡ false) → (some rest : List Entry)
    → AllByRecursion Q rest → list_any f (some ++ rest) ≡ list_any f some
any_before f Q none [] rest q = any_none f Q none rest q
any_before f Q none (e ∷ some) rest q = elim (cases_Bool (f e)) [
  | inl is ↦ rw is refl
  | inr is ↦ rw is (any_before f Q none some rest q)
]

any_mid : (f : Entry → Bool) (P Q : Entry → Type 0) → ((e : Entry) → P e → f e ≡ false)
    → ((e : Entry) → Q e → f e ≡ false) → (front some rest : List Entry) → AllByRecursion P front
    → AllByRecursion Q rest → list_any f (front ++ (some ++ rest)) ≡ list_any f some
any_mid f P Q none_p none_q [] some rest p q = any_before f Q none_q some rest q
any_mid f P Q none_p none_q (e ∷ front) some rest p q =
    rw (none_p e p.0) (any_mid f P Q none_p none_q front some rest p.1 q)

filter_none : (f : Entry → Bool) (P : Entry → Type 0) → ((e : Entry) → P e → f e ≡ false) → (es : List Entry)
    → AllByRecursion P es → filter f es ≡ []
filter_none f P none [] all = refl
filter_none f P none (e ∷ es) all = rw (none e all.0) (filter_none f P none es all.1)

count_mid : (f : Entry → Bool) (P Q : Entry → Type 0) → ((e : Entry) → P e → f e ≡ false)
    → ((e : Entry) → Q e → f e ≡ false) → (front some rest : List Entry) → AllByRecursion P front
    → AllByRecursion Q rest → count_by f (front ++ (some ++ rest)) ≡ count_by f some
count_mid f P Q none_p none_q front some rest p q =
    let kept : filter f (front ++ (some ++ rest)) ≡ filter f some =
    filter-append f front (some ++ rest)
    ∙ (ap₂ (λ (a b : List Entry). a ++ b) (filter_none f P none_p front p) (filter-append f some rest)
    ∙ (ap (λ (z : List Entry). filter f some ++ z) (filter_none f Q none_q rest q) ∙ append-nil (filter f some))) in
    sym (length-filter f (front ++ (some ++ rest))) ∙ (ap length kept ∙ length-filter f some)

record Bounds (at : Times) (t : ℕ) : Type 0 where
  issue : at.issue ≢ t
  address : is_number at.address t ≡ false
  start : at.start ≢ t
  finish : at.finish ≢ t
  end : at.end ≢ t

not_number_past : (o : Option ℕ) (t : ℕ) → cycle_of o < t → is_number o t ≡ false
not_number_past None t l = refl
not_number_past (Some a) t l = ne_eqb a t (λ e. let f : a ≡ t = e in absurd (omega (arith, l, f)))

not_number_later : (o : Option ℕ) (i t : ℕ) → t < unwrap_or o i → is_number o t ≡ false
not_number_later None i t l = refl
not_number_later (Some a) i t l = ne_eqb a t (λ e. let f : a ≡ t = e in absurd (omega (arith, l, f)))

past_bounds : (first t : ℕ) (e : Entry) → first ≤ t → Past first e → Bounds e.at t
past_bounds first t e low past =
    let l : max e.at.issue (max (cycle_of e.at.address) (max e.at.start (max e.at.finish e.at.end))) + 2 < first =
    ltb-true _ _ past in
    record {
      issue = λ same. let f : e.at.issue ≡ t = same in absurd (omega (arith, l, f, low));
      address = not_number_past e.at.address t (omega (arith, l, low));
      start = λ same. let f : e.at.start ≡ t = same in absurd (omega (arith, l, f, low));
      finish = λ same. let f : e.at.finish ≡ t = same in absurd (omega (arith, l, f, low));
      end = λ same. let f : e.at.end ≡ t = same in absurd (omega (arith, l, f, low));
    }

later_bounds : (last t : ℕ) (e : Entry) → t ≤ last → Later last e → Bounds e.at t
later_bounds last t e high later =
    let l : last < min e.at.issue (min (unwrap_or e.at.address e.at.issue) (min e.at.start (min e.at.finish
    e.at.end))) =
    ltb-true last (earliest e.at) (and_parts (nat_lt last e.from) (nat_lt last (earliest e.at)) later).1 in
    record {
      issue = λ same. let f : e.at.issue ≡ t = same in absurd (omega (arith, l, f, high));
      address = not_number_later e.at.address e.at.issue t (omega (arith, l, high));
      start = λ same. let f : e.at.start ≡ t = same in absurd (omega (arith, l, f, high));
      finish = λ same. let f : e.at.finish ≡ t = same in absurd (omega (arith, l, f, high));
      end = λ same. let f : e.at.end ≡ t = same in absurd (omega (arith, l, f, high));
    }

-- nothing happens to the step
quiet : (event : Event) (t : ℕ) (e : Entry) → Bounds e.at t → happens event t e ≡ false
quiet Issue t e b = ne_eqb e.at.issue t b.issue
quiet Address t e b = b.address
quiet Start t e b = and_right _ _ (ne_eqb e.at.start t b.start)
quiet Finish t e b = and_right _ _ (ne_eqb e.at.finish t b.finish)
quiet Write t e b = and_right _ _ (and_right _ _ (ne_eqb e.at.end t b.end))

-- the step isn't listed
gone : (first : ℕ) (span : Span) (e : Entry) → first ≤ span.from + 2 → Past first e → is_listed_in span e ≡ false
gone first span e low past =
    let l : max e.at.issue (max (cycle_of e.at.address) (max e.at.start (max e.at.finish e.at.end))) + 2 < first =
    ltb-true _ _ past in
    and_right _ _ (lt-leb span.from e.at.end (omega (arith, l, low)))

to_come : (last : ℕ) (span : Span) (e : Entry) → span.to ≤ last → Later last e → is_listed_in span e ≡ false
to_come last span e high later =
    let l : last < e.from = ltb-true _ _ (and_parts _ _ later).0 in
    and_left _ _ (lt-leb e.from span.to (omega (arith, l, high)))

-- their takers are the same
takers_to_same : (t : ℕ) (a b : List Done) (tag : Tag) (r : ℕ) → ShowSame t a b
    → takers_to t a tag r ≡ takers_to t b tag r
unfolding takers_to
takers_to_same t a b tag r same =
    ap₂ (λ (x y : List Taker). x ++ y)
    (flat_map_same (λ station. operand_takers tag (occupant (t - 1) t a station))
    (λ station. operand_takers tag (occupant (t - 1) t b station))
    (λ station. ap (operand_takers tag) (same.taking station)) all_tags)
    (ap₂ (λ (x y : Option Tag). register_takers tag r x y) (same.was r) (same.is r))

takers_from_same : (t : ℕ) (a b : List Done) (tag : Option Tag) (dest : Option ℕ) → ShowSame t a b
    → takers_from t a tag dest ≡ takers_from t b tag dest
takers_from_same t a b None dest same = refl
takers_from_same t a b (Some tag) None same = refl
takers_from_same t a b (Some tag) (Some r) same = takers_to_same t a b tag r same

takers_same : (t : ℕ) (all some : List Entry) (e : Entry) → ShowSame t (history_of all) (history_of some)
    → takers t all e ≡ takers t some e
unfolding takers
takers_same t all some e same = takers_from_same t (history_of all) (history_of some) _ _ same

item_same : (steps : List Step) (last : List ℕ) (t : ℕ) (all some : List Entry) (event : Event) (e : Entry)
    → ShowSame t (history_of all) (history_of some) → item steps last t all event e ≡ item steps last t some event e
unfolding item sent_text
item_same steps last t all some Issue e same = refl
item_same steps last t all some Address e same = refl
item_same steps last t all some Start e same = refl
item_same steps last t all some Finish e same = refl
item_same steps last t all some Write e same = rw (takers_same t all some e same) refl

item_if_same : (steps : List Step) (last : List ℕ) (t : ℕ) (all some : List Entry) (event : Event) (e : Entry)
    → ShowSame t (history_of all) (history_of some)
    → item_if steps last t all event e ≡ item_if steps last t some event e
unfolding item_if
item_if_same steps last t all some event e same = rw (item_same steps last t all some event e same) refl

no_item : (steps : List Step) (last : List ℕ) (t : ℕ) (es : List Entry) (event : Event) (e : Entry)
    → happens event t e ≡ false → item_if steps last t es event e ≡ []
unfolding item_if
no_item steps last t es event e quiet = rw quiet refl

-- a step's row, if it is listed
abbrev listed_row : (Entry → List ℕ) → Span → Entry → List ℕ
listed_row row span e = if is_listed_in span e then row e else []

module _ (first last t : ℕ) (front some rest : List Entry) (low : first ≤ t) (high : t ≤ last)
    (past : AllByRecursion (Past first) front) (later : AllByRecursion (Later last) rest) where
  same_here : ShowSame t (history_of (front ++ (some ++ rest))) (history_of some)
  same_here = show_same first last t front some rest low high past later

  quiet_past : (event : Event) (e : Entry) → Past first e → happens event t e ≡ false
  quiet_past event e p = quiet event t e (past_bounds first t e low p)

  quiet_later : (event : Event) (e : Entry) → Later last e → happens event t e ≡ false
  quiet_later event e q = quiet event t e (later_bounds last t e high q)

  items_same : (steps : List Step) (end : List ℕ) (event : Event)
      → items steps end t (front ++ (some ++ rest)) event ≡ items steps end t some event
  unfolding items
  items_same steps end event =
      let all = front ++ (some ++ rest) in
      ap₂ (λ (b : Bool) (x : List ℕ). if b then x else codes "<dd>-</dd>")
      (any_mid (happens event t) (Past first) (Later last) (quiet_past event) (quiet_later event) front some rest
      past later)
      (flat_map_same (item_if steps end t all event) (item_if steps end t some event)
      (λ e. item_if_same steps end t all some event e same_here) all
      ∙ flat_mid (item_if steps end t some event) (Past first) (Later last)
      (λ e p. no_item steps end t some event e (quiet_past event e p))
      (λ e q. no_item steps end t some event e (quiet_later event e q))
      front some rest past later)

  event_same : (steps : List Step) (end : List ℕ) (event : Event)
      → event_text steps end t (front ++ (some ++ rest)) event ≡ event_text steps end t some event
  unfolding event_text
  event_same steps end event = rw (items_same steps end event) refl

  events_same : (steps : List Step) (end : List ℕ)
      → events steps end t (front ++ (some ++ rest)) ≡ events steps end t some
  unfolding events
  events_same steps end = rw (flat_map_same (event_text steps end t (front ++ (some ++ rest)))
      (event_text steps end t some) (event_same steps end) all_events) refl

  row_past : (row : Entry → List ℕ) (span : Span) (e : Entry) → first ≤ span.from + 2 → Past first e
      → listed_row row span e ≡ []
  row_past row span e l p = rw (gone first span e l p) refl

  row_later : (row : Entry → List ℕ) (span : Span) (e : Entry) → span.to ≤ last → Later last e
      → listed_row row span e ≡ []
  row_later row span e l q = rw (to_come last span e l q) refl

  rows_same : (row : Entry → List ℕ) (span : Span) → first ≤ span.from + 2 → span.to ≤ last
      → flat_map (listed_row row span) (front ++ (some ++ rest)) ≡ flat_map (listed_row row span) some
  rows_same row span l h = flat_mid (listed_row row span) (Past first) (Later last)
      (λ e p. row_past row span e l p) (λ e q. row_later row span e h q) front some rest past later

  -- whatever a step's row is
  listed_same : (row : Entry → List ℕ) (page : Span) → page.from ≡ first → page.to ≡ last
      → flat_map (listed_row row (listed_cycles page (front ++ (some ++ rest)) t)) (front ++ (some ++ rest))
      ≡ flat_map (listed_row row (listed_cycles page some t)) some
  listed_same row page is_first is_last =
      let counted : count_by (is_listed_in page) (front ++ (some ++ rest)) ≡ count_by (is_listed_in page) some =
      count_mid (is_listed_in page) (Past first) (Later last) (λ e p. gone first page e (omega (arith, is_first)) p)
      (λ e q. to_come last page e (omega (arith, is_last)) q) front some rest past later in
      let spans : listed_cycles page (front ++ (some ++ rest)) t ≡ listed_cycles page some t = rw counted refl in
      let within : flat_map (listed_row row (listed_cycles page some t)) (front ++ (some ++ rest))
      ≡ flat_map (listed_row row (listed_cycles page some t)) some =
      elim (cases_Bool (nat_le (count_by (is_listed_in page) some) 16)) [
        | inl e ↦ rw e (rows_same row page (omega (arith, is_first)) (omega (arith, is_last)))
        | inr e ↦ rw e (rows_same row (record { from = t - 2; to = t }) (omega (arith, low)) high)
      ] in
      rw spans within

  status_same : (framed : Option ℕ) (page : Span) → page.from ≡ first → page.to ≡ last
      → status_table framed page (front ++ (some ++ rest)) t ≡ status_table framed page some t
  unfolding status_table
  status_same framed page is_first is_last =
      ap (λ (z : List ℕ). status_head ++ (z ++ table_end)) (listed_same (step_row framed t) page is_first is_last)

  blank_status_same : (page : Span) → page.from ≡ first → page.to ≡ last
      → blank_status page (front ++ (some ++ rest)) t ≡ blank_status page some t
  unfolding blank_status
  blank_status_same page is_first is_last =
      ap (λ (z : List ℕ). status_head ++ (z ++ table_end)) (listed_same blank_step page is_first is_last)

  row_same : (pool : PoolId) (n : ℕ)
      → row_in t (history_of (front ++ (some ++ rest))) pool n ≡ row_in t (history_of some) pool n
  unfolding row_in
  row_same pool n =
      let tag : Tag = record { pool = pool; number = n } in
      let all = history_of (front ++ (some ++ rest)) in
      let here = history_of some in
      ap₂ (λ (a b : Option Busy). station_row tag a b)
      (sym (held_is (t - 1) all tag) ∙ (same_here.before tag ∙ held_is (t - 1) here tag))
      (sym (held_is t all tag) ∙ (same_here.now tag ∙ held_is t here tag))

  pool_same : (config : Configuration) (pool : PoolId)
      → pool_rows config t (history_of (front ++ (some ++ rest))) pool ≡ pool_rows config t (history_of some) pool
  unfolding pool_rows
  pool_same config pool = flat_map_same (row_in t (history_of (front ++ (some ++ rest))) pool)
      (row_in t (history_of some) pool) (row_same pool) (range_with_len 0 (stations_of config pool))

  stations_same : (config : Configuration)
      → station_table config t (history_of (front ++ (some ++ rest))) ≡ station_table config t (history_of some)
  unfolding station_table
  stations_same config = rw (flat_map_same (pool_rows config t (history_of (front ++ (some ++ rest))))
      (pool_rows config t (history_of some)) (pool_same config) all_pools) refl

  register_same : (r : ℕ) → register_at t (history_of (front ++ (some ++ rest))) r ≡ register_at t (history_of some) r
  unfolding register_at
  register_same r = ap₂ (λ (a b : Option Tag). register_cell r a b) (same_here.was r) (same_here.is r)

  registers_same : register_status t (history_of (front ++ (some ++ rest))) ≡ register_status t (history_of some)
  unfolding register_status registers_text
  registers_same = ap (λ (x : List ℕ). codes "<div class=\"q\"><h3>Register status (Qi)</h3>\n<dl class=\"r\">\n"
      ++ (x ++ codes "</dl></div>\n")) (flat_map_same (register_at t (history_of (front ++ (some ++ rest))))
      (register_at t (history_of some)) register_same (range_with_len 1 31))

  -- the view is the same
  frame_same : (config : Configuration) (page : Span) (total : ℕ) (steps : List Step) (end : List ℕ) (path : List Link)
      → page.from ≡ first → page.to ≡ last
      → frame config page total steps end path (front ++ (some ++ rest)) t
      ≡ frame config page total steps end path some t
  unfolding frame
  frame_same config page total steps end path is_first is_last = rw (
    events_same steps end,
    status_same (framed_step (at_cycle t path)) page is_first is_last,
    stations_same config,
    registers_same,
  ) refl

  blank_frame_same : (config : Configuration) (page : Span) (total : ℕ) → page.from ≡ first → page.to ≡ last
      → blank_frame config page total (front ++ (some ++ rest)) t ≡ blank_frame config page total some t
  unfolding blank_frame
  blank_frame_same config page total is_first is_last = rw (blank_status_same page is_first is_last) refl

  view_same : (cells : Cells) (config : Configuration) (page : Span) (total : ℕ) (steps : List Step) (end : List ℕ)
      (path : List Link) → page.from ≡ first → page.to ≡ last
      → view_of cells config page total steps end path (front ++ (some ++ rest)) t
      ≡ view_of cells config page total steps end path some t
  view_same Filled config page total steps end path = frame_same config page total steps end path
  view_same Blank config page total steps end path = blank_frame_same config page total

-- all views of the page are the same
views_from : (cells : Cells) (config : Configuration) (page : Span) (total : ℕ) (steps : List Step)
    (end : List ℕ) (path : List Link) (from n : ℕ)
    (front some rest : List Entry) → page.from ≤ from → from + n ≤ page.to + 1 → AllByRecursion (Past page.from) front
    → AllByRecursion (Later page.to) rest
    → flat_map (view_of cells config page total steps end path (front ++ (some ++ rest))) (range_with_len from n)
    ≡ flat_map (view_of cells config page total steps end path some) (range_with_len from n)
views_from cells config page total steps end path from zero front some rest low high past later = refl
views_from cells config page total steps end path from (suc n) front some rest low high past later =
    ap₂ (λ (a b : List ℕ). a ++ b)
    (view_same page.from page.to from front some rest low (omega (arith, high)) past later cells config page total steps
    end path refl refl)
    (views_from cells config page total steps end path (from + 1) n front some rest (omega (arith, low)) (omega (
      arith,
      high,
    )) past later)

pub views_same : (cells : Cells) (config : Configuration) (page : Span) (total : ℕ) (steps : List Step)
    (end : List ℕ) (path : List Link) (all some : List Entry) → page.from ≤ page.to + 1 → IsStretch page all some
    → flat_map (view_of cells config page total steps end path all) (cycles_of page)
    ≡ flat_map (view_of cells config page total steps end path some) (cycles_of page)
unfolding cycles_of
views_same cells config page total steps end path all some low stretch =
    ap (λ (es : List Entry). flat_map (view_of cells config page total steps end path es)
    (range_with_len page.from (page.to + 1 - page.from))) stretch.is
    ∙ views_from cells config page total steps end path page.from (page.to + 1 - page.from) stretch.front some
    stretch.rest (omega arith) (omega (arith, low)) (recursion_from_All _ stretch.front stretch.past)
    (recursion_from_All _ stretch.rest stretch.later)
