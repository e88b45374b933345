-- Rows that are left are run one after another, and closed.
use Rattle.std.proofs.Common.{◌≡◌, ◌≢◌, ℕ, zero, suc, ◌+◌, ◌*◌, ◌<◌, ◌≤◌, List, [], ◌∷◌, length, set, take, get_or, All}
use Rattle.std.proofs.Common.{true, false, Some, slice_get, ap, refl, sym, ◌∙◌, subst, arith}
use Rattle.std.specs.Prelude.{sum_by}
use mathlib.Core.Logic.{dite}
use native.Mathlib.Decide.{ℕ_discrete}
use Rattle.std.proofs.lemmas.Bool.{true≢false}
use Rattle.std.proofs.lemmas.List.{length-set, take_all, take_more_set}
use Rattle.std.proofs.lemmas.List.Elements.{All-nil, All-more, All-push, All-head, All-tail}
use Rattle.std.proofs.lemmas.List.Sums.{sum_by_more, sum_by-cons}
use Rattle.std.proofs.lemmas.Option.{slice_get-get_or, slice_get_read, get_or_from_slice_get, slice_get_within}
use Rattle.tomex_board.specs.Marks.{AreLawful}
use Rattle.tomex_board.specs.declared.mark.Mark.{Mark}
use Rattle.tomex_board.specs.declared.mark.Mark.TheVariants.{Open, Taken, Finished, Dropped}
use Rattle.tomex_lanes.specs.Parts.{is_closed}
use Rattle.tomex_config.specs.Configuration.{Configuration}
use Rattle.tomex_study.specs.Program.{Workload}
use Rattle.tomex_study.specs.Study.{DesignSpace, IsStudy}
use Rattle.tomex_study.specs.Cycles.{cycles_of, cycles_on}
use Rattle.tomex_study.proofs.Rows.{as_many_rows, cycles_at}
use Rattle.tomex_sweep.specs.Marks.{AreJudged, StayClosed, left_of_mark, rows_left}

get_set_same : (ms : List Mark) (i : ℕ) (x : Mark) → i < length ms → slice_get (set ms i x) i ≡ Some x
get_set_same [] i x low = absurd (omega arith)
get_set_same (m ∷ ms) zero x low = refl
get_set_same (m ∷ ms) (suc i) x low = get_set_same ms i x (omega arith)

get_set_other : (ms : List Mark) (i k : ℕ) (x : Mark) → k ≢ i → slice_get (set ms i x) k ≡ slice_get ms k
get_set_other [] i k x ne = refl
get_set_other (m ∷ ms) zero zero x ne = absurd (ne refl)
get_set_other (m ∷ ms) zero (suc k) x ne = refl
get_set_other (m ∷ ms) (suc i) zero x ne = refl
get_set_other (m ∷ ms) (suc i) (suc k) x ne = get_set_other ms i k x (λ e. ne (ap suc e))

-- the row's cycles in the place of a mark that isn't closed
lawful_set : (costs cycles : List ℕ) (ms : List Mark) (i y : ℕ) (m : Mark) → AreLawful costs cycles ms
    → slice_get ms i ≡ Some m → is_closed m ≡ false → y ≡ get_or cycles i 0
    → AreLawful costs cycles (set ms i (Finished y))
lawful_set costs cycles ms i y m is at left its =
    let low = slice_get_within ms i m at in
    let here : slice_get (set ms i (Finished y)) i ≡ Some (Finished y) = get_set_same ms i (Finished y) low in
    record {
      finished = λ k z e. dite (ℕ_discrete k i)
          (λ same.
          let f : Some (Finished y) ≡ Some (Finished z) =
          sym here ∙ (ap (slice_get (set ms i (Finished y))) (sym same) ∙ e) in
          let g : z ≡ y = (cc) in
          g ∙ (its ∙ ap (λ (j : ℕ). get_or cycles j 0) (sym same)))
          (λ ne. is.finished k z (sym (get_set_other ms i k (Finished y) ne) ∙ e));
      dropped = λ k j e. dite (ℕ_discrete k i)
          (λ same. absurd (let f : Some (Finished y) ≡ Some (Dropped j) =
          sym here ∙ (ap (slice_get (set ms i (Finished y))) (sym same) ∙ e) in cc))
          (λ ne.
          let d = is.dropped k j (sym (get_set_other ms i k (Finished y) ne) ∙ e) in
          let apart : j ≢ i = λ same. let f : Some m ≡ Some (Finished (get_or cycles j 0)) =
          sym at ∙ (ap (slice_get ms) (sym same) ∙ d.0) in
          let g : m ≡ Finished (get_or cycles j 0) = (cc) in
          true≢false (ap is_closed (sym g) ∙ left) in
          (get_set_other ms i j (Finished y) apart ∙ d.0, d.1, d.2));
    }

-- the rows so far are closed; those that weren't before are counted; the others are unchanged
pub record IsGathering (s : DesignSpace) (old now : List Mark) (row gathered : ℕ) : Type 0 where
  pub count : length now ≡ length old
  pub closed : All (λ m. is_closed m ≡ true) (take row now)
  pub lawful : AreLawful s.costs (cycles_of s) now
  pub rest : (k : ℕ) → row ≤ k → slice_get now k ≡ slice_get old k
  pub counted : gathered ≡ sum_by left_of_mark (take row old)
  pub few : gathered ≤ row
  pub same : StayClosed old now

pub none_gathered : (s : DesignSpace) (ms : List Mark) → AreLawful s.costs (cycles_of s) ms → IsGathering s ms ms 0 0
none_gathered s ms is = record {
  count = refl;
  closed = All-nil (λ (m : Mark). is_closed m ≡ true);
  lawful = is;
  rest = λ k h. refl;
  counted = refl;
  few = omega arith;
  same = λ k m at closed. at;
}

closed_counts_none : (m : Mark) → is_closed m ≡ true → left_of_mark m ≡ 0
closed_counts_none Open e = absurd (true≢false (sym e))
closed_counts_none Taken e = absurd (true≢false (sym e))
closed_counts_none (Finished y) e = refl
closed_counts_none (Dropped j) e = refl

left_counts_one : (m : Mark) → is_closed m ≡ false → left_of_mark m ≡ 1
left_counts_one Open e = refl
left_counts_one Taken e = refl
left_counts_one (Finished y) e = absurd (true≢false e)
left_counts_one (Dropped j) e = absurd (true≢false e)

same_before : (s : DesignSpace) (old now : List Mark) (row gathered : ℕ) → IsGathering s old now row gathered
    → row < length now → get_or old row Open ≡ get_or now row Open
same_before s old now row gathered is low =
    get_or_from_slice_get old row (get_or now row Open) Open (sym (is.rest row (omega arith))
    ∙ slice_get-get_or now row Open low)

-- the row is closed
pub one_closed : {s : DesignSpace} {old now : List Mark} {row gathered : ℕ} → IsGathering s old now row gathered
    → row < length now → is_closed (get_or now row Open) ≡ true → IsGathering s old now (row + 1) gathered
one_closed {s} {old} {now} {row} {gathered} is low closed =
    let long = is.count in
    let few = is.few in
    let was = is.counted in
    let more : sum_by left_of_mark (take (row + 1) old) ≡ sum_by left_of_mark (take row old)
    + left_of_mark (get_or old row Open) = sum_by_more left_of_mark old row Open (omega arith) in
    let none : left_of_mark (get_or old row Open) ≡ 0 = ap left_of_mark (same_before s old now row gathered is low)
    ∙ closed_counts_none (get_or now row Open) closed in
    record {
      count = long;
      closed = All-more (λ (m : Mark). is_closed m ≡ true) now row Open low is.closed closed;
      lawful = is.lawful;
      rest = λ k h. is.rest k (omega arith);
      counted = omega arith;
      few = omega arith;
      same = is.same;
    }

-- the row was left, and is run
pub one_run : {s : DesignSpace} {old now : List Mark} {row gathered y : ℕ} → IsGathering s old now row gathered
    → row < length now → is_closed (get_or now row Open) ≡ false → y ≡ get_or (cycles_of s) row 0
    → IsGathering s old (set now row (Finished y)) (row + 1) (gathered + 1)
one_run {s} {old} {now} {row} {gathered} {y} is low left its =
    let long = is.count in
    let few = is.few in
    let was = is.counted in
    let more : sum_by left_of_mark (take (row + 1) old) ≡ sum_by left_of_mark (take row old)
    + left_of_mark (get_or old row Open) = sum_by_more left_of_mark old row Open (omega arith) in
    let one : left_of_mark (get_or old row Open) ≡ 1 = ap left_of_mark (same_before s old now row gathered is low)
    ∙ left_counts_one (get_or now row Open) left in
    record {
      count = length-set now row (Finished y) ∙ long;
      closed = subst (All (λ (m : Mark). is_closed m ≡ true)) (sym (take_more_set now row (Finished y) low))
          (All-push (λ (m : Mark). is_closed m ≡ true) (take row now) (Finished y) is.closed refl);
      lawful = lawful_set s.costs (cycles_of s) now row y (get_or now row Open) is.lawful
          (slice_get-get_or now row Open low) left its;
      rest = λ k h. get_set_other now row k (Finished y) (λ e. absurd (omega arith)) ∙ is.rest k (omega arith);
      counted = omega arith;
      few = omega arith;
      same = λ k m at closed. dite (ℕ_discrete k row)
          (λ here.
          let there : slice_get old row ≡ Some m = ap (slice_get old) (sym here) ∙ at in
          let now_there : slice_get now row ≡ Some m = is.rest row (omega arith) ∙ there in
          let open_there : get_or now row Open ≡ m = get_or_from_slice_get now row m Open now_there in
          absurd (true≢false (sym closed ∙ (ap is_closed (sym open_there) ∙ left))))
          (λ ne. get_set_other now row k (Finished y) ne ∙ is.same k m at closed);
    }

pub all_gathered : {s : DesignSpace} {old now : List Mark} {row gathered : ℕ} → IsGathering s old now row gathered
    → length old ≡ length s.costs → length now ≤ row
    → AreJudged s.costs (cycles_of s) now × (gathered ≡ rows_left old) × StayClosed old now
all_gathered {old} {now} {row} is long past = (
  record {
    count = is.count ∙ long;
    closed = subst (All (λ (m : Mark). is_closed m ≡ true)) (take_all row now past) is.closed;
    lawful = is.lawful;
  },
  is.counted ∙ ap (sum_by left_of_mark) (take_all row old (let same = is.count in omega arith)),
  is.same,
)

-- if all are closed, none is left
pub none_left : (ms : List Mark) → All (λ m. is_closed m ≡ true) ms → rows_left ms ≡ 0
none_left [] all = refl
none_left (m ∷ ms) all =
    let one : left_of_mark m ≡ 0 = closed_counts_none m (All-head (λ (x : Mark). is_closed x ≡ true) m ms all) in
    let others : rows_left ms ≡ 0 = none_left ms (All-tail (λ (x : Mark). is_closed x ≡ true) m ms all) in
    let both = sum_by-cons left_of_mark m ms in
    omega arith

pub read_mark : (ms : List Mark) (i : ℕ) (m : Mark) → i < length ms → m ≡ get_or ms i m → get_or ms i Open ≡ m
read_mark ms i m low at = get_or_from_slice_get ms i m Open (slice_get_read ms (length ms) i m refl low at)

-- the cycles that a run of a row of the study gives
pub run_cycles : (s : DesignSpace) (programs : List Workload) (rows : List Configuration) (item : Configuration)
    (row y : ℕ) → IsStudy s → programs ≡ s.programs → rows ≡ s.rows → row < length s.costs → item ≡ get_or rows row item
    → y ≡ cycles_on programs item → y ≡ get_or (cycles_of s) row 0
run_cycles s programs rows item row y is same_programs same_rows low at ran =
    let long : length s.costs ≡ length s.rows = as_many_rows s is in
    let rows_long : length rows ≡ length s.rows = ap length same_rows in
    let read : slice_get rows row ≡ Some item = slice_get_read rows (length rows) row item refl (omega arith) at in
    let here : slice_get s.rows row ≡ Some item = ap (λ (rs : List Configuration). slice_get rs row) (sym same_rows)
    ∙ read in
    ran ∙ (ap (λ (ps : List Workload). cycles_on ps item) same_programs ∙ sym (cycles_at s row item here))

-- if all are closed, there is nothing to do
pub nothing_to_gather : (costs cycles : List ℕ) (ms : List Mark) → length ms ≡ length costs → AreLawful costs cycles ms
    → All (λ m. is_closed m ≡ true) ms → AreJudged costs cycles ms
nothing_to_gather costs cycles ms count lawful all = record { count = count; closed = all; lawful = lawful }

-- the place of a row in memory
pub place_fits : (row rows : ℕ) → row < rows → rows * 52 < 9223372036854775808 → row * 52 < 18446744073709551616
place_fits row rows low few = omega (arith, low, few)
