-- One step more of a stretch, and a stretch that is whole.
use Rattle.std.proofs.Common.{◌≡◌, ℕ, ◌+◌, ◌-◌, ◌*◌, ◌/◌, ◌<◌, ◌≤◌, List, [], ◌∷◌, ◌++◌, length, refl, sym, ◌∙◌, ap}
use Rattle.std.proofs.Common.{arith}
use Rattle.std.proofs.Common.{subst, inl, inr, Result, Ok, Err, None, Option, Bool}
use Rattle.std.proofs.lemmas.Bool.{cases_eq, cases_lt, eq-eqb, ne_eqb}
use Rattle.std.proofs.lemmas.List.{get_or-set_other, get_or-set_same, get_or_append_left, get_or_push, get_or-replicate}
use Rattle.std.proofs.lemmas.List.{length-replicate, length-set, length_push, get_or_past}
use Rattle.std.proofs.lemmas.List.FromFn.{fill_by_all}
use Rattle.std.proofs.lemmas.List.Sums.{sum_by_push}
use Rattle.std.specs.Prelude.{◌⊎◌, ◌≢◌, ◌==◌, count_by, if◌then◌else◌, replicate, slice_index, slice_index_or}
use Rattle.std.specs.Prelude.{slice_set}
use Rattle.tomex_cut.specs.declared.error.CutError.{CutError}
use Rattle.tomex_cut.specs.After.{after}
use Rattle.tomex_cut.specs.Part.{GoesOn, part_at, verdict}
use Rattle.tomex_image.specs.Image.{Loaded}
use Rattle.tomex_samples.specs.declared.counts.Entry.{Entry}
use Rattle.tomex_samples.specs.Counts.{AreCovered, IsSparse}
use Rattle.tomex_samples.specs.Numbers.{sum_below}
use Rattle.tomex_samples.specs.Stretches.{counts_of, part_length, steps_on, stretch}
use Rattle.tomex_samples.specs.Tally.{AreFound, AreTallied, IsRow, IsStep}
use Rattle.tomex_samples.proofs.Reach.{and_step, passes}
use Rattle.tomex_samples.proofs.Sums.{sum_set, sum_zero, value_most}
use Rattle.tomex_rvexec.specs.declared.step.Step.{Step}
use Rattle.tomex_rvexec.specs.Machine.{State}
use Rattle.tomex_rvexec.specs.Run.{start_of}

-- the steps of the stretch that is under way, with one more
pub and_step_on : (i : Loaded) (steps n current whole : ℕ) (x : Step) → IsStep i n x → n ≡ whole * steps + current
    → steps_on (current + 1) (after (start_of i) (whole * steps))
    ≡ steps_on current (after (start_of i) (whole * steps)) ++ x ∷ []
and_step_on i steps n current whole x is done =
    let p = passes (start_of i) is.before n (whole * steps) is.reached (omega arith) in
    let left : n - whole * steps ≡ current = omega arith in
    let rest : after p.mid current ≡ Ok is.before = ap (after p.mid) (sym left) ∙ p.rest in
    ap (steps_on (current + 1)) p.first
    ∙ (and_step p.mid is.before current x rest is.comes
    ∙ ap (λ xs. xs ++ x ∷ []) (sym (ap (steps_on current) p.first)))

-- how many of them are at a word
pub count_more : (base w word : ℕ) (xs : List Step) (x : Step) → x.pc ≡ base + 4 * word
    → count_by (λ (y : Step). y.pc == base + 4 * w) (xs ++ x ∷ [])
    ≡ count_by (λ (y : Step). y.pc == base + 4 * w) xs + (if w == word then 1 else 0)
count_more base w word xs x at =
    sum_by_push (λ (y : Step). if y.pc == base + 4 * w then 1 else 0) xs x
    ∙ ap (λ (b : Bool). count_by (λ (y : Step). y.pc == base + 4 * w) xs + (if b then 1 else 0)) (same (cases_eq w
    word))
  where
    same : (w ≡ word) ⊎ (w ≡ word → ⊥) → (x.pc == base + 4 * w) ≡ (w == word)
    same (inl e) = eq-eqb x.pc (base + 4 * w) (omega arith) ∙ sym (eq-eqb w word e)
    same (inr e) = ne_eqb x.pc (base + 4 * w) (omega arith) ∙ sym (ne_eqb w word e)

pub set_more : (xs : List ℕ) (w word : ℕ) → word < length xs
    → slice_index (slice_set xs word (slice_index xs word + 1)) w ≡ slice_index xs w + (if w == word then 1 else 0)
set_more xs w word inside = at (cases_eq w word)
  where
    at : (w ≡ word) ⊎ (w ≡ word → ⊥)
        → slice_index (slice_set xs word (slice_index xs word + 1)) w ≡ slice_index xs w + (if w == word then 1 else 0)
    at (inl e) =
        rw (e, eq-eqb word word refl) (get_or-set_same xs word (slice_index xs word + 1) 0 inside)
    at (inr e) =
        rw (ne_eqb w word e) (get_or-set_other xs word w (slice_index xs word + 1) 0 e ∙ omega arith)

pub tallied_more : (i : Loaded) (steps n current word whole : ℕ) (counts words more_words : List ℕ)
    (rows : List (List Entry)) (x : Step)
    → AreTallied i steps n current counts words rows whole → IsStep i n x → x.pc ≡ i.window.base + 4 * word
    → word < length counts → current < steps
    → AreCovered more_words (slice_set counts word (slice_index counts word + 1))
    → AreTallied i steps (n + 1) (current + 1) (slice_set counts word (slice_index counts word + 1)) more_words rows
    whole
tallied_more i steps n current word whole counts words more_words rows x t is at inside room covered =
    let size : length (slice_set counts word (slice_index counts word + 1)) ≡ length counts =
    length-set counts word (slice_index counts word + 1) in
    record {
      done = omega (arith, t.done);
      fewer = omega arith;
      size = size ∙ t.size;
      now = λ w h.
          let within : w < length counts = omega arith in
          set_more counts w word inside
          ∙ (ap (λ (k : ℕ). k + (if w == word then 1 else 0)) (t.now w within)
          ∙ (sym (count_more i.window.base w word (steps_on current (after (start_of i) (whole * steps))) x at)
          ∙ ap (count_by (λ (y : Step). y.pc == i.window.base + 4 * w))
          (sym (and_step_on i steps n current whole x is t.done))));
      sum =
          let change = sum_set counts word (slice_index counts word + 1) (length counts) inside inside in
          ap (λ k. sum_below (λ w. slice_index (slice_set counts word (slice_index counts word + 1)) w) k) size
          ∙ omega (arith, change, t.sum);
      covered = covered;
      number = t.number;
      rows_are = t.rows_are;
    }

-- no word has more steps than the stretch
pub few_at : (i : Loaded) (steps n current word whole : ℕ) (counts words : List ℕ) (rows : List (List Entry))
    → AreTallied i steps n current counts words rows whole → word < length counts → slice_index counts word ≤ current
few_at i steps n current word whole counts words rows t inside =
    omega (arith, value_most (λ w. slice_index counts w) word (length counts) inside, t.sum)

pub closes : (i : Loaded) (steps n current whole more : ℕ) (counts words zeros none : List ℕ)
    (rows more_rows : List (List Entry)) (row : List Entry)
    → AreTallied i steps n steps counts words rows whole → IsSparse row counts
    → more_rows ≡ rows ++ row ∷ [] → zeros ≡ replicate (length counts) 0 → none ≡ [] → current ≡ 0
    → more ≡ whole + 1 → AreTallied i steps n current zeros none more_rows more
closes i steps n current whole more counts words zeros none rows more_rows row t sparse rows_is zeros_is none_is
    current_is more_is =
    let next : (whole + 1) * steps ≡ whole * steps + steps = omega arith in
    let size : length zeros ≡ length counts = ap length zeros_is ∙ length-replicate (length counts) 0 in
    record {
      done = rw (more_is) (omega (arith, t.done, next));
      fewer = omega arith;
      size = size ∙ t.size;
      now = λ w h.
          let within : w < length counts = omega arith in
          ap (λ xs. slice_index xs w) zeros_is ∙ (get_or-replicate (length counts) w 0 0 within
          ∙ sym (ap (λ k. count_by (λ (y : Step). y.pc == i.window.base + 4 * w)
          (steps_on k (after (start_of i) (more * steps)))) current_is
          ∙ none_on (λ (y : Step). y.pc == i.window.base + 4 * w) (after (start_of i) (more * steps))));
      sum =
          sum_zero (λ w. slice_index zeros w) (length zeros) (λ w h.
          let within : w < length counts = omega arith in
          ap (λ xs. slice_index xs w) zeros_is ∙ get_or-replicate (length counts) w 0 0 within) ∙ sym current_is;
      covered = record {
        inside = λ t h. absurd (omega (arith, ap length none_is));
        each = λ w h.
            let all : slice_index zeros w ≡ 0 = ap (λ xs. slice_index xs w) zeros_is ∙ zero_at w in
            absurd (omega arith);
      };
      number = ap length rows_is ∙ (length_push rows row ∙ omega (arith, t.number));
      rows_are = λ k h. rows_at k (omega arith) (cases_lt k whole);
    }
  where
    none_on : (p : Step → Bool) (r : Result State CutError) → count_by p (steps_on 0 r) ≡ 0
    none_on p (Ok s) = refl
    none_on p (Err e) = refl

    zero_by : (w : ℕ) → (w < length counts) ⊎ (length counts ≤ w) → slice_index (replicate (length counts) 0) w ≡ 0
    zero_by w (inl less) = get_or-replicate (length counts) w 0 0 less
    zero_by w (inr past) =
        get_or_past (replicate (length counts) 0) w 0 (omega (arith, length-replicate {A = ℕ} (length counts) 0))

    zero_at : (w : ℕ) → slice_index (replicate (length counts) 0) w ≡ 0
    zero_at w = zero_by w (cases_lt w (length counts))

    same : counts ≡ counts_of i.window (stretch i steps whole)
    same =
        fill_by_all
        (λ w. count_by (λ (y : Step). y.pc == i.window.base + 4 * w) (steps_on steps (after (start_of i) (whole *
        steps))))
        counts (i.window.size / 4) 0 t.size (λ w h. t.now w (omega (arith, t.size)))

    its_row : IsRow steps (i.window.size / 4) row (counts_of i.window (stretch i steps whole))
    its_row =
        subst (λ (cs : List ℕ). IsRow steps (i.window.size / 4) row cs) same
        (record {
          size = t.size;
          sparse = sparse;
          sum = ap (sum_below (λ w. slice_index counts w)) (sym t.size) ∙ t.sum;
        })

    rows_at : (k : ℕ) → k < whole + 1 → (k < whole) ⊎ (whole ≤ k)
        → IsRow steps (i.window.size / 4) (slice_index_or more_rows k []) (counts_of i.window (stretch i steps k))
    rows_at k h (inl less) =
        let old : slice_index_or more_rows k [] ≡ slice_index_or rows k [] =
        ap (λ rs. slice_index_or rs k []) rows_is
        ∙ get_or_append_left rows (row ∷ []) [] k (omega (arith, t.number)) in
        subst (λ (r : List Entry). IsRow steps (i.window.size / 4) r (counts_of i.window (stretch i steps k)))
        (sym old) (t.rows_are k less)
    rows_at k h (inr past) =
        let is : whole ≡ k = omega arith in
        let new : slice_index_or more_rows whole [] ≡ row =
        ap (λ rs. slice_index_or rs whole []) rows_is ∙ get_or_push rows row [] whole t.number in
        subst (λ (j : ℕ). IsRow steps (i.window.size / 4) (slice_index_or more_rows j [])
        (counts_of i.window (stretch i steps j))) is
        (subst (λ (r : List Entry). IsRow steps (i.window.size / 4) r (counts_of i.window (stretch i steps whole)))
        (sym new) its_row)

-- the stretch that is whole waits for its part's end
pub waits_too : (i : Loaded) (steps m : ℕ) (parts more : List (Option ℕ)) (waiting longer : List ℕ)
    → AreFound i steps m parts waiting → m ≤ length parts * steps + steps
    → more ≡ parts ++ None ∷ [] → longer ≡ waiting ++ length parts ∷ [] → AreFound i steps m more longer
waits_too i steps m parts more waiting longer f soon more_is longer_is =
    subst (λ (ps : List (Option ℕ)). AreFound i steps m ps longer) (sym more_is)
    (subst (λ (ws : List ℕ). AreFound i steps m (parts ++ None ∷ []) ws) (sym longer_is) both)
  where
    size : length (waiting ++ length parts ∷ []) ≡ length waiting + 1
    size = length_push waiting (length parts)

    old : (t : ℕ) → t < length waiting → slice_index (waiting ++ length parts ∷ []) t ≡ slice_index waiting t
    old t h = get_or_append_left waiting (length parts ∷ []) 0 t h

    new : (t : ℕ) → t ≡ length waiting → slice_index (waiting ++ length parts ∷ []) t ≡ length parts
    new t e = get_or_push waiting (length parts) 0 t (sym e)

    rising_at : (t u : ℕ) → t < u → u < length waiting + 1 → (u < length waiting) ⊎ (length waiting ≤ u)
        → slice_index (waiting ++ length parts ∷ []) t < slice_index (waiting ++ length parts ∷ []) u
    rising_at t u h l (inl less) = omega (arith, old t (omega arith), old u less, f.rising t u h less)
    rising_at t u h l (inr past) =
        omega (arith, old t (omega arith), new u (omega arith), f.inside t (omega arith))

    inside_at : (t : ℕ) → t < length waiting + 1 → (t < length waiting) ⊎ (length waiting ≤ t)
        → slice_index (waiting ++ length parts ∷ []) t < length parts + 1
    inside_at t h (inl less) = omega (arith, old t less, f.inside t less)
    inside_at t h (inr past) = omega (arith, new t (omega arith))

    on_at : (t : ℕ) (s : State) (n : ℕ) → t < length waiting + 1 → (t < length waiting) ⊎ (length waiting ≤ t)
        → after (start_of i) (slice_index (waiting ++ length parts ∷ []) t * steps) ≡ Ok s → steps ≤ n
        → slice_index (waiting ++ length parts ∷ []) t * steps + n < m → verdict s n ≡ GoesOn
    on_at t s n h (inl less) here enough early =
        f.goes_on t s n less (ap (λ k. after (start_of i) (k * steps)) (sym (old t less)) ∙ here) enough
        (subst (λ (k : ℕ). k * steps + n < m) (old t less) early)
    on_at t s n h (inr past) here enough early =
        let late = subst (λ (k : ℕ). k * steps + n < m) (new t (omega arith)) early in
        absurd (omega arith)

    known_at : (k : ℕ) → ((t : ℕ) → t < length waiting + 1 → slice_index (waiting ++ length parts ∷ []) t ≢ k)
        → (k < length parts) ⊎ (length parts ≤ k) → k < length parts + 1
        → slice_index_or (parts ++ None ∷ []) k None ≡ part_length (part_at (after (start_of i) (k * steps)) steps)
    known_at k apart (inl less) h =
        get_or_append_left parts (None ∷ []) None k less
        ∙ f.known k less (λ t l same. apart t (omega arith) (old t l ∙ same))
    known_at k apart (inr past) h =
        absurd (apart (length waiting) (omega arith) (new (length waiting) refl ∙ omega arith))

    both : AreFound i steps m (parts ++ None ∷ []) (waiting ++ length parts ∷ [])
    both = record {
      rising = λ t u h l. rising_at t u h (omega (arith, size)) (cases_lt u (length waiting));
      inside = λ t h.
          omega (arith, length_push parts None, inside_at t (omega (arith, size)) (cases_lt t (length waiting)));
      goes_on = λ t s n h here enough early.
          on_at t s n (omega (arith, size)) (cases_lt t (length waiting)) here enough early;
      known = λ k h apart.
          known_at k (λ t l. apart t (omega (arith, size))) (cases_lt k (length parts))
          (omega (arith, length_push parts None));
    }

-- the same under other names
pub now_with : (i : Loaded) (steps n current other : ℕ) (counts more words : List ℕ) (rows : List (List Entry))
    (whole : ℕ) → counts ≡ more → current ≡ other → AreTallied i steps n current more words rows whole
    → AreTallied i steps n other counts words rows whole
now_with i steps n current other counts more words rows whole e f t =
    subst (λ (k : ℕ). AreTallied i steps n k counts words rows whole) f
    (subst (λ (cs : List ℕ). AreTallied i steps n current cs words rows whole) (sym e) t)

-- before the first step
pub tallied_none : (i : Loaded) (steps current whole : ℕ) (counts words : List ℕ) (rows : List (List Entry))
    → current ≡ 0 → counts ≡ replicate (i.window.size / 4) 0 → words ≡ [] → rows ≡ [] → whole ≡ 0
    → AreTallied i steps 0 current counts words rows whole
tallied_none i steps current whole counts words rows current_is counts_are words_are rows_are whole_is =
    let size : length counts ≡ i.window.size / 4 = ap length counts_are ∙ length-replicate (i.window.size / 4) 0 in
    record {
      done = rw (whole_is, current_is) (omega arith);
      fewer = omega arith;
      size = size;
      now = λ w h.
          zero_at w (omega arith)
          ∙ sym (ap (λ k. count_by (λ (y : Step). y.pc == i.window.base + 4 * w)
          (steps_on k (after (start_of i) (whole * steps)))) current_is
          ∙ none_on (λ (y : Step). y.pc == i.window.base + 4 * w) (after (start_of i) (whole * steps)));
      sum = sum_zero (λ w. slice_index counts w) (length counts) (λ w h. zero_at w (omega arith)) ∙ sym current_is;
      covered = record {
        inside = λ t h. absurd (omega (arith, ap length words_are));
        each = λ w h. absurd (some_at w h (cases_lt w (length counts)) size);
      };
      number = ap length rows_are ∙ sym whole_is;
      rows_are = λ k h. absurd (omega arith);
    }
  where
    none_on : (p : Step → Bool) (r : Result State CutError) → count_by p (steps_on 0 r) ≡ 0
    none_on p (Ok s) = refl
    none_on p (Err e) = refl

    zero_at : (w : ℕ) → w < i.window.size / 4 → slice_index counts w ≡ 0
    zero_at w h = ap (λ xs. slice_index xs w) counts_are ∙ get_or-replicate (i.window.size / 4) w 0 0 h

    some_at : (w : ℕ) → 0 < slice_index counts w → (w < length counts) ⊎ (length counts ≤ w)
        → length counts ≡ i.window.size / 4 → ⊥
    some_at w h (inl less) size = let z = zero_at w (omega arith) in omega arith
    some_at w h (inr past) size = let z = get_or_past counts w 0 past in omega arith

-- the same under other names
pub tallied_as : (i : Loaded) (steps n current other : ℕ) (counts more words new_words : List ℕ)
    (rows new_rows : List (List Entry)) (whole all : ℕ) → other ≡ current → more ≡ counts → new_words ≡ words
    → new_rows ≡ rows → all ≡ whole → AreTallied i steps n current counts words rows whole
    → AreTallied i steps n other more new_words new_rows all
tallied_as i steps n current other counts more words new_words rows new_rows whole all e f g h j t =
    subst (λ (k : ℕ). AreTallied i steps n k more new_words new_rows all) (sym e)
    (subst (λ (cs : List ℕ). AreTallied i steps n current cs new_words new_rows all) (sym f)
    (subst (λ (ws : List ℕ). AreTallied i steps n current counts ws new_rows all) (sym g)
    (subst (λ (rs : List (List Entry)). AreTallied i steps n current counts words rs all) (sym h)
    (subst (λ (k : ℕ). AreTallied i steps n current counts words rows k) (sym j) t))))
