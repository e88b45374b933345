-- How reading a band or publishing in it changes what a seat knows, and the least of the words that are read.
use Rattle.std.proofs.Common.{◌≡◌, ◌≢◌, ℕ, ◌+◌, ◌/◌, ◌%◌, min, ◌<◌, ◌≤◌, suc, true, false, nat_le, if◌then◌else◌, List}
use Rattle.std.proofs.Common.{[], ◌∷◌, length, get_or, sym, refl, ap, ◌∙◌, subst, inl, inr, ⊎_elim, arith}
use Rattle.std.proofs.lemmas.Bool.Decides.{nat_tests}
use mathlib.Core.Logic.{dite}
use mathlib.Core.Option.{none}
use native.Mathlib.Decide.{ℕ_discrete}
use Rattle.atomic_table.specs.Table.{step}
use Rattle.tomex_board.specs.declared.bound.Bound.{Bound}
use Rattle.tomex_board.specs.declared.mark.Mark.{Mark}
use Rattle.tomex_board.specs.declared.mark.Mark.TheVariants.{Finished}
use Rattle.tomex_board.specs.declared.view.View.{View}
use Rattle.tomex_board.specs.Words.{band_word, nothing_yet, bound_of}
use Rattle.tomex_board.specs.Bands.{floors_of, judges_below}
use Rattle.tomex_board.specs.Views.{Has, KnowsNotOpen, after_seeing, after_seeing_row, best, least_in, Grows}
use Rattle.tomex_board.specs.Steps.{Seated, IsPublish, IsLook}
use Rattle.tomex_board.specs.Looking.{IsBound, IsLeastBest, IsLeastSoFar, AreEmpty, Sees, SeesEach, IsLeastBound}
use Rattle.tomex_board.proofs.Bests.{least_here, least_else, least_falls, least_small}

-- what was noted stays noted when more is
spotted : (k row cycles : ℕ) (v : View) (i : ℕ) → KnowsNotOpen v i → KnowsNotOpen (after_seeing_row k row cycles v) i
spotted k row cycles v i h = ⊎_elim (λ a. inl a)
    (λ r. ⊎_elim (λ a. inr (inl (inr a))) (λ (d : (m : Mark) × Has v.marks (i, m)). inr (inr (d.0, inr d.1))) r) h

-- a look as the caller sees it
looked_at : (costs cycles : List ℕ) (slots word found : ℕ) (m m' : Seated) → length costs ≤ 16384
    → (t : IsLook costs cycles (step slots word 0 0 none) m found m')
    → Sees costs cycles (floors_of costs) t.band found m.0 m'.0
looked_at costs cycles slots word found m m' few t = let k : ℕ = t.band in let v : View = m.0 in
    dite (ℕ_discrete found nothing_yet)
    (λ e. let is : after_seeing k found v ≡ m'.0 = sym (t.empty e) in
    subst (Sees costs cycles (floors_of costs) k found v) is record {
      hand = refl;
      share = refl;
      grown = record { noted = λ i h. h; marks = λ i x h. h; bests = λ j. least_falls k j found v.bests };
      here = ap (best k) is ∙ t.is_best;
      seen = refl;
      named = λ ne. absurd (ne e);
    })
    (λ ne. let p = t.named ne in let j : ℕ = p.0 in let c : ℕ = get_or cycles j 0 in
    let near : j < length costs = p.1 in let word-is : found ≡ band_word c j = p.2 in
    let row : found % 16384 ≡ j = omega arith in let count : found / 16384 ≡ c = omega arith in
    let row' : j ≡ found % 16384 = sym row in let count' : c ≡ found / 16384 = sym count in
    let is : after_seeing_row k j c v ≡ m'.0 = sym p.4 in
    subst (Sees costs cycles (floors_of costs) k found v) is record {
      hand = refl;
      share = refl;
      grown = record {
        noted = spotted k j c v;
        marks = λ i x h. inr h;
        bests = λ i. least_falls k i (band_word c j) v.bests;
      };
      here = ap (best k) is ∙ t.is_best;
      seen = ap (λ (z : ℕ). (k, z) ∷ v.bests) (sym word-is);
      named = λ _. record {
        row = omega arith;
        its_cycles = count ∙ ap (λ (z : ℕ). get_or cycles z 0) row';
        noted = inl (λ i. (row' i, Finished (count' i)));
        no_dearer = subst (λ (z : ℕ). get_or costs z 0 ≤ get_or (floors_of costs) k 0) row' p.3;
      };
    })

pub looks_at : (costs cycles : List ℕ) (slots k word found : ℕ) (m m' : Seated) → length costs ≤ 16384
    → word ≡ length costs + k → IsLook costs cycles (step slots word 0 0 none) m found m'
    → Sees costs cycles (floors_of costs) k found m.0 m'.0
looks_at costs cycles slots k word found m m' few at t = let w = t.word in let same : t.band ≡ k = omega arith in
    subst (λ (b : ℕ). Sees costs cycles (floors_of costs) b found m.0 m'.0) same
    (looked_at costs cycles slots word found m m' few t)

-- what publishing changes
pub record Published (k x : ℕ) (v w : View) : Type 0 where
  pub view : (found : ℕ) × (w ≡ after_seeing k (min found x) v)
  pub hand : w.hand ≡ v.hand
  pub share : w.share ≡ v.share
  pub seen : w.seen ≡ v.seen
  pub marks : w.marks ≡ v.marks
  pub grown : Grows v w
  pub is_best : best k w ≤ x
  pub others : (j : ℕ) → j ≢ k → best j w ≡ best j v

published_at : (costs cycles : List ℕ) (slots word x found : ℕ) (m m' : Seated)
    → (t : IsPublish costs cycles (step slots word x 0 none) m found m') → Published t.band x m.0 m'.0
published_at costs cycles slots word x found m m' t = let k : ℕ = t.band in let v : View = m.0 in
    let y : ℕ = min found x in let is : after_seeing k y v ≡ m'.0 = sym t.view in
    subst (Published k x v) is record {
      view = (found, refl);
      hand = refl;
      share = refl;
      seen = refl;
      marks = refl;
      grown = record { noted = λ i h. h; marks = λ i m h. h; bests = λ j. least_falls k j y v.bests };
      is_best = (let h = least_here k y v.bests in omega arith);
      others = λ j ne. least_else k j y v.bests ne;
    }

pub published : (costs cycles : List ℕ) (slots k word x found : ℕ) (m m' : Seated) → word ≡ length costs + k
    → IsPublish costs cycles (step slots word x 0 none) m found m' → Published k x m.0 m'.0
published costs cycles slots k word x found m m' at t = let w = t.word in let same : t.band ≡ k = omega arith in
    subst (λ (b : ℕ). Published b x m.0 m'.0) same (published_at costs cycles slots word x found m m' t)

module _ (costs cycles floors : List ℕ) (cost k : ℕ) where
  -- the band k may not judge the row
  pub skips : (v : View) (w : ℕ) → cost < get_or floors k 0 → IsLeastSoFar costs cycles floors cost k v w
      → IsLeastSoFar costs cycles floors cost (k + 1) v w
  skips v w dear t = record {
    below = λ j h fit. dite (ℕ_discrete j k) (λ e. let f = ap (λ (i : ℕ). get_or floors i 0) e in
        absurd (omega arith)) (λ ne. t.below j (omega arith) fit);
    one = ⊎_elim (λ e. inl e) (λ d. inr (d.0, (let h = d.1 in omega arith), d.2, d.3)) t.one;
    bound = t.bound;
  }

  still_bound : (v w : View) (b : Bound) → Grows v w → IsBound costs cycles cost v b → IsBound costs cycles cost w b
  still_bound v w b g t = record {
    row = t.row;
    its_cycles = t.its_cycles;
    noted = g.marks b.row (Finished b.cycles) t.noted;
    no_dearer = t.no_dearer;
  }

  -- the best words of other bands stay
  unseen : (v w : View) (found : ℕ) → Sees costs cycles floors k found v w → (j : ℕ) → j ≢ k → best j w ≡ best j v
  unseen v w found g j ne = ap (least_in j) g.seen ∙ least_else k j found v.bests ne

  -- nothing was seen in the band k, which may not judge the row
  pub passes : (u v : View) → cost < get_or floors k 0 → SeesEach floors cost k u v → SeesEach floors cost (k + 1) u v
  passes u v dear t = let test : nat_le (get_or floors k 0) cost ≡ false = grind (arith, nat_tests) in
      let next : suc k ≡ k + 1 = omega arith in let below : List ℕ = judges_below k floors cost in
      subst (λ (m : ℕ). SeesEach floors cost m u v) next record {
        found = t.found;
        bands = t.bands ∙ ap (λ b. if b then k ∷ below else below) (sym test);
        bests = t.bests;
      }

  -- one word was seen in the band k
  pub adds : (u v w : View) (found : ℕ) → get_or floors k 0 ≤ cost → Sees costs cycles floors k found v w
      → SeesEach floors cost k u v → SeesEach floors cost (k + 1) u w
  adds u v w found fit g t = let test : nat_le (get_or floors k 0) cost ≡ true = grind (arith, nat_tests) in
      let next : suc k ≡ k + 1 = omega arith in let below : List ℕ = judges_below k floors cost in
      subst (λ (m : ℕ). SeesEach floors cost m u w) next
      record {
        found = (k, found) ∷ t.found;
        bands = ap (λ (l : List ℕ). k ∷ l) t.bands ∙ ap (λ b. if b then k ∷ below else below) (sym test);
        bests = g.seen ∙ ap (λ (l : List (ℕ × ℕ)). (k, found) ∷ l) t.bests;
      }

  -- the word found is the smaller one
  pub finds : (v w : View) (least found : ℕ) → get_or floors k 0 ≤ cost → found < least
      → Sees costs cycles floors k found v w → IsLeastSoFar costs cycles floors cost k v least
      → IsLeastSoFar costs cycles floors cost (k + 1) w found
  finds v w least found fit less g t = record {
    below = λ j h fits. dite (ℕ_discrete j k) (λ e. let f : best j w ≡ found = ap (λ (i : ℕ). best i w) e ∙ g.here in
        omega arith) (λ ne. let f = unseen v w found g j ne in let b = t.below j (omega arith) fits in omega arith);
    one = inr (k, omega arith, fit, sym g.here);
    bound = λ ne. let p = g.named ne in let q = p.no_dearer in
        record { row = p.row; its_cycles = p.its_cycles; noted = p.noted; no_dearer = omega arith };
  }

  -- the least so far is no greater
  pub stands_out : (v w : View) (least found : ℕ) → get_or floors k 0 ≤ cost → least ≤ found
      → Sees costs cycles floors k found v w → IsLeastSoFar costs cycles floors cost k v least
      → IsLeastSoFar costs cycles floors cost (k + 1) w least
  stands_out v w least found fit less g t = record {
    below = λ j h fits. dite (ℕ_discrete j k) (λ e. let f : best j w ≡ found = ap (λ (i : ℕ). best i w) e ∙ g.here in
        omega arith) (λ ne. let f = unseen v w found g j ne in let b = t.below j (omega arith) fits in omega arith);
    one = ⊎_elim (λ e. inl e) (λ d. let h = d.1 in
        inr (d.0, omega arith, d.2, d.3 ∙ sym (unseen v w found g d.0 (λ e. omega arith)))) t.one;
    bound = λ ne. still_bound v w (bound_of least) g.grown (t.bound ne);
  }

-- at first nothing was seen
pub sees_none : (floors : List ℕ) (cost : ℕ) (v : View) → SeesEach floors cost 0 v v
sees_none floors cost v = record { found = []; bands = refl; bests = refl }

pub stays : (v : View) → Grows v v
stays v = record { noted = λ i h. h; marks = λ i m h. h; bests = λ k. omega arith }

pub none_so_far : {costs cycles floors : List ℕ} {cost : ℕ} {v : View}
    → IsLeastSoFar costs cycles floors cost 0 v nothing_yet
none_so_far = record { below = λ k h fit. absurd (omega arith); one = inl refl; bound = λ ne. absurd (ne refl) }

-- a bound names its word
pub its_word : (w : ℕ) (b : Bound) → b ≡ bound_of w → band_word b.cycles b.row ≡ w
its_word w b is = ap (λ (z : Bound). band_word z.cycles z.row) is ∙ omega arith

-- the word w is not empty, so it is one of the bests
pub is_least : (costs cycles floors : List ℕ) (cost : ℕ) (v : View) (w : ℕ) (b : Bound)
    → IsLeastSoFar costs cycles floors cost (length floors) v w → w ≢ nothing_yet → band_word b.cycles b.row ≡ w
    → IsLeastBound floors cost v b
is_least costs cycles floors cost v w b t ne e =
    subst (λ (z : ℕ). IsLeastBest floors cost v z × (z ≢ nothing_yet)) (sym e)
    (record { below = t.below; one = ⊎_elim (λ z. absurd (ne z)) (λ d. d) t.one }, ne)

-- no band has a smaller word than an empty one
pub are_empty : (costs cycles floors : List ℕ) (cost : ℕ) (v : View)
    → IsLeastSoFar costs cycles floors cost (length floors) v nothing_yet → AreEmpty floors cost v
are_empty costs cycles floors cost v t k h fit = let a = t.below k h fit in let b = least_small k v.bests in omega arith
