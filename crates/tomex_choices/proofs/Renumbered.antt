-- Rows with other numbers, in the same order, have the same front; so has the study without some unused choices.
use Rattle.std.proofs.Common.{◌≡◌, ℕ, suc, ◌<◌, ◌+◌, arith, ap, sym, refl, subst, ◌∙◌, List, [], ◌∷◌, ◌++◌}
use Rattle.std.proofs.Common.{append_assoc, length, get_or, map, Bool, not, ◌||◌, inl, inr}
use Rattle.std.specs.List.{AllZip, filter, list_any}
use Rattle.std.proofs.lemmas.Bool.{cases_Bool, lt-ltb}
use Rattle.std.proofs.lemmas.List.{get_or_at, length_push}
use Rattle.std.proofs.lemmas.List.Kept.{AllPairs-filter}
use Rattle.std.proofs.lemmas.List.Sorted.{IsPermutation-sym}
use Rattle.tomex_config.specs.Configuration.{Configuration, plain}
use Rattle.tomex_config.specs.Cost.{cost_of}
use Rattle.tomex_pareto.specs.Front.{by_cost, comes_before, dominates, front_of, is_undominated, put, rows_from}
use Rattle.tomex_pareto.specs.declared.front_row.FrontRow.{FrontRow}
use Rattle.tomex_pareto.proofs.Pareto.{Has as HasRow}
use Rattle.tomex_pareto.proofs.Pareto.{Rises, all_from, all_has, has_moved, ordered_moves, pairs_rise, rises_pairs}
use Rattle.tomex_pareto.proofs.Rows.{row_at}
use Rattle.tomex_study.specs.Cycles.{cycles_of, cycles_on}
use Rattle.tomex_study.specs.Study.{DesignSpace, config_at}
use Rattle.tomex_study.specs.StudyFront.{all_rows, front_of_study}
use Rattle.tomex_choices.specs.Laws.{UnusedChoicesMayGo, has_no_unwanted, machine_at, study_without}
use Rattle.tomex_choices.proofs.Dropping.{may_stay, rows_without}

abbrev Rising : List FrontRow → Type 0
Rising rows = Rises (λ a b. a.row < b.row) rows

rows_rise : (n : ℕ) (costs cycles : List ℕ) → Rising (rows_from n costs cycles)
rows_rise n [] cycles = tt
rows_rise n (c ∷ cs) [] = tt
rows_rise n (c ∷ cs) (y ∷ ys) = (
  all_from (λ q. n < q.row) (rows_from (suc n) cs ys)
      (λ r h. let w = row_at (suc n) cs ys r h in let at = w.number in omega arith),
  rows_rise (suc n) cs ys,
)

-- two lists of rows of which each is like the one at its place in the other
module _ (R : FrontRow → FrontRow → Type 0) (cost : (a b : FrontRow) → R a b → a.cost ≡ b.cost)
    (cycles : (a b : FrontRow) → R a b → a.cycles ≡ b.cycles) where
  same_dominates : (a b q r : FrontRow) → R a b → R q r → dominates q a ≡ dominates r b
  same_dominates a b q r like other = rw (cost a b like, cycles a b like, cost q r other, cycles q r other) refl

  same_any : (xs ys : List FrontRow) (a b : FrontRow) → R a b → AllZip R xs ys
      → list_any (λ q. dominates q a) xs ≡ list_any (λ q. dominates q b) ys
  same_any [] [] a b like zip = refl
  same_any [] (y ∷ ys) a b like zip = absurd zip
  same_any (x ∷ xs) [] a b like zip = absurd zip
  same_any (x ∷ xs) (y ∷ ys) a b like zip =
      let first : dominates x a ≡ dominates y b = same_dominates a b x y like zip.0 in
      let rest = same_any xs ys a b like zip.1 in
      ap (λ (t : Bool). t || list_any (λ q. dominates q a) xs) first
      ∙ ap (λ (t : Bool). dominates y b || t) rest

  filter_zip : (p q : FrontRow → Bool) (xs ys : List FrontRow) → ((a b : FrontRow) → R a b → p a ≡ q b)
      → AllZip R xs ys → AllZip R (filter p xs) (filter q ys)
  filter_zip p q [] [] same zip = tt
  filter_zip p q [] (y ∷ ys) same zip = absurd zip
  filter_zip p q (x ∷ xs) [] same zip = absurd zip
  filter_zip p q (x ∷ xs) (y ∷ ys) same zip =
      let rest = filter_zip p q xs ys same zip.1 in
      elim (cases_Bool (q y)) [
        | inl e ↦ rw (same x y zip.0 ∙ e, e) (zip.0, rest)
        | inr e ↦ rw (same x y zip.0 ∙ e, e) rest
      ]

  same_order : (a b q r : FrontRow) → R a b → R q r → a.row < q.row → b.row < r.row
      → comes_before a q ≡ comes_before b r
  same_order a b q r like other first next =
      rw (
        cost a b like,
        cost q r other,
        lt-ltb a.row q.row first,
        lt-ltb b.row r.row next,
      )
      refl

  put_zip : (a b : FrontRow) (xs ys : List FrontRow) → R a b → AllZip R xs ys
      → ((x : FrontRow) → HasRow xs x → a.row < x.row) → ((y : FrontRow) → HasRow ys y → b.row < y.row)
      → AllZip R (put a xs) (put b ys)
  put_zip a b [] [] like zip first next = (like, tt)
  put_zip a b [] (y ∷ ys) like zip first next = absurd zip
  put_zip a b (x ∷ xs) [] like zip first next = absurd zip
  put_zip a b (x ∷ xs) (y ∷ ys) like zip first next =
      let same = same_order a b x y like zip.0 (first x (inl refl)) (next y (inl refl)) in
      let rest = put_zip a b xs ys like zip.1 (λ z h. first z (inr h)) (λ z h. next z (inr h)) in
      elim (cases_Bool (comes_before b y)) [
        | inl e ↦ rw (same ∙ e, e) (like, zip)
        | inr e ↦ rw (same ∙ e, e) (zip.0, rest)
      ]

  sorted_zip : (xs ys : List FrontRow) → Rising xs → Rising ys → AllZip R xs ys → AllZip R (by_cost xs) (by_cost ys)
  sorted_zip [] [] first next zip = tt
  sorted_zip [] (y ∷ ys) first next zip = absurd zip
  sorted_zip (x ∷ xs) [] first next zip = absurd zip
  sorted_zip (x ∷ xs) (y ∷ ys) first next zip =
      put_zip x y (by_cost xs) (by_cost ys) zip.0 (sorted_zip xs ys first.1 next.1 zip.1)
      (λ z h. all_has (λ q. x.row < q.row) xs z first.0
      (has_moved (by_cost xs) xs z (IsPermutation-sym _ _ (ordered_moves xs)) h))
      (λ z h. all_has (λ q. y.row < q.row) ys z next.0
      (has_moved (by_cost ys) ys z (IsPermutation-sym _ _ (ordered_moves ys)) h))

  kept_rise : (xs : List FrontRow) → Rising xs → Rising (filter (is_undominated xs) xs)
  kept_rise xs up = pairs_rise (λ a b. a.row < b.row) _
      (AllPairs-filter (λ a b. a.row < b.row) (is_undominated xs) xs (rises_pairs (λ a b. a.row < b.row) xs up))

  pub front_zip : (xs ys : List FrontRow) → Rising xs → Rising ys → AllZip R xs ys
      → AllZip R (front_of xs) (front_of ys)
  unfolding front_of
  front_zip xs ys first next zip =
      sorted_zip (filter (is_undominated xs) xs) (filter (is_undominated ys) ys) (kept_rise xs first)
      (kept_rise ys next)
      (filter_zip (is_undominated xs) (is_undominated ys) xs ys (λ a b like. ap not (same_any xs ys a b like zip)) zip)

-- what they are made of
same_made : {T : Type 0} (R : FrontRow → FrontRow → Type 0) (f g : FrontRow → T) (xs ys : List FrontRow)
    → ((a b : FrontRow) → R a b → f a ≡ g b) → AllZip R xs ys → map f xs ≡ map g ys
same_made R f g [] [] same zip = refl
same_made R f g [] (y ∷ ys) same zip = absurd zip
same_made R f g (x ∷ xs) [] same zip = absurd zip
same_made R f g (x ∷ xs) (y ∷ ys) same zip = rw (same x y zip.0, same_made R f g xs ys same zip.1) refl

-- the rows that stay, and those of the study without the others
module _ (s t : DesignSpace) (keep : Configuration → Bool) where
  abbrev IsSame : FrontRow → FrontRow → Type 0
  IsSame a b = (config_at s a.row ≡ config_at t b.row) × (a.cost ≡ b.cost) × (a.cycles ≡ b.cycles)

  abbrev price : Configuration → ℕ
  price c = cost_of c s.prices

  abbrev takes : Configuration → ℕ
  takes c = cycles_on s.programs c

  left_zip : (before others rows : List Configuration) (n m : ℕ) → s.rows ≡ before ++ rows → length before ≡ n
      → t.rows ≡ others ++ filter keep rows → length others ≡ m
      → AllZip IsSame (filter (λ r. keep (config_at s r.row)) (rows_from n (map price rows) (map takes rows)))
      (rows_from m (map price (filter keep rows)) (map takes (filter keep rows)))
  left_zip before others [] n m are many left few = tt
  left_zip before others (c ∷ rows) n m are many left few =
      let here : config_at s n ≡ c =
      ap (λ (cs : List Configuration). get_or cs n plain) are ∙ get_or_at before c rows plain n many in
      let next : s.rows ≡ (before ++ c ∷ []) ++ rows = are ∙ sym (append_assoc before (c ∷ []) rows) in
      let long : length (before ++ c ∷ []) ≡ suc n =
      (let l = length_push before c in let e : length before + 1 ≡ suc n = omega (arith, many) in l ∙ e) in
      elim (cases_Bool (keep c)) [
        | inl e ↦
            let those : t.rows ≡ others ++ c ∷ filter keep rows =
            left ∙ ap (λ (cs : List Configuration). others ++ cs) (rw e refl) in
            let there : config_at t m ≡ c =
            ap (λ (cs : List Configuration). get_or cs m plain) those
            ∙ get_or_at others c (filter keep rows) plain m few in
            let more : length (others ++ c ∷ []) ≡ suc m =
            (let l = length_push others c in let e : length others + 1 ≡ suc m = omega (arith, few) in l ∙ e) in
            let rest = left_zip (before ++ c ∷ []) (others ++ c ∷ []) rows (suc n) (suc m) next long
            (those ∙ sym (append_assoc others (c ∷ []) (filter keep rows))) more in
            rw (ap keep here ∙ e, e) ((here ∙ sym there, refl, refl), rest)
        | inr e ↦
            let those : t.rows ≡ others ++ filter keep rows =
            left ∙ ap (λ (cs : List Configuration). others ++ cs) (rw e refl) in
            let rest = left_zip (before ++ c ∷ []) others rows (suc n) m next long those few in
            rw (ap keep here ∙ e, e) rest
      ]

-- the machines of both fronts
pub may_go : UnusedChoicesMayGo
unfolding front_of_study cycles_of
may_go s unwanted is are =
    let t = study_without s unwanted in
    let keep = has_no_unwanted unwanted in
    let costs : rows_without s unwanted
    ≡ filter (λ r. keep (config_at s r.row)) (rows_from 0 (map (λ c. cost_of c s.prices) s.rows)
    (map (cycles_on s.programs) s.rows)) =
    ap (λ (cs : List ℕ). filter (λ r. keep (config_at s r.row)) (rows_from 0 cs (map (cycles_on s.programs) s.rows)))
    is.costs in
    let zip = left_zip s t keep [] [] s.rows 0 0 refl refl refl refl in
    let left = rows_without s unwanted in
    let first : Rising left =
    pairs_rise (λ a b. a.row < b.row) left
    (AllPairs-filter (λ a b. a.row < b.row) (λ r. keep (config_at s r.row)) (all_rows s)
    (rises_pairs (λ a b. a.row < b.row) (all_rows s) (rows_rise 0 s.costs (map (cycles_on s.programs) s.rows)))) in
    let both = front_zip (IsSame s t keep) (λ a b like. like.1) (λ a b like. like.2) left (all_rows t) first
    (rows_rise 0 t.costs (map (cycles_on t.programs) t.rows))
    (subst (λ (rows : List FrontRow). AllZip (IsSame s t keep) rows (all_rows t)) (sym costs) zip) in
    sym (ap (map (machine_at s)) (may_stay s unwanted are)
    ∙ same_made (IsSame s t keep) (machine_at s) (machine_at t) (front_of left) (front_of (all_rows t))
    (λ a b like. rw (like.0, like.1, like.2) refl) both)
