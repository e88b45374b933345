-- Rows with their costs and weighted cycles.
use Rattle.std.proofs.Common.{◌≡◌, ℕ, zero, suc, ◌+◌, ◌*◌, ◌<◌, ◌≤◌, arith}
use Rattle.std.proofs.Common.{ap, sym, refl, ◌∙◌, subst, List, [], ◌∷◌, ◌++◌}
use Rattle.std.proofs.Common.{All, append_assoc, drop, get_or, length, map, take}
use Rattle.std.proofs.lemmas.List.{append-nil, length-map}
use Rattle.std.proofs.lemmas.Option.{slice_get-get_or, slice_get_read}
use Rattle.tomex_config.specs.Configuration.{Configuration, IsWithinLimits, plain}
use Rattle.tomex_pareto.specs.Front.{rows_from}
use Rattle.tomex_pareto.specs.declared.front_row.FrontRow.{FrontRow}
use Rattle.tomex_timing.specs.Run.{total}
use Rattle.tomex_study.specs.Cycles.{cycles_of, cycles_on, totals_on}
use Rattle.tomex_plateaus.proofs.Totals.{all_cycles, cycles_more, next_cycles, total_at}
use Rattle.tomex_study.specs.Program.{IsProgram, Workload}
use Rattle.tomex_study.specs.Study.{DesignSpace, IsStudy}
use Rattle.tomex_study.proofs.Rows.{as_many_cycles, as_many_rows, cycles_at}
use Rattle.tomex_study.specs.Cycles.{totals_of}
use Rattle.tomex_study.specs.StudyFront.{all_rows}
use Rattle.tomex_study.specs.Surveyed.{AreTotalsOf}
use Rattle.std.specs.List.{AllZip, flat_map}
use Rattle.std.specs.declared.vec.Vec.{Vec}
use Rattle.tomex_survey.specs.Stretches.{AreTotalsIn, in_stretch, stretches_of}
use Rattle.tomex_survey.specs.declared.stretch.Stretch.{Stretch}
use Rattle.tomex_survey.proofs.Neighbours.{all_stretches, put_together, same_at}

-- there are as many totals as rows
pub as_many_totals : (s : DesignSpace) (totals : List (List ℕ)) → AreTotalsOf s totals
    → length totals ≡ length s.rows
unfolding totals_of
as_many_totals s totals are = sym (length-map _ _) ∙ (ap length are ∙ length-map _ _)

-- the totals of a row are those on its configuration
pub totals_at : (s : DesignSpace) (totals : List (List ℕ)) (row : ℕ)
    → AreTotalsOf s totals → row < length totals
    → take (length s.programs) (get_or totals row []) ≡ totals_on s.programs (get_or s.rows row plain)
unfolding totals_of
totals_at s totals row are low =
    same_at (take (length s.programs)) (totals_on s.programs) totals s.rows row [] plain are low

-- rows from a number on

rows_at : (n : ℕ) (costs cycles : List ℕ) (k : ℕ) → k < length costs → k < length cycles
    → rows_from n (drop k costs) (drop k cycles)
    ≡ record { row = n; cost = get_or costs k 0; cycles = get_or cycles k 0 }
    ∷ rows_from (suc n) (drop (suc k) costs) (drop (suc k) cycles)
rows_at n [] cycles k low within = absurd (omega arith)
rows_at n (c ∷ cs) [] k low within = absurd (omega arith)
rows_at n (c ∷ cs) (y ∷ ys) zero low within = refl
rows_at n (c ∷ cs) (y ∷ ys) (suc k) low within = rows_at n cs ys k (omega arith) (omega arith)

-- one more row
pub one_row : (s : DesignSpace) (k : ℕ) (before after : List FrontRow) (cost cycles : ℕ) → IsStudy s
    → k < length s.rows → after ≡ before ++ record { row = k; cost = cost; cycles = cycles } ∷ []
    → cost ≡ get_or s.costs k 0 → cycles ≡ cycles_on s.programs (get_or s.rows k plain)
    → before ++ rows_from k (drop k s.costs) (drop k (cycles_of s)) ≡ all_rows s
    → after ++ rows_from (k + 1) (drop (k + 1) s.costs) (drop (k + 1) (cycles_of s)) ≡ all_rows s
one_row s k before after cost cycles is low grown cost_is cycles_are so_far =
    let costs : length s.costs ≡ length s.rows = as_many_rows s is in
    let many : length (cycles_of s) ≡ length s.rows = as_many_cycles s in
    let next = rows_at k s.costs (cycles_of s) k (omega arith) (omega arith) in
    let own : cycles ≡ get_or (cycles_of s) k 0 = cycles_are
    ∙ sym (cycles_at s k (get_or s.rows k plain) (slice_get-get_or s.rows k plain low)) in
    let rest = rows_from (suc k) (drop (suc k) s.costs) (drop (suc k) (cycles_of s)) in
    let later : after ++ rest ≡ all_rows s =
    ap (λ (rs : List FrontRow). rs ++ rest) grown
    ∙ (append_assoc before (record { row = k; cost = cost; cycles = cycles } ∷ []) rest
    ∙ (ap (λ (n : ℕ). before ++ row_of k n cycles ∷ rest) cost_is
    ∙ (ap (λ (n : ℕ). before ++ row_of k (get_or s.costs k 0) n ∷ rest) own
    ∙ (ap (λ (rs : List FrontRow). before ++ rs) (sym next) ∙ so_far)))) in
    subst (λ (n : ℕ). after ++ rows_from n (drop n s.costs) (drop n (cycles_of s)) ≡ all_rows s)
    (let e : suc k ≡ k + 1 = omega arith in e) later
  where
    row_of : ℕ → ℕ → ℕ → FrontRow
    row_of row cost cycles = record { row = row; cost = cost; cycles = cycles }

pub no_row : (s : DesignSpace) (before : List FrontRow) → before ≡ []
    → before ++ rows_from 0 (drop 0 s.costs) (drop 0 (cycles_of s)) ≡ all_rows s
no_row s before none = rw none refl

none_from : (n k : ℕ) (costs cycles : List ℕ) → length costs ≤ k → rows_from n (drop k costs) (drop k cycles) ≡ []
none_from n zero [] cycles past = refl
none_from n (suc k) [] cycles past = refl
none_from n zero (c ∷ cs) cycles past = absurd (omega arith)
none_from n (suc k) (c ∷ cs) [] past = none_left n (drop k cs)
  where
    none_left : (n : ℕ) (cs : List ℕ) → rows_from n cs [] ≡ []
    none_left n [] = refl
    none_left n (c ∷ cs) = refl
none_from n (suc k) (c ∷ cs) (y ∷ ys) past = none_from n k cs ys (omega arith)

pub last_row : (s : DesignSpace) (k : ℕ) (before : List FrontRow) → IsStudy s → length s.rows ≤ k
    → before ++ rows_from k (drop k s.costs) (drop k (cycles_of s)) ≡ all_rows s → before ≡ all_rows s
last_row s k before is past so_far =
    let costs : length s.costs ≡ length s.rows = as_many_rows s is in
    sym (append-nil before)
    ∙ (ap (λ (rs : List FrontRow). before ++ rs) (sym (none_from k k s.costs (cycles_of s) (omega arith))) ∙ so_far)

-- weighted cycles, program by program

pub one_weighed : (programs : List Workload) (totals : List ℕ) (i cycles t : ℕ) (p : Workload)
    (config : Configuration) → i < length programs → p ≡ get_or programs i p → t ≡ get_or totals i 0
    → totals ≡ totals_on programs config → cycles ≡ cycles_on (take i programs) config
    → cycles + p.weight * t ≡ cycles_on (take (i + 1) programs) config
one_weighed programs totals i cycles t p config low at is same so_far =
    let its : t ≡ total config p.image = is ∙ total_at programs config totals i p same low at in
    let more = cycles_more programs i p config (slice_get_read programs (length programs) i p refl low at) in
    rw (its, so_far) (sym more)

-- they are small
pub weighed_small : (programs : List Workload) (totals : List ℕ) (i cycles : ℕ) {t : ℕ} {p : Workload}
    (config : Configuration) → IsWithinLimits config → All IsProgram programs → length programs ≤ 8
    → i < length programs → p ≡ get_or programs i p → t ≡ get_or totals i 0 → totals ≡ totals_on programs config
    → cycles ≡ cycles_on (take i programs) config
    → (p.weight * t ≤ 140509184000) × (cycles + p.weight * t ≤ 140509184000)
weighed_small programs totals i cycles {t} {p} config lawful ends few low at is same so_far =
    let w = next_cycles programs i p config t cycles lawful ends few low at
    (is ∙ total_at programs config totals i p same low at) so_far in
    (w.1, w.2)

pub all_weighed : (programs : List Workload) (i cycles : ℕ) (config : Configuration) → length programs ≤ i
    → cycles ≡ cycles_on (take i programs) config → cycles ≡ cycles_on programs config
all_weighed programs i cycles config past so_far = so_far ∙ all_cycles programs i config past

-- the totals of all stretches are those of all rows
pub all_totals_are : {A : Type 0} (s : DesignSpace) (workers rows : ℕ) (stretches given : List Stretch)
    (parts : List (Vec (List ℕ) A)) (totals : List (List ℕ)) → 1 ≤ workers → rows ≡ length s.rows
    → stretches ≡ stretches_of rows workers → given ≡ stretches
    → AllZip (λ z t. AreTotalsIn s z t.items) given parts → totals ≡ flat_map (λ p. p.items) parts
    → AreTotalsOf s totals
unfolding totals_of
all_totals_are s workers rows stretches given parts totals some many are same zipped is =
    let whole : flat_map (in_stretch s.rows) given ≡ s.rows =
    ap (flat_map (in_stretch s.rows)) (same ∙ are)
    ∙ (ap (λ (n : ℕ). flat_map (in_stretch s.rows) (stretches_of n workers)) many
    ∙ all_stretches s.rows workers some) in
    ap (map (take (length s.programs))) is
    ∙ (put_together (take (length s.programs)) (totals_on s.programs) (λ p. p.items) (in_stretch s.rows) given parts
    zipped
    ∙ ap (map (totals_on s.programs)) whole)
