-- Known totals, and the plateaus from which they are known.
use Rattle.std.proofs.Common.{◌≡◌, ◌≢◌, ℕ, zero, suc, ◌+◌, ◌++◌, take, ◌<◌, arith, ap, sym, ◌∙◌, List, [], ◌∷◌, length}
use Rattle.std.proofs.Common.{map, slice_get, Option, Some, None, get_or, subst, inl, inr, refl}
use Rattle.std.specs.Prelude.{IfOk, IfSome, OnOk, Result, Ok, Err, slice_index_or, ◌≤◌}
use Rattle.std.proofs.Math.ListN.{replicate, set, length-set}
use Rattle.std.proofs.Math.Seq.{map-set_same}
use Rattle.std.proofs.lemmas.List.{get_or-replicate, get_or-set_other, get_or-set_same, length-map, length-replicate}
use Rattle.std.proofs.lemmas.List.{map_more, take-map, take_all, take_more_set}
use Rattle.std.proofs.lemmas.Bool.{cases_order}
use Rattle.std.proofs.lemmas.Option.{get_or_from_slice_get, slice_get-get_or, slice_get_read, slice_get_within}
use Rattle.tomex_rvexec.specs.Run.{start_of}
use Rattle.tomex_rvexec.specs.Trace.{steps_from}
use Rattle.tomex_rvexec.specs.declared.step.Step.{Step}
use Rattle.tomex_config.specs.Configuration.{Configuration}
use Rattle.tomex_timing.specs.Search.{times_in, total_of}
use Rattle.tomex_plateaus.specs.Kept.{Kept, HasLearnt}
use Rattle.tomex_plateaus.specs.Plateaus.{total_known}
use Rattle.tomex_timing.specs.Run.{total}
use Rattle.tomex_study.specs.Cycles.{totals_on}
use Rattle.tomex_plateaus.specs.Knowledge.{AreLearnt, AreTotals, IsKnowledge, IsLearnt, IsLearntAt, IsTotalAt}
use Rattle.tomex_plateaus.specs.Knowledge.{KnowledgeOf, OnlyAt, known_totals_on, nothing_known}
use Rattle.tomex_study.specs.Program.{Workload, IsProgram}
use Rattle.tomex_plateaus.proofs.Totals.{total_within}

abbrev pub steps_of : Workload → List Step
steps_of p = steps_from p.limit (start_of p.image)

-- the list at a program's place is of its steps
pub listed : (programs : List Workload) (lists : List Kept) (place : ℕ) (p : Workload) (l : Kept)
    → map (λ l. l.steps) lists ≡ map steps_of programs → slice_get programs place ≡ Some p
    → slice_get lists place ≡ Some l → l.steps ≡ steps_of p
listed [] lists place p l same at here = absurd (let f : None ≡ Some p = at in cc)
listed (q ∷ qs) [] place p l same at here = absurd (let f : None ≡ Some l = here in cc)
listed (q ∷ qs) (k ∷ ks) zero p l same at here =
    let e : Some q ≡ Some p = at in
    let f : Some k ≡ Some l = here in
    let h : k.steps ≡ steps_of q = (cc) in
    let i : q ≡ p = (cc) in
    let j : k ≡ l = (cc) in
    ap (λ (z : Kept). z.steps) (sym j) ∙ (h ∙ ap steps_of i)
listed (q ∷ qs) (k ∷ ks) (suc place) p l same at here =
    let rest : map (λ l. l.steps) ks ≡ map steps_of qs = (cc) in
    listed qs ks place p l rest at here

abbrev nothing : Option ℕ
nothing = None

-- no total is known
pub none_known : (programs : List Workload) (config : Configuration) → AreTotals programs config (replicate 8 None)
none_known programs config = record {
  count = length-replicate 8 nothing;
  known = λ place p n at is.
      let low : place < length (replicate 8 nothing) = slice_get_within (replicate 8 nothing) place (Some n) is in
      let long : length (replicate 8 nothing) ≡ 8 = length-replicate 8 nothing in
      let some : get_or (replicate 8 nothing) place nothing ≡ Some n =
      get_or_from_slice_get (replicate 8 nothing) place (Some n) nothing is in
      let none : get_or (replicate 8 nothing) place nothing ≡ nothing =
      get_or-replicate 8 place nothing nothing (omega arith) in
      let both : nothing ≡ Some n = sym none ∙ some in
      absurd (cc);
}

at_set : (totals : List (Option ℕ)) (k : ℕ) (o w : Option ℕ) → slice_get (set totals k o) k ≡ Some w → o ≡ w
at_set totals k o w is =
    let low : k < length (set totals k o) = slice_get_within (set totals k o) k w is in
    let long : length (set totals k o) ≡ length totals = length-set totals k o in
    let old : get_or (set totals k o) k None ≡ o = get_or-set_same totals k o None (omega arith) in
    let new : get_or (set totals k o) k None ≡ w = get_or_from_slice_get (set totals k o) k w None is in
    sym old ∙ new

at_other : (totals : List (Option ℕ)) (k i : ℕ) (o w : Option ℕ) → i ≢ k → slice_get (set totals k o) i ≡ Some w
    → slice_get totals i ≡ Some w
at_other totals k i o w apart is =
    let low : i < length (set totals k o) = slice_get_within (set totals k o) i w is in
    let long : length (set totals k o) ≡ length totals = length-set totals k o in
    let old : get_or (set totals k o) i None ≡ get_or totals i None = get_or-set_other totals k i o None apart in
    let new : get_or (set totals k o) i None ≡ w = get_or_from_slice_get (set totals k o) i w None is in
    slice_get-get_or totals i None (omega arith) ∙ ap (λ (z : Option ℕ). Some z) (sym old ∙ new)

its_total : (config : Configuration) (o : Option ℕ) (p : Workload) (n : ℕ) → o ≡ Some n
    → IfSome o (λ n. total config p.image ≡ n) → total config p.image ≡ n
its_total config None p n is h = absurd (cc)
its_total config (Some m) p n is h = let e : m ≡ n = cc in h ∙ e

-- one more place is looked up, with or without a total
pub one_known : (programs : List Workload) (config : Configuration) (totals : List (Option ℕ)) (place : ℕ)
    (o : Option ℕ) → AreTotals programs config totals
    → ((p : Workload) → slice_get programs place ≡ Some p → IfSome o (λ n. total config p.image ≡ n))
    → AreTotals programs config (set totals place o)
one_known programs config totals place o are one = record {
  count = rw length-set are.count;
  known = λ k p n at is. elim (cases_order k place) [
    | inl same ↦
        let here : slice_get (set totals place o) place ≡ Some (Some n) =
        subst (λ i. slice_get (set totals place o) i ≡ Some (Some n)) same is in
        let it : slice_get programs place ≡ Some p = subst (λ i. slice_get programs i ≡ Some p) same at in
        its_total config o p n (at_set totals place o (Some n) here) (one p it)
    | inr (inl less) ↦ are.known k p n at (at_other totals place k o (Some n) (let z : k ≢ place = omega arith in z) is)
    | inr (inr greater) ↦ are.known k p n at (at_other totals place k o (Some n) (let z : k ≢ place = omega arith in
        z) is)
  ];
}

-- the total that the list at a program's place has for a configuration is the program's
pub list_total : (programs : List Workload) (lists : List Kept) (config : Configuration) (place : ℕ) (l : Kept)
    (o : Option ℕ) → IsKnowledge programs lists → slice_get lists place ≡ Some l
    → IfSome o (λ n. total_of (times_in config l.steps) ≡ n)
    → (p : Workload) → slice_get programs place ≡ Some p → IfSome o (λ n. total config p.image ≡ n)
list_total programs lists config place l None is here says p at = tt
list_total programs lists config place l (Some n) is here says p at =
    let same : l.steps ≡ steps_of p = listed programs lists place p l is.steps at here in
    let good : IsProgram p = subst IsProgram (get_or_from_slice_get programs place p p at)
    (is.ends place p (slice_get_within programs place p at)) in
    total_within p config good ∙ (ap (λ (steps : List Step). total_of (times_in config steps)) (sym same) ∙ says)

-- there is a list for each program
pub as_many : (programs : List Workload) (lists : List Kept) → IsKnowledge programs lists
    → length lists ≡ length programs
as_many programs lists is =
    sym (length-map _ _) ∙ (ap length is.steps ∙ length-map _ _)

-- so a list's place is below eight
pub among_eight : (place lists programs : ℕ) → place < lists → lists ≡ programs → programs ≤ 8 → place < 8
among_eight place lists programs low same few = omega (arith, low, same, few)

-- a list that learns stays that of its program
pub learnt_one : (programs : List Workload) (lists : List Kept) (place : ℕ) (l k : Kept) → IsKnowledge programs lists
    → l ≡ get_or lists place l → k.steps ≡ l.steps → IsKnowledge programs (set lists place k)
learnt_one programs lists place l k is here same =
    let e : k.steps ≡ (get_or lists place l).steps = same ∙ ap (λ (z : Kept). z.steps) here in
    record { few = is.few; ends = is.ends; steps = map-set_same (λ l. l.steps) lists place k l e ∙ is.steps }

-- a list for one more program
abbrev fresh : Workload → Kept
fresh p = record { steps = steps_of p; found = []; oldest = 0 }

pub one_list : (programs : List Workload) (i : ℕ) (p : Workload) (lists all : List Kept) (k : Kept)
    (steps : List Step) → all ≡ lists ++ k ∷ [] → i < length programs → p ≡ get_or programs i p
    → k ≡ record { steps = steps; found = []; oldest = 0 } → steps ≡ steps_of p
    → lists ≡ nothing_known (take i programs) → all ≡ nothing_known (take (i + 1) programs)
one_list programs i p lists all k steps is low at empty its before =
    let same : k ≡ fresh (get_or programs i p) =
    empty ∙ (ap (λ (x : List Step). record { steps = x; found = []; oldest = 0 }) its ∙ ap fresh at) in
    is ∙ (ap (λ (l : List Kept). l ++ k ∷ []) before
    ∙ (ap (λ (x : Kept). nothing_known (take i programs) ++ x ∷ []) same ∙ sym (map_more fresh programs i p low)))

-- and for all
pub all_fresh : (programs : List Workload) (i : ℕ) (lists : List Kept) → length programs ≤ i
    → lists ≡ nothing_known (take i programs) → lists ≡ nothing_known programs
all_fresh programs i lists past is = is ∙ ap nothing_known (take_all i programs past)

pub fresh_steps : (programs : List Workload) (lists : List Kept) → lists ≡ nothing_known programs
    → map (λ l. l.steps) lists ≡ map steps_of programs
fresh_steps programs lists is = ap (map (λ (l : Kept). l.steps)) is ∙ each programs
  where
    each : (ps : List Workload) → map (λ (l : Kept). l.steps) (nothing_known ps) ≡ map steps_of ps
    each [] = refl
    each (p ∷ ps) = ap (λ (x : List (List Step)). steps_of p ∷ x) (each ps)

-- lists: one is written, one more is looked up

get_set_other : {X : Type 0} (xs : List X) (i k : ℕ) (x : X) → (k ≡ i → ⊥) → slice_get (set xs i x) k ≡ slice_get xs k
get_set_other [] i k x apart = refl
get_set_other (y ∷ xs) zero zero x apart = absurd (apart refl)
get_set_other (y ∷ xs) zero (suc k) x apart = refl
get_set_other (y ∷ xs) (suc i) zero x apart = refl
get_set_other (y ∷ xs) (suc i) (suc k) x apart = get_set_other xs i k x (λ e. apart (ap suc e))

get_set_same : {X : Type 0} (xs : List X) (i : ℕ) (x : X) → i < length xs → slice_get (set xs i x) i ≡ Some x
get_set_same [] i x low = absurd (omega arith)
get_set_same (y ∷ xs) zero x low = refl
get_set_same (y ∷ xs) (suc i) x low = get_set_same xs i x (omega arith)

-- only the list at a place is written
pub only_there : (place : ℕ) (lists : List Kept) (k : Kept) → OnlyAt place lists (set lists place k)
only_there place lists k = record {
  count = length-set lists place k;
  others = λ i apart. get_set_other lists place i k apart;
}

pub nothing_written : (place : ℕ) (lists : List Kept) → OnlyAt place lists lists
nothing_written place lists = record { count = refl; others = λ i apart. refl }

some_same : {X : Type 0} (x y : X) → Some x ≡ Some y → x ≡ y
some_same x y e = (cc)

-- and it is learnt there
pub learnt_there : (config : Configuration) (place : ℕ) (lists : List Kept) (l k : Kept) → place < length lists
    → l ≡ get_or lists place l → HasLearnt config l k → IsLearntAt config place None lists (set lists place k)
learnt_there config place lists l k low at has = λ old new was is.
    let here : slice_get lists place ≡ Some l = slice_get_read lists (length lists) place l refl low at in
    let first : l ≡ old = some_same l old (sym here ∙ was) in
    let second : k ≡ new = some_same k new (sym (get_set_same lists place k low) ∙ is) in
    subst (λ (x : Kept). HasLearnt config old x) second (subst (λ (x : Kept). HasLearnt config x k) first has)

-- the same for the result, if it is Ok

pub learnt_total : {E : Type 0} (programs : List Workload) (lists : List Kept) (config : Configuration) (place : ℕ)
    (l : Kept) (r : Result ℕ E) → IsKnowledge programs lists → slice_get lists place ≡ Some l
    → IfOk r (λ n. total_of (times_in config l.steps) ≡ n) → IfOk r (λ n. IsTotalAt programs config place (Some n))
learnt_total programs lists config place l (Ok n) is here total = list_total programs lists config place l (Some n) is
    here total
learnt_total programs lists config place l (Err e) is here total = tt

pub learnt_ok : {E : Type 0} (config : Configuration) (place : ℕ) (lists : List Kept) (l k : Kept) (r : Result ℕ E)
    → place < length lists → l ≡ get_or lists place l → OnOk r (HasLearnt config l k)
    → OnOk r (IsLearntAt config place None lists (set lists place k))
learnt_ok config place lists l k (Ok n) low at has = learnt_there config place lists l k low at has
learnt_ok config place lists l k (Err e) low at has = tt

-- if the total was known, nothing is written
pub same_there : (config : Configuration) (place n : ℕ) (lists : List Kept)
    → IsLearntAt config place (Some n) lists lists
same_there config place n lists = λ old new was is. some_same new old (sym is ∙ was)

-- the totals so far are known by the lists so far
pub one_looked_up : (lists : List Kept) (config : Configuration) (known : List (Option ℕ)) (place : ℕ) (l : Kept)
    (o : Option ℕ) → place < length lists → place < length known → l ≡ get_or lists place l
    → o ≡ total_known config l.found → take place known ≡ take place (known_totals_on lists config)
    → take (place + 1) (set known place o) ≡ take (place + 1) (known_totals_on lists config)
one_looked_up lists config known place l o low here at is before =
    let f : Kept → Option ℕ = λ (x : Kept). total_known config x.found in
    let more : take (place + 1) (map f lists) ≡ take place (map f lists) ++ f l ∷ [] =
    take-map f (place + 1) lists ∙ (map_more f lists place l low
    ∙ (ap (λ (x : Option ℕ). map f (take place lists) ++ x ∷ []) (ap f (sym at))
    ∙ ap (λ (xs : List (Option ℕ)). xs ++ f l ∷ []) (sym (take-map f place lists)))) in
    take_more_set known place o here
    ∙ (ap (λ (x : Option ℕ). take place known ++ x ∷ []) is
    ∙ (ap (λ (xs : List (Option ℕ)). xs ++ f l ∷ []) before ∙ sym more))

-- learning, program by program

one_total : (programs : List Workload) (config : Configuration) (place n : ℕ) (totals : List ℕ)
    → place < length programs → place < length totals → take place totals ≡ take place (totals_on programs config)
    → ((p : Workload) → slice_get programs place ≡ Some p → total config p.image ≡ n)
    → take (place + 1) (set totals place n) ≡ take (place + 1) (totals_on programs config)
unfolding totals_on
one_total [] config place n totals low here before its = absurd (omega arith)
one_total (q ∷ qs) config place n totals low here before its =
    let f : Workload → ℕ = λ (p : Workload). total config p.image in
    let more : take (place + 1) (map f (q ∷ qs)) ≡ take place (map f (q ∷ qs)) ++ n ∷ [] =
    take-map f (place + 1) (q ∷ qs) ∙ (map_more f (q ∷ qs) place q low
    ∙ (ap (λ (x : ℕ). map f (take place (q ∷ qs)) ++ x ∷ [])
    (its (get_or (q ∷ qs) place q) (slice_get-get_or (q ∷ qs) place q low))
    ∙ ap (λ (xs : List ℕ). xs ++ n ∷ []) (sym (take-map f place (q ∷ qs))))) in
    take_more_set totals place n here ∙ (ap (λ (xs : List ℕ). xs ++ n ∷ []) before ∙ sym more)

learnt_here : (config : Configuration) (known : List (Option ℕ)) (old now new : List Kept) (place k : ℕ)
    → k ≡ place → slice_get now place ≡ slice_get old place
    → IsLearntAt config place (slice_index_or known place None) now new
    → IsLearntAt config k (slice_index_or known k None) old new
learnt_here config known old now new place k here same learnt = λ l m was is.
    subst (λ (j : ℕ). IsLearnt config (slice_index_or known j None) l m) (sym here)
    (learnt l m (same ∙ (ap (slice_get old) (sym here) ∙ was)) (ap (slice_get new) (sym here) ∙ is))

-- the knowledge that is learnt so far
pub record IsLearning (all : List Workload) (config : Configuration) (known : List (Option ℕ))
    (old now : KnowledgeOf) (place : ℕ) (totals : List ℕ) : Type 0 where
  pub programs : now.programs ≡ all
  pub sums : take place totals ≡ take place (totals_on all config)
  pub long : length totals ≡ 8
  pub count : length now.lists ≡ length old.lists
  pub learnt : (k : ℕ) → k < place → IsLearntAt config k (slice_index_or known k None) old.lists now.lists
  pub rest : (k : ℕ) → place ≤ k → slice_get now.lists k ≡ slice_get old.lists k

pub one_more_learnt : {programs : List Workload} {config : Configuration} {known : List (Option ℕ)}
    {old now new : KnowledgeOf} {place : ℕ} (n : ℕ) {totals : List ℕ} → length programs ≤ 8 → place < length programs
    → IsLearning programs config known old now place totals → new.programs ≡ now.programs
    → IsTotalAt now.programs config place (Some n) → OnlyAt place now.lists new.lists
    → IsLearntAt config place (slice_index_or known place None) now.lists new.lists
    → IsLearning programs config known old new (place + 1) (set totals place n)
one_more_learnt {programs} {config} {known} {old} {now} {new} {place} n {totals} few low is same total only learnt =
    let long : length totals ≡ 8 = is.long in
    record {
      programs = same ∙ is.programs;
      sums = one_total programs config place n totals low (omega arith) is.sums
          (λ p at. total p (ap (λ (ps : List Workload). slice_get ps place) is.programs ∙ at));
      long = length-set totals place n ∙ long;
      count = only.count ∙ is.count;
      learnt = λ k below. elim (cases_order k place) [
        | inl here ↦ λ l m was now_is. learnt_here config known old.lists now.lists new.lists place k here
            (is.rest place (omega arith)) learnt l m was now_is
        | inr (inl less) ↦ λ l m was now_is. is.learnt k less l m was
            (sym (only.others k (λ (e : k ≡ place). absurd (omega arith))) ∙ now_is)
        | inr (inr more) ↦ absurd (omega arith)
      ];
      rest = λ k later. only.others k (λ (e : k ≡ place). absurd (omega arith)) ∙ is.rest k (omega arith);
    }

pub learning_begins : (programs : List Workload) (config : Configuration) (known : List (Option ℕ)) (k : KnowledgeOf)
    → k.programs ≡ programs → IsLearning programs config known k k 0 (replicate 8 0)
learning_begins programs config known k same = record {
  programs = same;
  sums = refl;
  long = (let zero : ℕ = 0 in length-replicate 8 zero);
  count = refl;
  learnt = λ j below. absurd (omega arith);
  rest = λ j later. refl;
}

pub all_learnt : (programs : List Workload) (config : Configuration) (known : List (Option ℕ)) (old now : KnowledgeOf)
    (place : ℕ) (totals : List ℕ) → IsLearning programs config known old now place totals → length programs ≤ place
    → length old.lists ≡ length programs → place ≤ length programs
    → (take (length programs) totals ≡ totals_on programs config) × AreLearnt config known old.lists now.lists
unfolding totals_on
all_learnt programs config known old now place totals is past lists within =
    let same : place ≡ length programs = omega arith in
    let all : take place (totals_on programs config) ≡ totals_on programs config =
    take_all place (map (λ p. total config p.image) programs) (rw length-map past) in (
      ap (λ (n : ℕ). take n totals) (sym same) ∙ (is.sums ∙ all),
      record {
        count = is.count;
        each = λ k l m was now_is.
            let low : k < length old.lists = slice_get_within old.lists k l was in
            is.learnt k (omega arith) l m was now_is;
      },
    )

-- the total that is known at a place
pub known_at : (programs : List Workload) (config : Configuration) (totals : List (Option ℕ)) (place : ℕ)
    → AreTotals programs config totals → place < 8 → IsTotalAt programs config place (get_or totals place None)
known_at programs config totals place are low = λ p at.
    let eight : length totals ≡ 8 = are.count in
    it programs config totals place p (get_or totals place None) are at
    (slice_get-get_or totals place None (omega arith))
  where
    it : (programs : List Workload) (config : Configuration) (totals : List (Option ℕ)) (place : ℕ) (p : Workload)
        (o : Option ℕ) → AreTotals programs config totals → slice_get programs place ≡ Some p
        → slice_get totals place ≡ Some o → IfSome o (λ n. total config p.image ≡ n)
    it programs config totals place p None are at is = tt
    it programs config totals place p (Some n) are at is = are.known place p n at is

-- all are looked up
pub all_looked_up : (programs : List Workload) (lists : List Kept) (config : Configuration) (known : List (Option ℕ))
    (place : ℕ) → IsKnowledge programs lists → length lists ≤ place → place ≤ length lists
    → take place known ≡ take place (known_totals_on lists config)
    → take (length programs) known ≡ known_totals_on lists config
all_looked_up programs lists config known place is past within looked =
    let same : length lists ≡ length programs = as_many programs lists is in
    let here : length programs ≡ place = omega arith in
    let long : length (known_totals_on lists config) ≡ length lists = length-map _ _ in
    ap (λ (n : ℕ). take n known) here ∙ (looked ∙ take_all place (known_totals_on lists config) (omega arith))
