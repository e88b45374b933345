-- The row of a link's step among those of the run.
use Rattle.std.proofs.Common.{ℕ, ◌+◌, ◌<◌, ◌≤◌, ◌≡◌, ◌∙◌, ap, subst, sym, Bool, true, false, arith, refl, inl, inr}
use Rattle.std.proofs.Common.{List, [], ◌∷◌, ◌++◌, append_assoc, length, reverse}
use Rattle.std.specs.Prelude.{◌==◌, All}
use Rattle.std.specs.List.{AllByRecursion, filter}
use Rattle.std.proofs.lemmas.Bool.{cases_Bool, eq-eqb, ne_eqb}
use Rattle.std.proofs.lemmas.List.{reverse-append, reverse-reverse}
use Rattle.std.proofs.lemmas.List.Elements.{All-append, All-from_recursion, filter-append}
use Rattle.tomex_rvexec.specs.declared.step.Step.{Step}
use Rattle.tomex_config.specs.Configuration.{Configuration, IsWithinLimits}
use Rattle.tomex_timing.specs.Needs.{waits_in}
use Rattle.tomex_timing.specs.Recurrence.{AreTimed}
use Rattle.tomex_timing.specs.Search.{history, times_in, times_of}
use Rattle.tomex_timing.specs.declared.need.Waits.{Waits}
use Rattle.tomex_timing.specs.declared.times.Done.{Done}
use Rattle.tomex_timing.specs.declared.times.Times.{Times}
use Rattle.tomex_timing.proofs.Histories.{are_timed, history_more, length-history}
use Rattle.tomex_path.specs.declared.event.Holder.{Holder}
use Rattle.tomex_path.specs.declared.event.Holder.TheVariants.{Last}
use Rattle.tomex_path.specs.declared.link.Link.{Link}
use Rattle.tomex_path.specs.Holds.{passes}
use Rattle.tomex_path.specs.Path.{hold_by, link_of, links, path_of}
use Rattle.tomex_snapshots.specs.Entries.{entries_from, entries_of}
use Rattle.tomex_snapshots.specs.declared.entries.Entry.{Entry}
use Rattle.tomex_frames.proofs.Placed.{entries_more, entry_at}

-- what a filter keeps

filter_none : {X : Type 0} (p : X → Bool) (xs : List X) → AllByRecursion (λ x. p x ≡ false) xs → filter p xs ≡ []
filter_none p [] none = refl
filter_none p (x ∷ xs) none = rw none.0 (filter_none p xs none.1)

filter_both : {X : Type 0} (p q : X → Bool) (xs : List X) → filter p (filter q xs) ≡ filter q (filter p xs)
filter_both p q [] = refl
filter_both {X} p q (x ∷ xs) = elim (cases_Bool (p x)) [
  | inl a ↦ elim (cases_Bool (q x)) [
    | inl b ↦ rw (a, b, a) (ap (λ (z : List X). x ∷ z) (filter_both p q xs))
    | inr b ↦ rw (a, b) (filter_both p q xs)
  ]
  | inr a ↦ elim (cases_Bool (q x)) [
    | inl b ↦ rw (a, b, a) (filter_both p q xs)
    | inr b ↦ rw (a, b) (filter_both p q xs)
  ]
]

pub one_kept : {X : Type 0} (p q : X → Bool) (xs : List X) (x : X) → filter p xs ≡ x ∷ [] → q x ≡ true
    → filter p (filter q xs) ≡ x ∷ []
one_kept p q xs x is kept = filter_both p q xs ∙ rw (is, kept) refl

-- the step of a link

pub record IsLinkOf (config : Configuration) (h : List Done) (l : Link) : Type 0 where
  pub by : Holder
  pub newer : List Done
  pub d : Done
  pub older : List Done
  pub split : h ≡ newer ++ (d ∷ older)
  pub passes : passes by older d ≡ true
  pub is : l ≡ link_of config by older d

are_links : (config : Configuration) (by : Holder) (h newer whole : List Done) → whole ≡ newer ++ h
    → AllByRecursion (IsLinkOf config whole) (links config by h)
are_links config by [] newer whole split = tt
are_links config by (d ∷ older) newer whole split =
    let more : whole ≡ (newer ++ (d ∷ [])) ++ older = split ∙ sym (append_assoc newer (d ∷ []) older) in
    elim (cases_Bool (passes by older d)) [
      | inl first ↦ rw first (
        record { by = by; newer = newer; d = d; older = older; split = split; passes = first; is = refl },
        are_links config (hold_by config by older d).by older (newer ++ (d ∷ [])) whole more,
      )
      | inr other ↦ rw other (are_links config by older (newer ++ (d ∷ [])) whole more)
    ]

all_turned : (P : Link → Type 0) (ls : List Link) → AllByRecursion P ls → All P (reverse ls)
all_turned P [] a = All-from_recursion P [] tt
all_turned P (l ∷ ls) a =
    rw (reverse-append (l ∷ []) ls)
    (All-append P (reverse ls) (l ∷ []) (all_turned P ls a.1) (All-from_recursion P (l ∷ []) (a.0, tt)))

pub links_of_steps : (config : Configuration) (h : List Done) → All (IsLinkOf config h) (path_of config h)
links_of_steps config h =
    all_turned (IsLinkOf config h) (links config Last h) (are_links config Last h [] h refl)

pub timed_older : (config : Configuration) (newer rest : List Done) → AreTimed config (newer ++ rest)
    → AreTimed config rest
timed_older config [] rest timed = timed
timed_older config (d ∷ newer) rest timed = timed_older config newer rest timed.1

-- steps are numbered in order

numbered : (number from n : ℕ) (xs : List Step) (times : List Times) (waits : List Waits) → number + length xs ≤ n
    → AllByRecursion (λ (e : Entry). (n == e.number) ≡ false) (entries_from number from xs times waits)
numbered number from n [] times waits low = tt
numbered number from n (x ∷ xs) [] waits low = tt
numbered number from n (x ∷ xs) (at ∷ times) [] low = tt
numbered number from n (x ∷ xs) (at ∷ times) (w ∷ waits) low = (
  ne_eqb n number (λ e. let f : n ≡ number = e in absurd (omega (arith, low, f))),
  numbered (number + 1) at.issue n xs times waits (omega (arith, low)),
)

-- those of a run have its steps' numbers
none_after : (config : Configuration) (xs : List Step) (n : ℕ) → length xs < n
    → filter (λ e. n == e.number) (entries_of config xs) ≡ []
none_after config xs n later = filter_none (λ e. n == e.number) (entries_of config xs)
    (numbered 1 1 n xs (times_in config xs) (waits_in config xs) (omega (arith, later)))

pub row_back : (config : Configuration) (ys : List Step) (newer older : List Done) (d : Done) → IsWithinLimits config
    → history config (reverse ys) ≡ newer ++ (d ∷ older)
    → filter (λ e. length older + 1 == e.number) (entries_of config (reverse ys))
    ≡ entry_at (length older + 1) config older d ∷ []
row_back config [] [] older d good split = absurd (cc)
row_back config [] (z ∷ newer) older d good split = absurd (cc)
row_back config (y ∷ ys) newer older d good split =
    at (λ newer split. row_back config ys newer older d good split) newer split
  where
    xs : List Step
    xs = reverse ys

    h : List Done
    h = history config xs

    own : Done
    own = record { step = y; at = times_of config h y }

    more : reverse (y ∷ ys) ≡ xs ++ (y ∷ [])
    more = reverse-append (y ∷ []) ys

    e : Entry
    e = entry_at (1 + length xs) config h own

    n : ℕ
    n = length older + 1

    all : filter (λ e. n == e.number) (entries_of config (reverse (y ∷ ys)))
        ≡ filter (λ e. n == e.number) (entries_of config xs) ++ filter (λ e. n == e.number) (e ∷ [])
    all = ap (λ (zs : List Step). filter (λ e. n == e.number) (entries_of config zs)) more
        ∙ (ap (filter (λ e. n == e.number)) (entries_more config xs y good)
        ∙ filter-append (λ e. n == e.number) (entries_of config xs) (e ∷ []))

    whole : history config (reverse (y ∷ ys)) ≡ own ∷ h
    whole = ap (history config) more ∙ history_more config xs y

    entry_same : (m : ℕ) (g : List Done) (x : Done) → m ≡ n → x ≡ d → g ≡ older
        → entry_at m config g x ∷ [] ≡ entry_at n config older d ∷ []
    entry_same m g x a b c = rw (a, b, c) refl

    at : ((newer : List Done) → history config xs ≡ newer ++ (d ∷ older)
        → filter (λ e. n == e.number) (entries_of config xs) ≡ entry_at n config older d ∷ []) → (newer : List Done)
        → history config (reverse (y ∷ ys)) ≡ newer ++ (d ∷ older)
        → filter (λ e. n == e.number) (entries_of config (reverse (y ∷ ys))) ≡ entry_at n config older d ∷ []
    at before [] split =
        let same : own ∷ h ≡ d ∷ older = sym whole ∙ split in
        let step : own ≡ d = cc in
        let rest : h ≡ older = cc in
        let count : length h ≡ length xs = length-history config xs in
        let number : 1 + length xs ≡ n = omega (arith, count, ap length rest) in
        let here : (n == 1 + length xs) ≡ true = eq-eqb n (1 + length xs) (sym number) in
        let none = none_after config xs n (omega (arith, number)) in
        all ∙ (rw (none, here) refl ∙ entry_same (1 + length xs) h own number step rest)
    at before (z ∷ newer) split =
        let same : own ∷ h ≡ z ∷ (newer ++ (d ∷ older)) = sym whole ∙ split in
        let rest : h ≡ newer ++ (d ∷ older) = cc in
        let count : length h ≡ length xs = length-history config xs in
        let low : n ≤ length h = rw rest (longer newer) in
        let other : (n == 1 + length xs) ≡ false =
        ne_eqb n (1 + length xs) (λ f. let g : n ≡ 1 + length xs = f in absurd (omega (arith, low, count, g))) in
        all ∙ rw (before newer rest, other) refl
      where
        longer : (newer : List Done) → n ≤ length (newer ++ (d ∷ older))
        longer [] = omega arith
        longer (x ∷ newer) = let l = longer newer in omega (arith, l)

-- the row of a link's step
pub row_of : (config : Configuration) (steps : List Step) (newer older : List Done) (d : Done) → IsWithinLimits config
    → history config steps ≡ newer ++ (d ∷ older)
    → filter (λ e. length older + 1 == e.number) (entries_of config steps)
    ≡ entry_at (length older + 1) config older d ∷ []
row_of config steps newer older d good split =
    let back : reverse (reverse steps) ≡ steps = reverse-reverse steps in
    rw back at (row_back config (reverse steps) newer older d good (rw back split))

pub timed_at : (config : Configuration) (steps : List Step) (newer older : List Done) (d : Done)
    → IsWithinLimits config → history config steps ≡ newer ++ (d ∷ older) → AreTimed config (d ∷ older)
timed_at config steps newer older d good split =
    timed_older config newer (d ∷ older) (subst (AreTimed config) split (are_timed config steps good))
