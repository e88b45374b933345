-- The places and the cycles of a log's steps and events; its events, in their order, are written as the log.
use Rattle.std.proofs.Common.{◌≡◌, ◌∙◌, ap, sym, subst, refl, arith, inl, inr, ℕ, zero, suc, ◌+◌, ◌<◌, ◌≤◌, ◌==◌}
use Rattle.std.proofs.Common.{Bool, false, cond, List, [], ◌∷◌, ◌++◌, append_assoc, length, map, Some, Ok, Err, Vec}
use Rattle.std.specs.Prelude.{All, IfOk, Result, nat_lt, not, ◌&&◌}
use Rattle.std.specs.List.{filter, flat_map, list_any, slice_get}
use Rattle.std.specs.List.Sorted.{ties}
use Rattle.std.specs.Ordering.{is_lt, nat_cmp}
use Rattle.std.proofs.lemmas.Bool.{cases_Bool, cases_order, eq-eqb, ne_eqb, lt-ltb, le-ltb}
use Rattle.std.proofs.lemmas.List.Elements.{All-append, All-cons, All-from_recursion, All-head, All-map, All-nil}
use Rattle.std.proofs.lemmas.List.Elements.{All-tail, All-weaker}
use Rattle.std.proofs.lemmas.List.Sorted.{All-permutation}
use Rattle.std.proofs.lemmas.List.Sums.{sum_by-cons}
use Rattle.tomex_rvexec.specs.declared.step.Step.{Step}
use Rattle.tomex_config.specs.Configuration.{Configuration}
use Rattle.tomex_timing.specs.Search.{total_of}
use Rattle.tomex_timing.specs.declared.times.Done.{Done}
use Rattle.tomex_timing.specs.declared.times.Times.{Times}
use Rattle.tomex_konata.specs.declared.entries.Entry.{Entry}
use Rattle.tomex_konata.specs.declared.events.Event.{Event}
use Rattle.tomex_konata.specs.declared.events.Kind.TheVariants.{Change}
use Rattle.tomex_konata.specs.Konata.{IsLogOf, cycles_of, entries_from, entry_of, gone_before, head_of, log_of}
use Rattle.tomex_run_views.specs.Chart.{first_issue}
use Rattle.tomex_run_views.specs.Excerpt.{IsExcerptOf, TimedSteps}
use Rattle.tomex_konata.specs.Kept.{ArePut, change_cycles, change_in, changes_of, events_of, once, out_of, events_text}
use Rattle.tomex_konata.proofs.Sorting.{filter_alike, rises}
use Rattle.tomex_konata.proofs.Written.{AreThere, cycles_are}

at_end : (pre : List Entry) (e : Entry) (es : List Entry) (n : ℕ) → length pre ≡ n
    → slice_get (pre ++ e ∷ es) n ≡ Some e
at_end [] e es zero long = refl
at_end [] e es (suc n) long = absurd (omega (arith, long))
at_end (p ∷ pre) e es zero long = absurd (omega (arith, long))
at_end (p ∷ pre) e es (suc n) long = at_end pre e es n (omega (arith, long))

one_longer : (pre : List Entry) (e : Entry) → length (pre ++ e ∷ []) ≡ suc (length pre)
one_longer [] e = refl
one_longer (p ∷ pre) e = omega (arith, one_longer pre e)

-- each entry is at the place of its number
pub there : (all pre : List Entry) (older : List Done) (steps : List Step) (times : List Times)
    → length pre ≡ length older
    → all ≡ pre ++ entries_from older steps times → AreThere all (entries_from older steps times)
there all pre older [] times long is = tt
there all pre older (s ∷ ss) [] long is = tt
there all pre older (s ∷ ss) (t ∷ ts) long is =
    let d : Done = record { step = s; at = t } in
    let rest = entries_from (d ∷ older) ss ts in (
      rw is (at_end pre (entry_of older d) rest (length older) long),
      there all (pre ++ entry_of older d ∷ []) (d ∷ older) ss ts
          (omega (arith, one_longer pre (entry_of older d), long))
          (is ∙ sym (append_assoc pre (entry_of older d ∷ []) rest)),
    )

pub as_many : (older : List Done) (steps : List Step) (times : List Times) → length times ≡ length steps
    → length (entries_from older steps times) ≡ length steps
as_many older [] times pairs = refl
as_many older (s ∷ ss) [] pairs = absurd (omega (arith, pairs))
as_many older (s ∷ ss) (t ∷ ts) pairs =
    omega (arith, as_many (record { step = s; at = t } ∷ older) ss ts (omega (arith, pairs)))

pub low : (n : ℕ) (older : List Done) (steps : List Step) (times : List Times) → length older + length steps ≤ n
    → All (λ e. e.id < n) (entries_from older steps times)
low n older [] times few = All-nil (λ e. e.id < n)
low n older (s ∷ ss) [] few = All-nil (λ e. e.id < n)
low n older (s ∷ ss) (t ∷ ts) few =
    let d : Done = record { step = s; at = t } in
    All-cons (λ e. e.id < n) (entry_of older d) (entries_from (d ∷ older) ss ts) (omega (arith, few))
    (low n (d ∷ older) ss ts (omega (arith, few)))

pub ended : (n : ℕ) (older : List Done) (steps : List Step) (times : List Times) → total_of times < n
    → All (λ e. e.at.end < n) (entries_from older steps times)
ended n older [] times bound = All-nil (λ e. e.at.end < n)
ended n older (s ∷ ss) [] bound = All-nil (λ e. e.at.end < n)
ended n older (s ∷ ss) (t ∷ ts) bound =
    let d : Done = record { step = s; at = t } in
    All-cons (λ e. e.at.end < n) (entry_of older d) (entries_from (d ∷ older) ss ts) (omega (arith, bound))
    (ended n (d ∷ older) ss ts (omega (arith, bound)))

-- a property of each number holds for each, taken once
once_all : (P : ℕ → Type 0) (cs : List ℕ) → All P cs → All P (once cs)
once_all P [] all = all
once_all P (c ∷ cs) all = elim (cases_Bool (list_any (λ d. d == c) cs)) [
  | inl e ↦ rw e (once_all P cs (All-tail P c cs all))
  | inr e ↦ rw e (All-cons P c (once cs) (All-head P c cs all) (once_all P cs (All-tail P c cs all)))
]

all_changes : (P : Event → Type 0) (last : ℕ) (es : List Entry) → All (λ e. All P (changes_of last e)) es
    → All P (flat_map (changes_of last) es)
all_changes P last [] all = All-nil P
all_changes P last (e ∷ es) all =
    All-append P (changes_of last e) (flat_map (changes_of last) es)
    (All-head (λ e. All P (changes_of last e)) e es all)
    (all_changes P last es (All-tail (λ e. All P (changes_of last e)) e es all))

-- the events' places are those of the steps
pub placed : (n last : ℕ) (es : List Entry) → All (λ e. e.id < n) es → All (λ v. v.id < n) (events_of last es)
placed n last es all =
    All-append (λ v. v.id < n) (flat_map (changes_of last) es) (map out_of es)
    (all_changes (λ v. v.id < n) last es
    (All-weaker (λ e. e.id < n) (λ e. All (λ v. v.id < n) (changes_of last e)) each es all))
    (All-map (λ v. v.id < n) out_of es all)
  where
    each : (e : Entry) → e.id < n → All (λ v. v.id < n) (changes_of last e)
    each e less = All-map (λ v. v.id < n) (change_in e.id) (once (change_cycles last e)) (λ k d within. less)

-- and none comes after the last cycle
pub timely : (last : ℕ) (es : List Entry) → All (λ e. e.at.end < last) es
    → All (λ v. v.cycle ≤ last) (events_of last es)
timely last es all =
    All-append (λ v. v.cycle ≤ last) (flat_map (changes_of last) es) (map out_of es)
    (all_changes (λ v. v.cycle ≤ last) last es
    (All-weaker (λ e. e.at.end < last) (λ e. All (λ v. v.cycle ≤ last) (changes_of last e)) each es all))
    (All-map (λ v. v.cycle ≤ last) out_of es
    (All-weaker (λ e. e.at.end < last) (λ e. e.at.end + 1 ≤ last) (λ e less. omega (arith, less)) es all))
  where
    some : (e : Entry) → All (λ c. c ≤ last) (change_cycles last e)
    some e = All-from_recursion (λ c. c ≤ last) (change_cycles last e) (
      omega arith,
      (
        omega arith,
        (
          omega arith,
          (omega arith, (omega arith, (omega arith, (omega arith, (omega arith, (omega arith, tt)))))),
        ),
      ),
    )

    each : (e : Entry) → e.at.end < last → All (λ v. v.cycle ≤ last) (changes_of last e)
    each e less = All-map (λ v. v.cycle ≤ last) (change_in e.id) (once (change_cycles last e))
        (once_all (λ c. c ≤ last) (change_cycles last e) (some e))

none_gone : (es : List Entry) → gone_before 0 es ≡ 0
none_gone [] = refl
none_gone (e ∷ es) =
    let a : gone_before 0 (e ∷ es) ≡ cond (nat_lt (e.at.end + 1) 0) 1 0 + gone_before 0 es =
    sum_by-cons (λ (d : Entry). cond (nat_lt (d.at.end + 1) 0) 1 0) e es in
    let b : nat_lt (e.at.end + 1) 0 ≡ false = le-ltb (e.at.end + 1) 0 (omega arith) in
    rw (a, b) (omega (arith, none_gone es))

-- the events of a log's steps, in their order, are written as the log
pub is_log : (number last since : ℕ) (es : List Entry) (vs : List Event) → AreThere es es
    → All (λ e. e.at.end < last) es
    → ArePut (events_of last es) vs → events_text number es since 0 vs ≡ cycles_of number es since 0 (last + 1)
is_log number last since es vs all bound put =
    let high : All (λ v. v.cycle ≤ last) vs =
    All-permutation (λ v. v.cycle ≤ last) (events_of last es) vs put.same (timely last es bound) in
    ap (λ (g : ℕ). events_text number es since g vs) (sym (none_gone es))
    ∙ cycles_are number last es (last + 1) 0 since vs all (omega arith)
    (rises (λ v. v.cycle) 0 last vs put.rise (λ i d within. omega arith) high) (λ s le. put.keep s)

-- the same for the steps that were gathered
pub written_is : (number since last : ℕ) (steps : List Step) (times : List Times) (es kept : List Entry)
    (vs put : List Event)
    → es ≡ entries_from [] steps times → kept ≡ es → last ≡ total_of times + 1 → put ≡ vs
    → ArePut (events_of last es) vs
    → events_text number kept since 0 put ≡ cycles_of number (entries_from [] steps times) since 0 (total_of times + 2)
written_is number since last steps times es kept vs put is same end put_is order =
    let bound : total_of times < last = omega (arith, end) in
    let more : last + 1 ≡ total_of times + 2 = omega (arith, end) in
    let all = entries_from [] steps times in
    rw (same, put_is, is, ← more)
    (is_log number last since all vs (there all [] [] steps times refl refl) (ended last [] steps times bound)
    (subst (λ (es : List Entry). ArePut (events_of last es) vs) is order))

-- their places are in the list
pub all_placed : (last : ℕ) (steps : List Step) (times : List Times) (es kept : List Entry) (vs put : List Event)
    → length times ≡ length steps → es ≡ entries_from [] steps times → kept ≡ es → put ≡ vs
    → ArePut (events_of last es) vs
    → All (λ v. v.id < length kept) put
all_placed last steps times es kept vs put pairs is same put_is order =
    let many : length es ≡ length steps = ap length is ∙ as_many [] steps times pairs in
    let each : All (λ e. e.id < length es) es =
    subst (λ (fs : List Entry). All (λ e. e.id < length es) fs) (sym is)
    (low (length es) [] steps times (omega (arith, many))) in
    rw (same, put_is) (All-permutation (λ v. v.id < length es) (events_of last es) vs order.same
    (placed (length es) last es each))

-- two events tie if they have the same cycle
pub tie : (t c : ℕ) → (not (is_lt (nat_cmp t c)) && not (is_lt (nat_cmp c t))) ≡ (c == t)
tie t c = elim (cases_order t c) [
  | inl e ↦ rw (le-ltb t c (omega (arith, e)), le-ltb c t (omega (arith, e)), eq-eqb t c e, eq-eqb c t (sym e)) refl
  | inr (inl l) ↦ rw (lt-ltb t c l, ne_eqb c t (omega (arith, l))) refl
  | inr (inr l) ↦ rw (
    le-ltb t c (omega (arith, l)),
    ne_eqb t c (omega (arith, l)),
    lt-ltb c t l,
    ne_eqb c t
        (omega (arith, l)),
  ) refl
]

abbrev by_cycle : Event → Event → Bool
by_cycle x y = is_lt (nat_cmp x.cycle y.cycle)

pub kept : (vs ws : List Event) → ((x : Event) → filter (ties by_cycle x) ws ≡ filter (ties by_cycle x) vs)
    → (t : ℕ) → filter (λ v. v.cycle == t) ws ≡ filter (λ v. v.cycle == t) vs
kept vs ws stable t =
    let x : Event = record { cycle = t; kind = Change; id = 0 } in
    sym (filter_alike (ties by_cycle x) (λ v. v.cycle == t) (λ v. tie t v.cycle) ws)
    ∙ (stable x ∙ filter_alike (ties by_cycle x) (λ v. v.cycle == t) (λ v. tie t v.cycle) vs)

-- the log is its head and then its cycles
pub log_is : (number first : ℕ) (steps : List Step) (times : List Times) (lines : List ℕ) → first ≡ first_issue times
    → lines ≡ cycles_of number (entries_from [] steps times) first 0 (total_of times + 2)
    → head_of first ++ lines ≡ log_of number steps times
log_is number first steps times lines is those =
    ap (λ (z : List ℕ). head_of first ++ z) those
    ∙ ap (λ (f : ℕ). head_of f ++ cycles_of number (entries_from [] steps times) f 0 (total_of times + 2)) is

-- a text that is made from lines is made from equal lines
pub made_of : {B E : Type 0} (r : Result (Vec ℕ B) E) (lines whole : List ℕ) → lines ≡ whole
    → IfOk r (λ text. text.items ≡ lines) → IfOk r (λ text. text.items ≡ whole)
made_of (Ok text) lines whole is made = made ∙ is
made_of (Err e) lines whole is made = tt

-- a text that begins with nothing
pub headed : (none head text bytes lines : List ℕ) (first : ℕ) → none ≡ [] → head ≡ none ++ head_of first
    → text ≡ head ++ lines → bytes ≡ text → bytes ≡ head_of first ++ lines
headed none head text bytes lines first empty begun more made =
    made ∙ (more ∙ ap (λ (z : List ℕ). z ++ lines) (begun ∙ ap (λ (z : List ℕ). z ++ head_of first) empty))

-- the text is the requested log
pub logged : (config : Configuration) (run : List Step) (number count : ℕ) (e : TimedSteps) (text : List ℕ)
    → IsExcerptOf config run number count e → text ≡ log_of e.number e.steps e.times
    → IsLogOf config run number count text
logged config run number count e text asked is = record {
  there = asked.there;
  is = is ∙ ap (λ (x : TimedSteps). log_of x.number x.steps x.times) asked.is;
}
