-- Operands: which are there, and what a broadcast makes of those that wait.
use Rattle.tomex_timing.proofs.Holders.{station_there}
use Rattle.tomex_cycle.proofs.Words.{nat_lt, if◌then◌else◌, ◌&&◌, ◌==◌, not, is_some, is_none, cases_Bool, nat_tests}
use Rattle.tomex_cycle.proofs.Words.{ltb-true, ltb-false, lt-ltb, le-ltb, and_parts, eqb-true, eqb-false, eq-eqb}
use Rattle.tomex_cycle.proofs.Words.{Loaded, Configuration, PoolId, dest_needs_pool, source_end, writer_end, IsTimed}
use Rattle.tomex_cycle.proofs.Words.{Operand, result_of, byte_after, register_after, is_number, step_dest, step_pool}
use Rattle.tomex_cycle.proofs.Words.{Value, Tag, Done, field_of, field_from, producer, tag_of, unsent_tag, steps_in}
use Rattle.tomex_cycle.proofs.Words.{holds_place, place_of, sent_at, field_after, is_there, place_of_tag, IsUpTo}
use Rattle.tomex_cycle.proofs.Words.{unit_with_pool, ℕ, ◌+◌, ◌<◌, ◌≤◌, ◌≡◌, ◌∙◌, true, false, arith, refl, List, []}
use Rattle.tomex_cycle.proofs.Words.{◌∷◌, ◌++◌, Option, Some, None, ap, sym, inl, inr, append_assoc}
use Rattle.tomex_timing.specs.declared.tables.Field.TheVariants.{Waits}
use Rattle.tomex_cycle.proofs.Places.{is_vacant, vacant, not_vacant, older_up_to, part_up_to}
use Rattle.tomex_cycle.proofs.Runs.{reach, starts_after}

pub tag_there : {config : Configuration} (d : Done) {older : List Done} (t : ℕ) → IsTimed config older d.step d.at
    → d.at.issue ≤ t → t < d.at.end → (tag : Tag) × (tag_of d ≡ Some tag)
tag_there {config} d {older} t timed l k = station_there config d older timed (omega arith)

none_test : {i : Loaded} {config : Configuration} (t : ℕ) (h : List Done) (r : ℕ) → IsUpTo i config t h
    → is_none (producer t h r) ≡ nat_lt (writer_end h r) (t + 1)
none_test t [] r up = rw (lt-ltb 0 (t + 1) (omega arith)) refl
none_test t (d ∷ older) r up = elim (cases_Bool (is_number (step_dest d.step) r)) [
  | inr e ↦ rw e (none_test t older r (older_up_to up))
  | inl e ↦ elim (cases_Bool (nat_lt t d.at.end)) [
    | inl l ↦
        let k : t < d.at.end = ltb-true _ _ l in
        let tag = tag_there d t up.timed.0 up.issued.0 k in
        rw (e, l, tag.1, le-ltb d.at.end (t + 1) (omega arith)) refl
    | inr l ↦
        let k : d.at.end ≤ t = ltb-false _ _ l in
        rw (e, l, lt-ltb d.at.end (t + 1) (omega arith)) refl
  ]
]

there_from : (v : ℕ) (tag : Option Tag) → is_there (field_from v tag) ≡ is_none tag
there_from v None = refl
there_from v (Some tag) = refl

-- an operand is there after cycle t exactly if its producer has ended before the next one: the recurrence's test
pub there_test : {i : Loaded} {config : Configuration} (t : ℕ) (h : List Done) (o : Option Operand)
    → IsUpTo i config t h → is_there (field_of t h o) ≡ nat_lt (source_end h o) (t + 1)
there_test t h None up = rw (lt-ltb 0 (t + 1) (omega arith)) refl
there_test t h (Some o) up = there_from o.value (producer t h o.register) ∙ none_test t h o.register up

-- who holds no place sends nothing from it
pub silent : (i : Loaded) (t u x : ℕ) (h : List Done) → u ≡ t + 1 → is_vacant t x h ≡ true → sent_at i u h x ≡ None
silent i t u x [] e free = refl
silent i t u x (d ∷ older) e free =
    elim (cases_Bool (is_number (place_of d) x && (is_some (step_dest d.step) && (d.at.end == u)))) [
      | inr k ↦ rw k (silent i t u x older e (and_parts (not (holds_place t x d)) (is_vacant t x older) free).1)
      | inl k ↦
          let a = and_parts (is_number (place_of d) x) (is_some (step_dest d.step) && (d.at.end == u)) k in
          let b : d.at.end ≡ u = eqb-true _ _ (and_parts (is_some (step_dest d.step)) (d.at.end == u) a.1).1 in
          let held : holds_place t x d ≡ true = rw (a.0, lt-ltb t d.at.end (omega arith)) refl in
          let z : not (holds_place t x d) ≡ true = (and_parts (not (holds_place t x d)) (is_vacant t x older) free).0 in
          let f : not true ≡ true = rw held at z in
          absurd (cc)
    ]

-- what w sends from its place in cycle u
abbrev sends : Loaded → ℕ → Done → List Done → Option ℕ
sends i u w older = if w.at.end == u then Some (result_of w.step (byte_after i (steps_in older))) else None

sent_here : {i : Loaded} {config : Configuration} (t u x : ℕ) (w : Done) (older : List Done)
    → IsUpTo i config u (w ∷ older) → u ≡ t + 1 → is_some (step_dest w.step) ≡ true → is_number (place_of w) x ≡ true
    → sent_at i u (w ∷ older) x ≡ sends i u w older
sent_here {i} t u x w older up e dest at = elim (cases_Bool (w.at.end == u)) [
  | inl k ↦ rw (at, dest, k) refl
  | inr k ↦ rw (at, dest, k) (silent i t u x older e (vacant w older t x up (omega arith) at))
]

-- and nothing younger is sent from it
pub sent_newer : {i : Loaded} {config : Configuration} (t u x : ℕ) (newer h : List Done)
    → IsUpTo i config u (newer ++ h) → u ≡ t + 1
    → ((n : Done) (between : List Done) → is_vacant t x (between ++ h) ≡ true → ⊥)
    → sent_at i u (newer ++ h) x ≡ sent_at i u h x
sent_newer t u x [] h up e held = refl
sent_newer t u x (n ∷ newer) h up e held = elim (cases_Bool (is_number (place_of n) x)) [
  | inl at ↦ absurd (held n newer (vacant n (newer ++ h) t x up (omega arith) at))
  | inr at ↦ rw at (sent_newer t u x newer h (older_up_to up) e held)
]

-- what writes a register ends after its issue
pub dest_later : {i : Loaded} {config : Configuration} {s : ℕ} (d : Done) (older : List Done)
    → IsUpTo i config s (d ∷ older) → is_some (step_dest d.step) ≡ true → d.at.issue < d.at.end
dest_later d older up dest =
    let pool : is_some (step_pool d.step) ≡ true = of (step_pool d.step) refl in
    let r = reach d older up.lawful up.timed in
    let l : d.at.issue < d.at.start = starts_after d up.timed.0 (unit_with_pool d.step ∙ pool) in
    omega arith
  where
    of : (o : Option PoolId) → step_pool d.step ≡ o → is_some o ≡ true
    of None e = let z : true ≡ false = sym dest ∙ ap is_some (dest_needs_pool d.step e) in absurd (cc)
    of (Some p) e = refl

-- the youngest writer of a register, if any
pub data Writer (i : Loaded) (r : ℕ) (h : List Done) : Type 0 where
  nobody : ((t : ℕ) → producer t h r ≡ None) → Writer i r h
  writes : (newer : List Done) (w : Done) (older : List Done) → h ≡ newer ++ (w ∷ older)
      → is_some (step_dest w.step) ≡ true → ((t : ℕ) → producer t h r ≡ unsent_tag t w)
      → register_after i (steps_in h) r ≡ result_of w.step (byte_after i (steps_in older)) → Writer i r h

dest_some : (o : Option ℕ) (r : ℕ) → is_number o r ≡ true → is_some o ≡ true
dest_some o r e = grind (arith, nat_tests)

writer_on : (i : Loaded) (r : ℕ) (d : Done) (older : List Done) → is_number (step_dest d.step) r ≡ false
    → Writer i r older → Writer i r (d ∷ older)
writer_on i r d older e (nobody none) = nobody (λ t. rw e (none t))
writer_on i r d older e (writes newer w o split dest from value) =
    writes (d ∷ newer) w o (ap (λ xs. d ∷ xs) split) dest (λ t. rw e (from t)) (rw e value)

pub writer_is : (i : Loaded) (r : ℕ) (h : List Done) → Writer i r h
writer_is i r [] = nobody (λ t. refl)
writer_is i r (d ∷ older) = elim (cases_Bool (is_number (step_dest d.step) r)) [
  | inl e ↦ writes [] d older refl (dest_some (step_dest d.step) r e) (λ t. rw e refl) (rw e refl)
  | inr e ↦ writer_on i r d older e (writer_is i r older)
]

-- what is sent from the place of w, which holds it
pub sent_by : {i : Loaded} {config : Configuration} (t u x : ℕ) (newer : List Done) (w : Done) (older : List Done)
    → IsUpTo i config u (newer ++ (w ∷ older)) → u ≡ t + 1 → is_some (step_dest w.step) ≡ true
    → holds_place t x w ≡ true → sent_at i u (newer ++ (w ∷ older)) x ≡ sends i u w older
sent_by t u x newer w older up e dest held =
    let at : is_number (place_of w) x ≡ true = (and_parts (is_number (place_of w) x) (nat_lt t w.at.end) held).0 in
    sent_newer t u x newer (w ∷ older) up e (λ n between free. not_vacant t x between w older held free)
    ∙ sent_here t u x w older (part_up_to newer up) e dest at

waits_of : (v : ℕ) (w : Done) (t : ℕ) (tag : Tag) → tag_of w ≡ Some tag → t < w.at.end
    → field_from v (unsent_tag t w) ≡ Waits tag
waits_of v w t tag e l = rw (lt-ltb t w.at.end l, e) refl

value_of : (v : ℕ) (w : Done) (t : ℕ) → w.at.end ≤ t → field_from v (unsent_tag t w) ≡ Value v
value_of v w t l = rw (le-ltb t w.at.end l) refl

place_is : (w : Done) (tag : Tag) (t : ℕ) → tag_of w ≡ Some tag → t < w.at.end
    → holds_place t (place_of_tag tag) w ≡ true
place_is w tag t e l = rw (e, lt-ltb t w.at.end l, eq-eqb (place_of_tag tag) (place_of_tag tag) refl) refl

heard_from : {i : Loaded} {config : Configuration} (t u v : ℕ) (newer : List Done) (w : Done) (older : List Done)
    → IsUpTo i config u (newer ++ (w ∷ older)) → u ≡ t + 1 → is_some (step_dest w.step) ≡ true
    → v ≡ result_of w.step (byte_after i (steps_in older)) → field_after (sent_at i u (newer ++ (w ∷ older)))
    (field_from v (unsent_tag t w)) ≡ field_from v (unsent_tag u w)
heard_from {i} {config} t u v newer w older up e dest value = elim (cases_Bool (nat_lt t w.at.end)) [
  | inr l ↦
      let k : w.at.end ≤ t = ltb-false _ _ l in
      rw (value_of v w t k, value_of v w u (omega arith)) refl
  | inl l ↦
      let k : t < w.at.end = ltb-true _ _ l in
      let part = part_up_to newer up in
      let tag = station_there config w older part.timed.0 (dest_later w older part dest) in
      let sent : sent_at i u (newer ++ (w ∷ older)) (place_of_tag tag.0) ≡ sends i u w older = sent_by t u
      (place_of_tag tag.0) newer w older up e dest (place_is w tag.0 t tag.1 k) in
      elim (cases_Bool (w.at.end == u)) [
        | inl m ↦
            let n : w.at.end ≡ u = eqb-true _ _ m in
            let f : sends i u w older ≡ Some (result_of w.step (byte_after i (steps_in older))) = rw m refl in
            rw (waits_of v w t tag.0 tag.1 k, value_of v w u (omega arith)) (rw (sent, f, value) refl)
        | inr m ↦
            let n : w.at.end ≡ u → ⊥ = eqb-false _ _ m in
            let f : sends i u w older ≡ None = rw m refl in
            rw (waits_of v w t tag.0 tag.1 k, waits_of v w u tag.0 tag.1 (omega arith)) (rw (sent, f) refl)
      ]
]

heard_by : {i : Loaded} {config : Configuration} (t u : ℕ) (newer older : List Done) (o : Operand)
    → IsUpTo i config u (newer ++ older) → u ≡ t + 1 → o.value ≡ register_after i (steps_in older) o.register
    → Writer i o.register older → field_after (sent_at i u (newer ++ older))
    (field_of t older (Some o)) ≡ field_of u older (Some o)
heard_by t u newer older o up e value (nobody none) = rw (none t, none u) refl
heard_by {i} {config} t u newer older o up e value (writes between w behind split dest from result) =
    let whole = ap (λ xs. newer ++ xs) split ∙ sym (append_assoc newer between (w ∷ behind)) in
    let all : IsUpTo i config u ((newer ++ between) ++ (w ∷ behind)) = rw (← whole) up in
    rw (from t, from u, whole)
    (heard_from t u o.value (newer ++ between) w behind all e dest (value ∙ result))

-- the broadcasts of a cycle make each operand what it is after that cycle
pub heard_is : {i : Loaded} {config : Configuration} (t u : ℕ) (newer older : List Done) (o : Operand)
    → IsUpTo i config u (newer ++ older) → u ≡ t + 1 → o.value ≡ register_after i (steps_in older) o.register
    → field_after (sent_at i u (newer ++ older)) (field_of t older (Some o)) ≡ field_of u older (Some o)
heard_is {i} t u newer older o up e value = heard_by t u newer older o up e value (writer_is i o.register older)
