-- Events in the order of their cycles, those of a cycle in the order of the steps, are written as the log.
use Rattle.std.proofs.Common.{◌≡◌, ◌∙◌, ap, ap₂, sym, subst, refl, arith, inl, inr, ℕ, zero, suc, ◌+◌, ◌-◌, ◌≤◌, ◌==◌}
use Rattle.std.proofs.Common.{cond, List, [], ◌∷◌, ◌++◌, append_assoc, map, Option, Some}
use Rattle.std.specs.Prelude.{count_by, nat_lt}
use Rattle.std.specs.List.{filter, flat_map, list_any, slice_get}
use Rattle.std.proofs.lemmas.Bool.{cases_Bool, cases_order, eq-eqb, ne_eqb, eqb-true, lt-ltb, le-ltb}
use Rattle.std.proofs.lemmas.List.Elements.{filter-append}
use Rattle.std.proofs.lemmas.List.Sums.{sum_by-cons}
use Rattle.tomex_konata.specs.declared.entries.Entry.{Entry}
use Rattle.tomex_konata.specs.declared.events.Event.{Event}
use Rattle.tomex_konata.specs.Konata.{cycles_of, gone_before, goes_out, lines_in, next_since, outs_in, cycles_line}
use Rattle.tomex_konata.specs.Konata.{step_lines, with_cycle}
use Rattle.tomex_konata.specs.Kept.{change_cycles, change_in, changes_of, events_of, steps_out_after, lines_at, out_of}
use Rattle.tomex_konata.specs.Kept.{events_text}
use Rattle.tomex_konata.proofs.Moments.{changes_at}
use Rattle.tomex_konata.proofs.NoLines.{quiet}
use Rattle.tomex_konata.proofs.Sorting.{Rises, at, later, parted, rest_at, rest_rises}

-- a cycle's lines may be written in two parts
with_more : (t since : ℕ) (a b : List ℕ) → with_cycle (t - since) (a ++ b) ≡ with_cycle (t - since) a
    ++ with_cycle (t - next_since since t a) b
with_more t since [] b = refl
with_more t since (x ∷ a) b =
    let same : t - t ≡ 0 = omega arith in
    rw same (sym (append_assoc (cycles_line (t - since)) (x ∷ a) b)
    ∙ ap (λ (z : List ℕ). (cycles_line (t - since) ++ (x ∷ a)) ++ z) (go b))
  where
    go : (b : List ℕ) → b ≡ with_cycle 0 b
    go [] = refl
    go (y ∷ b) = refl

since_more : (t since : ℕ) (a b : List ℕ) → next_since since t (a ++ b) ≡ next_since (next_since since t a) t b
since_more t since [] b = refl
since_more t since (x ∷ a) [] = refl
since_more t since (x ∷ a) (y ∷ b) = refl

-- the steps that go out in a cycle have gone before the next
gone_next : (t : ℕ) (es : List Entry) → gone_before t es + count_by (goes_out t) es ≡ gone_before (t + 1) es
gone_next t [] = refl
gone_next t (e ∷ es) =
    let a : gone_before t (e ∷ es) ≡ cond (nat_lt (e.at.end + 1) t) 1 0 + gone_before t es =
    sum_by-cons (λ (d : Entry). cond (nat_lt (d.at.end + 1) t) 1 0) e es in
    let b : count_by (goes_out t) (e ∷ es) ≡ cond (goes_out t e) 1 0 + count_by (goes_out t) es =
    sum_by-cons (λ (d : Entry). cond (goes_out t d) 1 0) e es in
    let c : gone_before (t + 1) (e ∷ es) ≡ cond (nat_lt (e.at.end + 1) (t + 1)) 1 0 + gone_before (t + 1) es =
    sum_by-cons (λ (d : Entry). cond (nat_lt (d.at.end + 1) (t + 1)) 1 0) e es in
    let rest = gone_next t es in
    let each : cond (nat_lt (e.at.end + 1) t) 1 0 + cond (goes_out t e) 1 0 ≡ cond (nat_lt (e.at.end + 1) (t + 1)) 1 0 =
    go (e.at.end + 1) in
    omega (arith, a, b, c, rest, each)
  where
    go : (n : ℕ) → cond (nat_lt n t) 1 0 + cond (n == t) 1 0 ≡ cond (nat_lt n (t + 1)) 1 0
    go n = elim (cases_order n t) [
      | inl e ↦ rw (le-ltb n t (omega (arith, e)), eq-eqb n t e, lt-ltb n (t + 1) (omega (arith, e))) refl
      | inr (inl l) ↦ rw (lt-ltb n t l, ne_eqb n t (omega (arith, l)), lt-ltb n (t + 1) (omega (arith, l))) refl
      | inr (inr l) ↦ rw (
        le-ltb n t (omega (arith, l)),
        ne_eqb n t (omega (arith, l)),
        le-ltb n (t + 1)
            (omega (arith, l)),
      ) refl
    ]

-- each of some entries is at the place of its number
abbrev pub AreThere : List Entry → List Entry → Type 0
AreThere all [] = Unit {0}
AreThere all (e ∷ es) = (slice_get all e.id ≡ Some e) × AreThere all es

module _ (number last : ℕ) (all : List Entry) where
  -- the lines of some events, and how many steps have gone out after them
  abbrev lines_of : ℕ → List Event → List ℕ
  lines_of gone [] = []
  lines_of gone (v ∷ vs) = lines_at number gone v (slice_get all v.id) ++ lines_of (steps_out_after gone v.kind) vs

  abbrev gone_of : ℕ → List Event → ℕ
  gone_of gone [] = gone
  gone_of gone (v ∷ vs) = gone_of (steps_out_after gone v.kind) vs

  lines_more : (gone : ℕ) (vs ws : List Event) → lines_of gone (vs ++ ws) ≡ lines_of gone vs
      ++ lines_of (gone_of gone vs) ws
  lines_more gone [] ws = refl
  lines_more gone (v ∷ vs) ws =
      ap (λ (z : List ℕ). lines_at number gone v (slice_get all v.id) ++ z)
      (lines_more (steps_out_after gone v.kind) vs ws)
      ∙ sym (append_assoc (lines_at number gone v (slice_get all v.id)) (lines_of (steps_out_after gone v.kind) vs)
      (lines_of (gone_of (steps_out_after gone v.kind) vs) ws))

  gone_more : (gone : ℕ) (vs ws : List Event) → gone_of gone (vs ++ ws) ≡ gone_of (gone_of gone vs) ws
  gone_more gone [] ws = refl
  gone_more gone (v ∷ vs) ws = gone_more (steps_out_after gone v.kind) vs ws

  abbrev AllAt : ℕ → List Event → Type 0
  AllAt t [] = Unit {0}
  AllAt t (v ∷ vs) = (v.cycle ≡ t) × AllAt t vs

  kept_at : (t : ℕ) (vs : List Event) → AllAt t (filter (at (λ v. v.cycle) t) vs)
  kept_at t [] = tt
  kept_at t (v ∷ vs) = elim (cases_Bool (v.cycle == t)) [
    | inl e ↦ rw e (eqb-true v.cycle t e, kept_at t vs)
    | inr e ↦ rw e (kept_at t vs)
  ]

  -- the events of a cycle, and then the others
  one_cycle : (t since gone : ℕ) (vs ws : List Event) → AllAt t vs → events_text number all since gone (vs ++ ws)
      ≡ with_cycle (t - since) (lines_of gone vs) ++ events_text number all (next_since since t (lines_of gone vs))
      (gone_of gone vs) ws
  one_cycle t since gone [] ws at = refl
  one_cycle t since gone (v ∷ vs) ws at =
      let lines = lines_at number gone v (slice_get all v.id) in
      let more = lines_of (steps_out_after gone v.kind) vs in
      let then = next_since since t lines in
      let rest = events_text number all (next_since then t more) (gone_of (steps_out_after gone v.kind) vs) ws in
      ap (λ (c : ℕ). with_cycle (c - since) lines
      ++ events_text number all (next_since since c lines) (steps_out_after gone v.kind) (vs ++ ws)) at.0
      ∙ (ap (λ (z : List ℕ). with_cycle (t - since) lines ++ z)
      (one_cycle t then (steps_out_after gone v.kind) vs ws at.1)
      ∙ (sym (append_assoc (with_cycle (t - since) lines) (with_cycle (t - then) more) rest)
      ∙ ap₂ (λ (y : List ℕ) (s : ℕ). y ++ events_text number all s (gone_of (steps_out_after gone v.kind) vs) ws)
      (sym (with_more t since lines more)) (sym (since_more t since lines more))))

  -- the changes of a cycle
  changes_gone : (t gone : ℕ) (es : List Entry)
      → gone_of gone (filter (at (λ v. v.cycle) t) (flat_map (changes_of last) es)) ≡ gone
  changes_gone t gone [] = refl
  changes_gone t gone (e ∷ es) =
      rw (filter-append (at (λ v. v.cycle) t) (changes_of last e) (flat_map (changes_of last) es), changes_at last t e)
      (elim (cases_Bool (list_any (λ c. c == t) (change_cycles last e))) [
        | inl f ↦ rw f (changes_gone t gone es)
        | inr f ↦ rw f (changes_gone t gone es)
      ])

  changes_lines : (t gone : ℕ) (es : List Entry) → t ≤ last → AreThere all es
      → lines_of gone (filter (at (λ v. v.cycle) t) (flat_map (changes_of last) es)) ≡ flat_map (step_lines number t) es
  changes_lines t gone [] within there = refl
  changes_lines t gone (e ∷ es) within there =
      rw (filter-append (at (λ v. v.cycle) t) (changes_of last e) (flat_map (changes_of last) es), changes_at last t e)
      (elim (cases_Bool (list_any (λ c. c == t) (change_cycles last e))) [
        | inl f ↦ rw f (ap₂ (λ (o : Option Entry) (z : List ℕ). lines_at number gone (change_in e.id t) o ++ z) there.0
            (changes_lines t gone es within there.1))
        | inr f ↦ rw f (changes_lines t gone es within there.1
            ∙ ap (λ (z : List ℕ). z ++ flat_map (step_lines number t) es) (sym (quiet number last t e within f)))
      ])

  -- and the steps that go out in it
  outs_gone : (t gone : ℕ) (es : List Entry) → gone_of gone (filter (at (λ v. v.cycle) t) (map out_of es)) ≡ gone
      + count_by (goes_out t) es
  outs_gone t gone [] = omega arith
  outs_gone t gone (e ∷ es) =
      let more : count_by (goes_out t) (e ∷ es) ≡ cond (goes_out t e) 1 0 + count_by (goes_out t) es =
      sum_by-cons (λ (d : Entry). cond (goes_out t d) 1 0) e es in
      elim (cases_Bool (goes_out t e)) [
        | inl f ↦ rw (more, f) (outs_gone t (gone + 1) es ∙ omega arith)
        | inr f ↦ rw (more, f) (outs_gone t gone es ∙ omega arith)
      ]

  outs_lines : (t gone : ℕ) (es : List Entry) → AreThere all es
      → lines_of gone (filter (at (λ v. v.cycle) t) (map out_of es)) ≡ outs_in t gone es
  outs_lines t gone [] there = refl
  outs_lines t gone (e ∷ es) there = elim (cases_Bool (goes_out t e)) [
    | inl f ↦ rw f (ap₂ (λ (o : Option Entry) (z : List ℕ). lines_at number gone (out_of e) o ++ z) there.0
        (outs_lines t (gone + 1) es there.1))
    | inr f ↦ rw f (outs_lines t gone es there.1)
  ]

  cycle_gone : (t : ℕ) → gone_of (gone_before t all) (filter (at (λ v. v.cycle) t) (events_of last all))
      ≡ gone_before (t + 1) all
  cycle_gone t =
      let outs = filter (at (λ (v : Event). v.cycle) t) (map out_of all) in
      ap (λ (vs : List Event). gone_of (gone_before t all) vs)
      (filter-append (at (λ v. v.cycle) t) (flat_map (changes_of last) all) (map out_of all))
      ∙ (gone_more (gone_before t all) (filter (at (λ v. v.cycle) t) (flat_map (changes_of last) all)) outs
      ∙ (ap (λ (g : ℕ). gone_of g outs) (changes_gone t (gone_before t all) all)
      ∙ (outs_gone t (gone_before t all) all ∙ gone_next t all)))

  cycle_lines : (t : ℕ) → t ≤ last → AreThere all all
      → lines_of (gone_before t all) (filter (at (λ v. v.cycle) t) (events_of last all)) ≡ lines_in number t all
  cycle_lines t within there =
      let g = gone_before t all in
      let changes = filter (at (λ (v : Event). v.cycle) t) (flat_map (changes_of last) all) in
      let outs = filter (at (λ (v : Event). v.cycle) t) (map out_of all) in
      ap (λ (vs : List Event). lines_of g vs)
      (filter-append (at (λ v. v.cycle) t) (flat_map (changes_of last) all) (map out_of all))
      ∙ (lines_more g changes outs
      ∙ ap₂ (λ (a b : List ℕ). a ++ b) (changes_lines t g all within there)
      (ap (λ (h : ℕ). lines_of h outs) (changes_gone t g all) ∙ outs_lines t g all there))

  -- all cycles from one on
  pub cycles_are : (n t since : ℕ) (vs : List Event) → AreThere all all → t + n ≡ last + 1
      → Rises (λ v. v.cycle) t last vs
      → ((s : ℕ) → t ≤ s → filter (at (λ v. v.cycle) s) vs ≡ filter (at (λ v. v.cycle) s) (events_of last all))
      → events_text number all since (gone_before t all) vs ≡ cycles_of number all since t n
  cycles_are zero t since [] there end rise those = refl
  cycles_are zero t since (v ∷ vs) there end rise those = absurd (omega (arith, end, rise.0, rise.1))
  cycles_are (suc n) t since vs there end rise those =
      let g = gone_before t all in
      let now = filter (at (λ (v : Event). v.cycle) t) vs in
      let rest = filter (later (λ (v : Event). v.cycle) t) vs in
      let lines : lines_of g now ≡ lines_in number t all =
      ap (λ (ws : List Event). lines_of g ws) (those t (omega arith)) ∙ cycle_lines t (omega (arith, end)) there in
      let gone : gone_of g now ≡ gone_before (t + 1) all =
      ap (λ (ws : List Event). gone_of g ws) (those t (omega arith)) ∙ cycle_gone t in
      ap (λ (ws : List Event). events_text number all since g ws) (parted (λ v. v.cycle) t last vs rise)
      ∙ (one_cycle t since g now rest (kept_at t vs)
      ∙ (ap₂ (λ (ls : List ℕ) (h : ℕ). with_cycle (t - since) ls
      ++ events_text number all (next_since since t ls) h rest) lines gone
      ∙ ap (λ (z : List ℕ). with_cycle (t - since) (lines_in number t all) ++ z)
      (cycles_are n (t + 1) (next_since since t (lines_in number t all)) rest there (omega (arith, end))
      (subst (λ (s : ℕ). Rises (λ (v : Event). v.cycle) s last rest) (let e : suc t ≡ t + 1 = omega arith in
      e) (rest_rises (λ v. v.cycle) t last vs rise))
      (λ s le. rest_at (λ v. v.cycle) s t vs (omega (arith, le)) ∙ those s (omega (arith, le))))))
