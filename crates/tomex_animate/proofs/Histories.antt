-- A page's stations and registers are the same without the steps that are past before it, and without later ones.
use Rattle.std.proofs.Common.{◌≡◌, ◌∙◌, ◌<◌, ◌≤◌, ◌+◌, ◌-◌, ℕ, arith, refl, ap, List, [], ◌∷◌, ◌++◌}
use Rattle.std.proofs.Common.{append_assoc, Bool, Option, Some, None, map, reverse, true, false, inl, inr}
use Rattle.std.specs.Prelude.{◌&&◌, nat_lt, nat_le, max, min, unwrap_or}
use Rattle.std.specs.List.{AllByRecursion}
use Rattle.std.proofs.lemmas.Bool.{and_parts, and_right, cases_Bool, le-ltb, lt-leb, ltb-true}
use Rattle.std.proofs.lemmas.List.{map-append, reverse-append}
use Rattle.tomex_rvexec.specs.Steps.{is_in, is_number, j_of, k_of, step_dest, step_pool}
use Rattle.tomex_rvexec.specs.declared.step.Operand.{Operand}
use Rattle.tomex_timing.specs.Tables.{busy_of, field_of, is_under_way, producer, qi_of}
use Rattle.tomex_timing.specs.declared.tables.Tag.{Tag}
use Rattle.tomex_timing.specs.declared.times.Done.{Done}
use Rattle.tomex_timing.specs.History.{cycle_of}
use Rattle.tomex_snapshots.specs.declared.entries.Entry.{Entry}
use Rattle.tomex_snapshots.specs.Entries.{done_of, history_of}
use Rattle.tomex_animate.specs.Stretch.{earliest, is_later, is_past}
use Rattle.tomex_snapshots.specs.Takers.{occupant}

-- each step of these is past, or later, by cases on the list
abbrev pub ArePast : ℕ → List Done → Type 0
ArePast t [] = Unit {0}
ArePast t (d ∷ h) = (d.at.end ≤ t) × ArePast t h

abbrev pub AreYetToIssue : ℕ → List Done → Type 0
AreYetToIssue t [] = Unit {0}
AreYetToIssue t (d ∷ h) = (t < d.at.issue) × AreYetToIssue t h

-- a step that has ended sends nothing more
producer_past : (s : ℕ) (h : List Done) (r : ℕ) → ArePast s h → producer s h r ≡ None
producer_past s [] r past = refl
producer_past s (d ∷ h) r past = elim (cases_Bool (is_number (step_dest d.step) r)) [
  | inl e ↦ rw (e, le-ltb s d.at.end past.0) refl
  | inr e ↦ rw e (producer_past s h r past.1)
]

producer_same : (s : ℕ) (mid old : List Done) (r : ℕ) → ArePast s old → producer s (mid ++ old) r ≡ producer s mid r
producer_same s [] old r past = producer_past s old r past
producer_same s (d ∷ mid) old r past = elim (cases_Bool (is_number (step_dest d.step) r)) [
  | inl e ↦ rw e refl
  | inr e ↦ rw e (producer_same s mid old r past)
]

field_same : (s : ℕ) (mid old : List Done) (o : Option Operand) → ArePast s old
    → field_of s (mid ++ old) o ≡ field_of s mid o
field_same s mid old None past = refl
field_same s mid old (Some o) past = rw (producer_same s mid old o.register past) refl

busy_same : (s : ℕ) (tag : Tag) (d : Done) (mid old : List Done) → ArePast s old
    → busy_of s tag d (mid ++ old) ≡ busy_of s tag d mid
busy_same s tag d mid old past = rw (
  field_same s mid old (j_of d.step) past,
  field_same s mid old (k_of d.step)
      past,
) refl

held_past : (s t : ℕ) (h : List Done) (tag : Tag) → ArePast t h → occupant s t h tag ≡ None
held_past s t [] tag past = refl
held_past s t (d ∷ h) tag past =
    let over : is_under_way t d ≡ false = and_right _ _ (le-ltb t d.at.end past.0) in
    rw over (held_past s t h tag past.1)

held_mid : (s t : ℕ) (mid old : List Done) (tag : Tag) → s ≤ t → ArePast s old → ArePast t old
    → occupant s t (mid ++ old) tag ≡ occupant s t mid tag
held_mid s t [] old tag low before past = held_past s t old tag past
held_mid s t (d ∷ mid) old tag low before past =
    let here : Bool = is_under_way t d && is_in tag.pool (step_pool d.step) && is_number d.at.station tag.number in
    elim (cases_Bool here) [
      | inl e ↦ rw (e, busy_same s tag d mid old before) refl
      | inr e ↦ rw e (held_mid s t mid old tag low before past)
    ]

held_new : (s t : ℕ) (new h : List Done) (tag : Tag) → AreYetToIssue t new → occupant s t (new ++ h) tag
    ≡ occupant s t h tag
held_new s t [] h tag later = refl
held_new s t (d ∷ new) h tag later = rw (lt-leb d.at.issue t later.0) (held_new s t new h tag later.1)

pub held_same : (s t : ℕ) (new mid old : List Done) (tag : Tag) → s ≤ t → AreYetToIssue t new → ArePast s old
    → ArePast t old → occupant s t (new ++ (mid ++ old)) tag ≡ occupant s t mid tag
held_same s t new mid old tag low later before past =
    held_new s t new (mid ++ old) tag later ∙ held_mid s t mid old tag low before past

qi_past : (s : ℕ) (h : List Done) (r : ℕ) → ArePast s h → qi_of s h r ≡ None
qi_past s [] r past = refl
qi_past s (d ∷ h) r past = elim (cases_Bool (nat_le d.at.issue s && is_number (step_dest d.step) r)) [
  | inl e ↦ rw (e, le-ltb s d.at.end past.0) refl
  | inr e ↦ rw e (qi_past s h r past.1)
]

qi_mid : (s : ℕ) (mid old : List Done) (r : ℕ) → ArePast s old → qi_of s (mid ++ old) r ≡ qi_of s mid r
qi_mid s [] old r past = qi_past s old r past
qi_mid s (d ∷ mid) old r past = elim (cases_Bool (nat_le d.at.issue s && is_number (step_dest d.step) r)) [
  | inl e ↦ rw e refl
  | inr e ↦ rw e (qi_mid s mid old r past)
]

qi_new : (s : ℕ) (new h : List Done) (r : ℕ) → AreYetToIssue s new → qi_of s (new ++ h) r ≡ qi_of s h r
qi_new s [] h r later = refl
qi_new s (d ∷ new) h r later = rw (lt-leb d.at.issue s later.0) (qi_new s new h r later.1)

pub qi_same : (s : ℕ) (new mid old : List Done) (r : ℕ) → AreYetToIssue s new → ArePast s old
    → qi_of s (new ++ (mid ++ old)) r ≡ qi_of s mid r
qi_same s new mid old r later past = qi_new s new (mid ++ old) r later ∙ qi_mid s mid old r past

-- none of a step's cycles is in a view of the page
abbrev pub Past : ℕ → Entry → Type 0
Past first e = is_past first e ≡ true

abbrev pub Later : ℕ → Entry → Type 0
Later last e = is_later last e ≡ true

-- the histories of these steps
past-append : (t : ℕ) (a b : List Done) → ArePast t a → ArePast t b → ArePast t (a ++ b)
past-append t [] b p q = q
past-append t (d ∷ a) b p q = (p.0, past-append t a b p.1 q)

yet-append : (t : ℕ) (a b : List Done) → AreYetToIssue t a → AreYetToIssue t b → AreYetToIssue t (a ++ b)
yet-append t [] b p q = q
yet-append t (d ∷ a) b p q = (p.0, yet-append t a b p.1 q)

history-cons : (e : Entry) (es : List Entry) → history_of (e ∷ es) ≡ history_of es ++ (done_of e ∷ [])
history-cons e es = reverse-append (done_of e ∷ []) (map done_of es)

history_past : (first t : ℕ) (es : List Entry) → first ≤ t + 2 → AllByRecursion (Past first) es → ArePast t
    (history_of es)
history_past first t [] low all = tt
history_past first t (e ∷ es) low all =
    let l : max e.at.issue (max (cycle_of e.at.address) (max e.at.start (max e.at.finish e.at.end))) + 2 < first =
    ltb-true _ _ all.0 in
    rw (history-cons e es) (past-append t (history_of es) (done_of e ∷ []) (history_past first t es low all.1)
    (omega (arith, l, low), tt))

history_later : (last t : ℕ) (es : List Entry) → t ≤ last → AllByRecursion (Later last) es
    → AreYetToIssue t (history_of es)
history_later last t [] high all = tt
history_later last t (e ∷ es) high all =
    let l : last < min e.at.issue (min (unwrap_or e.at.address e.at.issue) (min e.at.start (min e.at.finish
    e.at.end))) =
    ltb-true last (earliest e.at) (and_parts (nat_lt last e.from) (nat_lt last (earliest e.at)) all.0).1 in
    rw (history-cons e es) (yet-append t (history_of es) (done_of e ∷ []) (history_later last t es high all.1)
    (omega (arith, l, high), tt))

history_mid : (front some rest : List Entry)
    → history_of (front ++ (some ++ rest)) ≡ history_of rest ++ (history_of some ++ history_of front)
history_mid front some rest =
    ap reverse (map-append done_of front (some ++ rest) ∙ ap (λ (z : List Done). map done_of front ++ z)
    (map-append done_of some rest))
    ∙ (reverse-append (map done_of front) (map done_of some ++ map done_of rest)
    ∙ (ap (λ (z : List Done). z ++ history_of front) (reverse-append (map done_of some) (map done_of rest))
    ∙ append_assoc (history_of rest) (history_of some) (history_of front)))

-- two histories show the same in a view
pub record ShowSame (t : ℕ) (a b : List Done) : Type 0 where
  pub before : (tag : Tag) → occupant (t - 1) (t - 1) a tag ≡ occupant (t - 1) (t - 1) b tag
  pub taking : (tag : Tag) → occupant (t - 1) t a tag ≡ occupant (t - 1) t b tag
  pub now : (tag : Tag) → occupant t t a tag ≡ occupant t t b tag
  pub was : (r : ℕ) → qi_of (t - 1) a r ≡ qi_of (t - 1) b r
  pub is : (r : ℕ) → qi_of t a r ≡ qi_of t b r

pub show_same : (first last t : ℕ) (front some rest : List Entry) → first ≤ t → t ≤ last
    → AllByRecursion (Past first) front → AllByRecursion (Later last) rest
    → ShowSame t (history_of (front ++ (some ++ rest))) (history_of some)
show_same first last t front some rest low high past later =
    let P = history_past first (t - 1) front (omega (arith, low)) past in
    let Q = history_past first t front (omega (arith, low)) past in
    let R = history_later last (t - 1) rest (omega (arith, high)) later in
    let S = history_later last t rest high later in
    let hr = history_of rest in
    let hs = history_of some in
    let hf = history_of front in
    let e = history_mid front some rest in
    record {
      before = λ tag. ap (λ (h : List Done). occupant (t - 1) (t - 1) h tag) e
          ∙ held_same (t - 1) (t - 1) hr hs hf tag (omega arith) R P P;
      taking = λ tag. ap (λ (h : List Done). occupant (t - 1) t h tag) e
          ∙ held_same (t - 1) t hr hs hf tag (omega arith) S P Q;
      now = λ tag. ap (λ (h : List Done). occupant t t h tag) e ∙ held_same t t hr hs hf tag (omega arith) S Q Q;
      was = λ r. ap (λ (h : List Done). qi_of (t - 1) h r) e ∙ qi_same (t - 1) hr hs hf r R P;
      is = λ r. ap (λ (h : List Done). qi_of t h r) e ∙ qi_same t hr hs hf r S Q;
    }
