-- The results of the loops over a step's cycles and over events, one turn later.
use Rattle.std.proofs.Common.{◌≡◌, ◌∙◌, ap, ap₂, sym, refl, arith, ℕ, zero, suc, ◌+◌, ◌-◌, ◌<◌, ◌≤◌, ◌==◌, Bool, true}
use Rattle.std.proofs.Common.{false, cond, List, [], ◌∷◌, ◌++◌, append_assoc, drop, get_or, length, length-drop, map}
use Rattle.std.proofs.Common.{take, Some}
use Rattle.std.specs.List.{list_any, slice_get}
use Rattle.std.proofs.lemmas.List.{append-nil, drop_all, take_all}
use Rattle.tomex_konata.specs.declared.entries.Entry.{Entry}
use Rattle.tomex_konata.specs.declared.events.Event.{Event}
use Rattle.tomex_konata.specs.declared.events.Kind.{Kind}
use Rattle.tomex_konata.specs.declared.events.Kind.TheVariants.{Change, Out}
use Rattle.tomex_konata.specs.Konata.{next_since, with_cycle}
use Rattle.tomex_konata.specs.Kept.{change_cycles, change_in, event_lines, steps_out_after, lines_at, once, events_text}

pub next : {X : Type 0} (xs : List X) (i : ℕ) (x d : X) → i < length xs → x ≡ get_or xs i d
    → drop i xs ≡ x ∷ drop (suc i) xs
next [] i x d within is = absurd (omega (arith, within))
next (y ∷ ys) zero x d within is = ap (λ z. z ∷ ys) (sym is)
next (y ∷ ys) (suc i) x d within is = next ys i x d (omega (arith, within)) is

-- the cycles after a place
left : (given : List ℕ) (i k c d : ℕ) (b : Bool) → i < length given → length given ≤ k + (i + 1) → c ≡ get_or given i d
    → list_any (λ n. n == c) (take k (drop (i + 1) given)) ≡ b
    → once (drop i given) ≡ cond b (once (drop (i + 1) given)) (c ∷ once (drop (i + 1) given))
left given i k c d b within covers is found =
    let more : i + 1 ≡ suc i = omega arith in
    let whole : take k (drop (i + 1) given) ≡ drop (i + 1) given =
    take_all k (drop (i + 1) given) (omega (arith, length-drop (i + 1) given, covers)) in
    ap once (next given i c d within is) ∙ rw (← found, whole, more) refl

-- a cycle that occurs again
pub change_again : (id last : ℕ) (e : Entry) {given : List ℕ} (i k : ℕ) {c : ℕ} (d : ℕ)
    {before after whole : List Event} → given ≡ change_cycles last e → i < 9 → 9 ≤ k + (i + 1) → c ≡ get_or given i d
    → list_any (λ n. n == c) (take k (drop (i + 1) given)) ≡ true → after ≡ before
    → before ++ map (change_in id) (once (drop i (change_cycles last e))) ≡ whole
    → after ++ map (change_in id) (once (drop (i + 1) (change_cycles last e))) ≡ whole
change_again id last e {given} i k {c} d same within covers is again kept so_far =
    let nine : length given ≡ 9 = ap length same in
    let rest : once (drop i given) ≡ once (drop (i + 1) given) =
    left given i k c d true (omega (arith, nine, within)) (omega (arith, nine, covers)) is again in
    rw (kept, ← same, ← rest, same) so_far

-- and one that doesn't
pub change_once : (id last : ℕ) (e : Entry) {given : List ℕ} (i k : ℕ) {c : ℕ} (d : ℕ) (before : List Event)
    {after whole : List Event} → given ≡ change_cycles last e → i < 9 → 9 ≤ k + (i + 1) → c ≡ get_or given i d
    → list_any (λ n. n == c) (take k (drop (i + 1) given)) ≡ false → after ≡ before ++ change_in id c ∷ []
    → before ++ map (change_in id) (once (drop i (change_cycles last e))) ≡ whole
    → after ++ map (change_in id) (once (drop (i + 1) (change_cycles last e))) ≡ whole
change_once id last e {given} i k {c} d before same within covers is new grown so_far =
    let nine : length given ≡ 9 = ap length same in
    let rest : once (drop i given) ≡ c ∷ once (drop (i + 1) given) =
    left given i k c d false (omega (arith, nine, within)) (omega (arith, nine, covers)) is new in
    let more = map (change_in id) (once (drop (i + 1) given)) in
    ap₂ (λ (vs : List Event) (cs : List ℕ). vs ++ map (change_in id) (once (drop (i + 1) cs))) grown (sym same)
    ∙ (append_assoc before (change_in id c ∷ []) more
    ∙ (ap (λ (ns : List ℕ). before ++ map (change_in id) ns) (sym rest)
    ∙ (ap (λ (cs : List ℕ). before ++ map (change_in id) (once (drop i cs))) same ∙ so_far)))

-- after all of them
pub all_changed : (id last i : ℕ) (e : Entry) (made whole : List Event) → 9 ≤ i
    → made ++ map (change_in id) (once (drop i (change_cycles last e))) ≡ whole → made ≡ whole
all_changed id last i e made whole past so_far =
    let none : drop i (change_cycles last e) ≡ [] = drop_all i (change_cycles last e) past in
    sym (append-nil made) ∙ (ap (λ (cs : List ℕ). made ++ map (change_in id) (once cs)) (sym none) ∙ so_far)

-- the lines of one more event
pub event_more : (number : ℕ) (es : List Entry) (vs : List Event) (i since gone : ℕ) {since' gone' : ℕ} {v : Event}
    {e : Entry} {lines : List ℕ} (before : List ℕ) {after whole : List ℕ} → drop i vs ≡ v ∷ drop (suc i) vs
    → slice_get es v.id ≡ Some e → lines ≡ event_lines number gone v.cycle v.kind e
    → after ≡ before ++ with_cycle (v.cycle - since) lines → since' ≡ next_since since v.cycle lines
    → gone' ≡ steps_out_after gone v.kind → before ++ events_text number es since gone (drop i vs) ≡ whole
    → after ++ events_text number es since' gone' (drop (i + 1) vs) ≡ whole
event_more number es vs i since gone {since'} {gone'} {v} {e} {lines} before {after} {whole} events there line grown
    then went so_far =
    let more : i + 1 ≡ suc i = omega arith in
    let same : lines ≡ lines_at number gone v (slice_get es v.id) = line ∙ rw there refl in
    let rest = events_text number es since' gone' (drop (i + 1) vs) in
    let whole_line : events_text number es since gone (drop i vs) ≡ with_cycle (v.cycle - since) lines ++ rest =
    ap (λ (ws : List Event). events_text number es since gone ws) events ∙ rw (then, went, more, ← same) refl in
    ap (λ (z : List ℕ). z ++ rest) grown
    ∙ (append_assoc before (with_cycle (v.cycle - since) lines) rest
    ∙ (ap (λ (z : List ℕ). before ++ z) (sym whole_line) ∙ so_far))

-- an event takes no more than one step out
pub few_gone : (gone gone' i : ℕ) (kind : Kind) → gone' ≡ steps_out_after gone kind → gone ≤ i → gone' ≤ i + 1
few_gone gone gone' i kind is few = rw is (go kind)
  where
    go : (kind : Kind) → steps_out_after gone kind ≤ i + 1
    go Change = omega (arith, few)
    go Out = omega (arith, few)

-- after the last event
pub all_written : (number : ℕ) (entries : List Entry) (events : List Event) (index since gone : ℕ)
    (text whole : List ℕ) → length events ≤ index
    → text ++ events_text number entries since gone (drop index events) ≡ whole → text ≡ whole
all_written number entries events index since gone text whole past so_far =
    sym (append-nil text)
    ∙ (ap (λ (vs : List Event). text ++ events_text number entries since gone vs) (sym (drop_all index events past))
    ∙ so_far)
