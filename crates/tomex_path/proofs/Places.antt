-- What is computed of each step of a run stands at the step's place.
use Rattle.std.proofs.Common.{ℕ, zero, suc, ◌+◌, ◌^◌, ◌<◌, ◌≡◌, ◌∙◌, arith, refl, ap, sym}
use Rattle.std.proofs.Common.{List, [], ◌∷◌, ◌++◌, append_assoc, drop, get_or, length, map, reverse, take}
use Rattle.std.specs.Prelude.{slice_index_or}
use Rattle.std.proofs.Math.Seq.{get_or-append_seam}
use Rattle.std.proofs.lemmas.List.{append-nil, get_or_append_left, length-append, length-reverse, length-take-le}
use Rattle.std.proofs.lemmas.List.{map-append, reverse-append, take-append-drop, take_more}
use Rattle.tomex_rvexec.specs.declared.step.Step.{Step}
use Rattle.tomex_config.specs.Configuration.{Configuration, IsWithinLimits}
use Rattle.tomex_timing.specs.declared.recent.Facts.{Facts}
use Rattle.tomex_timing.specs.declared.times.Done.{Done}
use Rattle.tomex_timing.specs.declared.times.Times.{Times}
use Rattle.tomex_timing.specs.History.{last_issue}
use Rattle.tomex_timing.specs.Recent.{facts_of}
use Rattle.tomex_timing.specs.Recurrence.{AreTimed}
use Rattle.tomex_timing.specs.Search.{history, times_in, times_of}
use Rattle.tomex_timing.proofs.Histories.{are_timed, history_bound, history_more, length-history}
use Rattle.tomex_timing.proofs.Orders.{reach}
use Rattle.tomex_path.specs.declared.note.Note.{Note}
use Rattle.tomex_path.specs.Seen.{done_at, note_of, notes_in, notes_over}

-- the step at a place
pub step_there : (steps : List Step) (i : ℕ) → i < length steps → (x : Step) × (slice_index_or steps i x ≡ x)
step_there [] i l = absurd (omega arith)
step_there (x ∷ steps) zero l = (x, refl)
step_there (x ∷ steps) (suc i) l = step_there steps i (omega arith)

pub facts_at : (steps : List Step) (i : ℕ) (x : Step) (f : Facts) → i < length steps → slice_index_or steps i x ≡ x
    → slice_index_or (map facts_of steps) i f ≡ facts_of x
facts_at [] i x f l e = absurd (omega arith)
facts_at (y ∷ steps) zero x f l e = ap facts_of e
facts_at (y ∷ steps) (suc i) x f l e = facts_at steps i x f (omega arith) e

-- the history up to a step, and before it
pub history_at : (config : Configuration) (steps : List Step) (i : ℕ) (x : Step) → i < length steps
    → slice_index_or steps i x ≡ x
    → history config (take (i + 1) steps) ≡ done_at config steps i x ∷ history config (take i steps)
history_at config steps i x l e =
    ap (history config) (take_more steps i x l ∙ ap (λ (y : Step). take i steps ++ (y ∷ [])) e)
    ∙ history_more config (take i steps) x

module _ {X : Type 0} (f : List Done → Done → X) (config : Configuration) where
  -- a value of each step of a history, the youngest first
  abbrev pub each : List Done → List X
  each [] = []
  each (d ∷ older) = f older d ∷ each older

  -- the same of a run, in program order
  abbrev pub in_order : List Step → List X
  in_order steps = reverse (each (history config steps))

  length_each : (h : List Done) → length (each h) ≡ length h
  length_each [] = refl
  length_each (d ∷ h) = ap suc (length_each h)

  pub length_in_order : (steps : List Step) → length (in_order steps) ≡ length steps
  length_in_order steps = length-reverse (each (history config steps))
      ∙ (length_each (history config steps) ∙ length-history config steps)

  more : (xs : List Step) (x : Step)
      → in_order (xs ++ (x ∷ [])) ≡ in_order xs
      ++ (f (history config xs) (record { step = x; at = times_of config (history config xs) x }) ∷ [])
  more xs x = rw (history_more config xs x) (reverse-append (_ ∷ []) (each (history config xs)))

  -- later steps change nothing
  stays : (xs ys : List Step) → (rest : List X) × (in_order (xs ++ ys) ≡ in_order xs ++ rest)
  stays xs [] = ([], ap in_order (append-nil xs) ∙ sym (append-nil (in_order xs)))
  stays xs (y ∷ ys) =
      let rest = stays (xs ++ (y ∷ [])) ys in
      let v : X = f (history config xs) (record { step = y; at = times_of config (history config xs) y }) in (
        v ∷ rest.0,
        ap in_order (sym (append_assoc xs (y ∷ []) ys)) ∙ (rest.1
            ∙ rw (more xs y) (append_assoc (in_order xs) (v ∷ []) rest.0)),
      )

  pub at_place : (steps : List Step) (i : ℕ) (x : Step) (z : X) → i < length steps → slice_index_or steps i x ≡ x
      → slice_index_or (in_order steps) i z ≡ f (history config (take i steps)) (done_at config steps i x)
  at_place steps i x z l e =
      let v : X = f (history config (take i steps)) (done_at config steps i x) in
      let rest = stays (take (i + 1) steps) (drop (i + 1) steps) in
      let whole : in_order steps ≡ in_order (take (i + 1) steps) ++ rest.0 =
      ap in_order (sym (take-append-drop (i + 1) steps)) ∙ rest.1 in
      let upto : in_order (take (i + 1) steps) ≡ in_order (take i steps) ++ (v ∷ []) =
      ap in_order (take_more steps i x l ∙ ap (λ (y : Step). take i steps ++ (y ∷ [])) e) ∙ more (take i steps) x in
      let count : length (in_order (take i steps)) ≡ i =
      length_in_order (take i steps) ∙ length-take-le i steps (omega arith) in
      let longer = length-append (in_order (take i steps)) (v ∷ []) in
      let here : get_or (in_order (take i steps) ++ (v ∷ [])) (length (in_order (take i steps))) z ≡ v =
      get_or-append_seam (in_order (take i steps)) v [] z in
      rw (whole, upto, get_or_append_left (in_order (take i steps) ++ (v ∷ [])) rest.0 z i (omega arith))
      (rw count at here)

-- times and notes are such values

times_each : (config : Configuration) (h : List Done)
    → map (λ d. d.at) (reverse h) ≡ reverse (each (λ (o : List Done) (d : Done). d.at) config h)
times_each config [] = refl
times_each config (d ∷ h) =
    rw (
      reverse-append (d ∷ []) h,
      map-append (λ (d : Done). d.at) (reverse h) (d ∷ []),
      times_each config h,
    ) (sym (reverse-append (d.at ∷ []) (each (λ (o : List Done) (d : Done). d.at) config h)))

notes_each : (config : Configuration) (h : List Done) → notes_over config h ≡ each (note_of config) config h
notes_each config [] = refl
notes_each config (d ∷ h) = ap (λ ns. note_of config h d ∷ ns) (notes_each config h)

module _ (config : Configuration) (steps : List Step) (i : ℕ) (x : Step) (l : i < length steps)
    (e : slice_index_or steps i x ≡ x) where
  pub times_at : (z : Times) → slice_index_or (times_in config steps) i z ≡ (done_at config steps i x).at
  times_at z = rw (times_each config (history config steps))
      (at_place (λ (o : List Done) (d : Done). d.at) config steps i x z l e)

  pub notes_at : (z : Note) → slice_index_or (notes_in config steps) i z
      ≡ note_of config (history config (take i steps)) (done_at config steps i x)
  notes_at z = rw (notes_each config (history config steps)) (at_place (note_of config) config steps i x z l e)

  -- its issue is a small number
  pub issue_small : IsWithinLimits config → length steps < 2 ^ 56 → (done_at config steps i x).at.issue < 2 ^ 63
  issue_small good few =
      let timed : AreTimed config (done_at config steps i x ∷ history config (take i steps)) =
      rw (history_at config steps i x l e) at (are_timed config (take (i + 1) steps) good) in
      let within = reach config (done_at config steps i x) (history config (take i steps)) good timed in
      let bound = history_bound config (take i steps) good in
      let count : length (take i steps) ≡ i = length-take-le i steps (omega arith) in
      omega (arith, within.issue_reach)

-- the notes of one more step
pub notes_more : (config : Configuration) (steps : List Step) (i : ℕ) (x : Step) → i < length steps
    → slice_index_or steps i x ≡ x
    → notes_in config (take (i + 1) steps) ≡ notes_in config (take i steps)
    ++ (note_of config (history config (take i steps)) (done_at config steps i x) ∷ [])
notes_more config steps i x l e =
    rw (history_at config steps i x l e) (reverse-append (_ ∷ []) (notes_over config (history config (take i steps))))

pub length_notes : (config : Configuration) (steps : List Step) → length (notes_in config steps) ≡ length steps
length_notes config steps =
    ap (λ ns. length (reverse ns)) (notes_each config (history config steps))
    ∙ length_in_order (note_of config) config steps

-- the issue before a place
pub previous_at : (config : Configuration) (steps : List Step) (k : ℕ) (z : Times) → k + 1 < length steps
    → (slice_index_or (times_in config steps) k z).issue ≡ last_issue (history config (take (k + 1) steps))
previous_at config steps k z l =
    let y = step_there steps k (omega arith) in
    rw (times_at config steps k y.0 (omega arith) y.1 z, history_at config steps k y.0 (omega arith) y.1) refl
