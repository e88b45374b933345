-- The events of a cycle: a change of each step that may change in it, then the steps that go out.
use Rattle.std.proofs.Common.{◌≡◌, ◌∙◌, ap, refl, inl, inr, ℕ, ◌==◌, Bool, true, false, cond, List, [], ◌∷◌, map}
use Rattle.std.specs.List.{filter, list_any}
use Rattle.std.proofs.lemmas.Bool.{cases_Bool, cases_eq, eq-eqb, ne_eqb}
use Rattle.tomex_konata.specs.declared.entries.Entry.{Entry}
use Rattle.tomex_konata.specs.declared.events.Event.{Event}
use Rattle.tomex_konata.specs.Kept.{change_cycles, change_in, changes_of, once}

-- of numbers once each, at most one equals a given number
pub once_at : (t : ℕ) (cs : List ℕ) → filter (λ c. c == t) (once cs) ≡ cond (list_any (λ c. c == t) cs) (t ∷ []) []
once_at t [] = refl
once_at t (c ∷ cs) = elim (cases_eq c t) [
  | inl e ↦ rw (e, eq-eqb t t refl) (elim (cases_Bool (list_any (λ d. d == t) cs)) [
    | inl f ↦ rw f (once_at t cs ∙ rw f refl)
    | inr f ↦ rw (f, eq-eqb t t refl) (ap (λ (ds : List ℕ). t ∷ ds) (once_at t cs ∙ rw f refl))
  ])
  | inr n ↦ rw (ne_eqb c t n) (elim (cases_Bool (list_any (λ d. d == c) cs)) [
    | inl f ↦ rw f (once_at t cs)
    | inr f ↦ rw (f, ne_eqb c t n) (once_at t cs)
  ])
]

at_map : (t id : ℕ) (cs : List ℕ) → filter (λ (v : Event). v.cycle == t) (map (change_in id) cs) ≡ map (change_in id)
    (filter (λ c. c == t) cs)
at_map t id [] = refl
at_map t id (c ∷ cs) = elim (cases_Bool (c == t)) [
  | inl e ↦ rw e (ap (λ (vs : List Event). change_in id c ∷ vs) (at_map t id cs))
  | inr e ↦ rw e (at_map t id cs)
]

pub changes_at : (last t : ℕ) (e : Entry) → filter (λ (v : Event). v.cycle == t) (changes_of last e)
    ≡ cond (list_any (λ c. c == t) (change_cycles last e)) (change_in e.id t ∷ []) []
changes_at last t e =
    at_map t e.id (once (change_cycles last e))
    ∙ (ap (λ (cs : List ℕ). map (change_in e.id) cs) (once_at t (change_cycles last e))
    ∙ go (list_any (λ c. c == t) (change_cycles last e)))
  where
    go : (b : Bool) → map (change_in e.id) (cond b (t ∷ []) []) ≡ cond b (change_in e.id t ∷ []) []
    go true = refl
    go false = refl
