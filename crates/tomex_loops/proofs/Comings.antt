-- How a run reaches one more step.
use Rattle.std.proofs.Common.{ℕ, ◌+◌, ◌-◌, ◌<◌, ◌≤◌, ◌≡◌, ◌∙◌, refl, sym, ap, subst, arith, List, [], ◌∷◌, ◌++◌, length}
use Rattle.std.proofs.Common.{append_assoc, drop, get_or, ⊎_elim}
use Rattle.std.proofs.lemmas.List.{append-nil, drop_all, get_or_append_left, get_or_push, length_push}
use Rattle.std.proofs.lemmas.Bool.{cases_lt}
use Rattle.tomex_rvexec.specs.declared.step.Step.{Step}
use Rattle.tomex_loops.specs.declared.coming.Move.{Move}
use Rattle.tomex_loops.specs.declared.coming.Move.TheVariants.{On}
use Rattle.tomex_loops.specs.declared.coming.Coming.{Coming}
use Rattle.tomex_loops.specs.Calls.{awaited_after, comings_after, comings_of, move_to, place_of}

abbrev pub come : Move → ℕ → Coming
come by place = record { by = by; place = place }

pub comings_start : (steps : List Step) (z : Step) (place : ℕ) (items : List Coming) → 0 < length steps
    → place ≡ place_of steps (get_or steps 0 z).pc → items ≡ come On place ∷ []
    → comings_of steps ≡ items ++ comings_after steps [] (get_or steps 0 z) (drop 1 steps)
comings_start [] z place items h e is = absurd (omega (arith, h))
comings_start (x ∷ left) z place items h e is = rw (is, e) refl

pub comings_more : (steps : List Step) (all old new : List Coming) (awaited then : List ℕ) (before x : Step)
    (left : List Step) (by : Move) (place : ℕ) → by ≡ move_to awaited before x → then ≡ awaited_after by awaited before
    → place ≡ place_of steps x.pc → new ≡ old ++ come by place ∷ []
    → all ≡ old ++ comings_after steps awaited before (x ∷ left)
    → all ≡ new ++ comings_after steps then x left
comings_more steps all old new awaited then before x left by place is_by is_then is_place is_new is =
    is ∙ sym (rw (is_new, is_then, is_by, is_place) (append_assoc old
    (come (move_to awaited before x) (place_of steps x.pc) ∷ [])
    (comings_after steps (awaited_after (move_to awaited before x) awaited before) x left)))

pub comings_end : (steps : List Step) (items : List Coming) (awaited : List ℕ) (k : ℕ) → length steps ≤ k
    → 0 < length steps
    → ((z : Step) → comings_of steps ≡ items ++ comings_after steps awaited (get_or steps (k - 1) z) (drop k steps))
    → items ≡ comings_of steps
comings_end [] items awaited k end some is = absurd (omega (arith, some))
comings_end (x ∷ left) items awaited k end some is = sym (is x
    ∙ ap (λ (xs : List Step). items ++ comings_after (x ∷ left) awaited (get_or (x ∷ left) (k - 1) x) xs)
    (drop_all k (x ∷ left) end) ∙ append-nil items)

-- one more within the run
pub push_within : (items : List Coming) (x : Coming) (new : List Coming) (n : ℕ)
    → ((j : ℕ) (z : Coming) → j < length items → (get_or items j z).place < n) → x.place < n → new ≡ items ++ x ∷ []
    → (j : ℕ) (z : Coming) → j < length new → (get_or new j z).place < n
push_within items x new n are one is j z h =
    let many : length new ≡ length items + 1 = ap (λ (xs : List Coming). length xs) is ∙ length_push items x in
    ⊎_elim
    (λ (old : j < length items).
    let there : get_or new j z ≡ get_or items j z =
    ap (λ (xs : List Coming). get_or xs j z) is ∙ get_or_append_left items (x ∷ []) z j old in
    subst (λ (c : Coming). c.place < n) (sym there) (are j z old))
    (λ (last : length items ≤ j).
    let there : get_or new j z ≡ x =
    ap (λ (xs : List Coming). get_or xs j z) is ∙ get_or_push items x z j (omega (arith, many, h, last)) in
    subst (λ (c : Coming). c.place < n) (sym there) one)
    (cases_lt j (length items))
