-- Where places stand last, with one stop more or fewer.
use Rattle.std.proofs.Common.{ℕ, ◌+◌, ◌-◌, ◌<◌, ◌≤◌, ◌≡◌, ◌≢◌, ◌∙◌, refl, sym, ap, subst, arith, true}
use Rattle.std.proofs.Common.{false, List, [], ◌∷◌, ◌++◌, length, take, drop, get_or, set, Option, Some, None}
use Rattle.std.proofs.Common.{eqb, ⊎_elim, length-set}
use Rattle.std.proofs.lemmas.Bool.{cases_eq, cases_lt, eq-eqb, ne_eqb}
use Rattle.std.proofs.lemmas.List.{length-map, length-drop, get_or-drop, get_or-map, get_or_append_left, get_or_push}
use Rattle.std.proofs.lemmas.List.{get_or-set_other, get_or-set_same, length_push, map_push}
use Rattle.std.proofs.lemmas.List.{take-append-le, take_all}
use Rattle.tomex_loops.specs.declared.finding.Stop.{Stop}
use Rattle.tomex_loops.specs.Loops.{stand}
use Rattle.tomex_loops.specs.Ways.{AreStops, places_of}
use Rattle.tomex_loops.proofs.Ways.{stand-push}

pub many_places : (stops : List Stop) → length (places_of stops) ≡ length stops
many_places stops = length-map stops (λ s. s.place)

-- a place that isn't the last one
stand_other : (way : List ℕ) (x p : ℕ) → p ≢ x → stand (way ++ x ∷ []) p ≡ stand way p
stand_other way x p ne = stand-push way x p ∙ (let e : eqb x p ≡ false = ne_eqb x p (λ q. ne (sym q)) in rw e refl)

stand_last : (way : List ℕ) (p : ℕ) → stand (way ++ p ∷ []) p ≡ Some (length way)
stand_last way p = stand-push way p p ∙ (let e : eqb p p ≡ true = eq-eqb p p refl in rw e refl)

-- the places before one that stands within the front
front_places : (front : List Stop) (s : Stop) (k : ℕ) → k ≤ length front
    → take k (places_of (front ++ s ∷ [])) ≡ take k (places_of front)
front_places front s k h = ap (λ (xs : List ℕ). take k xs) (map_push (λ (x : Stop). x.place) front s)
    ∙ take-append-le k (places_of front) (s.place ∷ []) (omega (arith, many_places front))

pub popped : (front : List Stop) (s : Stop) (at : List (Option ℕ)) → AreStops (front ++ s ∷ []) at
    → AreStops front (set at s.place s.before)
popped front s at are =
    let whole : places_of (front ++ s ∷ []) ≡ places_of front ++ s.place ∷ [] = map_push (λ
    (x : Stop). x.place) front s in
    let n : length (front ++ s ∷ []) ≡ length front + 1 = length_push front s in
    let here : get_or (front ++ s ∷ []) (length front) s ≡ s = get_or_push front s s (length front) refl in
    let inside : s.place < length at = subst (λ (x : Stop). x.place < length at) here
    (are.within (length front) s (omega (arith, n))) in
    let below : s.before ≡ stand (places_of front) s.place =
    subst (λ (x : Stop). x.before ≡ stand (take (length front) (places_of (front ++ s ∷ []))) x.place) here
    (are.before (length front) s (omega (arith, n)))
    ∙ ap (λ (xs : List ℕ). stand xs s.place) (front_places front s (length front) (omega arith)
    ∙ take_all (length front) (places_of front) (omega (arith, many_places front))) in
    record {
      last = λ p h. ⊎_elim
          (λ (e : p ≡ s.place). subst (λ (q : ℕ). get_or (set at s.place s.before) q None ≡ stand (places_of front) q)
          (sym e)
          (get_or-set_same at s.place s.before None inside ∙ below))
          (λ (ne : p ≢ s.place). get_or-set_other at s.place p s.before None ne
          ∙ are.last p (omega (arith, h, length-set at s.place s.before))
          ∙ ap (λ (xs : List ℕ). stand xs p) whole ∙ stand_other (places_of front) s.place p ne)
          (cases_eq p s.place);
      before = λ k z h.
          let there : get_or (front ++ s ∷ []) k z ≡ get_or front k z = get_or_append_left front (s ∷ []) z k h in
          subst (λ (x : Stop). x.before ≡ stand (take k (places_of (front ++ s ∷ []))) x.place) there
          (are.before k z (omega (arith, n, h)))
          ∙ ap (λ (xs : List ℕ). stand xs (get_or front k z).place) (front_places front s k (omega (arith, h)));
      within = λ k z h.
          let there : get_or (front ++ s ∷ []) k z ≡ get_or front k z = get_or_append_left front (s ∷ []) z k h in
          let many : length (set at s.place s.before) ≡ length at = length-set at s.place s.before in
          let old : (get_or front k z).place < length at =
          subst (λ (x : Stop). x.place < length at) there (are.within k z (omega (arith, n, h))) in
          omega (arith, many, old);
    }

pub pushed : (stops : List Stop) (s : Stop) (at : List (Option ℕ)) → AreStops stops at → s.place < length at
    → s.before ≡ get_or at s.place None
    → AreStops (stops ++ s ∷ []) (set at s.place (Some (length stops)))
pushed stops s at are inside was =
    let whole : places_of (stops ++ s ∷ []) ≡ places_of stops ++ s.place ∷ [] = map_push (λ
    (x : Stop). x.place) stops s in
    let n : length (stops ++ s ∷ []) ≡ length stops + 1 = length_push stops s in
    let many : length (set at s.place (Some (length stops))) ≡ length at = length-set at s.place (Some
    (length stops)) in
    record {
      last = λ p h. ⊎_elim
          (λ (e : p ≡ s.place). subst
          (λ (q : ℕ). get_or (set at s.place (Some (length stops))) q None ≡ stand (places_of (stops ++ s ∷ [])) q)
          (sym e)
          (get_or-set_same at s.place (Some (length stops)) None inside
          ∙ sym (ap (λ (xs : List ℕ). stand xs s.place) whole ∙ stand_last (places_of stops) s.place
          ∙ ap (λ (m : ℕ). Some m) (many_places stops))))
          (λ (ne : p ≢ s.place). get_or-set_other at s.place p (Some (length stops)) None ne
          ∙ are.last p (omega (arith, h, many))
          ∙ sym (ap (λ (xs : List ℕ). stand xs p) whole ∙ stand_other (places_of stops) s.place p ne))
          (cases_eq p s.place);
      before = λ k z h. ⊎_elim
          (λ (low : k < length stops).
          let there : get_or stops k z ≡ get_or (stops ++ s ∷ []) k z = sym (get_or_append_left stops
          (s ∷ []) z k low) in
          subst (λ (x : Stop). x.before ≡ stand (take k (places_of (stops ++ s ∷ []))) x.place) there
          (are.before k z low
          ∙ sym (ap (λ (xs : List ℕ). stand xs (get_or stops k z).place) (front_places stops s k (omega
          (arith, low))))))
          (λ (high : length stops ≤ k).
          let e : length stops ≡ k = omega (arith, n, h, high) in
          let there : s ≡ get_or (stops ++ s ∷ []) k z = sym (get_or_push stops s z k e) in
          let all : take k (places_of (stops ++ s ∷ [])) ≡ places_of stops =
          front_places stops s k (omega (arith, e)) ∙ take_all k (places_of stops) (omega
          (arith, many_places stops, e)) in
          subst (λ (x : Stop). x.before ≡ stand (take k (places_of (stops ++ s ∷ []))) x.place) there
          (was ∙ are.last s.place inside ∙ sym (ap (λ (xs : List ℕ). stand xs s.place) all)))
          (cases_lt k (length stops));
      within = λ k z h. ⊎_elim
          (λ (low : k < length stops).
          let there : get_or stops k z ≡ get_or (stops ++ s ∷ []) k z = sym (get_or_append_left stops
          (s ∷ []) z k low) in
          let old : (get_or (stops ++ s ∷ []) k z).place < length at =
          subst (λ (x : Stop). x.place < length at) there (are.within k z low) in
          omega (arith, many, old))
          (λ (high : length stops ≤ k).
          let there : s ≡ get_or (stops ++ s ∷ []) k z = sym (get_or_push stops s z k (omega (arith, n, h, high))) in
          let new : (get_or (stops ++ s ∷ []) k z).place < length at =
          subst (λ (x : Stop). x.place < length at) there inside in
          omega (arith, many, new))
          (cases_lt k (length stops));
    }

-- the places of the stops from one on are within
pub places_within : (stops : List Stop) (at : List (Option ℕ)) (round : List ℕ) (k i : ℕ) → AreStops stops at
    → round ≡ drop k (places_of stops) → i < length round → get_or round i 0 < length at
places_within stops at round k i are is h =
    let z : Stop = record { place = 0; before = None } in
    let many : length round ≡ length stops - k = ap (λ (xs : List ℕ). length xs) is
    ∙ length-drop k (places_of stops) ∙ ap (λ (n : ℕ). n - k) (many_places stops) in
    let low : k + i < length stops = omega (arith, many, h) in
    let there : get_or round i 0 ≡ (get_or stops (k + i) z).place = ap (λ (xs : List ℕ). get_or xs i 0) is
    ∙ get_or-drop k (places_of stops) i 0 ∙ get_or-map (λ (s : Stop). s.place) stops (k + i) z 0 low in
    let inside = are.within (k + i) z low in omega (arith, there, inside)
