-- A place on a way: as a new one, or round.
use Rattle.std.proofs.Common.{ℕ, ◌+◌, ◌<◌, ◌≤◌, ◌≡◌, ◌≢◌, ◌∙◌, refl, sym, ap, subst, arith, cond, Bool, true, false}
use Rattle.std.proofs.Common.{List, [], ◌∷◌}
use Rattle.std.proofs.Common.{◌++◌, length, take, drop, get_or, set, reverse, Option, Some, None, eqb, ⊎_elim}
use Rattle.std.specs.Prelude.{◌||◌, ◌==◌}
use Rattle.std.proofs.lemmas.Bool.{cases_eq, eq-eqb, ne_eqb}
use Rattle.std.proofs.lemmas.List.{drop-append-le, drop-drop, drop-take, get_or-set_other, get_or-set_same}
use Rattle.std.proofs.lemmas.List.{length-set, length-take-le, take-map}
use Rattle.tomex_loops.specs.declared.finding.Finder.{Finder}
use Rattle.tomex_loops.specs.declared.finding.Stop.{Stop}
use Rattle.tomex_loops.specs.Calls.{Calls}
use Rattle.tomex_loops.specs.Loops.{Found, come_to, head_of, is_among, loop_after, loop_given, stand}
use Rattle.tomex_loops.specs.Ways.{AreFound, ShowsFound, around_in, calls_in, loop_in, places_of, same}
use Rattle.tomex_loops.proofs.Calls.{around_fewer, around_more, same_calls}
use Rattle.tomex_loops.proofs.Stops.{many_places}

-- the state before the place is put on its way
pub record IsReady {A : Type 0} (f : Found) (p : ℕ) (s : Finder A) : Type 0 where
  pub low : s.base ≤ length (places_of s.stops.items)
  pub here : drop s.base (places_of s.stops.items) ++ p ∷ [] ≡ (come_to p f (stand f.ways.here p)).ways.here
  pub around : around_in same (reverse s.bases.items) (take s.base (places_of s.stops.items))
      ≡ (come_to p f (stand f.ways.here p)).ways.around
  pub found : AreFound s.heads.items s.loops.items (come_to p f (stand f.ways.here p))

-- the state after that
pub ways_put : {A : Type 0} (f : Found) (p : ℕ) (s : Finder A) (places : List ℕ) → IsReady f p s
    → places ≡ places_of s.stops.items ++ p ∷ []
    → calls_in same s.base (reverse s.bases.items) places ≡ (come_to p f (stand f.ways.here p)).ways
ways_put f p s places ready is = same_calls (drop s.base places) (come_to p f (stand f.ways.here p)).ways.here
    (around_in same (reverse s.bases.items) (take s.base places)) (come_to p f (stand f.ways.here p)).ways.around
    (ap (λ (xs : List ℕ). drop s.base xs) is ∙ drop-append-le s.base (places_of s.stops.items)
    (p ∷ []) ready.low ∙ ready.here)
    (ap (λ (xs : List ℕ). around_in same (reverse s.bases.items) (take s.base xs)) is
    ∙ around_more same refl s.base (reverse s.bases.items) (places_of s.stops.items) (p ∷ []) ready.low ∙ ready.around)

pub ready_new : {A : Type 0} (f : Found) (p : ℕ) (s : Finder A) → ShowsFound f s → s.base ≤ length s.stops.items
    → stand (drop s.base (places_of s.stops.items)) p ≡ None → IsReady f p s
ready_new f p s shows low nowhere =
    let here : drop s.base (places_of s.stops.items) ≡ f.ways.here = ap (λ (w : Calls ℕ). w.here) shows.ways in
    let none : None ≡ stand f.ways.here p = sym nowhere ∙ ap (λ (xs : List ℕ). stand xs p) here in
    record {
      low = omega (arith, low, many_places s.stops.items);
      here = subst (λ (o : Option ℕ). drop s.base (places_of s.stops.items) ++ p ∷ [] ≡ (come_to p f o).ways.here) none
          (ap (λ (xs : List ℕ). xs ++ p ∷ []) here);
      around = subst (λ (o : Option ℕ). around_in same (reverse s.bases.items) (take s.base (places_of s.stops.items))
          ≡ (come_to p f o).ways.around) none (ap (λ (w : Calls ℕ). w.around) shows.ways);
      found = subst (λ (o : Option ℕ). AreFound s.heads.items s.loops.items (come_to p f o)) none
          (record { same_heads = shows.found.same_heads; same_loops = shows.found.same_loops });
    }

-- a round, by what was on the way before it, and by its places
abbrev pub come_with : ℕ → Found → (before round : List ℕ) → Found
come_with p f before round = record {
  ways = record f.ways { here = before ++ p ∷ [] };
  heads = λ x. f.heads x || (x == head_of p round);
  loop = loop_after before round (head_of p round) f.loop;
}

heads_with : (heads : List Bool) (f : ℕ → Bool) (h x : ℕ) → h < length heads
    → ((y : ℕ) → y < length heads → get_or heads y false ≡ f y) → x < length heads
    → get_or (set heads h true) x false ≡ (f x || eqb x h)
heads_with heads f h x inside are low = ⊎_elim
    (λ (e : x ≡ h). subst (λ (y : ℕ). get_or (set heads h true) y false ≡ (f y || eqb y h)) (sym e)
    (get_or-set_same heads h true false inside
    ∙ sym (ap (λ (b : Bool). f h || b) (eq-eqb h h refl)
    ∙ (elim (f h) as (λ b. (b || true) ≡ true) [ true ↦ refl | false ↦ refl ]))))
    (λ (ne : x ≢ h). get_or-set_other heads h x true false ne ∙ are x low
    ∙ sym (ap (λ (b : Bool). f x || b) (ne_eqb x h ne)
    ∙ (elim (f x) as (λ b. (b || false) ≡ b) [ true ↦ refl | false ↦ refl ])))
    (cases_eq x h)

loops_with : (before round : List ℕ) (head x : ℕ) (one two : ℕ → Option ℕ) → one x ≡ two x
    → loop_after before round head one x ≡ loop_after before round head two x
loops_with before round head x one two is =
    ap (λ (o : Option ℕ). cond (is_among round x) (loop_given before head x o) o) is

pub ready_round : {A : Type 0} (f : Found) (p k j : ℕ) (s t : Finder A) → ShowsFound f s → s.base ≤ k
    → k < length s.stops.items → k ≡ s.base + j → stand (drop s.base (places_of s.stops.items)) p ≡ Some j
    → head_of p (drop k (places_of s.stops.items)) < length s.heads.items
    → length t.loops.items ≡ length s.loops.items
    → t.base ≡ s.base → t.bases.items ≡ s.bases.items → t.stops.items ≡ take k s.stops.items
    → t.heads.items ≡ set s.heads.items (head_of p (drop k (places_of s.stops.items))) true
    → ((x : ℕ) → x < length s.loops.items → loop_in t.loops.items x ≡ loop_after
    (drop s.base (take k (places_of s.stops.items))) (drop k (places_of s.stops.items))
    (head_of p (drop k (places_of s.stops.items))) (loop_in s.loops.items) x)
    → IsReady f p t
ready_round f p k j s t shows low high at there inside many base bases stops heads loops =
    let places : List ℕ = places_of s.stops.items in
    let n : length (places_of s.stops.items) ≡ length s.stops.items = many_places s.stops.items in
    let cut : places_of t.stops.items ≡ take k (places_of s.stops.items) =
    ap (λ (xs : List Stop). places_of xs) stops ∙ sym (take-map (λ (x : Stop). x.place) k s.stops.items) in
    let left : length (take k (places_of s.stops.items)) ≡ k =
    length-take-le k (places_of s.stops.items) (omega (arith, n, high)) in
    let here : drop s.base (places_of s.stops.items) ≡ f.ways.here = ap (λ (w : Calls ℕ). w.here) shows.ways in
    let some : Some j ≡ stand f.ways.here p = sym there ∙ ap (λ (xs : List ℕ). stand xs p) here in
    let before : drop s.base (take k (places_of s.stops.items)) ≡ take j f.ways.here =
    ap (λ (n : ℕ). drop s.base (take n (places_of s.stops.items))) at
    ∙ drop-take s.base j (places_of s.stops.items) ∙ ap (λ (xs : List ℕ). take j xs) here in
    let round : drop k (places_of s.stops.items) ≡ drop j f.ways.here =
    ap (λ (n : ℕ). drop n (places_of s.stops.items)) at
    ∙ sym (drop-drop j s.base (places_of s.stops.items)) ∙ ap (λ (xs : List ℕ). drop j xs) here in
    let found : AreFound t.heads.items t.loops.items
    (come_with p f (drop s.base (take k (places_of s.stops.items))) (drop k (places_of s.stops.items))) = record {
      same_heads = λ x h. ap (λ (xs : List Bool). get_or xs x false) heads
          ∙ heads_with s.heads.items f.heads (head_of p (drop k
          (places_of s.stops.items))) x inside shows.found.same_heads
          (omega (
            arith,
            h,
            ap (λ (xs : List Bool). length xs) heads,
            length-set s.heads.items (head_of p (drop k (places_of s.stops.items))) true,
          ));
      same_loops = λ x h. let low_x : x < length s.loops.items = omega (arith, h, many) in
          loops x low_x ∙ loops_with (drop s.base (take k (places_of s.stops.items))) (drop k (places_of s.stops.items))
          (head_of p (drop k (places_of s.stops.items))) x (loop_in s.loops.items) f.loop
          (shows.found.same_loops x low_x);
    } in
    record {
      low = omega (arith, base, low, left, ap (λ (xs : List ℕ). length xs) cut);
      here = subst (λ (o : Option ℕ). drop t.base (places_of t.stops.items) ++ p ∷ [] ≡ (come_to p f o).ways.here) some
          (ap (λ (xs : List ℕ). xs ++ p ∷ []) (ap (λ (n : ℕ). drop n (places_of t.stops.items)) base
          ∙ ap (λ (xs : List ℕ). drop s.base xs) cut ∙ before));
      around = subst (λ (o : Option ℕ). around_in same (reverse t.bases.items) (take t.base (places_of t.stops.items))
          ≡ (come_to p f o).ways.around) some
          (ap (λ (xs : List ℕ). around_in same (reverse xs) (take t.base (places_of t.stops.items))) bases
          ∙ ap (λ (n : ℕ). around_in same (reverse s.bases.items) (take n (places_of t.stops.items))) base
          ∙ ap (λ (xs : List ℕ). around_in same (reverse s.bases.items) (take s.base xs)) cut
          ∙ around_fewer same refl s.base k (reverse s.bases.items) (places_of s.stops.items) low
          ∙ ap (λ (w : Calls ℕ). w.around) shows.ways);
      found = subst (λ (o : Option ℕ). AreFound t.heads.items t.loops.items (come_to p f o)) some
          (subst (λ (xs : List ℕ). AreFound t.heads.items t.loops.items (come_with p f (take j f.ways.here) xs)) round
          (subst (λ (xs : List ℕ). AreFound t.heads.items t.loops.items
          (come_with p f xs (drop k (places_of s.stops.items)))) before found));
    }
