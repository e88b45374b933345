-- Two loops lie one in the other or apart: each place's loop has a lower number, and from a place on there is one loop
-- around, so two of its loops lie one in the other.
use Rattle.std.proofs.Common.{ℕ, zero, suc, ◌<◌, ◌≤◌, ◌≡◌, ◌≢◌, ◌∙◌, refl, sym, ap, subst, arith, Bool, true}
use Rattle.std.proofs.Common.{false, List, [], ◌∷◌, Option, Some, None, take, drop, min, inl, inr, ⊎_elim, ◌⊎◌}
use Rattle.std.specs.Prelude.{IfSome, ◌==◌, ◌||◌}
use Rattle.std.proofs.lemmas.Bool.{and_left, and_right, both_ways, cases_Bool, cases_eq, cond_both, eqb-true, ne_eqb}
use Rattle.std.proofs.lemmas.Bool.{or_cases, or_right}
use Rattle.tomex_rvexec.specs.declared.step.Step.{Step}
use Rattle.tomex_loops.specs.declared.coming.Coming.{Coming}
use Rattle.tomex_loops.specs.Calls.{comings_of, moved}
use Rattle.tomex_loops.specs.Loops.{Found, come_to, found_after, found_at, head_of, heads_around, is_among, is_in_loop}
use Rattle.tomex_loops.specs.Loops.{loop_after, loop_given, nothing, stand}
use Rattle.tomex_loops.specs.Nest.{AreApart, LiesIn, LoopsAreANest}
use Rattle.tomex_loops.specs.Runs.{found_of}
use Rattle.tomex_loops.proofs.Given.{given_lower, head_at_most_first}
use Rattle.tomex_loops.proofs.Jumps.{in_next}

-- each place's loop has a lower number
abbrev pub AllLower : (ℕ → Option ℕ) → Type 0
AllLower loop = (x : ℕ) → IfSome (loop x) (λ h. h < x)

head_low : (p : ℕ) (round : List ℕ) (x : ℕ) → is_among round x ≡ true → head_of p round ≤ x
head_low p [] x is = absurd (cc is)
head_low p (y ∷ round) x is = ⊎_elim
    (λ (e : (y == x) ≡ true). omega (arith, head_at_most_first (min p y) round, eqb-true y x e))
    (λ (e : is_among round x ≡ true). head_low (min p y) round x e)
    (or_cases (y == x) (is_among round x) is)

after_lower : (before round : List ℕ) (p : ℕ) (loop : ℕ → Option ℕ) → AllLower loop
    → AllLower (loop_after before round (head_of p round) loop)
after_lower before round p loop lower x = cond_both (is_among round x)
    (loop_given before (head_of p round) x (loop x)) (loop x) (λ (o : Option ℕ). IfSome o (λ h. h < x))
    (λ is. given_lower before (head_of p round) x (loop x) (head_low p round x is) (lower x))
    (λ is. lower x)

come_lower : (p : ℕ) (f : Found) (o : Option ℕ) → AllLower f.loop → AllLower (come_to p f o).loop
come_lower p f None lower = lower
come_lower p f (Some k) lower = after_lower (take k f.ways.here) (drop k f.ways.here) p f.loop lower

found_lower : (f : Found) (comings : List Coming) → AllLower f.loop → AllLower (found_after f comings).loop
found_lower f [] lower = lower
found_lower f (c ∷ left) lower = found_lower (found_at f c) left
    (come_lower c.place (record f { ways = moved c.by f.ways }) (stand (moved c.by f.ways).here c.place) lower)

pub run_lower : (steps : List Step) → AllLower (found_of steps).loop
run_lower steps = found_lower nothing (comings_of steps) (λ x. tt)

module _ (loop : ℕ → Option ℕ) (lower : AllLower loop) where
  -- A place of a loop that isn't its head has a loop, and that one's head is a place of it.
  record IsFurtherIn (x h : ℕ) : Type 0 where
    around : ℕ
    is : loop x ≡ Some around
    low : around < x
    inside : is_in_loop loop h around ≡ true

  further_by : (x h : ℕ) (o : Option ℕ) → loop x ≡ o → x ≢ h → is_in_loop loop h x ≡ true → IsFurtherIn x h
  further_by x h None none ne is =
      let never : is_in_loop loop h x ≡ ((x == h) || false) =
      ap (λ (o : Option ℕ). (x == h) || is_among (heads_around loop x o) h) none in
      absurd (both_ways (is_in_loop loop h x) (never ∙ ap (λ (b : Bool). b || false) (ne_eqb x h ne)) is)
  further_by x h (Some p) some ne is = record {
    around = p;
    is = some;
    low = subst (λ (o : Option ℕ). IfSome o (λ k. k < x)) some (lower x);
    inside = sym (in_next loop lower x p h some
        ∙ ap (λ (b : Bool). b || is_in_loop loop h p) (ne_eqb x h ne)) ∙ is;
  }

  further : (x h : ℕ) → x ≢ h → is_in_loop loop h x ≡ true → IsFurtherIn x h
  further x h ne is = further_by x h (loop x) refl ne is

  -- if a loop's head is a place of another one, all its places are
  all_inside : (n x h g : ℕ) → x < n → is_in_loop loop g h ≡ true → is_in_loop loop h x ≡ true
      → is_in_loop loop g x ≡ true
  all_inside zero x h g low head is = absurd (omega (arith, low))
  all_inside (suc n) x h g low head is = ⊎_elim
      (λ (e : x ≡ h). subst (λ (y : ℕ). is_in_loop loop g y ≡ true) (sym e) head)
      (λ (ne : x ≢ h).
      let up : IsFurtherIn x h = further x h ne is in
      let p : ℕ = up.around in
      in_next loop lower x p g up.is
      ∙ or_right (x == g) (is_in_loop loop g p) (all_inside n p h g (omega (arith, low, up.low)) head up.inside))
      (cases_eq x h)

  pub lies_in : (h g : ℕ) → is_in_loop loop g h ≡ true → LiesIn loop h g
  lies_in h g head x is = all_inside (suc x) x h g (omega arith) head is

  -- two loops with a place in both
  one_in_other : (n x h g : ℕ) → x < n → is_in_loop loop h x ≡ true → is_in_loop loop g x ≡ true
      → (is_in_loop loop g h ≡ true) ⊎ (is_in_loop loop h g ≡ true)
  one_in_other zero x h g low one two = absurd (omega (arith, low))
  one_in_other (suc n) x h g low one two = ⊎_elim
      (λ (e : x ≡ h). inl (subst (λ (y : ℕ). is_in_loop loop g y ≡ true) e two))
      (λ (not_h : x ≢ h). ⊎_elim
      (λ (e : x ≡ g). inr (subst (λ (y : ℕ). is_in_loop loop h y ≡ true) e one))
      (λ (not_g : x ≢ g).
      let up : IsFurtherIn x h = further x h not_h one in
      let other : IsFurtherIn x g = further x g not_g two in
      let same : Some other.around ≡ Some up.around = sym other.is ∙ up.is in
      let e : other.around ≡ up.around = cc same in
      one_in_other n up.around h g (omega (arith, low, up.low)) up.inside
      (subst (λ (y : ℕ). is_in_loop loop g y ≡ true) e other.inside))
      (cases_eq x g))
      (cases_eq x h)

  no_place : (h g : ℕ) → is_in_loop loop g h ≡ false → is_in_loop loop h g ≡ false → AreApart loop h g
  no_place h g one two x = ⊎_elim
      (λ (a : is_in_loop loop h x ≡ true). ⊎_elim
      (λ (b : is_in_loop loop g x ≡ true). absurd (⊎_elim
      (λ (e : is_in_loop loop g h ≡ true). both_ways (is_in_loop loop g h) one e)
      (λ (e : is_in_loop loop h g ≡ true). both_ways (is_in_loop loop h g) two e)
      (one_in_other (suc x) x h g (omega arith) a b)))
      (λ (b : is_in_loop loop g x ≡ false). and_right (is_in_loop loop h x) (is_in_loop loop g x) b)
      (cases_Bool (is_in_loop loop g x)))
      (λ (a : is_in_loop loop h x ≡ false). and_left (is_in_loop loop h x) (is_in_loop loop g x) a)
      (cases_Bool (is_in_loop loop h x))

  nest : (h g : ℕ) → LiesIn loop h g ⊎ (LiesIn loop g h ⊎ AreApart loop h g)
  nest h g = ⊎_elim
      (λ (e : is_in_loop loop g h ≡ true). inl (lies_in h g e))
      (λ (no : is_in_loop loop g h ≡ false). ⊎_elim
      (λ (e : is_in_loop loop h g ≡ true). inr (inl (lies_in g h e)))
      (λ (never : is_in_loop loop h g ≡ false). inr (inr (no_place h g no never)))
      (cases_Bool (is_in_loop loop h g)))
      (cases_Bool (is_in_loop loop g h))

pub loops_are_a_nest : LoopsAreANest
loops_are_a_nest steps h g = nest (found_of steps).loop (run_lower steps) h g
