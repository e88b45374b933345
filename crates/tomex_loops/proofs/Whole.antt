-- The heads, visits and rounds that are found are those that are defined.
use Rattle.std.proofs.Common.{ℕ, zero, suc, ◌+◌, ◌<◌, ◌≡◌, ◌∙◌, ap, arith, cond, Bool, false, List, [], ◌∷◌, ◌++◌}
use Rattle.std.proofs.Common.{length, get_or, add-one, map, refl, subst, sym, true, Option}
use Rattle.std.proofs.lemmas.List.{append-nil}
use Rattle.tomex_rvexec.specs.declared.step.Step.{Step}
use Rattle.tomex_loops.specs.declared.coming.Coming.{Coming}
use Rattle.tomex_loops.specs.Calls.{comings_of}
use Rattle.tomex_loops.specs.Loops.{found_in}
use Rattle.tomex_loops.specs.Runs.{ends_of, found_of, heads_of, heads_to, here_of, innermost_of, rounds_of, visits_of}
use Rattle.tomex_loops.specs.Visits.{Walk, innermost, innermost_here, setting_out, walk_after, walks_after}
use Rattle.tomex_loops.specs.Walking.{found_by}
use Rattle.tomex_loops.specs.Ways.{AreFound, AreLower}
use Rattle.tomex_loops.proofs.Agree.{Agree, after_same, all_same}

heads_to_same : (one two : ℕ → Bool) (n : ℕ) → ((x : ℕ) → x < n → one x ≡ two x) → heads_to one n ≡ heads_to two n
heads_to_same one two zero are = refl
heads_to_same one two (suc n) are =
    ap (λ (xs : List ℕ). xs ++ cond (one n) (n ∷ []) []) (heads_to_same one two n (λ x h. are x (omega (arith, h))))
    ∙ ap (λ (b : Bool). heads_to two n ++ cond b (n ∷ []) []) (are n (omega arith))

pub heads_whole : (steps : List Step) (comings : List Coming) (heads : List Bool) → comings ≡ comings_of steps
    → length heads ≡ length steps
    → ((x : ℕ) → x < length heads → get_or heads x false ≡ (found_in comings).heads x)
    → heads_to (λ x. get_or heads x false) (length heads) ≡ heads_of steps
heads_whole steps comings heads is many found =
    heads_to_same (λ x. get_or heads x false) (found_in comings).heads (length heads) found
    ∙ ap (λ (n : ℕ). heads_to (found_in comings).heads n) many
    ∙ ap (λ (cs : List Coming). heads_to (found_in cs).heads (length steps)) is

-- one more place
pub heads_more : (heads : List Bool) (n : ℕ) → heads_to (λ x. get_or heads x false) (n + 1)
    ≡ heads_to (λ x. get_or heads x false) n ++ cond (get_or heads n false) (n ∷ []) []
heads_more heads n = rw add-one refl

pub heads_yes : (heads : List Bool) (n : ℕ) (old new : List ℕ) → old ≡ heads_to (λ x. get_or heads x false) n
    → get_or heads n false ≡ true → new ≡ old ++ n ∷ [] → new ≡ heads_to (λ x. get_or heads x false) (n + 1)
heads_yes heads n old new was is made = made ∙ ap (λ (xs : List ℕ). xs ++ n ∷ []) was
    ∙ sym (heads_more heads n ∙ ap (λ (b : Bool). heads_to (λ x. get_or heads x false) n ++ cond b (n ∷ []) []) is)

pub heads_no : (heads : List Bool) (n : ℕ) (old : List ℕ) → old ≡ heads_to (λ x. get_or heads x false) n
    → get_or heads n false ≡ false → old ≡ heads_to (λ x. get_or heads x false) (n + 1)
heads_no heads n old was is = was ∙ sym (heads_more heads n
    ∙ ap (λ (b : Bool). heads_to (λ x. get_or heads x false) n ++ cond b (n ∷ []) []) is
    ∙ append-nil (heads_to (λ x. get_or heads x false) n))

-- a run's comings, with the heads and loops that are found in them
pub record AreWhole (steps : List Step) (comings : List Coming) (heads : List Bool)
    (loops : List (Option ℕ)) : Type 0 where
  pub is : comings ≡ comings_of steps
  pub many : length comings ≡ length steps
  pub places : (k : ℕ) (z : Coming) → k < length comings → (get_or comings k z).place < length comings
  pub many_heads : length heads ≡ length comings
  pub many_loops : length loops ≡ length comings
  pub lower : AreLower loops
  pub found : AreFound heads loops (found_in comings)

pub are_whole : (steps : List Step) (comings given : List Coming) (heads given_heads : List Bool)
    (loops given_loops : List (Option ℕ)) → comings ≡ comings_of steps → length comings ≡ length steps
    → ((k : ℕ) (z : Coming) → k < length comings → (get_or comings k z).place < length comings)
    → given ≡ comings → heads ≡ given_heads → loops ≡ given_loops
    → length given_heads ≡ length given → length given_loops ≡ length given → AreLower loops
    → AreFound given_heads given_loops (found_in given) → AreWhole steps comings heads loops
are_whole steps comings given heads given_heads loops given_loops is many places same same_heads same_loops many_heads
    many_loops lower found = record {
      is = is;
      many = many;
      places = places;
      many_heads = ap (λ (bs : List Bool). length bs) same_heads ∙ many_heads
          ∙ ap (λ (cs : List Coming). length cs) same;
      many_loops = ap (λ (os : List (Option ℕ)). length os) same_loops ∙ many_loops
          ∙ ap (λ (cs : List Coming). length cs) same;
      lower = lower;
      found = subst (λ (bs : List Bool). AreFound bs loops (found_in comings)) (sym same_heads)
          (subst (λ (os : List (Option ℕ)). AreFound given_heads os (found_in comings)) (sym same_loops)
          (subst (λ (cs : List Coming). AreFound given_heads given_loops (found_in cs)) same found));
    }

module _ (steps : List Step) (comings : List Coming) (heads : List Bool) (loops : List (Option ℕ))
    (whole : AreWhole steps comings heads loops) where
  agree : Agree (length comings) (found_in comings) (found_by heads loops)
  agree = record {
    heads = λ x h. sym (whole.found.same_heads x (omega (arith, h, whole.many_heads)));
    loops = λ x h. sym (whole.found.same_loops x (omega (arith, h, whole.many_loops)));
    lower = whole.lower;
  }

  last : walk_after (found_by heads loops) setting_out comings
      ≡ walk_after (found_of steps) setting_out (comings_of steps)
  last = sym (after_same (length comings) (found_in comings) (found_by heads loops) agree setting_out comings
      whole.places)
      ∙ ap (λ (cs : List Coming). walk_after (found_in cs) setting_out cs) whole.is

  pub visits_whole : (walk_after (found_by heads loops) setting_out comings).visits ≡ visits_of steps
  visits_whole = ap (λ (w : Walk). w.visits) last

  pub ends_whole : (walk_after (found_by heads loops) setting_out comings).ends ≡ ends_of steps
  ends_whole = ap (λ (w : Walk). w.ends) last

  pub rounds_whole : (walk_after (found_by heads loops) setting_out comings).rounds ≡ rounds_of steps
  rounds_whole = ap (λ (w : Walk). w.rounds) last

  walks : walks_after (found_by heads loops) setting_out comings
      ≡ walks_after (found_of steps) setting_out (comings_of steps)
  walks = sym (all_same (length comings) (found_in comings) (found_by heads loops) agree setting_out comings
      whole.places)
      ∙ ap (λ (cs : List Coming). walks_after (found_in cs) setting_out cs) whole.is

  pub innermost_whole : map (λ (w : Walk). innermost w.under_way)
      (walks_after (found_by heads loops) setting_out comings) ≡ innermost_of steps
  innermost_whole = ap (λ (ws : List Walk). map (λ (w : Walk). innermost w.under_way) ws) walks

  pub here_whole : map (λ (w : Walk). innermost_here w.under_way)
      (walks_after (found_by heads loops) setting_out comings) ≡ here_of steps
  here_whole = ap (λ (ws : List Walk). map (λ (w : Walk). innermost_here w.under_way) ws) walks
