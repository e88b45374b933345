-- Visits are the same for heads and loops that are the same at all places of a run.
use Rattle.std.proofs.Common.{ℕ, zero, suc, ◌+◌, ◌<◌, ◌≡◌, ◌∙◌, refl, ap, arith, cond, Bool}
use Rattle.std.proofs.Common.{List}
use Rattle.std.proofs.Common.{[], ◌∷◌, length, get_or, Option, Some, None}
use Rattle.std.specs.Prelude.{IfSome, ◌||◌, ◌==◌}
use Rattle.tomex_loops.specs.declared.coming.Coming.{Coming}
use Rattle.tomex_loops.specs.declared.visit.Open.{Open}
use Rattle.tomex_loops.specs.Loops.{Found, heads_around, is_among, is_in_loop}
use Rattle.tomex_loops.specs.Visits.{Walk, arrive, close, come, ending, enter, go_round, leave, reach, still_open}
use Rattle.tomex_loops.specs.Visits.{walk_after, walk_on, walks_after}
use Rattle.tomex_loops.specs.Visits.{walks_after}
use Rattle.tomex_loops.proofs.Jumps.{below_more, heads_below_same}

-- heads and loops at the first n places
pub record Agree (n : ℕ) (f g : Found) : Type 0 where
  pub heads : (x : ℕ) → x < n → f.heads x ≡ g.heads x
  pub loops : (x : ℕ) → x < n → f.loop x ≡ g.loop x
  pub lower : (x : ℕ) → IfSome (g.loop x) (λ h. h < x)

module _ (n : ℕ) (f g : Found) (agree : Agree n f g) where
  around_same : (k : ℕ) (o : Option ℕ) → IfSome o (λ h. h < n) → heads_around f.loop k o ≡ heads_around g.loop k o
  around_same k None low = refl
  around_same zero (Some h) low = refl
  around_same (suc k) (Some h) low = ap (λ (xs : List ℕ). h ∷ xs)
      (ap (λ (o : Option ℕ). heads_around f.loop k o) (agree.loops h low)
      ∙ around_same k (g.loop h) (below_more g.loop agree.lower h n (g.loop h) (agree.lower h) (omega (arith, low))))

  in_same : (h x : ℕ) → x < n → is_in_loop f.loop h x ≡ is_in_loop g.loop h x
  in_same h x low = ap (λ (xs : List ℕ). (x == h) || is_among xs h)
      (ap (λ (o : Option ℕ). heads_around f.loop x o) (agree.loops x low)
      ∙ around_same x (g.loop x) (below_more g.loop agree.lower x n (g.loop x) (agree.lower x) (omega (arith, low))))

  open_same : (x : ℕ) (visits : List Open) → x < n → still_open f.loop x visits ≡ still_open g.loop x visits
  open_same x [] low = refl
  open_same x (v ∷ visits) low =
      ap (λ (b : Bool). cond b (v ∷ visits) (still_open f.loop x visits)) (in_same v.head x low)
      ∙ ap (λ (ys : List Open). cond (is_in_loop g.loop v.head x) (v ∷ visits) ys) (open_same x visits low)

  enter_same : (x : ℕ) (w : Walk) → x < n → enter f.heads x w ≡ enter g.heads x w
  enter_same x w low = rw (heads_below_same f.heads g.heads x (λ y h. agree.heads y (omega (arith, h, low)))) refl

  reach_same : (x : ℕ) (w : Walk) (visits : List Open) → x < n → reach f.heads x w visits ≡ reach g.heads x w visits
  reach_same x w [] low = enter_same x w low
  reach_same x w (v ∷ around) low = ap (λ (u : Walk). cond (v.head == x) (go_round w v around) u) (enter_same x w low)

  arrive_same : (x : ℕ) (w : Walk) → x < n → arrive f.heads x w ≡ arrive g.heads x w
  arrive_same x w low = ap (λ (b : Bool). cond b (reach f.heads x w w.under_way.here) w) (agree.heads x low)
      ∙ ap (λ (u : Walk). cond (g.heads x) u w) (reach_same x w w.under_way.here low)

  ending_same : (x : ℕ) (visits : List Open) → x < n → ending f.loop x visits ≡ ending g.loop x visits
  ending_same x [] low = refl
  ending_same x (v ∷ visits) low =
      ap (λ (b : Bool). cond b [] (v ∷ ending f.loop x visits)) (in_same v.head x low)
      ∙ ap (λ (ys : List Open). cond (is_in_loop g.loop v.head x) [] (v ∷ ys)) (ending_same x visits low)

  leave_same : (x : ℕ) (w : Walk) → x < n → leave f.loop x w ≡ leave g.loop x w
  leave_same x w low = ap (λ (ys : List Open).
      let u : Walk = record w {
        under_way = record w.under_way { here = ys };
        ends = close w.passed (ending f.loop x w.under_way.here) w.ends;
      } in u)
      (open_same x w.under_way.here low)
      ∙ ap (λ (ys : List Open).
      let u : Walk = record w {
        under_way = record w.under_way { here = still_open g.loop x w.under_way.here };
        ends = close w.passed ys w.ends;
      } in u)
      (ending_same x w.under_way.here low)

  on_same : (w : Walk) (c : Coming) → c.place < n → walk_on f w c ≡ walk_on g w c
  on_same w c low =
      let there : Walk = come c.by w in
      ap (λ (u : Walk). let v : Walk = record (arrive f.heads c.place u) { passed = w.passed + 1 } in v)
      (leave_same c.place there low)
      ∙ ap (λ (u : Walk). let v : Walk = record u { passed = w.passed + 1 } in v)
      (arrive_same c.place (leave g.loop c.place there) low)

  pub after_same : (w : Walk) (comings : List Coming)
      → ((k : ℕ) (z : Coming) → k < length comings → (get_or comings k z).place < n)
      → walk_after f w comings ≡ walk_after g w comings
  after_same w [] low = refl
  after_same w (c ∷ left) low = ap (λ (u : Walk). walk_after f u left) (on_same w c (low 0 c (omega arith)))
      ∙ after_same (walk_on g w c) left (λ k z h. low (suc k) z (omega (arith, h)))

  pub all_same : (w : Walk) (comings : List Coming)
      → ((k : ℕ) (z : Coming) → k < length comings → (get_or comings k z).place < n)
      → walks_after f w comings ≡ walks_after g w comings
  all_same w [] low = refl
  all_same w (c ∷ left) low = ap (λ (u : Walk). u ∷ walks_after f u left) (on_same w c (low 0 c (omega arith)))
      ∙ ap (λ (us : List Walk). walk_on g w c ∷ us)
      (all_same (walk_on g w c) left (λ k z h. low (suc k) z (omega (arith, h))))
