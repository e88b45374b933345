-- Values that move together, each by a share of the way to an end of a row's span: the row's measure, which all of them
-- make, rises no more against a rival's than the rival has to spare.
use Rattle.std.proofs.Common.{◌≡◌, ◌∙◌, ◌+◌, ◌-◌, ◌*◌, ◌<◌, ◌≤◌, inl, inr, ℕ, suc, ap, arith, true, All}
use Rattle.std.proofs.Common.{sym, List, [], ◌∷◌}
use Rattle.std.specs.Prelude.{map, sum_by}
use Rattle.std.specs.List.{Contains}
use Rattle.std.proofs.lemmas.Bool.{cases_lt}
use Rattle.std.proofs.lemmas.List.Elements.{All-head, All-tail}
use Rattle.std.proofs.lemmas.List.Sums.{sum_by-cons}
use Rattle.std.proofs.Math.Nat.{add-mul, le_of_mul-le-mul_right, mul-add, mul-le-mul_left}
use Rattle.std.proofs.Math.Nat.{mul-le-mul_right, mul_assoc, mul_comm}
use Rattle.tomex_pareto.proofs.OnFront.{contains_map}
use Rattle.tomex_pareto.proofs.Pareto.{among, undominated_free}
use Rattle.tomex_pareto.specs.declared.line_row.LineRow.{LineRow}
use Rattle.tomex_pareto.specs.Spans.{as_cost, measure_at, span, stays}
use Rattle.tomex_pareto.proofs.SpanEnds.{first_low, stays_at_first, stays_at_last}
use Rattle.tomex_pareto.proofs.NewCosts.{free_keeps, premium}

-- one value: n is the stated one, v the new one; the row has it a times and a rival b times; w is the whole, and k the
-- share of it that counts against a slack of g

abbrev pub Counts : (n v a b w k g : ℕ) → Type 0
Counts n v a b w k g = (v * a + n * b) * w ≤ (v * b + n * a) * w + k * g

-- both have it, and the row has it e times more, or the rival does; it moves by d
moved : (n d b e w x : ℕ) → d * e * w ≤ x
    → ((n + d) * (b + e) + n * b) * w ≤ ((n + d) * b + n * (b + e)) * w + x
moved n d b e w x low =
    let p : (n + d) * (b + e) ≡ (n + d) * b + (n + d) * e = mul-add (n + d) b e in
    let q : (n + d) * e ≡ n * e + d * e = add-mul n d e in
    let r : n * (b + e) ≡ n * b + n * e = mul-add n b e in
    let whole : (n + d) * (b + e) + n * b ≡ (n + d) * b + n * (b + e) + d * e = omega (arith, p, q, r) in
    let parts : ((n + d) * b + n * (b + e) + d * e) * w ≡ ((n + d) * b + n * (b + e)) * w + d * e * w =
    add-mul ((n + d) * b + n * (b + e)) (d * e) w in
    rw whole (omega (arith, parts, low))

-- it moves `k` parts out of `w` of a way of at most m, each step of which is worth e
bounded : (d e w k m g : ℕ) → d * w ≤ k * m → m * e ≤ g → d * e * w ≤ k * g
bounded d e w k m g part few =
    let turned : d * e * w ≡ d * w * e =
    mul_assoc d e w ∙ (ap (λ (z : ℕ). d * z) (mul_comm e w) ∙ sym (mul_assoc d w e)) in
    let more : d * w * e ≤ k * m * e = mul-le-mul_right e part in
    let same : k * m * e ≡ k * (m * e) = mul_assoc k m e in
    let most : k * (m * e) ≤ k * g = mul-le-mul_left k few in
    omega (arith, turned, more, same, most)

-- the row has it more often, and it rises
up_counts : (n v a b w k g m : ℕ) → b < a → n < v → (v - n) * w ≤ k * (m - n) → (m - n) * (a - b) ≤ g
    → Counts n v a b w k g
up_counts n v a b w k g m more rises part few =
    let low = bounded (v - n) (a - b) w k (m - n) g part few in
    let it = moved n (v - n) b (a - b) w (k * g) low in
    let v_is : n + (v - n) ≡ v = omega (arith, rises) in
    let a_is : b + (a - b) ≡ a = omega (arith, more) in
    rw (v_is, a_is) at it

-- the rival has it more often, and it falls
down_counts : (n v a b w k g m : ℕ) → a < b → v < n → (n - v) * w ≤ k * (n - m) → (n - m) * (b - a) ≤ g
    → Counts n v a b w k g
down_counts n v a b w k g m more falls part few =
    let low = bounded (n - v) (b - a) w k (n - m) g part few in
    let it = moved v (n - v) a (b - a) w (k * g) low in
    let n_is : v + (n - v) ≡ n = omega (arith, falls) in
    let b_is : a + (b - a) ≡ b = omega (arith, more) in
    let turned : (n * b + v * a) * w ≤ (n * a + v * b) * w + k * g = rw (n_is, b_is) at it in
    let x : n * b + v * a ≡ v * a + n * b = omega arith in
    let y : n * a + v * b ≡ v * b + n * a = omega arith in
    rw (x, y) at turned

-- it moves the other way, whichever of the two has it more often
helps : (n d b e w x : ℕ) → (n * (b + e) + (n + d) * b) * w ≤ (n * b + (n + d) * (b + e)) * w + x
helps n d b e w x =
    let p : (n + d) * (b + e) ≡ (n + d) * b + (n + d) * e = mul-add (n + d) b e in
    let q : (n + d) * e ≡ n * e + d * e = add-mul n d e in
    let r : n * (b + e) ≡ n * b + n * e = mul-add n b e in
    let low : n * (b + e) + (n + d) * b ≤ n * b + (n + d) * (b + e) = omega (arith, p, q, r) in
    omega (arith, mul-le-mul_right w low)

-- the row has it no less often, and it falls or stays
row_helped : (n v a b w k g : ℕ) → b ≤ a → v ≤ n → Counts n v a b w k g
row_helped n v a b w k g more falls =
    let it = helps v (n - v) b (a - b) w (k * g) in
    let n_is : v + (n - v) ≡ n = omega (arith, falls) in
    let a_is : b + (a - b) ≡ a = omega (arith, more) in
    rw (n_is, a_is) at it

-- the rival has it no less often, and it rises or stays
rival_helped : (n v a b w k g : ℕ) → a ≤ b → n ≤ v → Counts n v a b w k g
rival_helped n v a b w k g more rises =
    let it = helps n (v - n) a (b - a) w (k * g) in
    let v_is : n + (v - n) ≡ v = omega (arith, rises) in
    let b_is : a + (b - a) ≡ b = omega (arith, more) in
    let turned : (n * b + v * a) * w ≤ (n * a + v * b) * w + k * g = rw (v_is, b_is) at it in
    let x : n * b + v * a ≡ v * a + n * b = omega arith in
    let y : n * a + v * b ≡ v * b + n * a = omega arith in
    rw (x, y) at turned

-- at an end of its span a row still stays, so the way there is worth no more than a rival's slack: how much less the
-- rival's measure may get at the stated value, relative to the row's

abbrev pub slack : ℕ → LineRow → LineRow → ℕ
slack now r j = measure_at now j - measure_at now r - premium (as_cost now r) (as_cost now j)

keeps : (q : ℕ) (rows : List LineRow) (r j : LineRow) → stays q rows r ≡ true → Contains rows j → j.other ≤ r.other
    → measure_at q r + premium (as_cost q r) (as_cost q j) ≤ measure_at q j
keeps q rows r j here there fast =
    let at_q = map (as_cost q) rows in
    free_keeps (as_cost q r) (as_cost q j) (undominated_free at_q (as_cost q r) here (as_cost q j)
    (among at_q (as_cost q j) (contains_map (as_cost q) rows j there))) fast

up_by : (n e a b u d p : ℕ) → a + (n + e) * (u + d) + p ≤ b + (n + e) * u → e * d ≤ b + n * u - (a + n * (u + d)) - p
up_by n e a b u d p low = omega (arith, low, mul-add (n + e) u d, add-mul n e d, mul-add n u d)

down_by : (m e a b t d p : ℕ) → a + m * t + p ≤ b + m * (t + d)
    → e * d ≤ b + (m + e) * (t + d) - (a + (m + e) * t) - p
down_by m e a b t d p low = omega (arith, low, mul-add (m + e) t d, add-mul m e d, mul-add m t d)

-- a row that stays at the stated value, and a rival

module _ (least limit now last : ℕ) (r j : LineRow) (rows : List LineRow) (above : least ≤ now)
    (here : stays now rows r ≡ true) (is_last : suc last ≡ (span least limit r rows).end) (there : Contains rows j)
    (fast : j.other ≤ r.other) where
  way_up : j.times < r.times → (last - now) * (r.times - j.times) ≤ slack now r j
  way_up more = elim (cases_lt now last) [
    | inl later ↦
        let n_is : now + (last - now) ≡ last = omega (arith, later) in
        let t_is : j.times + (r.times - j.times) ≡ r.times = omega (arith, more) in
        (rw (n_is, t_is) at (up_by now (last - now) r.rest j.rest j.times (r.times - j.times)
        (premium (as_cost now r) (as_cost now j))))
        (keeps last rows r j (stays_at_last least limit now rows r above here last is_last (omega (arith, later)))
        there fast)
    | inr past ↦ let none : last - now ≡ 0 = omega (arith, past) in rw none (omega arith)
  ]

  way_down : r.times < j.times → (now - (span least limit r rows).first) * (j.times - r.times) ≤ slack now r j
  way_down more =
      let first = (span least limit r rows).first in
      let low = first_low least limit now rows r above here in
      let n_is : first + (now - first) ≡ now = omega (arith, low) in
      let t_is : r.times + (j.times - r.times) ≡ j.times = omega (arith, more) in
      (rw (n_is, t_is) at (down_by first (now - first) r.rest j.rest r.times (j.times - r.times)
      (premium (as_cost now r) (as_cost now j))))
      (keeps first rows r j (stays_at_first least limit now rows r above here) there fast)

  -- so a value that moves by a share of the way counts for no more than that share of the slack
  pub one_counts : (v w k : ℕ) → (v - now) * w ≤ k * (last - now)
      → (now - v) * w ≤ k * (now - (span least limit r rows).first)
      → Counts now v r.times j.times w k (slack now r j)
  one_counts v w k up down =
      let g = slack now r j in
      elim (cases_lt j.times r.times) [
        | inl more ↦ elim (cases_lt now v) [
          | inl rises ↦ up_counts now v r.times j.times w k g last more rises up (way_up more)
          | inr falls ↦ row_helped now v r.times j.times w k g (omega (arith, more)) falls
        ]
        | inr less ↦ elim (cases_lt v now) [
          | inr rises ↦ rival_helped now v r.times j.times w k g less rises
          | inl falls ↦ elim (cases_lt r.times j.times) [
            | inl more ↦
                down_counts now v r.times j.times w k g (span least limit r rows).first more falls down (way_down more)
            | inr same ↦ row_helped now v r.times j.times w k g same (omega (arith, falls))
          ]
        ]
      ]

-- all values together

module _ {P : Type 0} (now values a b shares : P → ℕ) (whole gap : ℕ) where
  abbrev pub DoCount : P → Type 0
  DoCount p = Counts (now p) (values p) (a p) (b p) whole (shares p) gap

  -- a sum of values, each as often as a row has it
  abbrev times : (P → ℕ) → (P → ℕ) → List P → ℕ
  times v x ps = sum_by (λ p. v p * x p) ps

  all_count : (ps : List P) → All DoCount ps
      → (times values a ps + times now b ps) * whole
      ≤ (times values b ps + times now a ps) * whole + sum_by shares ps * gap
  all_count [] counts = omega arith
  all_count (p ∷ ps) counts =
      let rest = all_count ps (All-tail DoCount p ps counts) in
      let this : DoCount p = All-head DoCount p ps counts in
      let x = add-mul (values p * a p + now p * b p) (times values a ps + times now b ps) whole in
      let y = add-mul (values p * b p + now p * a p) (times values b ps + times now a ps) whole in
      let z = add-mul (shares p) (sum_by shares ps) gap in
      let left : values p * a p + times values a ps + (now p * b p + times now b ps)
      ≡ values p * a p + now p * b p + (times values a ps + times now b ps) = omega arith in
      let right : values p * b p + times values b ps + (now p * a p + times now a ps)
      ≡ values p * b p + now p * a p + (times values b ps + times now a ps) = omega arith in
      rw (
        sum_by-cons (λ p. values p * a p) p ps,
        sum_by-cons (λ p. values p * b p) p ps,
        sum_by-cons (λ p. now p * a p) p ps,
        sum_by-cons (λ p. now p * b p) p ps,
        sum_by-cons shares p ps,
        left,
        right,
      ) (omega (arith, rest, this, x, y, z))

  -- if the shares are no more than the whole, the row's measure stays as far below the rival's as it must
  pub stays_less : (ps : List P) (own other extra : ℕ) → All DoCount ps → 0 < whole → sum_by shares ps ≤ whole
      → times now a ps ≡ own → times now b ps ≡ other → own + extra ≤ other → gap ≡ other - own - extra
      → times values a ps + extra ≤ times values b ps
  stays_less ps own other extra counts some few own_is other_is low gap_is =
      let all = all_count ps counts in
      let most : sum_by shares ps * gap ≤ whole * gap = mul-le-mul_right gap few in
      let turned : whole * gap ≡ gap * whole = mul_comm whole gap in
      let both : (times values a ps + times now b ps) * whole
      ≤ (times values b ps + times now a ps) * whole + gap * whole = omega (arith, all, most, turned) in
      let sums = rw (own_is, other_is) at both in
      let parts = add-mul (times values b ps + own) gap whole in
      let less : (times values a ps + other) * whole ≤ (times values b ps + own + gap) * whole =
      omega (arith, sums, parts) in
      let kept = le_of_mul-le-mul_right less some in
      omega (arith, kept, low, gap_is)
