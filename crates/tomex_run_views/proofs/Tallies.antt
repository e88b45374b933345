-- One more visit in the sums over visits, which stay small.
use Rattle.std.proofs.Common.{◌≡◌, ◌≢◌, ◌⊎◌, ◌∙◌, ap, sym, inl, inr, eqb-true, subst, take_all, refl, ℕ, zero, suc}
use Rattle.std.proofs.Common.{add-one, ◌+◌, ◌*◌}
use Rattle.std.proofs.Common.{◌^◌, ◌<◌, ◌≤◌, ◌==◌, Bool, true, false, cond, List, [], ◌∷◌, ◌++◌, length, get_or, map}
use Rattle.std.proofs.Common.{take, Option}
use Rattle.std.proofs.Common.{Some, arith}
use Rattle.std.specs.Prelude.{All, sum_by, unwrap_or}
use Rattle.std.specs.FinMap.{nat_cmp-IsAntisymmetric}
use Rattle.std.specs.Ordering.{is_eq, nat_cmp}
use Rattle.std.specs.declared.cmp.Ordering.{Ordering}
use Rattle.std.specs.declared.cmp.Ordering.TheVariants.{Less, Equal, Greater}
use Rattle.std.proofs.lemmas.Bool.Decides.{eqb_tells}
use Rattle.std.proofs.lemmas.Cmp.{nat_cmp_total, tied_itself}
use Rattle.std.proofs.lemmas.List.{append-nil, length_push, length-take}
use Rattle.std.proofs.lemmas.List.Elements.{All-cons, All-filter, All-head, All-nil, All-tail, All-take, All-weaker}
use Rattle.std.proofs.lemmas.List.Elements.{filter-append}
use Rattle.std.proofs.lemmas.List.Sums.{count_by-le-length, length-filter, sum_by-le, sum_by_push}
use Rattle.tomex_rvexec.specs.declared.step.Step.{Step}
use Rattle.tomex_timing.specs.Waiting.{AreWithin}
use Rattle.tomex_timing.specs.declared.need.Waits.{Waits}
use Rattle.tomex_run_views.specs.ByPlace.{Visit, visits_of}
use Rattle.tomex_run_views.specs.declared.tally.Group.{Group}
use Rattle.tomex_run_views.specs.declared.tally.Sum.{Sum}
use Rattle.tomex_run_views.specs.Tally.{IsSmall, cycles_by, group_of, more_at, no_sum, sum_after, sum_of, visit}
use Rattle.tomex_run_views.specs.Tally.{visits_by}

pub sum_more : (vs : List Visit) (v : Visit) → sum_of (vs ++ v ∷ []) ≡ sum_after (sum_of vs) v.cycles v.waits
sum_more vs v =
    rw (
      length_push vs v,
      sum_by_push (λ v. v.cycles) vs v,
      sum_by_push (λ v. v.waits.branch) vs v,
      sum_by_push (λ v. v.waits.width) vs v,
      sum_by_push (λ v. v.waits.station) vs v,
      sum_by_push (λ v. v.waits.operand) vs v,
      sum_by_push (λ v. v.waits.address) vs v,
      sum_by_push (λ v. v.waits.memory) vs v,
      sum_by_push (λ v. v.waits.unit) vs v,
      sum_by_push (λ v. v.waits.bus) vs v,
    ) refl

-- a group with one visit more, of which it may be the first
abbrev pub before : Option Group → Step → Group
before o s = unwrap_or o (record { first = s; sum = no_sum })

abbrev pub group_after : Option Group → Visit → Group
group_after o v = record (before o v.step) { sum = sum_after (before o v.step).sum v.cycles v.waits }

group_more : (vs : List Visit) (v : Visit) → group_of (vs ++ v ∷ []) ≡ Some (group_after (group_of vs) v)
group_more [] v = rw (sum_more [] v) refl
group_more (x ∷ xs) v = rw (sum_more (x ∷ xs) v) refl

pub group_more_at : (key : Step → ℕ) (k : ℕ) (vs : List Visit) (v : Visit)
    → group_of (visits_of key k (vs ++ v ∷ []))
    ≡ cond (key v.step == k) (Some (group_after (group_of (visits_of key k vs)) v)) (group_of (visits_of key k vs))
group_more_at key k vs v =
    rw (filter-append (λ (v : Visit). key v.step == k) vs (v ∷ [])) (go (key v.step == k) refl)
  where
    go : (b : Bool) → (key v.step == k) ≡ b
        → group_of (visits_of key k vs ++ visits_of key k (v ∷ []))
        ≡ cond b (Some (group_after (group_of (visits_of key k vs)) v)) (group_of (visits_of key k vs))
    go true e = rw e (group_more (visits_of key k vs) v)
    go false e = rw (e, append-nil (visits_of key k vs)) refl

-- the visit of a step, whose index is known
abbrev pub visit_by : ℕ → Step → Waits → Visit
visit_by more s w = visit s (cycles_by more w) w

-- the visits of a loop's next turn
later_visits : (ss : List Step) (ws : List Waits) (i : ℕ) (s : Step) (w none : Waits) → i < length ss
    → length ws ≡ length ss → s ≡ get_or ss i s → w ≡ get_or ws i none
    → take (i + 1) (visits_by 0 ss ws) ≡ take i (visits_by 0 ss ws) ++ visit_by 0 s w ∷ []
later_visits [] ws i s w none within pairs step waits = absurd (omega arith)
later_visits (x ∷ ss) [] i s w none within pairs step waits = absurd (cc)
later_visits (x ∷ ss) (y ∷ ws) zero s w none within pairs step waits = rw (step, waits) refl
later_visits (x ∷ ss) (y ∷ ws) (suc i) s w none within pairs step waits =
    rw (add-one (suc i)) (ap (λ (vs : List Visit). visit_by 0 x y ∷ vs)
    (rw (add-one i) at (later_visits ss ws i s w none (omega arith) (omega (arith, pairs)) step waits)))

pub visits_more : (ss : List Step) (ws : List Waits) (i : ℕ) (s : Step) (w none : Waits) → i < length ss
    → length ws ≡ length ss → s ≡ get_or ss i s → w ≡ get_or ws i none
    → take (i + 1) (visits_by 1 ss ws) ≡ take i (visits_by 1 ss ws) ++ visit_by (more_at i) s w ∷ []
visits_more [] ws i s w none within pairs step waits = absurd (omega arith)
visits_more (x ∷ ss) [] i s w none within pairs step waits = absurd (cc)
visits_more (x ∷ ss) (y ∷ ws) zero s w none within pairs step waits = rw (step, waits) refl
visits_more (x ∷ ss) (y ∷ ws) (suc i) s w none within pairs step waits =
    rw (add-one (suc i)) (ap (λ (vs : List Visit). visit_by 1 x y ∷ vs)
    (rw (add-one i) at (later_visits ss ws i s w none (omega arith) (omega (arith, pairs)) step waits)))

length_visits : (more : ℕ) (ss : List Step) (ws : List Waits) → length (visits_by more ss ws) ≤ length ss
length_visits more [] ws = omega arith
length_visits more (s ∷ ss) [] = omega arith
length_visits more (s ∷ ss) (w ∷ ws) = let k = length_visits 0 ss ws in omega arith

-- and those after the last
pub whole : (ss : List Step) (ws : List Waits) (i : ℕ) → length ss ≤ i
    → take i (visits_by 1 ss ws) ≡ visits_by 1 ss ws
whole ss ws i past = take_all i (visits_by 1 ss ws) (let k = length_visits 1 ss ws in omega arith)

-- a key is found by its order exactly if it is the same
pub same_key : (a b : ℕ) → is_eq (nat_cmp a b) ≡ (a == b)
same_key a b = go (eqb_tells a b)
  where
    apart : (o : Ordering) → nat_cmp a b ≡ o → a ≢ b → is_eq (nat_cmp a b) ≡ false
    apart Less e other = ap is_eq e
    apart Equal e other = absurd (other (nat_cmp-IsAntisymmetric a b e))
    apart Greater e other = ap is_eq e

    go : ((a == b) ≡ true) × (a ≡ b) ⊎ ((a == b) ≡ false) × (a ≢ b) → is_eq (nat_cmp a b) ≡ (a == b)
    go (inl same) =
        subst (λ (x : ℕ). is_eq (nat_cmp x b) ≡ true) (sym same.1) (ap is_eq (tied_itself nat_cmp_total b)) ∙ sym same.0
    go (inr other) = apart (nat_cmp a b) refl other.1 ∙ sym other.0

-- the sum of all with one visit more
pub all_more : (visits : List Visit) (v : Visit) {old new : Sum} → old ≡ sum_of visits
    → new ≡ sum_after old v.cycles v.waits → new ≡ sum_of (visits ++ v ∷ [])
all_more visits v was is = rw (is, was) (sym (sum_more visits v))

-- and what is kept of each key
pub at_more : (key : Step → ℕ) (visits : List Visit) (v : Visit) (k : ℕ) {got had : Option Group} {now new : Group}
    {at : ℕ} → at ≡ key v.step → got ≡ cond (is_eq (nat_cmp at k)) (Some new) had
    → had ≡ group_of (visits_of key k visits) → now ≡ before (group_of (visits_of key at visits)) v.step
    → new ≡ record now { sum = sum_after now.sum v.cycles v.waits }
    → got ≡ group_of (visits_of key k (visits ++ v ∷ []))
at_more key visits v k {had = had} {new = new} {at = at} key_is is was kept made =
    is ∙ (ap (λ (b : Bool). cond b (Some new) had) (same_key at k)
    ∙ (go (at == k) refl ∙ (ap (λ (n : ℕ). cond (n == k)
    (Some (group_after (group_of (visits_of key k visits)) v)) (group_of (visits_of key k visits))) key_is
    ∙ sym (group_more_at key k visits v))))
  where
    go : (b : Bool) → (at == k) ≡ b
        → cond (at == k) (Some new) had
        ≡ cond (at == k) (Some (group_after (group_of (visits_of key k visits)) v)) (group_of (visits_of key k visits))
    go true e = rw (e, made, kept, eqb-true at k e) refl
    go false e = rw (e, was) refl

-- the key of a step, among those of all steps
pub key_there : (key : Step → ℕ) (ks : List ℕ) (ss : List Step) (i : ℕ) (s : Step) → ks ≡ map key ss → i < length ss
    → s ≡ get_or ss i s → get_or ks i 0 ≡ key s
key_there key ks ss i s are within is = ap (λ (ns : List ℕ). get_or ns i 0) are ∙ (go ss i within ∙ ap key (sym is))
  where
    go : (xs : List Step) (j : ℕ) → j < length xs → get_or (map key xs) j 0 ≡ key (get_or xs j s)
    go [] j l = absurd (omega arith)
    go (x ∷ xs) zero l = refl
    go (x ∷ xs) (suc j) l = go xs j (omega arith)

pub all_small : (more : ℕ) (ss : List Step) (ws : List Waits) → more ≤ 1 → All (AreWithin (2 ^ 35)) ws
    → All IsSmall (visits_by more ss ws)
all_small more [] ws m small = All-nil IsSmall
all_small more (s ∷ ss) [] m small = All-nil IsSmall
all_small more (s ∷ ss) (w ∷ ws) m small =
    let h : AreWithin (2 ^ 35) w = All-head (AreWithin (2 ^ 35)) w ws small in
    let b : w.branch ≤ 2 ^ 35 = h.branch in
    let i : w.width ≤ 2 ^ 35 = h.width in
    let t : w.station ≤ 2 ^ 35 = h.station in
    All-cons IsSmall (visit_by more s w) (visits_by 0 ss ws) (record { cycles = omega arith; waits = h })
    (all_small 0 ss ws (omega arith) (All-tail (AreWithin (2 ^ 35)) w ws small))

-- if each number is small, so are the sums of not too many
summed : (f : Visit → ℕ) (n : ℕ) (vs : List Visit) → ((v : Visit) → IsSmall v → f v ≤ n) → All IsSmall vs
    → sum_by f vs ≤ length vs * n
summed f n vs is small = sum_by-le f n vs (All-weaker IsSmall (λ (v : Visit). f v ≤ n) is vs small)

-- the sums of not too many small visits
pub record AreSmall (sum : Sum) : Type 0 where
  pub steps : sum.steps < 2 ^ 63
  pub cycles : sum.cycles ≤ 2 ^ 62
  pub waits : AreWithin (2 ^ 63) sum.waits

pub small_sum : (vs : List Visit) → length vs ≤ 262144 → All IsSmall vs → AreSmall (sum_of vs)
small_sum vs few small = record {
  steps = omega (arith, few);
  cycles = omega (arith, few, summed (λ v. v.cycles) (2 ^ 37) vs (λ v h. h.cycles) small);
  waits = record {
    branch = omega (arith, few, summed (λ v. v.waits.branch) (2 ^ 35) vs (λ v h. h.waits.branch) small);
    width = omega (arith, few, summed (λ v. v.waits.width) (2 ^ 35) vs (λ v h. h.waits.width) small);
    station = omega (arith, few, summed (λ v. v.waits.station) (2 ^ 35) vs (λ v h. h.waits.station) small);
    operand = omega (arith, few, summed (λ v. v.waits.operand) (2 ^ 35) vs (λ v h. h.waits.operand) small);
    address = omega (arith, few, summed (λ v. v.waits.address) (2 ^ 35) vs (λ v h. h.waits.address) small);
    memory = omega (arith, few, summed (λ v. v.waits.memory) (2 ^ 35) vs (λ v h. h.waits.memory) small);
    unit = omega (arith, few, summed (λ v. v.waits.unit) (2 ^ 35) vs (λ v h. h.waits.unit) small);
    bus = omega (arith, few, summed (λ v. v.waits.bus) (2 ^ 35) vs (λ v h. h.waits.bus) small);
  };
}

sum_before : (xs : List Visit) (s : Step) → (before (group_of xs) s).sum ≡ sum_of xs
sum_before [] s = refl
sum_before (x ∷ xs) s = refl

-- and of those with one key
pub small_group : (key : Step → ℕ) (visits : List Visit) (k : ℕ) (s : Step) → length visits ≤ 262144
    → All IsSmall visits → AreSmall (before (group_of (visits_of key k visits)) s).sum
small_group key visits k s few small =
    rw (sum_before (visits_of key k visits) s)
    (small_sum (visits_of key k visits)
    (omega (
      arith,
      few,
      length-filter (λ (v : Visit). key v.step == k) visits,
      count_by-le-length (λ (v : Visit). key v.step == k) visits,
    ))
    (All-filter (λ (v : Visit). key v.step == k) IsSmall visits small))

-- the visits so far of a run's steps
pub few_so_far : (ss : List Step) (ws : List Waits) (i : ℕ) → i < length ss → length ss ≤ 262144
    → length (take i (visits_by 1 ss ws)) < 262144
few_so_far ss ws i within few = omega (arith, within, few, length-take i (visits_by 1 ss ws))

pub small_so_far : (ss : List Step) (ws : List Waits) (i : ℕ) → All (AreWithin (2 ^ 35)) ws
    → All IsSmall (take i (visits_by 1 ss ws))
small_so_far ss ws i small =
    All-take IsSmall i (visits_by 1 ss ws) (all_small 1 ss ws (omega arith) small)

-- and of all of them
pub small_whole : (ss : List Step) (ws : List Waits) → length ss ≤ 262144 → All (AreWithin (2 ^ 35)) ws
    → AreSmall (sum_of (visits_by 1 ss ws))
small_whole ss ws few small =
    small_sum (visits_by 1 ss ws) (omega (arith, few, length_visits 1 ss ws)) (all_small 1 ss ws (omega arith) small)
