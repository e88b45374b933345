-- Nearest leaders, one leader after another.
use Rattle.std.proofs.Common.{◌≡◌, ℕ, ◌+◌, ◌^◌, ◌<◌, ◌≤◌, List, [], ◌∷◌, ◌++◌, length, refl, sym, ◌∙◌, ap, arith}
use Rattle.std.proofs.Common.{subst, inl, inr, Bool, true, false}
use Rattle.std.proofs.lemmas.Bool.{cases_eq, cases_lt, le-ltb, lt-ltb}
use Rattle.std.proofs.lemmas.List.{get_or-set_other, get_or-set_same, get_or_read, length-set}
use Rattle.std.proofs.lemmas.List.Sums.{fold_push}
use Rattle.std.specs.Prelude.{◌⊎◌, ◌≢◌, if◌then◌else◌, nat_lt, slice_index_or, slice_set}
use Rattle.tomex_samples.specs.declared.nearness.Near.{Near}
use Rattle.tomex_samples.specs.declared.stretches.Stretches.{Stretches}
use Rattle.tomex_samples.specs.Leaders.{apart, nearer, nearest}
use Rattle.tomex_samples.specs.Near.{IsNear, near_at, no_leader}
use Rattle.tomex_samples.specs.Stretches.{Run}
use Rattle.tomex_samples.specs.Tallied.{AreOf}

-- what is kept of a stretch after one leader more
pub near_more : (run : Run) (leaders : List ℕ) (k leader d : ℕ) (x : Near) → IsNear run leaders k x
    → d ≡ apart run k leader → d < 18446744073709551615
    → IsNear run (leaders ++ leader ∷ []) k (if nat_lt d x.distance then record { leader = leader; distance = d } else
    x)
near_more run [] k leader d x far is less =
    let yes : nat_lt d x.distance ≡ true = lt-ltb d x.distance (omega arith) in
    subst (λ (b : Bool). IsNear run (leader ∷ []) k (if b then record { leader = leader; distance = d } else x)) (sym
    yes)
    (refl, is)
near_more run (l ∷ ls) k leader d x near is less = at (cases_lt d x.distance)
  where
    next : nearest run (l ∷ (ls ++ leader ∷ [])) k ≡ nearer run k (nearest run (l ∷ ls) k) leader
    next = fold_push (nearer run k) l ls leader

    at : (d < x.distance) ⊎ (x.distance ≤ d) → IsNear run (l ∷ (ls ++ leader ∷ [])) k
        (if nat_lt d x.distance then record { leader = leader; distance = d } else x)
    at (inl nearer_now) =
        let yes : nat_lt d x.distance ≡ true = lt-ltb d x.distance nearer_now in
        let chosen : nearer run k (nearest run (l ∷ ls) k) leader ≡ leader =
        ap (λ (b : Bool). if b then leader else nearest run (l ∷ ls) k)
        (lt-ltb (apart run k leader) (apart run k (nearest run (l ∷ ls) k)) (omega (arith, is, near.1))) in
        subst (λ (b : Bool). IsNear run (l ∷ (ls ++ leader ∷ [])) k
        (if b then record { leader = leader; distance = d } else x)) (sym yes)
        (sym (next ∙ chosen), is ∙ ap (apart run k) (sym (next ∙ chosen)))
    at (inr as_before) =
        let no : nat_lt d x.distance ≡ false = le-ltb d x.distance as_before in
        let chosen : nearer run k (nearest run (l ∷ ls) k) leader ≡ nearest run (l ∷ ls) k =
        ap (λ (b : Bool). if b then leader else nearest run (l ∷ ls) k)
        (le-ltb (apart run k leader) (apart run k (nearest run (l ∷ ls) k)) (omega (arith, is, near.1))) in
        subst (λ (b : Bool). IsNear run (l ∷ (ls ++ leader ∷ [])) k
        (if b then record { leader = leader; distance = d } else x)) (sym no)
        (near.0 ∙ sym (next ∙ chosen), near.1 ∙ ap (apart run k) (sym (next ∙ chosen)))

-- the first k stretches know of the leader, whose counts these are
pub record AreApproached {A : Type 0} (k : ℕ) (counts : List ℕ) (s : Stretches A) (leader : ℕ) (old now : List Near)
    : Type 0 where
  pub number : length now ≡ length old
  pub known : (j : ℕ) → j < k → (run : Run) (leaders : List ℕ) → AreOf run s → IsNear run leaders j (near_at old j)
      → IsNear run (leaders ++ leader ∷ []) j (near_at now j)
  pub others : (j : ℕ) → k ≤ j → near_at now j ≡ near_at old j

pub approached_none : {A : Type 0} (counts : List ℕ) (s : Stretches A) (leader : ℕ) (old : List Near)
    → AreApproached 0 counts s leader old old
approached_none counts s leader old = record {
  number = refl;
  known = λ j h. absurd (omega arith);
  others = λ j h. refl;
}

pub approached_more : {A : Type 0} (k : ℕ) (counts : List ℕ) (s : Stretches A) (leader d : ℕ) (old now new : List Near)
    → AreApproached k counts s leader old now → k < length now
    → new ≡ (if nat_lt d (near_at now k).distance then slice_set now k (record { leader = leader; distance = d }) else
    now)
    → ((run : Run) → AreOf run s → d ≡ apart run k leader) → d < 2 ^ 63
    → AreApproached (k + 1) counts s leader old new
approached_more {A} k counts s leader d old now new a within is far small =
    subst (λ (ns : List Near). AreApproached {A = A} (k + 1) counts s leader old ns) (sym is)
    (by (nat_lt d (near_at now k).distance) refl)
  where
    here : (run : Run) (leaders : List ℕ) → AreOf run s → IsNear run leaders k (near_at old k)
        → IsNear run (leaders ++ leader ∷ []) k
        (if nat_lt d (near_at now k).distance then record { leader = leader; distance = d } else near_at now k)
    here run leaders of near =
        near_more run leaders k leader d (near_at now k)
        (subst (λ (x : Near). IsNear run leaders k x) (sym (a.others k (omega arith))) near) (far run of)
        (omega (arith, small))

    by : (b : Bool) → nat_lt d (near_at now k).distance ≡ b
        → AreApproached {A = A} (k + 1) counts s leader old
        (if b then slice_set now k (record { leader = leader; distance = d }) else now)
    by true e = record {
      number = length-set now k (record { leader = leader; distance = d }) ∙ a.number;
      known = λ j h run leaders of near. known_at j run leaders of near (omega arith) (cases_eq j k);
      others = λ j h.
          let apart_from : j ≢ k = omega arith in
          get_or-set_other now k j (record { leader = leader; distance = d }) no_leader apart_from
          ∙ a.others j (omega arith);
    }
      where
        known_at : (j : ℕ) (run : Run) (leaders : List ℕ) → AreOf run s → IsNear run leaders j (near_at old j)
            → j ≤ k → (j ≡ k) ⊎ (j ≡ k → ⊥)
            → IsNear run (leaders ++ leader ∷ []) j
            (near_at (slice_set now k (record { leader = leader; distance = d })) j)
        known_at j run leaders of near low (inl same) =
            let at_k : near_at (slice_set now k (record { leader = leader; distance = d })) k
            ≡ record { leader = leader; distance = d } =
            get_or-set_same now k (record { leader = leader; distance = d }) no_leader within in
            subst (λ (i : ℕ). IsNear run (leaders ++ leader ∷ []) i
            (near_at (slice_set now k (record { leader = leader; distance = d })) i)) (sym same)
            (subst (λ (x : Near). IsNear run (leaders ++ leader ∷ []) k x) (sym at_k)
            (subst (λ (b : Bool). IsNear run (leaders ++ leader ∷ []) k
            (if b then record { leader = leader; distance = d } else near_at now k)) e
            (here run leaders of (subst (λ (i : ℕ). IsNear run leaders i (near_at old i)) same near))))
        known_at j run leaders of near low (inr other) =
            subst (λ (x : Near). IsNear run (leaders ++ leader ∷ []) j x)
            (sym (get_or-set_other now k j (record { leader = leader; distance = d }) no_leader other))
            (a.known j (omega arith) run leaders of near)
    by false e = record {
      number = a.number;
      known = λ j h run leaders of near. known_at j run leaders of near (omega arith) (cases_eq j k);
      others = λ j h. a.others j (omega arith);
    }
      where
        known_at : (j : ℕ) (run : Run) (leaders : List ℕ) → AreOf run s → IsNear run leaders j (near_at old j)
            → j ≤ k → (j ≡ k) ⊎ (j ≡ k → ⊥) → IsNear run (leaders ++ leader ∷ []) j (near_at now j)
        known_at j run leaders of near low (inl same) =
            subst (λ (i : ℕ). IsNear run (leaders ++ leader ∷ []) i (near_at now i)) (sym same)
            (subst (λ (b : Bool). IsNear run (leaders ++ leader ∷ []) k
            (if b then record { leader = leader; distance = d } else near_at now k)) e
            (here run leaders of (subst (λ (i : ℕ). IsNear run leaders i (near_at old i)) same near)))
        known_at j run leaders of near low (inr other) = a.known j (omega arith) run leaders of near

-- the same by what is read and by the test
pub approached_yes : {A : Type 0} (k : ℕ) (counts : List ℕ) (s : Stretches A) (leader d : ℕ) (old now new : List Near)
    (r : Near) → AreApproached k counts s leader old now → k < length now → r ≡ slice_index_or now k r
    → d < r.distance → new ≡ slice_set now k (record { leader = leader; distance = d })
    → ((run : Run) → AreOf run s → d ≡ apart run k leader) → d < 2 ^ 63
    → AreApproached (k + 1) counts s leader old new
approached_yes {A} k counts s leader d old now new r a within read less is far small =
    let at : r ≡ near_at now k = get_or_read now k r within read no_leader in
    approached_more {A = A} k counts s leader d old now new a within
    (is ∙ ap (λ (b : Bool). if b then slice_set now k (record { leader = leader; distance = d }) else now)
    (sym (lt-ltb d (near_at now k).distance (subst (λ (x : Near). d < x.distance) at less)))) far small

pub approached_no : {A : Type 0} (k : ℕ) (counts : List ℕ) (s : Stretches A) (leader d : ℕ) (old now new : List Near)
    (r : Near) → AreApproached k counts s leader old now → k < length now → r ≡ slice_index_or now k r
    → r.distance ≤ d → new ≡ now → ((run : Run) → AreOf run s → d ≡ apart run k leader) → d < 2 ^ 63
    → AreApproached (k + 1) counts s leader old new
approached_no {A} k counts s leader d old now new r a within read less is far small =
    let at : r ≡ near_at now k = get_or_read now k r within read no_leader in
    approached_more {A = A} k counts s leader d old now new a within
    (is ∙ ap (λ (b : Bool). if b then slice_set now k (record { leader = leader; distance = d }) else now)
    (sym (le-ltb d (near_at now k).distance (subst (λ (x : Near). x.distance ≤ d) at less)))) far small
