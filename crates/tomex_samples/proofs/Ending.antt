-- Parts that end, the youngest first.
use Rattle.std.proofs.Common.{◌≡◌, ℕ, ◌+◌, ◌-◌, ◌*◌, ◌<◌, ◌≤◌, List, length, take, refl, sym, ◌∙◌, ap, arith}
use Rattle.std.proofs.Common.{Option, None, subst, inl, inr}
use Rattle.std.proofs.Math.Nat.{mul-le-mul_right}
use Rattle.std.proofs.lemmas.Bool.{cases_eq}
use Rattle.std.proofs.lemmas.List.{get_or-set_other, get_or-set_same, get_or-take, get_or_read, length-set}
use Rattle.std.proofs.lemmas.List.{length-take-le, take-take, take_all}
use Rattle.std.specs.Prelude.{◌⊎◌, ◌≢◌, slice_index, slice_index_or, slice_set}
use Rattle.tomex_samples.specs.Ends.{AreEnding, HaveEnded, IsRising, length_at}

-- the last of those that are kept
pub last_kept : (steps n last kept : ℕ) (parts new_parts : List (Option ℕ)) (waiting new_waiting : List ℕ)
    → AreEnding steps n last kept parts waiting new_parts new_waiting → 0 < kept
    → slice_index new_waiting (length new_waiting - 1) ≡ slice_index waiting (kept - 1)
last_kept steps n last kept parts new_parts waiting new_waiting e some =
    let size : length new_waiting ≡ kept = ap length e.is ∙ length-take-le kept waiting e.few in
    let at : kept - 1 < kept = omega arith in
    ap (λ k. slice_index new_waiting (k - 1)) size ∙ (ap (λ ws. slice_index ws (kept - 1)) e.is
    ∙ get_or-take kept waiting (kept - 1) 0 at)

-- those that are kept began no later than the last of them
pub began_before : (steps last kept : ℕ) (waiting : List ℕ) → IsRising waiting → kept ≤ length waiting
    → slice_index waiting (kept - 1) * steps < last → (t : ℕ) → t < kept → slice_index waiting t * steps < last
began_before steps last kept waiting rising few early t h = at (cases_eq t (kept - 1))
  where
    at : (t ≡ kept - 1) ⊎ (t ≡ kept - 1 → ⊥) → slice_index waiting t * steps < last
    at (inl same) = subst (λ (k : ℕ). slice_index waiting k * steps < last) (sym same) early
    at (inr other) =
        let below : slice_index waiting t < slice_index waiting (kept - 1) =
        rising t (kept - 1) (omega arith) (omega arith) in
        let le : slice_index waiting t ≤ slice_index waiting (kept - 1) = omega arith in
        let by : slice_index waiting t * steps ≤ slice_index waiting (kept - 1) * steps =
        mul-le-mul_right steps le in
        omega arith

pub stops : (steps n last kept stretch : ℕ) (parts new_parts : List (Option ℕ)) (waiting new_waiting : List ℕ)
    → AreEnding steps n last kept parts waiting new_parts new_waiting → IsRising waiting
    → stretch ≡ slice_index waiting (kept - 1) → stretch * steps < last
    → HaveEnded steps n last parts waiting new_parts new_waiting
stops steps n last kept stretch parts new_parts waiting new_waiting e rising is early = record {
  kept = kept;
  ending = e;
  began = began_before steps last kept waiting rising e.few (subst (λ (k : ℕ). k * steps < last) is early);
}

pub ends_one : (steps n last kept stretch : ℕ) (parts new_parts : List (Option ℕ)) (waiting new_waiting : List ℕ)
    → AreEnding steps n last kept parts waiting new_parts new_waiting → 0 < kept → IsRising waiting
    → stretch ≡ slice_index waiting (kept - 1) → last ≤ stretch * steps → stretch < length parts
    → AreEnding steps n last (kept - 1) parts waiting (slice_set new_parts stretch (length_at steps n stretch))
    (take (length new_waiting - 1) new_waiting)
ends_one steps n last kept stretch parts new_parts waiting new_waiting e some rising is late inside = record {
  few = omega (arith, e.few);
  is =
      let size : length new_waiting ≡ kept = ap length e.is ∙ length-take-le kept waiting e.few in
      let fewer : kept - 1 ≤ kept = omega arith in
      ap (λ k. take (k - 1) new_waiting) size ∙ (ap (λ ws. take (kept - 1) ws) e.is
      ∙ take-take (kept - 1) kept waiting fewer);
  size = length-set new_parts stretch (length_at steps n stretch) ∙ e.size;
  ended = λ t low high. at t low high (cases_eq t (kept - 1));
  same = λ k apart.
      let other : k ≢ stretch = λ same. apart (kept - 1) (omega arith) (omega (arith, e.few)) (sym is ∙ sym same) in
      get_or-set_other new_parts stretch k (length_at steps n stretch) None other
      ∙ e.same k (λ t low high. apart t (omega arith) high);
}
  where
    within : stretch < length new_parts
    within = omega (arith, e.size)

    at : (t : ℕ) → kept - 1 ≤ t → t < length waiting → (t ≡ kept - 1) ⊎ (t ≡ kept - 1 → ⊥)
        → (last ≤ slice_index waiting t * steps)
        × (slice_index_or (slice_set new_parts stretch (length_at steps n stretch)) (slice_index waiting t) None
        ≡ length_at steps n (slice_index waiting t))
    at t low high (inl same) =
        let it : stretch ≡ slice_index waiting t = is ∙ ap (λ k. slice_index waiting k) (sym same) in (
          subst (λ (k : ℕ). last ≤ k * steps) it late,
          subst (λ (k : ℕ). slice_index_or (slice_set new_parts stretch (length_at steps n stretch)) k None
              ≡ length_at steps n k) it
              (get_or-set_same new_parts stretch (length_at steps n stretch) None within),
        )
    at t low high (inr other) =
        let above : slice_index waiting (kept - 1) < slice_index waiting t =
        rising (kept - 1) t (omega arith) high in
        let apart : slice_index waiting t ≢ stretch = omega (arith, is) in
        let old = e.ended t (omega arith) high in (
          old.0,
          get_or-set_other new_parts stretch (slice_index waiting t) (length_at steps n stretch) None apart ∙ old.1,
        )

pub all_end : (steps n last kept : ℕ) (parts new_parts : List (Option ℕ)) (waiting new_waiting : List ℕ)
    → AreEnding steps n last kept parts waiting new_parts new_waiting → kept ≡ 0
    → HaveEnded steps n last parts waiting new_parts new_waiting
all_end steps n last kept parts new_parts waiting new_waiting e none = record {
  kept = kept;
  ending = e;
  began = λ t h. absurd (omega arith);
}

-- what is read at the last place
pub read_last : (steps n last kept p r : ℕ) (parts new_parts : List (Option ℕ)) (waiting new_waiting : List ℕ)
    → AreEnding steps n last kept parts waiting new_parts new_waiting → 0 < kept → p ≡ length new_waiting
    → r ≡ slice_index_or new_waiting (p - 1) r → r ≡ slice_index waiting (kept - 1)
read_last steps n last kept p r parts new_parts waiting new_waiting e some is read =
    let size : length new_waiting ≡ kept = ap length e.is ∙ length-take-le kept waiting e.few in
    let within : p - 1 < length new_waiting = omega arith in
    get_or_read new_waiting (p - 1) r within read 0
    ∙ (ap (λ k. slice_index new_waiting (k - 1)) is
    ∙ last_kept steps n last kept parts new_parts waiting new_waiting e some)

-- the last number of those that are kept is a stretch's
pub last_inside : (kept r : ℕ) (waiting : List ℕ) (most : ℕ)
    → ((t : ℕ) → t < length waiting → slice_index waiting t < most) → 0 < kept → kept ≤ length waiting
    → r ≡ slice_index waiting (kept - 1) → r < most
last_inside kept r waiting most inside some few is =
    subst (λ (k : ℕ). k < most) (sym is) (inside (kept - 1) (omega arith))

pub last_begun : (kept r steps done : ℕ) (waiting : List ℕ)
    → ((t : ℕ) → t < length waiting → slice_index waiting t * steps ≤ done) → 0 < kept → kept ≤ length waiting
    → r ≡ slice_index waiting (kept - 1) → r * steps ≤ done
last_begun kept r steps done waiting begun some few is =
    subst (λ (k : ℕ). k * steps ≤ done) (sym is) (begun (kept - 1) (omega arith))

pub ends_as : (steps n last kept less r p : ℕ) (value : Option ℕ) (parts new_parts : List (Option ℕ))
    (waiting new_waiting after : List ℕ)
    → AreEnding steps n last kept parts waiting new_parts new_waiting → 0 < kept → IsRising waiting
    → r ≡ slice_index waiting (kept - 1) → last ≤ r * steps → r < length parts
    → less ≡ kept - 1 → value ≡ length_at steps n r → p ≡ length new_waiting → after ≡ take (p - 1) new_waiting
    → AreEnding steps n last less parts waiting (slice_set new_parts r value) after
ends_as steps n last kept less r p value parts new_parts waiting new_waiting after e some rising is late inside
    fewer v size rest =
    let one = ends_one steps n last kept r parts new_parts waiting new_waiting e some rising is late inside in
    let shorter : after ≡ take (length new_waiting - 1) new_waiting =
    rest ∙ ap (λ k. take (k - 1) new_waiting) size in
    subst (λ (k : ℕ). AreEnding steps n last k parts waiting (slice_set new_parts r value) after) (sym fewer)
    (subst (λ (ws : List ℕ). AreEnding steps n last (kept - 1) parts waiting (slice_set new_parts r value) ws)
    (sym shorter)
    (subst (λ (o : Option ℕ). AreEnding steps n last (kept - 1) parts waiting (slice_set new_parts r o)
    (take (length new_waiting - 1) new_waiting)) (sym v) one))

-- none is left
pub none_left : (all ended end : ℕ) → end ≤ ended → end ≡ all → all - ended ≡ 0
none_left all ended end past is = omega arith

pub some_left : (all ended end : ℕ) → ended < end → end ≡ all → 0 < all - ended
some_left all ended end more is = omega arith

pub none_ended : (steps n last : ℕ) (parts : List (Option ℕ)) (waiting : List ℕ)
    → AreEnding steps n last (length waiting - 0) parts waiting parts waiting
none_ended steps n last parts waiting = record {
  few = omega arith;
  is = sym (take_all (length waiting - 0) waiting (omega arith));
  size = refl;
  ended = λ t low high. absurd (omega arith);
  same = λ k apart. refl;
}

-- the last place is one
pub last_place : (steps n last kept p : ℕ) (parts new_parts : List (Option ℕ)) (waiting new_waiting : List ℕ)
    → AreEnding steps n last kept parts waiting new_parts new_waiting → 0 < kept → p ≡ length new_waiting → 1 ≤ p
last_place steps n last kept p parts new_parts waiting new_waiting e some is =
    let size : length new_waiting ≡ kept = ap length e.is ∙ length-take-le kept waiting e.few in
    omega (arith, size, some, is)

pub before_end : (p size : ℕ) → 1 ≤ p → p ≡ size → p - 1 < size
before_end p size some is = omega arith

pub fewer_kept : (all ended : ℕ) → all - (ended + 1) ≡ all - ended - 1
fewer_kept all ended = omega arith

pub within_parts : (r size all : ℕ) → r < all → size ≡ all → r < size
within_parts r size all inside same = omega arith
