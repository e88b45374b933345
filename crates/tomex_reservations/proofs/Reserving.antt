-- The reservation table: dropping cycles changes nothing ahead, and past its last cycle one of each line is left.
use Rattle.std.proofs.Common.{ℕ, ◌+◌, ◌-◌, ◌<◌, ◌≤◌, ◌≡◌, ◌∙◌, false, arith, ap, sym, inl, inr, List, [], length, take}
use Rattle.std.specs.Prelude.{max, nat_lt, slice_index_or}
use Rattle.std.specs.List.{CopiedTo}
use Rattle.std.proofs.lemmas.Bool.{cases_Bool, lt-ltb, ltb-true, ltb-false}
use Rattle.std.proofs.lemmas.List.{get_or-take, get_or_past, length-take}
use Rattle.tomex_reservations.specs.Reservations.{Reserved, is_left, taken_at}
use Rattle.tomex_reservations.proofs.Searching.{IsSearching, goes_on}

-- the entries that are moved down, with all after them dropped
pub moved : {X : Type 0} (xs ys : List X) (past rest q : ℕ) (d : X) → past + rest ≡ length xs
    → CopiedTo xs ys past 0 rest → slice_index_or (take rest ys) q d ≡ slice_index_or xs (past + q) d
moved xs ys past rest q d long copied = elim (cases_Bool (nat_lt q rest)) [
  | inl e ↦
      let l : q < rest = ltb-true q rest e in
      let z : past + (q - 0) ≡ past + q = omega arith in
      get_or-take rest ys q d l ∙ (copied q d (omega arith) (omega arith) ∙ ap (λ i. slice_index_or xs i d) z)
  | inr e ↦
      let l : rest ≤ q = ltb-false q rest e in
      let n = length-take rest ys in
      get_or_past (take rest ys) q d (omega arith) ∙ sym (get_or_past xs (past + q) d (omega arith))
]

pub dropped : {X : Type 0} (xs ys : List X) (base cycle t rest : ℕ) (d : X) → base ≤ cycle → cycle ≤ t → (cycle - base)
    + rest ≡ length xs → CopiedTo xs ys (cycle - base) 0 rest → slice_index_or (take rest ys) (t - cycle) d
    ≡ slice_index_or xs (t - base) d
dropped xs ys base cycle t rest d l m long copied =
    let e : (cycle - base) + (t - cycle) ≡ t - base = omega arith in
    moved xs ys (cycle - base) rest (t - cycle) d long copied ∙ ap (λ i. slice_index_or xs i d) e

pub past_end : {X : Type 0} (xs : List X) (base cycle t : ℕ) (d : X) → length xs ≤ cycle - base → cycle ≤ t
    → slice_index_or [] (t - cycle) d ≡ slice_index_or xs (t - base) d
past_end xs base cycle t d l m =
    let a : slice_index_or xs (t - base) d ≡ d = get_or_past xs (t - base) d (omega arith) in
    let b : slice_index_or [] (t - cycle) d ≡ d = get_or_past [] (t - cycle) d (omega arith) in
    rw (a, b)

-- a search for a cycle with one left continues if none is
pub left_on : (table : Reserved) (line most from t bound : ℕ) → 1 ≤ most
    → ((t : ℕ) → bound < t → taken_at table line t ≡ 0)
    → IsSearching (is_left table line most) from t (max from (bound + 1)) → is_left table line most t ≡ false
    → IsSearching (is_left table line most) from (t + 1) (max from (bound + 1))
left_on table line most from t bound some quiet searching fails =
    let none : taken_at table line (max from (bound + 1)) ≡ 0 = quiet (max from (bound + 1)) (omega arith) in
    goes_on (is_left table line most) from t (max from (bound + 1)) (rw none (lt-ltb 0 most (omega arith))) searching
    fails
