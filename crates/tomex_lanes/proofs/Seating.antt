-- Seats that are split from one, one after another.
use Rattle.std.proofs.Common.{◌≡◌, ◌≢◌, ℕ, zero, suc, ◌+◌, ◌-◌, ◌<◌, ◌≤◌, ⊎_elim, inl, inr, List, [], ◌∷◌, ◌++◌, map}
use Rattle.std.proofs.Common.{All, length, append_assoc, ap, refl, sym, ◌∙◌, subst, cond, arith, eq-eqb, ne_eqb}
use mathlib.Core.Logic.{dite}
use native.Mathlib.Decide.{ℕ_discrete}
use Rattle.std.specs.List.{flat_map, range_with_len}
use Rattle.std.proofs.lemmas.List.{append-nil, map-append, length-append}
use Rattle.std.proofs.lemmas.Grind.{flat_map-append}
use Rattle.std.proofs.lemmas.List.Elements.{All-nil, All-push}
use Rattle.atomic_table.specs.Seated.{TableId}
use Rattle.tomex_board.specs.Known.{Known}
use Rattle.tomex_board.specs.declared.view.View.{View}
use Rattle.tomex_board.specs.Views.{Has, HasTwo, IsWhole, least_of, without, first_view, given_view, kept_view}
use Rattle.tomex_board.proofs.Lists.{left_of, right_of, of_both, range_has, without_keeps}
use Rattle.tomex_lanes.specs.Lanes.{Dealt}
use Rattle.tomex_lanes.specs.Parts.{Equipped, AreSeated}

abbrev seats_of : List Equipped → List Known
seats_of workers = map (λ w. w.seat) workers

abbrev lanes_of : List Equipped → List Dealt
lanes_of workers = map (λ w. w.lane) workers

abbrev shares : List Known → List ℕ
shares seats = flat_map (λ s. s.view.share) seats

-- the least of numbers in ascending order is the first
least_first : (a n : ℕ) → least_of (range_with_len a (suc n)) ≡ a
least_first a zero = refl
least_first a (suc n) = let e = least_first (a + 1) n in omega arith

-- a number below all of them isn't among them
all_kept : (i a n : ℕ) → i < a → without i (range_with_len a n) ≡ range_with_len a n
all_kept i a zero low = refl
all_kept i a (suc n) low =
    let ne : a ≢ i = λ e. absurd (omega arith) in
    ap (λ b. cond b (without i (range_with_len (a + 1) n)) (a ∷ without i (range_with_len (a + 1) n))) (ne_eqb a i ne)
    ∙ ap (λ l. a ∷ l) (all_kept i (a + 1) n (omega arith))

rest_kept : (a n : ℕ) → without (least_of (range_with_len a (suc n))) (range_with_len a (suc n))
    ≡ range_with_len (a + 1) n
rest_kept a n =
    ap (λ i. without i (range_with_len a (suc n))) (least_first a n)
    ∙ (ap (λ b. cond b (without a (range_with_len (a + 1) n)) (a ∷ without a (range_with_len (a + 1) n)))
    (eq-eqb a a refl) ∙ all_kept a (a + 1) n (omega arith))

two_in : (a n : ℕ) → HasTwo (range_with_len a (suc (suc n)))
two_in a n = (a, a + 1, inl refl, inr (inl refl), λ e. absurd (omega arith))

-- The first `next` workers have a lane and a seat with one number each; the current seat has the other numbers.
pub record IsDealing (board : TableId) (all : List Dealt) (own : Known) (workers : List Equipped) (lanes : List Dealt)
    (next : ℕ) : Type 0 where
  pub board_of : own.board ≡ board
  pub hand : own.view.hand ≡ []
  pub share : own.view.share ≡ range_with_len (length workers) (32 - length workers)
  pub count : length workers + 1 ≡ next
  pub left : length workers + length lanes ≡ length all
  pub few : length all ≤ 32
  pub boards : All (λ s. s.board ≡ board) (seats_of workers)
  pub hands : All (λ s. s.view.hand ≡ []) (seats_of workers)
  pub whole : IsWhole (shares (seats_of workers) ++ own.view.share)
  pub lanes_of_all : lanes_of workers ++ lanes ≡ all

pub none_dealt : (board : TableId) (all lanes : List Dealt) (own : Known) (workers : List Equipped) → workers ≡ []
    → lanes ≡ all → length all ≤ 32 → own.board ≡ board → own.view ≡ first_view
    → IsDealing board all own workers lanes 1
none_dealt board all lanes own workers none is few at new =
    let long : length lanes ≡ length all = ap length is in
    subst (λ ws. IsDealing board all own ws lanes 1) (sym none)
    record {
      board_of = at;
      hand = ap (λ (v : View). v.hand) new;
      share = ap (λ (v : View). v.share) new;
      count = refl;
      left = omega arith;
      few = few;
      boards = All-nil (λ (s : Known). s.board ≡ board);
      hands = All-nil (λ (s : Known). s.view.hand ≡ []);
      whole = λ x low. subst (λ (v : View). Has v.share x) (sym new) (range_has 0 32 x (omega arith) low);
      lanes_of_all = is;
    }

-- the current share as its first two numbers and the others
first_two : (n : ℕ) (share : List ℕ) → n + 2 ≤ 32 → share ≡ range_with_len n (32 - n)
    → share ≡ range_with_len n (suc (suc (30 - n)))
first_two n share fit is = let as_two : 32 - n ≡ suc (suc (30 - n)) = omega arith in is ∙ ap (range_with_len n) as_two

pub can_split : {board : TableId} {all : List Dealt} {own : Known} {workers : List Equipped} {lanes : List Dealt}
    {next : ℕ} → IsDealing board all own workers lanes next → next < length all → HasTwo own.view.share
can_split {own} {workers} was low =
    let count = was.count in
    let few = was.few in
    subst HasTwo (sym (first_two (length workers) own.view.share (omega arith) was.share))
    (two_in (length workers) (30 - length workers))

-- lanes are left
pub is_left : (board : TableId) (all : List Dealt) (own : Known) (workers : List Equipped) (lanes : List Dealt)
    (next : ℕ) → IsDealing board all own workers lanes next → next ≤ length all → length lanes ≡ 0 → ⊥
is_left board all own workers lanes next was low none = let count = was.count in let left = was.left in omega arith

add_shares : (workers : List Equipped) (w : Equipped)
    → shares (seats_of (workers ++ w ∷ [])) ≡ shares (seats_of workers) ++ w.seat.view.share
add_shares workers w =
    ap shares (map-append (λ (q : Equipped). q.seat) workers (w ∷ []))
    ∙ (flat_map-append (λ (s : Known). s.view.share) (seats_of workers) (w.seat ∷ [])
    ∙ ap (λ l. shares (seats_of workers) ++ l) (append-nil w.seat.view.share))

-- all numbers are kept when the least one moves
moved_over : (xs share : List ℕ) → IsWhole (xs ++ share)
    → IsWhole ((xs ++ least_of share ∷ []) ++ without (least_of share) share)
moved_over xs share all x low = ⊎_elim
    (λ (h : Has xs x). left_of (xs ++ least_of share ∷ []) (without (least_of share) share) x
    (left_of xs (least_of share ∷ []) x h))
    (λ (h : Has share x). dite (ℕ_discrete x (least_of share))
    (λ e. left_of (xs ++ least_of share ∷ []) (without (least_of share) share) x
    (right_of xs (least_of share ∷ []) x (inl (sym e))))
    (λ ne. right_of (xs ++ least_of share ∷ []) (without (least_of share) share) x
    (without_keeps (least_of share) share x h ne)))
    (of_both xs share x (all x low))

with_one : (P : Known → Type 0) (workers : List Equipped) (w : Equipped) → All P (seats_of workers) → P w.seat
    → All P (seats_of (workers ++ w ∷ []))
with_one P workers w all one = subst (All P) (sym (map-append (λ (q : Equipped). q.seat) workers (w ∷ [])))
    (All-push P (seats_of workers) w.seat all one)

one_lane_more : (workers : List Equipped) (w : Equipped) (lanes rest all : List Dealt) → lanes ≡ w.lane ∷ rest
    → lanes_of workers ++ lanes ≡ all → lanes_of (workers ++ w ∷ []) ++ rest ≡ all
one_lane_more workers w lanes rest all is was =
    ap (λ l. l ++ rest) (map-append (λ (q : Equipped). q.lane) workers (w ∷ []))
    ∙ (append_assoc (lanes_of workers) (w.lane ∷ []) rest ∙ (ap (λ l. lanes_of workers ++ l) (sym is) ∙ was))

-- one more seat is split off
pub next_dealt : {board : TableId} {all : List Dealt} {own kept given : Known} {workers more : List Equipped}
    {lanes rest : List Dealt} {lane : Dealt} {next : ℕ} → IsDealing board all own workers lanes next → next < length all
    → lanes ≡ lane ∷ rest → kept.board ≡ board → given.board ≡ board → kept.view ≡ kept_view own.view
    → given.view ≡ given_view own.view → more ≡ workers ++ record { lane = lane; seat = given } ∷ []
    → IsDealing board all kept more rest (next + 1)
next_dealt {board} {all} {own} {kept} {given} {workers} {lanes} {rest} {lane} {next} was low is at mine keeps gives
    pushed =
    let w : Equipped = record { lane = lane; seat = given } in
    let long : length lanes ≡ suc (length rest) = ap length is in
    let count = was.count in
    let left = was.left in
    let few = was.few in
    let counted : length (workers ++ w ∷ []) ≡ length workers + 1 = length-append workers (w ∷ []) in
    let two = first_two (length workers) own.view.share (omega arith) was.share in
    let one : given.view.share ≡ least_of own.view.share ∷ [] = ap (λ (v : View). v.share) gives in
    let others : kept.view.share ≡ without (least_of own.view.share) own.view.share =
    ap (λ (v : View). v.share) keeps in
    let fewer : suc (30 - length workers) ≡ 32 - length (workers ++ w ∷ []) = omega arith in
    subst (λ ws. IsDealing board all kept ws rest (next + 1)) (sym pushed)
    record {
      board_of = at;
      hand = ap (λ (v : View). v.hand) keeps ∙ was.hand;
      share = others ∙ (ap (λ l. without (least_of l) l) two ∙ (rest_kept (length workers) (suc (30 - length workers))
          ∙ (ap (λ a. range_with_len a (suc (30 - length workers))) (sym counted)
          ∙ ap (range_with_len (length (workers ++ w ∷ []))) fewer)));
      count = omega arith;
      left = omega arith;
      few = few;
      boards = with_one (λ (s : Known). s.board ≡ board) workers w was.boards mine;
      hands = with_one (λ (s : Known). s.view.hand ≡ []) workers w was.hands (ap (λ (v : View). v.hand) gives);
      whole = subst (λ l. IsWhole (l ++ kept.view.share)) (ap (λ l. shares (seats_of workers) ++ l) (sym one)
          ∙ sym (add_shares workers w))
          (subst (λ l. IsWhole ((shares (seats_of workers) ++ least_of own.view.share ∷ []) ++ l)) (sym others)
          (moved_over (shares (seats_of workers)) own.view.share was.whole));
      lanes_of_all = one_lane_more workers w lanes rest all is was.lanes_of_all;
    }

-- the last one gets the current seat
pub all_dealt : (board : TableId) (all : List Dealt) (own : Known) (workers more : List Equipped)
    (lanes rest : List Dealt) (lane : Dealt) (next : ℕ) → IsDealing board all own workers lanes next → length all ≤ next
    → lanes ≡ lane ∷ rest
    → more ≡ workers ++ record { lane = lane; seat = own } ∷ [] → (lanes_of more ≡ all)
    × AreSeated board (seats_of more)
all_dealt board all own workers more lanes [] lane next was past is pushed =
    let w : Equipped = record { lane = lane; seat = own } in
    subst (λ ws. (lanes_of ws ≡ all) × AreSeated board (seats_of ws)) (sym pushed) (
      sym (append-nil (lanes_of (workers ++ w ∷ []))) ∙ one_lane_more workers w lanes [] all is was.lanes_of_all,
      record {
        boards = with_one (λ (s : Known). s.board ≡ board) workers w was.boards was.board_of;
        hands = with_one (λ (s : Known). s.view.hand ≡ []) workers w was.hands was.hand;
        shares = subst IsWhole (sym (add_shares workers w)) was.whole;
      },
    )
all_dealt board all own workers more lanes (l ∷ ls) lane next was past is pushed =
    let long : length lanes ≡ suc (suc (length ls)) = ap length is in
    let count = was.count in
    let left = was.left in
    absurd (omega arith)
