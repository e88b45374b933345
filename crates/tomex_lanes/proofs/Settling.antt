-- Parts that are joined one after another.
use Rattle.std.proofs.Common.{◌≡◌, ◌≢◌, ℕ, ◌<◌, ◌⊎◌, ⊎_elim, inl, inr, List, [], ◌∷◌, ◌++◌, All, Contains, length}
use Rattle.std.proofs.Common.{append_assoc, ap, sym, ◌∙◌, subst, refl, true, get_or, slice_get, Some, arith}
use Rattle.std.specs.List.{flat_map}
use Rattle.std.proofs.lemmas.List.{append-nil}
use Rattle.std.proofs.lemmas.Option.{slice_get-get_or}
use Rattle.std.proofs.lemmas.Grind.{flat_map-append}
use Rattle.std.proofs.lemmas.List.Elements.{Contains-append_cases, Contains-append_left, Contains-push, All-contains}
use Rattle.std.proofs.lemmas.List.Elements.{All-contains_itself, All-weaker, All-head, All-tail}
use Rattle.atomic_table.specs.Seated.{TableId}
use Rattle.tomex_board.specs.Known.{Known}
use Rattle.tomex_board.specs.declared.view.View.{View}
use Rattle.tomex_board.specs.Views.{Has, KnowsNotOpen, IsWhole, Grows, joined_view}
use Rattle.tomex_board.proofs.Lists.{left_of, right_of, of_both}
use Rattle.tomex_board.specs.declared.mark.Mark.{Mark}
use Rattle.tomex_board.specs.declared.mark.Mark.TheVariants.{Open, Taken, Finished, Dropped}
use Rattle.tomex_lanes.specs.Parts.{Returned, AreWhole, is_closed}

abbrev shares : List Returned → List ℕ
shares parts = flat_map (λ p. p.seat.view.share) parts

abbrev lists : List Returned → List ℕ
lists parts = flat_map (λ p. p.rows) parts

-- The seat has nothing in hand; it and the parts that are left have all numbers, and each row is noted
-- by the seat or is on the list of a part that is left.
pub record IsJoined (board : TableId) (count : ℕ) (seat : Known) (parts : List Returned) : Type 0 where
  pub board_of : seat.board ≡ board
  pub hand : seat.view.hand ≡ []
  pub boards : All (λ p. p.seat.board ≡ board) parts
  pub whole : IsWhole (seat.view.share ++ shares parts)
  pub rows : (row : ℕ) → row < count → KnowsNotOpen seat.view row ⊎ Contains (lists parts) row

all_left : {X : Type 0} (P : X → Type 0) (xs ys : List X) → All P (xs ++ ys) → All P xs
all_left P xs ys all = All-weaker (Contains xs) P
    (λ x h. All-contains P (xs ++ ys) x all (Contains-append_left xs ys x h)) xs (All-contains_itself xs)

-- numbers in another order
swapped : (xs ys : List ℕ) → IsWhole (xs ++ ys) → IsWhole (ys ++ xs)
swapped xs ys all x low = ⊎_elim (λ (h : Has xs x). right_of ys xs x h) (λ (h : Has ys x). left_of ys xs x h)
    (of_both xs ys x (all x low))

last_shares : (parts rest : List Returned) (last : Returned) → parts ≡ rest ++ last ∷ [] → shares parts ≡ shares rest
    ++ last.seat.view.share
last_shares parts rest last is =
    ap shares is ∙ (flat_map-append (λ (p : Returned). p.seat.view.share) rest (last ∷ [])
    ∙ ap (λ l. shares rest ++ l) (append-nil last.seat.view.share))

last_lists : (parts rest : List Returned) (last : Returned) → parts ≡ rest ++ last ∷ [] → lists parts ≡ lists rest
    ++ last.rows
last_lists parts rest last is =
    ap lists is ∙ (flat_map-append (λ (p : Returned). p.rows) rest (last ∷ [])
    ∙ ap (λ l. lists rest ++ l) (append-nil last.rows))

-- at first the seat is that of the last part
pub first_joined : (board : TableId) (count : ℕ) (parts rest : List Returned) (last : Returned) (seat : Known)
    → AreWhole board count parts → parts ≡ rest ++ last ∷ []
    → seat ≡ last.seat → seat.view.hand ≡ [] → All (KnowsNotOpen seat.view) last.rows → IsJoined board count seat rest
first_joined board count parts rest last seat whole is same empty noted =
    let all : All (λ (p : Returned). p.seat.board ≡ board) (rest ++ last ∷ []) =
    subst (All (λ (p : Returned). p.seat.board ≡ board)) is whole.boards in
    let share : last.seat.view.share ≡ seat.view.share = ap (λ (k : Known). k.view.share) (sym same) in
    record {
      board_of = ap (λ (k : Known). k.board) same
          ∙ All-contains (λ (p : Returned). p.seat.board ≡ board) (rest ++ last ∷ []) last all
          (Contains-push rest last);
      hand = empty;
      boards = all_left (λ (p : Returned). p.seat.board ≡ board) rest (last ∷ []) all;
      whole = subst (λ l. IsWhole (l ++ shares rest)) share
          (swapped (shares rest) last.seat.view.share (subst IsWhole (last_shares parts rest last is) whole.shares));
      rows = λ row low. ⊎_elim (λ h. inr h) (λ h. inl (All-contains (KnowsNotOpen seat.view) last.rows row noted h))
          (Contains-append_cases (lists rest) last.rows row
          (subst (λ l. Contains l row) (last_lists parts rest last is) (whole.rows row low)));
    }

-- the next part's seat is of the board
pub part_board : (board : TableId) (count : ℕ) (seat mine : Known) (part : Returned) (parts rest : List Returned)
    → IsJoined board count seat parts → parts ≡ part ∷ rest → mine ≡ part.seat → mine.board ≡ board
part_board board count seat mine part parts rest was is same =
    ap (λ (k : Known). k.board) same ∙ All-head (λ (p : Returned). p.seat.board ≡ board) part rest
    (subst (All (λ (p : Returned). p.seat.board ≡ board)) is was.boards)

-- one more part is joined
pub next_joined : {board : TableId} {count : ℕ} {seat mine new : Known} {part : Returned} {parts rest : List Returned}
    → IsJoined board count seat parts → parts ≡ part ∷ rest → mine ≡ part.seat → All (KnowsNotOpen mine.view) part.rows
    → new.board ≡ board → new.view ≡ joined_view seat.view mine.view → Grows seat.view new.view
    → Grows mine.view new.view → IsJoined board count new rest
next_joined {board} {seat} {mine} {new} {part} {rest} was is same noted at view first second =
    let share : mine.view.share ≡ part.seat.view.share = ap (λ (k : Known). k.view.share) same in
    let joined : new.view.share ≡ seat.view.share ++ part.seat.view.share = ap (λ (v : View). v.share) view
    ∙ ap (λ l. seat.view.share ++ l) share in
    let all : IsWhole (seat.view.share ++ (part.seat.view.share ++ shares rest)) =
    subst (λ ps. IsWhole (seat.view.share ++ shares ps)) is was.whole in
    record {
      board_of = at;
      hand = ap (λ (v : View). v.hand) view ∙ was.hand;
      boards = All-tail (λ (p : Returned). p.seat.board ≡ board) part rest
          (subst (All (λ (p : Returned). p.seat.board ≡ board)) is was.boards);
      whole = subst IsWhole (sym (append_assoc seat.view.share part.seat.view.share (shares rest))
          ∙ ap (λ l. l ++ shares rest) (sym joined)) all;
      rows = λ row low. ⊎_elim (λ h. inl (first.noted row h))
          (λ h. ⊎_elim (λ here. inl (second.noted row (All-contains (KnowsNotOpen mine.view) part.rows row noted here)))
          (λ there. inr there)
          (Contains-append_cases part.rows (lists rest) row (subst (λ ps. Contains (lists ps) row) is h)))
          (was.rows row low);
    }

-- no part is left
none_left : (board : TableId) (count : ℕ) (seat : Known) (parts : List Returned) → IsJoined board count seat parts
    → length parts ≡ 0 → IsWhole seat.view.share × ((row : ℕ) → row < count → KnowsNotOpen seat.view row)
none_left board count seat [] was none = (
  subst IsWhole (append-nil seat.view.share) was.whole,
  λ row low. ⊎_elim (λ h. h) (λ h. absurd (let low' = h.1 in
      omega arith)) (was.rows row low),
)
none_left board count seat (p ∷ ps) was none = absurd (omega arith)

-- there is a part, since there are numbers
pub some_part : (board : TableId) (count : ℕ) (parts : List Returned) → AreWhole board count parts
    → (0 < length parts → ⊥) → ⊥
some_part board count [] whole none = whole.shares 0 (omega arith)
some_part board count (p ∷ ps) whole none = none (omega arith)

-- the seat that all were joined to
pub record HasAll (board : TableId) (count : ℕ) (seat : Known) : Type 0 where
  pub board_of : seat.board ≡ board
  pub hand : seat.view.hand ≡ []
  pub whole : IsWhole seat.view.share
  pub noted : (row : ℕ) → row < count → KnowsNotOpen seat.view row

pub all_joined : (board : TableId) (count : ℕ) (seat : Known) (parts : List Returned) → IsJoined board count seat parts
    → length parts ≡ 0 → HasAll board count seat
all_joined board count seat parts was none = let ends = none_left board count seat parts was none in
    record { board_of = was.board_of; hand = was.hand; whole = ends.0; noted = ends.1 }

closed_mark : (m : Mark) → m ≢ Open → m ≢ Taken → is_closed m ≡ true
closed_mark Open a b = absurd (a refl)
closed_mark Taken a b = absurd (b refl)
closed_mark (Finished y) a b = refl
closed_mark (Dropped j) a b = refl

-- no mark is open, since each row was noted, and none is taken
pub all_closed : (marks : List Mark) (count : ℕ) → length marks ≡ count
    → ((i : ℕ) → i < count → slice_get marks i ≢ Some Open) → ((i : ℕ) → slice_get marks i ≢ Some Taken)
    → All (λ m. is_closed m ≡ true) marks
all_closed marks count long unopened taken =
    λ k d low. closed_mark (get_or marks k d)
    (λ e. unopened k (omega arith) (slice_get-get_or marks k d low ∙ ap Some e))
    (λ e. taken k (slice_get-get_or marks k d low ∙ ap Some e))
