-- A worker's steps on a row that it has in hand.
use Rattle.std.proofs.Common.{◌≡◌, ℕ, ◌+◌, ◌<◌, ◌≤◌, List, [], ◌∷◌, Option, Some, None, slice_get, length, get_or}
use Rattle.std.proofs.Common.{ap, cond, Bool, true, false}
use Rattle.std.specs.Prelude.{IfSome, nat_lt}
use Rattle.std.proofs.lemmas.Bool.{ltb-true}
use Rattle.std.proofs.Common.{refl, sym, ◌∙◌, subst, inl, All, take, arith, eq-eqb}
use Rattle.std.proofs.lemmas.List.Elements.{All-more, All-weaker}
use Rattle.std.proofs.lemmas.Option.{slice_get_read}
use Rattle.tomex_board.specs.Known.{Known}
use Rattle.tomex_board.specs.declared.view.View.{View}
use Rattle.tomex_board.specs.Views.{Has, KnowsNotOpen, Grows, without}
use Rattle.tomex_board.proofs.Closes.{grows_on}
use Rattle.tomex_config.specs.Configuration.{Configuration}
use Rattle.tomex_study.specs.Study.{DesignSpace, IsStudy}
use Rattle.tomex_study.specs.Cycles.{cycles_of, totals_on}
use Rattle.tomex_plateaus.specs.Looks.{plain_on, weighted_cycles}
use Rattle.tomex_plateaus.specs.Knowledge.{AreTotalsOn}
use Rattle.tomex_plateaus.specs.Looks.{IsKnownRow, LastLookSeesMost, last_look}
use Rattle.tomex_plateaus.specs.declared.known_row.KnownRow.{KnownRow}
use Rattle.tomex_study.specs.Program.{Workload}
use Rattle.tomex_workers.specs.Plans.{IsPlanOf}
use Rattle.tomex_workers.specs.Seats.{Continues}
use Rattle.tomex_study.proofs.Rows.{as_many_rows, cycles_at}

-- a seat continues itself
pub continues_itself : (seat : Known) → Continues seat seat
continues_itself seat = record {
  board = refl;
  share = refl;
  grown = record { noted = λ i h. h; marks = λ i m h. h; bests = λ k. omega arith };
}

pub continues_on : (first now new : Known) → Continues first now → Continues now new → Continues first new
continues_on first now new before after = record {
  board = after.board ∙ before.board;
  share = after.share ∙ before.share;
  grown = grows_on first.view now.view new.view before.grown after.grown;
}

pub has_it : (hand : List ℕ) (row : ℕ) → hand ≡ row ∷ [] → Has hand row
has_it hand row is = subst (λ l. Has l row) (sym is) (inl refl)

-- a hand of one row is empty after that row leaves
pub none_in_hand : (hand after : List ℕ) (row : ℕ) → hand ≡ row ∷ [] → after ≡ without row hand → after ≡ []
none_in_hand hand after row is gone =
    gone ∙ (ap (without row) is ∙ ap (λ b. cond b [] (row ∷ [])) (eq-eqb row row refl))

-- there are as many rows as costs
pub row_there : (s : DesignSpace) (costs cycles : List ℕ) (row : ℕ) → IsStudy s → IsPlanOf s costs cycles
    → row < length costs → row < length s.rows
row_there s costs cycles row is plan low =
    let long : length s.costs ≡ length s.rows = as_many_rows s is in
    let same : length s.costs ≡ length costs = ap length plan.its_costs in
    omega arith

-- the row that is read is the study's
pub row_read : (rows all : List Configuration) (row : ℕ) (item : Configuration) → rows ≡ all → row < length all
    → item ≡ get_or rows row item → slice_get all row ≡ Some item
row_read rows all row item same low read =
    let here : row < length rows = subst (λ (rs : List Configuration). row < length rs) (sym same) low in
    ap (λ (rs : List Configuration). slice_get rs row) (sym same) ∙ slice_get_read rows (length rows) row item refl here
    read

-- totals on the row's configuration are totals on the row
pub totals_there : (s : DesignSpace) (row : ℕ) (item : Configuration) (programs : List Workload) (totals : List ℕ)
    → programs ≡ s.programs → slice_get s.rows row ≡ Some item
    → take (length programs) totals ≡ totals_on programs item → AreTotalsOn s row totals
totals_there s row item programs totals same at are = λ config here.
    let both : Some item ≡ Some config = sym at ∙ here in
    let e : item ≡ config = (cc) in
    subst (λ (r : Configuration). take (length s.programs) totals ≡ totals_on s.programs r) e
    (subst (λ (ps : List Workload). take (length ps) totals ≡ totals_on ps item) same are)

-- a row whose totals are known has its cycles, and has made no more than those at its last look
pub known_cycles : (s : DesignSpace) (row : ℕ) (item : Configuration) (known : KnownRow)
    → slice_get s.rows row ≡ Some item → IsKnownRow s.programs item known → known.cycles ≡ get_or (cycles_of s) row 0
known_cycles s row item known at is = is.cycles ∙ sym (cycles_at s row item at)

pub known_made : (s : DesignSpace) (row : ℕ) (item : Configuration) (known : KnownRow)
    → LastLookSeesMost → slice_get s.rows row ≡ Some item → IsKnownRow s.programs item known
    → IfSome known.at_last_look (λ n. n ≤ get_or (cycles_of s) row 0)
known_made s row item known law at is =
    subst (λ (o : Option ℕ). IfSome o (λ n. n ≤ get_or (cycles_of s) row 0)) (sym is.at_last_look)
    (if_looked (nat_lt 1024 (plain_on s.programs item)) refl)
  where
    if_looked : (b : Bool) → nat_lt 1024 (plain_on s.programs item) ≡ b
        → IfSome (cond b (Some (weighted_cycles s.programs item (last_look (plain_on s.programs item)))) None)
        (λ n. n ≤ get_or (cycles_of s) row 0)
    if_looked true looks =
        let more : 1024 < plain_on s.programs item = ltb-true 1024 (plain_on s.programs item) looks in
        rw (cycles_at s row item at) (law s.programs item 1 (omega arith)).1
    if_looked false looks = tt

-- one more row is noted
pub one_noted : (v w : View) (rows items : List ℕ) (i : ℕ) → items ≡ rows → i < length items
    → All (KnowsNotOpen v) (take i rows) → Grows v w → KnowsNotOpen w (get_or items i 0)
    → All (KnowsNotOpen w) (take (i + 1) rows)
one_noted v w rows items i same low all grown noted =
    let below : i < length rows = subst (λ (rs : List ℕ). i < length rs) same low in
    let here : KnowsNotOpen w (get_or rows i 0) = subst (λ (rs : List ℕ). KnowsNotOpen w (get_or rs i 0)) same noted in
    All-more (KnowsNotOpen w) rows i 0 below
    (All-weaker (KnowsNotOpen v) (KnowsNotOpen w) (λ j h. grown.noted j h) (take i rows) all) here
