-- From a study to its workers, and from their parts to its marks.
use Rattle.std.proofs.Common.{◌≡◌, ℕ, ◌<◌, ◌≤◌, ◌^◌, List, [], ◌∷◌, map, length, All, Contains, ap, sym, ◌∙◌, subst}
use Rattle.std.proofs.Common.{arith}
use Rattle.std.specs.List.{flat_map}
use Rattle.std.proofs.lemmas.List.{length-map}
use Rattle.std.proofs.lemmas.List.Folds.{flat_map-map}
use Rattle.std.proofs.lemmas.List.Elements.{All-nil, All-cons, All-head, All-tail, All-map, All-weaker}
use Rattle.atomic_table.specs.Seated.{TableId}
use Rattle.tomex_config.specs.Configuration.{IsWithinLimits}
use Rattle.tomex_board.specs.Plans.{IsPlan}
use Rattle.tomex_board.specs.Known.{Known}
use Rattle.tomex_board.specs.Marks.{AreLawful}
use Rattle.tomex_board.specs.Views.{IsWhole}
use Rattle.tomex_board.specs.declared.mark.Mark.{Mark}
use Rattle.tomex_lanes.specs.Lanes.{Dealt, deal}
use Rattle.tomex_lanes.specs.Parts.{Equipped, Returned, AreSeated, AreWhole}
use Rattle.tomex_lanes.proofs.Dealing.{deal-counts, each_is_dealt}
use Rattle.tomex_study.specs.Study.{DesignSpace, IsStudy}
use Rattle.tomex_study.specs.Cycles.{cycles_on, cycles_of}
use Rattle.tomex_workers.specs.Plans.{IsPlanOf}
use Rattle.tomex_sweep.specs.Crews.{CanStart, CanRun, Owed, owed_by, given_by}
use Rattle.tomex_study.proofs.Bounds.{cycles_bound}
use Rattle.tomex_sweep.proofs.Verdicts.{as_long}

low_cycles : (s : DesignSpace) → IsStudy s → All (λ c. c < 2 ^ 38) (cycles_of s)
unfolding cycles_of
low_cycles s is =
    All-map (λ c. c < 2 ^ 38) (cycles_on s.programs) s.rows
    (All-weaker IsWithinLimits (λ r. cycles_on s.programs r < 2 ^ 38) (λ r lawful. let most =
    cycles_bound s.programs r lawful is.ends is.few_programs in omega arith) s.rows is.limits)

-- a board can be made for a study
pub board_plan : (s : DesignSpace) (costs cycles : List ℕ) → IsStudy s → IsPlanOf s costs cycles → IsPlan costs cycles
board_plan s costs cycles is plan =
    let long : length s.costs ≡ length s.rows = ap length is.costs ∙ length-map _ _ in
    let some = is.some_rows in
    let few = is.few_rows in
    let own : IsPlan s.costs (cycles_of s) = (omega arith, omega arith, sym (as_long s is), low_cycles s is) in
    subst (λ ys. IsPlan costs ys) plan.its_cycles (subst (λ cs. IsPlan cs (cycles_of s)) plan.its_costs own)

all_can : (board : TableId) (count : ℕ) (workers : List Equipped)
    → All (λ s. s.board ≡ board) (map (λ (w : Equipped). w.seat) workers)
    → All (λ s. s.view.hand ≡ []) (map (λ (w : Equipped). w.seat) workers)
    → All (λ l. l.count ≡ count) (map (λ (w : Equipped). w.lane) workers)
    → All (CanStart board count) workers
all_can board count [] boards hands counts = All-nil (CanStart board count)
all_can board count (w ∷ ws) boards hands counts =
    let seats : List Known = map (λ (q : Equipped). q.seat) ws in
    let lanes : List Dealt = map (λ (q : Equipped). q.lane) ws in
    All-cons (CanStart board count) w ws (
      All-head (λ (s : Known). s.board ≡ board) w.seat seats boards,
      All-head (λ (s : Known). s.view.hand ≡ []) w.seat
          seats hands,
      All-head (λ (l : Dealt). l.count ≡ count) w.lane lanes counts,
    )
    (all_can board count ws (All-tail (λ (s : Known). s.board ≡ board) w.seat seats boards)
    (All-tail (λ (s : Known). s.view.hand ≡ []) w.seat seats hands)
    (All-tail (λ (l : Dealt). l.count ≡ count) w.lane lanes counts))

-- the workers can start
pub can_run : (s : DesignSpace) (costs cycles : List ℕ) (board : TableId) (workers : List Equipped) (lanes : List Dealt)
    (count many : ℕ) → IsPlanOf s costs cycles → count ≡ length s.costs → lanes ≡ deal many count many
    → map (λ (w : Equipped). w.lane) workers ≡ lanes → AreSeated board (map (λ (w : Equipped). w.seat) workers)
    → CanRun s costs cycles board workers
can_run s costs cycles board workers lanes count many plan long is same seats =
    let count_is : count ≡ length costs = long ∙ ap length plan.its_costs in
    let counts : All (λ (l : Dealt). l.count ≡ count) (map (λ (w : Equipped). w.lane) workers) =
    subst (All (λ (l : Dealt). l.count ≡ count)) (sym (same ∙ is)) (deal-counts many count many) in
    record {
      plan = plan;
      all = all_can board (length costs) workers seats.boards seats.hands
          (subst (λ n. All (λ (l : Dealt). l.count ≡ n) (map (λ (w : Equipped). w.lane) workers)) count_is counts);
    }

mapped_back : {X Y : Type 0} (P : Y → Type 0) (f : X → Y) (xs : List X) → All P (map f xs) → All (λ x. P (f x)) xs
mapped_back P f [] all = All-nil (λ x. P (f x))
mapped_back P f (x ∷ xs) all = All-cons (λ y. P (f y)) x xs (All-head P (f x) (map f xs) all)
    (mapped_back P f xs (All-tail P (f x) (map f xs) all))

-- what is the same for what was returned and what was due
same_lists : (h : Owed → List ℕ) (parts : List Returned) (workers : List Equipped)
    → map given_by parts ≡ map owed_by workers → flat_map (λ p. h (given_by p)) parts ≡ flat_map (λ w. h (owed_by w))
    workers
same_lists h parts workers same = sym (flat_map-map h given_by parts)
    ∙ (ap (flat_map h) same ∙ flat_map-map h owed_by workers)

-- the parts have all rows and all numbers
pub parts_whole : {s : DesignSpace} {costs cycles : List ℕ} (board : TableId) (parts : List Returned)
    (workers : List Equipped) {lanes : List Dealt} {count : ℕ} (many : ℕ) → IsPlanOf s costs cycles
    → count ≡ length s.costs → 1 ≤ many → lanes ≡ deal many count many → map (λ (w : Equipped). w.lane) workers ≡ lanes
    → AreSeated board (map (λ (w : Equipped). w.seat) workers) → map given_by parts ≡ map owed_by workers
    → AreWhole board (length costs) parts
parts_whole {costs} board parts workers {count} many plan long some is same seats owed =
    let count_is : count ≡ length costs = long ∙ ap length plan.its_costs in
    let on_board : Owed → Type 0 = λ o. o.1 ≡ board in
    let shares : flat_map (λ (p : Returned). p.seat.view.share) parts ≡ flat_map (λ (q : Known). q.view.share)
    (map (λ (w : Equipped). w.seat) workers) =
    same_lists (λ o. o.2) parts workers owed
    ∙ sym (flat_map-map (λ (q : Known). q.view.share) (λ (w : Equipped). w.seat) workers) in
    let rows : flat_map (λ (p : Returned). p.rows) parts ≡ flat_map (λ (l : Dealt). l.rows) (deal many count many) =
    same_lists (λ o. o.0) parts workers owed
    ∙ (sym (flat_map-map (λ (l : Dealt). l.rows) (λ (w : Equipped). w.lane) workers)
    ∙ ap (flat_map (λ (l : Dealt). l.rows)) (same ∙ is)) in
    record {
      boards = mapped_back on_board given_by parts
          (subst (All on_board) (sym owed)
          (All-map on_board owed_by workers
          (mapped_back (λ (q : Known). q.board ≡ board) (λ (w : Equipped). w.seat) workers seats.boards)));
      shares = subst IsWhole (sym shares) seats.shares;
      rows = λ row low. subst (λ l. Contains l row) (sym rows) (each_is_dealt many count row some (omega arith));
    }

-- the marks are lawful for the study
pub study_marks : (s : DesignSpace) (costs cycles : List ℕ) (marks : List Mark) → IsPlanOf s costs cycles
    → AreLawful costs cycles marks → AreLawful s.costs (cycles_of s) marks
study_marks s costs cycles marks plan is =
    subst (λ ys. AreLawful s.costs ys marks) (sym plan.its_cycles)
    (subst (λ cs. AreLawful cs cycles marks) (sym plan.its_costs) is)

pub study_count : (s : DesignSpace) (costs cycles : List ℕ) (marks : List Mark) → IsPlanOf s costs cycles
    → length marks ≡ length costs → length marks ≡ length s.costs
study_count s costs cycles marks plan is = is ∙ ap length (sym plan.its_costs)
