-- If all rows are judged lawfully, the front of the finished ones is the front of all.
use Rattle.std.proofs.Common.{◌≡◌, ℕ, ◌<◌, ◌≤◌, ◌⊎◌, ⊎_elim, inl, inr, arith, sym, subst, ◌∙◌, List, length}
use Rattle.std.proofs.Common.{true, get_or, Some, slice_get}
use Rattle.std.proofs.lemmas.Option.{slice_get-get_or, slice_get_within}
use Rattle.std.proofs.lemmas.Bool.{false≢true}
use Rattle.tomex_board.specs.Marks.{AreLawful}
use Rattle.tomex_board.specs.declared.mark.Mark.{Mark}
use Rattle.tomex_board.specs.declared.mark.Mark.TheVariants.{Open, Taken, Finished, Dropped}
use Rattle.tomex_lanes.specs.Parts.{is_closed}
use Rattle.tomex_pareto.specs.declared.front_row.FrontRow.{FrontRow}
use Rattle.tomex_sweep.specs.Finished.{finished_from}
use Rattle.tomex_pareto.specs.Front.{front_of, rows_from}
use Rattle.tomex_pareto.specs.Pareto.{Dominates}
use Rattle.tomex_sweep.proofs.FinishedRows.{finished_apart, finished_of, of_finished}
use Rattle.tomex_pareto.proofs.Rows.{IsAt, at_row, row_at, rows_apart}
use Rattle.tomex_pareto.proofs.Rows.{same_row}
use Rattle.tomex_pareto.proofs.Pareto.{Has, front_is, only_front}
use Rattle.tomex_sweep.specs.Marks.{AreJudged}

-- a finished row is a row
finished_row : (costs cycles : List ℕ) (marks : List Mark) → AreLawful costs cycles marks → length costs ≡ length cycles
    → (r : FrontRow) → Has (finished_from 0 costs marks) r → Has (rows_from 0 costs cycles) r
finished_row costs cycles marks lawful same r h =
    let w = finished_of 0 costs marks r h in
    let l = w.within in
    at_row 0 costs cycles w.k r l (let z : w.k < length cycles = omega arith in
    z) w.number w.cost (lawful.finished w.k r.cycles w.mark)

-- a judged row is finished, or a finished one beats it
judged_row : (costs cycles : List ℕ) (marks : List Mark) → AreJudged costs cycles marks
    → (r : FrontRow) (w : IsAt 0 costs cycles r) (m : Mark) → slice_get marks w.k ≡ Some m → is_closed m ≡ true
    → Has (finished_from 0 costs marks) r ⊎ ((q : FrontRow) × Has (finished_from 0 costs marks) q × Dominates q r)
judged_row costs cycles marks is r w (Finished y) at shut =
    let e : y ≡ r.cycles = is.lawful.finished w.k y at ∙ sym w.cycles_are in
    let n : w.k ≡ r.row = let z = w.number in omega arith in
    let h = of_finished 0 costs marks w.k w.k y (omega arith) w.within at in
    inl (subst (Has (finished_from 0 costs marks)) (same_row w.k (get_or costs w.k 0) y r n (sym w.cost) e) h)
judged_row costs cycles marks is r w (Dropped j) at shut =
    let d = is.lawful.dropped w.k j at in
    let here : j < length marks = slice_get_within marks j _ d.0 in
    let count = is.count in
    let q : FrontRow = record { row = j; cost = get_or costs j 0; cycles = get_or cycles j 0 } in
    let cost : get_or costs j 0 ≤ get_or costs w.k 0 = d.1 in
    let fewer : get_or cycles j 0 < get_or cycles w.k 0 = d.2 in
    let f = w.cost in
    let g = w.cycles_are in
    let a : get_or costs j 0 ≤ r.cost = omega arith in
    let b : get_or cycles j 0 < r.cycles = omega arith in
    let c : get_or cycles j 0 ≤ r.cycles = omega arith in
    inr (
      q,
      of_finished 0 costs marks j j (get_or cycles j 0) (omega arith) (let z : j < length costs = omega arith in
          z) d.0,
      record { cost = a; cycles = c; less = inr b },
    )
judged_row costs cycles marks is r w Open at shut = absurd (false≢true shut)
judged_row costs cycles marks is r w Taken at shut = absurd (false≢true shut)

judged_at : (costs cycles : List ℕ) (marks : List Mark) → AreJudged costs cycles marks → (r : FrontRow)
    → Has (rows_from 0 costs cycles) r
    → Has (finished_from 0 costs marks) r ⊎ ((q : FrontRow) × Has (finished_from 0 costs marks) q × Dominates q r)
judged_at costs cycles marks is r h =
    let w = row_at 0 costs cycles r h in
    let l = w.within in
    let count = is.count in
    let here : w.k < length marks = omega arith in
    judged_row costs cycles marks is r w (get_or marks w.k Open) (slice_get-get_or marks w.k Open here)
    (is.closed w.k Open here)

beats_chain : (a b c : FrontRow) → Dominates a b → Dominates b c → Dominates a c
beats_chain a b c v w =
    let p = v.cost in let q = v.cycles in let s = w.cost in let t = w.cycles in
    let x : a.cost ≤ c.cost = omega arith in
    let y : a.cycles ≤ c.cycles = omega arith in
    record {
      cost = x;
      cycles = y;
      less = ⊎_elim (λ (l : a.cost < b.cost). let z : a.cost < c.cost = omega arith in
          inl z) (λ (l : a.cycles < b.cycles). let z : a.cycles < c.cycles = omega arith in inr z) v.less;
    }

-- the front of the finished rows of judged ones is the front of all
pub same_front : (costs cycles : List ℕ) (marks : List Mark) → AreJudged costs cycles marks
    → length costs ≡ length cycles → front_of (finished_from 0 costs marks) ≡ front_of (rows_from 0 costs cycles)
same_front costs cycles marks is same =
    let all = rows_from 0 costs cycles in
    let done = finished_from 0 costs marks in
    let it = front_is done (finished_apart 0 costs marks) in
    only_front all (front_of done) (rows_apart 0 costs cycles) (record {
      rises = it.rises;
      only = λ r h.
          let w = it.only r h in (
            finished_row costs cycles marks is.lawful same r w.0,
            λ q i b.
                ⊎_elim (λ (t : Has done q). w.1 q t b)
                (λ (t : (p : FrontRow) × Has done p × Dominates p q). w.1 t.0 t.1 (beats_chain t.0 q r t.2 b))
                (judged_at costs cycles marks is q i),
          );
      all = λ r h f.
          ⊎_elim (λ (t : Has done r). it.all r t (λ q i b. f q (finished_row costs cycles marks is.lawful same q i) b))
          (λ (t : (p : FrontRow) × Has done p × Dominates p r). absurd
          (f t.0 (finished_row costs cycles marks is.lawful same t.0 t.1) t.2))
          (judged_at costs cycles marks is r h);
    })
