-- The code's floors and cost are those of the plan.
use Rattle.std.proofs.Common.{◌≡◌, ◌≤◌, ◌∙◌, ℕ, List, length, get_or, slice_index, ap, sym, subst, arith, rules}
use Rattle.std.proofs.lemmas.List.{get_or_read}
use Rattle.tomex_board.specs.Words.{band_word}
use Rattle.tomex_board.specs.Bands.{floors_of, IsBandOf}
use Rattle.tomex_board.specs.declared.view.View.{View}
use Rattle.tomex_board.specs.Views.{best}
use Rattle.tomex_board.proofs.Closes.{grows_on}
use Rattle.tomex_board.proofs.Finishes.{band_read, none_read, one_band, in_its_band, in_no_band}
use Rattle.tomex_board.proofs.board.Board.finish.Goals as goal

pub publish-requires-clause-band : goal.publish-requires-clause-band
publish-requires-clause-band g c = let costs = g.J.Plan.costs in
    let i = c.self.invariant in let n = ap (λ (l : List ℕ). length l) i.6 in
    let cost = get_or_read c.self.inside.costs.items _ _ (omega arith) c.index.ensures 0 in
    band_read _ (c.deref.ensures.value ∙ i.7) (cost ∙ ap (λ (l : List ℕ). get_or l c.args.i 0) i.6)
    c.in-Some.ensures.some

pub publish-requires-clause-noted : goal.publish-requires-clause-noted
publish-requires-clause-noted g c = search rules fits 100

pub returns-in-Some-clause-steps : goal.returns-in-Some-clause-steps
returns-in-Some-clause-steps g c = let costs = g.J.Plan.costs in
    let i = c.self.invariant in let n = ap (λ (l : List ℕ). length l) i.6 in
    let cost = get_or_read c.self.inside.costs.items _ _ (omega arith) c.index.ensures 0 in
    let band : IsBandOf (floors_of costs) (slice_index costs c.args.i) c.in-Some.k =
    band_read _ (c.deref.ensures.value ∙ i.7) (cost ∙ ap (λ (l : List ℕ). get_or l c.args.i 0) i.6)
    c.in-Some.ensures.some in
    in_its_band _ band c.mark_finished.ensures.view c.publish.ensures.view

pub returns-in-Some-clause-published : goal.returns-in-Some-clause-published
returns-in-Some-clause-published g c = let costs = g.J.Plan.costs in
    let i = c.self.invariant in let n = ap (λ (l : List ℕ). length l) i.6 in
    let cost = get_or_read c.self.inside.costs.items _ _ (omega arith) c.index.ensures 0 in
    let band : IsBandOf (floors_of costs) (slice_index costs c.args.i) c.in-Some.k =
    band_read _ (c.deref.ensures.value ∙ i.7) (cost ∙ ap (λ (l : List ℕ). get_or l c.args.i 0) i.6)
    c.in-Some.ensures.some in
    λ k other. subst (λ (z : ℕ). best z c.publish.new.seat.view ≤ band_word c.args.cycles c.args.i)
    (one_band (floors_of costs) (slice_index costs c.args.i) c.in-Some.k k band other) c.publish.ensures.best

pub returns-in-Some-clause-others : goal.returns-in-Some-clause-others
returns-in-Some-clause-others g c = let costs = g.J.Plan.costs in
    let i = c.self.invariant in let n = ap (λ (l : List ℕ). length l) i.6 in
    let cost = get_or_read c.self.inside.costs.items _ _ (omega arith) c.index.ensures 0 in
    let band : IsBandOf (floors_of costs) (slice_index costs c.args.i) c.in-Some.k =
    band_read _ (c.deref.ensures.value ∙ i.7) (cost ∙ ap (λ (l : List ℕ). get_or l c.args.i 0) i.6)
    c.in-Some.ensures.some in
    λ k no. c.publish.ensures.others k
    (λ (e : k ≡ c.in-Some.k). no (subst (IsBandOf (floors_of costs) (slice_index costs c.args.i)) (sym e) band))
    ∙ ap (best k) c.mark_finished.ensures.view

pub returns-in-Some-clause-hand : goal.returns-in-Some-clause-hand
returns-in-Some-clause-hand g c =
    c.publish.ensures.hand ∙ ap (λ (v : View). v.hand) c.mark_finished.ensures.view

pub returns-in-Some-clause-share : goal.returns-in-Some-clause-share
returns-in-Some-clause-share g c =
    c.publish.ensures.share ∙ ap (λ (v : View). v.share) c.mark_finished.ensures.view

pub returns-in-Some-clause-grown : goal.returns-in-Some-clause-grown
returns-in-Some-clause-grown g c = grows_on _ _ _ c.mark_finished.ensures.grown c.publish.ensures.grown

pub returns-in_default-clause-hand : goal.returns-in_default-clause-hand
returns-in_default-clause-hand g c = ap (λ (v : View). v.hand) c.mark_finished.ensures.view

pub returns-in_default-clause-share : goal.returns-in_default-clause-share
returns-in_default-clause-share g c = ap (λ (v : View). v.share) c.mark_finished.ensures.view

pub returns-in_default-clause-others : goal.returns-in_default-clause-others
returns-in_default-clause-others g c = λ k no. ap (best k) c.mark_finished.ensures.view

pub returns-in_default-clause-steps : goal.returns-in_default-clause-steps
returns-in_default-clause-steps g c = let i = c.self.invariant in let n = ap (λ (l : List ℕ). length l) i.6 in
    let cost = get_or_read c.self.inside.costs.items _ _ (omega arith) c.index.ensures 0 in
    let dear = none_read _ _ _ _ (c.deref.ensures.value ∙ i.7)
    (cost ∙ ap (λ (l : List ℕ). get_or l c.args.i 0) i.6) c.in_default.ensures.none in
    in_no_band dear c.mark_finished.ensures.view

pub returns-in_default-clause-published : goal.returns-in_default-clause-published
returns-in_default-clause-published g c = let i = c.self.invariant in
    let n = ap (λ (l : List ℕ). length l) i.6 in
    let cost = get_or_read c.self.inside.costs.items _ _ (omega arith) c.index.ensures 0 in
    let dear = none_read _ _ _ _ (c.deref.ensures.value ∙ i.7)
    (cost ∙ ap (λ (l : List ℕ). get_or l c.args.i 0) i.6) c.in_default.ensures.none in
    λ k band. let low = dear k band.0 in let high = band.1 in absurd (omega arith)
