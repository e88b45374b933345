use Rattle.std.proofs.Common.{rules, arith, ℕ, ◌*◌, ◌/◌, ◌≡◌, ◌∙◌, ◌++◌, ◌∷◌, [], sym, ap, List, map, length}
use Rattle.std.proofs.Common.{slice_index}
use Rattle.std.specs.List.{range_with_len}
use Rattle.std.proofs.lemmas.List.FromFn.{map-range_with_len_more}
use Rattle.tomex_board.specs.Bands.{distinct_costs}
use Rattle.tomex_board.proofs.Costs.{floors_are, among_few, among_many, spread_among, with_length}
use Rattle.tomex_board.proofs.floors.floors_of.Goals as goal

pub returns-then-len-le-BANDS : goal.returns-then-len-le-BANDS
returns-then-len-le-BANDS g c = let cs = c.args.costs.now in let e = c.in_ok-rising.ensures in
    let n = ap (λ (l : List ℕ). length l) e in let m = c.len.ensures in let small = c.if-len-le-BANDS.true in
    e ∙ (sym (among_few (distinct_costs cs) (omega arith)) ∙ sym (floors_are cs))

pub spread-requires-clause-many : goal.spread-requires-clause-many
spread-requires-clause-many g c = let cs = c.args.costs.now in let e = c.in_ok-rising.ensures in
    let n = ap (λ (l : List ℕ). length l) e in let m = c.len.ensures in let many = c.if-len-le-BANDS.false in
    let v = ap (λ (l : List ℕ). length l) c.deref.ensures.value in let w = with_length [] cs in
    let few = c.requires.few in (omega arith, omega arith)

pub loop-k-preserved : goal.loop-k-preserved
loop-k-preserved g c = let xs = c.in_ok-rising.rising.items in let k = c.loop-k.k in
    let f = λ (k : ℕ). slice_index xs (k * length xs / 64) in
    c.in_ok-push.ensures.items ∙ (ap (λ (l : List ℕ). l ++ c.spread.result ∷ []) c.loop-k.invariant
    ∙ (ap (λ (x : ℕ). map f (range_with_len 0 k) ++ x ∷ [])
    (c.spread.ensures ∙ ap (λ (l : List ℕ). slice_index l (k * length l / 64)) c.deref.ensures.value)
    ∙ sym (map-range_with_len_more f 0 k k (omega arith))))

pub returns : goal.returns
returns g c = let cs = c.args.costs.now in let e = c.in_ok-rising.ensures in let n = ap (λ (l : List ℕ). length l) e in
    let m = c.len.ensures in let many = c.if-len-le-BANDS.false in let xs = c.in_ok-rising.rising.items in
    let all : c.loop-k.k ≡ 64 = search rules in
    c.loop-k.invariant ∙ (ap (λ (k : ℕ). map (λ k. slice_index xs (k * length xs / 64)) (range_with_len 0 k)) all
    ∙ (ap spread_among e ∙ (sym (among_many (distinct_costs cs) (omega arith)) ∙ sym (floors_are cs))))
