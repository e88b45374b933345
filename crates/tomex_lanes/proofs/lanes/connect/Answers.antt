use Rattle.std.proofs.Common.{◌≡◌, ◌∙◌, ap, List}
use Rattle.std.specs.Prelude.{slice_get, slice_set}
use Rattle.std.proofs.lemmas.Option.{get_or_from_slice_get}
use Rattle.tomex_lanes.specs.Lanes.{Dealt, with_other}
use Rattle.tomex_lanes.proofs.Dealing.{set_same}
use Rattle.std.proofs.lemmas.Result.{on_ok_weaker}
use Rattle.tomex_lanes.proofs.lanes.connect.Goals as goal

-- the victim's lane is written back unchanged, and the thief's with one more list
pub returns : goal.returns
returns g c = λ thief victim mine theirs.
    let items : List Dealt = c.args.lanes.now.items in
    let from : c.index_mut.result.now ≡ victim =
    c.index_mut.ensures.value ∙ get_or_from_slice_get items c.args.from victim _ theirs in
    let kept : slice_set items c.args.from c.victim.new.self ≡ items =
    set_same items c.args.from victim c.victim.new.self theirs (c.in_ok-victim.ensures.same ∙ from) in
    let to : c.index_mut-2.result.now ≡ thief =
    c.index_mut-2.ensures.value ∙ get_or_from_slice_get (slice_set items c.args.from c.victim.new.self) c.args.to
    thief _ (ap (λ xs. slice_get xs c.args.to) kept ∙ mine) in
    let list : c.in_ok-victim.victim ≡ victim.rows = c.in_ok-victim.ensures.list ∙ ap (λ (l : Dealt). l.rows) from in
    on_ok_weaker c.add_victim.result
    (λ told. ap (λ (xs : List Dealt). slice_set xs c.args.to c.add_victim.new.self) kept
    ∙ ap (slice_set items c.args.to)
    (told ∙ (ap (λ (l : Dealt). with_other l c.in_ok-victim.victim) to ∙ ap (with_other thief) list)))
    c.add_victim.ensures
