use Rattle.std.proofs.Common.{ap, bytes_eq, ◌≡◌, true, List, ℕ, sym, ◌∙◌}
use Rattle.std.specs.BTreeMap.{get_by}
use Rattle.std.specs.Cmp.Lexicographic.{slice_cmp}
use Rattle.std.specs.Ordering.{nat_cmp}
use Rattle.std.proofs.lemmas.Map.Text.{btree_map_updates_str}
use Rattle.std.proofs.lemmas.Slice.Eq.{bytes_eq-Decides}
use Rattle.tomex_asm_numbers.proofs.Index.{added}
use Rattle.tomex_asm_numbers.proofs.table.add.Goals as goal

pub returns : goal.returns
returns g c = λ q.
    let w = c.args.word.now in
    added (bytes_eq w q) (get_by (λ k. slice_cmp nat_cmp q k.now) c.args.index.now)
    (get_by (λ k. slice_cmp nat_cmp q k.now) c.remove.new.self)
    (get_by (λ k. slice_cmp nat_cmp q k.now) c.insert.new.self) c.remove.result c.new.result c.unwrap_or-numbers.result
    c.push.new.self c.args.number c.new.ensures.items c.unwrap_or-numbers.ensures c.in_ok-push.ensures.items
    (btree_map_updates_str w c.args.index.now c.remove.new.self _ c.remove.ensures.updates q)
    (btree_map_updates_str w c.remove.new.self c.insert.new.self _ c.in_ok-insert.ensures.updates q)
    (λ (e : bytes_eq w q ≡ true).
    let same : w ≡ q = (bytes_eq-Decides w q).0 e in
    ap (λ (x : List ℕ). get_by (λ k. slice_cmp nat_cmp x k.now) c.args.index.now) (sym same)
    ∙ sym c.remove.ensures.value)
