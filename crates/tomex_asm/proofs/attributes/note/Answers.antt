use Rattle.std.proofs.Common.{◌≡◌, true, ap, bytes_eq, List, ℕ, sym}
use Rattle.std.specs.BTreeMap.{get_by}
use Rattle.std.specs.Cmp.Lexicographic.{slice_cmp}
use Rattle.std.specs.Ordering.{nat_cmp}
use Rattle.std.proofs.lemmas.Map.Text.{btree_map_updates_str}
use Rattle.std.proofs.lemmas.Slice.Eq.{bytes_eq-Decides}
use Rattle.tomex_asm.proofs.Noting.{one_noted}
use Rattle.tomex_asm.proofs.attributes.note.Goals as goal

pub returns : goal.returns
returns g c = λ w.
    let name = c.args.remark.name.now in
    one_noted (bytes_eq name w) (get_by (λ k. slice_cmp nat_cmp w k.now) c.args.index.now)
    (get_by (λ k. slice_cmp nat_cmp w k.now) c.insert.new.self)
    (get_by (λ k. slice_cmp nat_cmp name k.now) c.args.index.now) c.attributes_at-before.result c.noted.result
    c.args.remark.said c.attributes_at-before.ensures c.noted.ensures
    (btree_map_updates_str name c.args.index.now c.insert.new.self _ c.in_ok-insert.ensures.updates w)
    (λ (e : bytes_eq name w ≡ true).
    ap (λ (x : List ℕ). get_by (λ k. slice_cmp nat_cmp x k.now) c.args.index.now)
    (sym ((bytes_eq-Decides name w).0 e)))
