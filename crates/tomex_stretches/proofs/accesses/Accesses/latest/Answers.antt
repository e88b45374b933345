-- The byte of a turn adds the finish that it is waited for.
use Rattle.std.proofs.Common.{ℕ, ◌≡◌, ◌∙◌, max, ap, arith}
use Rattle.std.proofs.lemmas.Grind.{common_steps}
use Rattle.tomex_floor.proofs.Touching.{latest_none}
use Rattle.tomex_stretches.specs.Kept.{finishes_at, waited_of}
use Rattle.tomex_stretches.proofs.Turns.{byte_by, byte_more}
use Rattle.tomex_stretches.proofs.accesses.Accesses.latest.Goals as goal

pub loop-byte-init : goal.loop-byte-init
loop-byte-init g c = record {
  low = omega arith;
  none = c.none-none.ensures;
  latest = λ base h are. let z = latest_none c.args.bytes.from c.args.is_store h in omega (arith, z);
  by = λ g by. omega arith;
}

pub loop-byte-preserved : goal.loop-byte-preserved
loop-byte-preserved g c =
    let m = c.args.self.now.by_byte in
    let b = c.loop-byte.byte-counter in
    let none = c.none-none.ensures in
    let found : c.unwrap_or-found.result.now ≡ finishes_at c.args.self.now.by_byte c.loop-byte.byte-counter =
    grind (arith, common_steps) in
    let new : c.max-latest.result
    ≡ max (waited_of c.args.is_store (finishes_at c.args.self.now.by_byte c.loop-byte.byte-counter))
    c.loop-byte.latest = c.max-latest.ensures ∙ ap (λ (n : ℕ). max n c.loop-byte.latest) (c.waited_for.ensures
    ∙ ap (waited_of c.args.is_store) found) in
    record {
      low = omega (arith, c.loop-byte.invariant.low);
      none = c.loop-byte.invariant.none;
      latest = λ base h are. byte_more base c.args.bytes.from c.loop-byte.byte-counter c.loop-byte.latest _
          c.args.is_store h c.args.self.now.by_byte c.loop-byte.invariant.low are
          (c.loop-byte.invariant.latest base h are) new;
      by = λ g by.
          let more = byte_by g c.loop-byte.byte-counter c.args.is_store c.args.self.now.by_byte by in
          let before = c.loop-byte.invariant.by g by in
          omega (arith, new, more, before);
    }
