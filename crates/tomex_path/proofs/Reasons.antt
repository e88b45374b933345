-- Each link has one reason, so sums by reason add up.
use Rattle.std.proofs.Common.{ℕ, ◌+◌, ◌≡◌, arith, List, [], ◌∷◌, sum_by}
use Rattle.std.specs.Prelude.{if◌then◌else◌}
use Rattle.std.proofs.lemmas.List.Sums.{sum_by-cons}
use Rattle.tomex_rvdec.specs.declared.pool.PoolId.TheVariants as pools
use Rattle.tomex_rvdec.specs.declared.pool.UnitId.TheVariants as units
use Rattle.tomex_config.specs.declared.part.Part.TheVariants as parts
use Rattle.tomex_path.specs.declared.link.Link.{Link}
use Rattle.tomex_path.specs.declared.reason.Reason.{Reason}
use Rattle.tomex_path.specs.declared.reason.Reason.TheVariants as reasons
use Rattle.tomex_path.specs.Laws.{ReasonsAddUp, all_reasons, had_for, is_reason}

one_reason : (reason : Reason) (n : ℕ) → sum_by (λ r. if is_reason r reason then n else 0) all_reasons ≡ n
one_reason (reasons.For (parts.Stations pools.Alu)) n = omega arith
one_reason (reasons.For (parts.Stations pools.Mul)) n = omega arith
one_reason (reasons.For (parts.Stations pools.Div)) n = omega arith
one_reason (reasons.For (parts.Stations pools.Load)) n = omega arith
one_reason (reasons.For (parts.Stations pools.Store)) n = omega arith
one_reason (reasons.For (parts.Stations pools.Bru)) n = omega arith
one_reason (reasons.For (parts.Units units.Alu)) n = omega arith
one_reason (reasons.For (parts.Units units.Mul)) n = omega arith
one_reason (reasons.For (parts.Units units.Div)) n = omega arith
one_reason (reasons.For (parts.Units units.Mem)) n = omega arith
one_reason (reasons.For (parts.Units units.Bru)) n = omega arith
one_reason (reasons.For parts.Buses) n = omega arith
one_reason (reasons.For parts.Width) n = omega arith
one_reason reasons.Branch n = omega arith
one_reason reasons.Operand n = omega arith
one_reason reasons.Address n = omega arith
one_reason reasons.Memory n = omega arith
one_reason reasons.Order n = omega arith

-- with one more link each sum has what that has for it
module _ (f : Link → ℕ) (l : Link) (ls : List Link) where
  one_more : (rs : List Reason) → sum_by (λ r. sum_by (had_for r f) (l ∷ ls)) rs
      ≡ sum_by (λ r. had_for r f l) rs + sum_by (λ r. sum_by (had_for r f) ls) rs
  one_more [] = omega arith
  one_more (r ∷ rs) =
      let rest = one_more rs in
      let own = sum_by-cons (had_for r f) l ls in
      let whole = sum_by-cons (λ x. sum_by (had_for x f) (l ∷ ls)) r rs in
      let first = sum_by-cons (λ x. had_for x f l) r rs in
      let other = sum_by-cons (λ x. sum_by (had_for x f) ls) r rs in
      omega (arith, rest, own, whole, first, other)

pub reasons_add_up : ReasonsAddUp
reasons_add_up f [] = omega arith
reasons_add_up f (l ∷ ls) =
    let more = one_more f l ls all_reasons in
    let own = one_reason l.reason (f l) in
    let rest = reasons_add_up f ls in
    let whole = sum_by-cons f l ls in
    omega (arith, more, own, rest, whole)
