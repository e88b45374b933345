-- The operation of a link, and the cycles of the operations on a path.
use Rattle.std.proofs.Common.{ℕ, ◌+◌, ◌*◌, ◌<◌, ◌≤◌, ◌≡◌, ◌∙◌, arith, refl, ap, inl, inr}
use Rattle.std.proofs.Common.{List, [], ◌∷◌, Option, Some, None, sum_by}
use Rattle.std.specs.Prelude.{nat_le, nat_lt, ◌&&◌, if◌then◌else◌}
use Rattle.std.proofs.lemmas.Bool.{cases_Bool, cases_lt, and_right, le-leb, le-ltb, lt-leb, lt-ltb}
use Rattle.std.proofs.lemmas.List.Sums.{sum_by-cons}
use Rattle.std.proofs.Math.Nat.{mul-add}
use Rattle.tomex_rvdec.specs.declared.pool.UnitId.{UnitId}
use Rattle.tomex_rvdec.specs.declared.pool.UnitId.TheVariants as units
use Rattle.tomex_rvexec.specs.Steps.{step_unit}
use Rattle.tomex_config.specs.Configuration.{Configuration}
use Rattle.tomex_config.specs.Cost.{all_units}
use Rattle.tomex_timing.specs.Ahead.{one}
use Rattle.tomex_timing.specs.History.{is_of}
use Rattle.tomex_config.specs.declared.part.Part.TheVariants.{Width}
use Rattle.tomex_timing.specs.declared.times.Done.{Done}
use Rattle.tomex_config.specs.Configuration.{latency_of}
use Rattle.tomex_path.specs.declared.link.Link.{Link}
use Rattle.tomex_path.specs.declared.reason.Reason.{Reason}
use Rattle.tomex_path.specs.Bound.{latency_on, operating, operations, saved_by_width}
use Rattle.tomex_path.specs.Laws.{is_for}
use Rattle.tomex_path.specs.Path.{operation_in}

-- which operation is a link's

pub none_after : (d : Done) (from to : ℕ) → to < d.at.finish → operation_in d from to ≡ None
none_after d from to l =
    rw (and_right (nat_le from d.at.start) (nat_le d.at.finish to) (lt-leb d.at.finish to l)) refl

pub none_without : (d : Done) (from to : ℕ) → step_unit d.step ≡ None → operation_in d from to ≡ None
none_without d from to e = elim (cases_Bool (nat_le from d.at.start && nat_le d.at.finish to)) [
  | inl c ↦ rw c e
  | inr c ↦ rw c refl
]

pub some_within : (d : Done) (from to : ℕ) (unit : UnitId) → step_unit d.step ≡ Some unit → from ≤ d.at.start
    → d.at.finish ≤ to → operation_in d from to ≡ Some unit
some_within d from to unit e l m = rw (le-leb from d.at.start l, le-leb d.at.finish to m) e

-- the cycles that a machine needs for one link's operation

-- the latency of its operation
abbrev pub spent : Configuration → Link → ℕ
spent machine l = latency_on machine l.operation

-- the cycle that a greater width saves
abbrev pub lost : Configuration → Configuration → Reason → ℕ
lost config other reason = if nat_lt config.width other.width then one (is_for reason Width) else 0

-- a path's operations, link by link

same_sums : (f g : UnitId → ℕ) → ((unit : UnitId) → f unit ≡ g unit) → sum_by f all_units ≡ sum_by g all_units
same_sums f g e = rw (e units.Alu, e units.Mul, e units.Div, e units.Mem, e units.Bru) refl

one_more : (machine : Configuration) (o : Option UnitId) (n : UnitId → ℕ)
    → sum_by (λ unit. latency_of machine unit * (one (is_of unit o) + n unit)) all_units
    ≡ latency_on machine o + sum_by (λ unit. latency_of machine unit * n unit) all_units
one_more machine None n = omega arith
one_more machine (Some units.Alu) n =
    let m = mul-add (latency_of machine units.Alu) 1 (n units.Alu) in omega (arith, m)
one_more machine (Some units.Mul) n =
    let m = mul-add (latency_of machine units.Mul) 1 (n units.Mul) in omega (arith, m)
one_more machine (Some units.Div) n =
    let m = mul-add (latency_of machine units.Div) 1 (n units.Div) in omega (arith, m)
one_more machine (Some units.Mem) n =
    let m = mul-add (latency_of machine units.Mem) 1 (n units.Mem) in omega (arith, m)
one_more machine (Some units.Bru) n =
    let m = mul-add (latency_of machine units.Bru) 1 (n units.Bru) in omega (arith, m)

pub operating_is : (machine : Configuration) (ls : List Link) → operating machine ls ≡ sum_by (spent machine) ls
operating_is machine [] = omega arith
operating_is machine (l ∷ ls) =
    let more = one_more machine l.operation (λ unit. operations unit ls) in
    let rest : operating machine ls ≡ sum_by (spent machine) ls = operating_is machine ls in
    let own = sum_by-cons (spent machine) l ls in
    same_sums (λ unit. latency_of machine unit * operations unit (l ∷ ls))
    (λ unit. latency_of machine unit * (one (is_of unit l.operation) + operations unit ls))
    (λ unit. ap (λ n. latency_of machine unit * n) (sum_by-cons (λ x. one (is_of unit x.operation)) l ls))
    ∙ omega (arith, more, rest, own)

pub saved_more : (config other : Configuration) (l : Link) (ls : List Link)
    → saved_by_width config other (l ∷ ls) ≡ lost config other l.reason + saved_by_width config other ls
saved_more config other l ls = elim (cases_lt config.width other.width) [
  | inl w ↦ rw (lt-ltb config.width other.width w) (sum_by-cons (λ x. one (is_for x.reason Width)) l ls)
  | inr w ↦ rw (le-ltb config.width other.width w) refl
]
