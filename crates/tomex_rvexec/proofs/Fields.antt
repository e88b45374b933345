-- What follows from a step agrees.
use Rattle.std.proofs.Common.{◌≡◌, ℕ, ◌+◌, ◌<◌, Option, Some, None, Bool, true, false, refl, arith}
use Rattle.std.specs.Prelude.{IfSome, is_some, nat_eq, ◌||◌, if◌then◌else◌}
use Rattle.std.proofs.lemmas.Bool.{eqb-false}
use Rattle.tomex_rvdec.specs.declared.op.Op.{Op}
use Rattle.tomex_rvdec.specs.declared.op.Op.TheVariants.{Lb, Lh, Lw, Lbu, Lhu, Sb, Sh, Sw, Fence, Ecall, Ebreak}
use Rattle.tomex_rvdec.specs.declared.pool.PoolId.{PoolId}
use Rattle.tomex_rvdec.specs.declared.pool.PoolId.TheVariants as pools
use Rattle.tomex_rvdec.specs.Meaning.{form_of}
use Rattle.tomex_rvdec.specs.Operands.{dest_at, pool_of, unit_at}
use Rattle.tomex_rvexec.specs.declared.step.Step.{Step}
use Rattle.tomex_rvexec.specs.declared.step.ByteRange.{ByteRange}
use Rattle.tomex_rvexec.specs.Steps.{access_size, address_of, bytes_at, bytes_of, is_in, is_store, step_dest, step_pool}
use Rattle.tomex_rvexec.specs.Steps.{step_unit}

unit_of_pool : (pool : Option PoolId) → is_some (unit_at pool) ≡ is_some pool
unit_of_pool None = refl
unit_of_pool (Some pool) = refl

pub unit_with_pool : (x : Step) → is_some (step_unit x) ≡ is_some (step_pool x)
unit_with_pool x = unit_of_pool (step_pool x)

pub bytes_of_op : (op : Op) (from : ℕ)
    → is_some (bytes_at op from) ≡ (is_in pools.Load (pool_of op) || is_in pools.Store (pool_of op))
bytes_of_op Lb from = refl
bytes_of_op Lh from = refl
bytes_of_op Lw from = refl
bytes_of_op Lbu from = refl
bytes_of_op Lhu from = refl
bytes_of_op Sb from = refl
bytes_of_op Sh from = refl
bytes_of_op Sw from = refl
bytes_of_op op from = refl

pub bytes_of_memory : (x : Step) → is_some (bytes_of x) ≡ (is_in pools.Load (step_pool x) || is_store x)
bytes_of_memory x = bytes_of_op x.instr.op (address_of x)

some_byte : (from count : ℕ) → IfSome
    (if nat_eq count 0 then None else Some (record { from = from; to = from + count }))
    (λ (b : ByteRange). b.from < b.to)
some_byte from count = at (nat_eq count 0) refl
  where
    at : (b : Bool) → nat_eq count 0 ≡ b → IfSome (if b then None else Some (record { from = from; to = from + count }))
        (λ (b : ByteRange). b.from < b.to)
    at true e = tt
    at false e = omega (arith, eqb-false count 0 e)

pub bytes_are_some : (x : Step) → IfSome (bytes_of x) (λ (b : ByteRange). b.from < b.to)
bytes_are_some x = some_byte (address_of x) (access_size x.instr.op)

dest_with_pool : (op : Op) (rd : ℕ) → pool_of op ≡ None → dest_at (form_of op) rd ≡ None
dest_with_pool Fence rd e = refl
dest_with_pool Ecall rd e = refl
dest_with_pool Ebreak rd e = refl
dest_with_pool op rd e = cc

pub dest_needs_pool : (x : Step) → step_pool x ≡ None → step_dest x ≡ None
dest_needs_pool x e = dest_with_pool x.instr.op x.instr.rd e

store_has_none : (op : Op) (rd : ℕ) → is_in pools.Store (pool_of op) ≡ true → dest_at (form_of op) rd ≡ None
store_has_none Sb rd e = refl
store_has_none Sh rd e = refl
store_has_none Sw rd e = refl
store_has_none op rd e = cc

pub store_has_no_dest : (x : Step) → is_store x ≡ true → step_dest x ≡ None
store_has_no_dest x e = store_has_none x.instr.op x.instr.rd e
