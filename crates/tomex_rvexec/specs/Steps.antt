-- What follows from a step of a run: its operands, its destination, the bytes that it touches.
use Rattle.std.specs.Prelude.{ℕ, ◌+◌, ◌==◌, ◌&&◌, Option, Some, None, if◌then◌else◌, nat_eq, nat_lt, Bool, false}
use Rattle.std.specs.Prelude.{option_map}
use Rattle.tomex_rvdec.specs.declared.op.Op.{Op}
use Rattle.tomex_rvdec.specs.declared.op.Op.TheVariants.{Lb, Lh, Lw, Lbu, Lhu, Sb, Sh, Sw}
use Rattle.tomex_rvdec.specs.declared.pool.PoolId.{PoolId}
use Rattle.tomex_rvdec.specs.declared.pool.PoolId.TheVariants as pools
use Rattle.tomex_rvdec.specs.declared.pool.UnitId.{UnitId}
use Rattle.tomex_rvdec.specs.Places.{place_of_pool}
use Rattle.tomex_rvdec.specs.Operands.{pool_of, unit_of, sources_of, dest_of}
use Rattle.tomex_rvexec.specs.declared.step.Step.{Step}
use Rattle.tomex_rvexec.specs.declared.step.Operand.{Operand}
use Rattle.tomex_rvexec.specs.declared.step.ByteRange.{ByteRange}
use Rattle.tomex_rvexec.specs.Words.{sum}

-- the number of bytes that an operation reads or writes
abbrev pub access_size : Op → ℕ
access_size Lb = 1
access_size Lh = 2
access_size Lw = 4
access_size Lbu = 1
access_size Lhu = 2
access_size Sb = 1
access_size Sh = 2
access_size Sw = 4
access_size _ = 0

-- the base register's value plus the immediate
abbrev pub address_of : Step → ℕ
address_of x = sum x.vj x.instr.imm

-- the bytes that an operation touches at an address, in whole numbers: addresses don't wrap
abbrev pub bytes_at : Op → ℕ → Option ByteRange
bytes_at op address =
    if nat_eq (access_size op) 0
    then None
    else Some (record { from = address; to = address + access_size op })

-- the bytes that a load or store touches
abbrev pub bytes_of : Step → Option ByteRange
bytes_of x = bytes_at x.instr.op (address_of x)

-- two accesses have a byte in common
abbrev pub shares_byte : Option ByteRange → Option ByteRange → Bool
shares_byte (Some a) (Some b) = nat_lt a.from b.to && nat_lt b.from a.to
shares_byte _ _ = false

abbrev pub operand : ℕ → ℕ → Operand
operand value register = record { register = register; value = value }

-- the operands, if the instruction reads them; x0 is an operand like any other
abbrev pub j_of : Step → Option Operand
j_of x = option_map (operand x.vj) (sources_of x.instr).j

abbrev pub k_of : Step → Option Operand
k_of x = option_map (operand x.vk) (sources_of x.instr).k

abbrev pub step_pool : Step → Option PoolId
step_pool x = pool_of x.instr.op

abbrev pub step_unit : Step → Option UnitId
step_unit x = unit_of x.instr.op

abbrev pub step_dest : Step → Option ℕ
step_dest x = dest_of x.instr

-- an instruction that takes a station takes one of this pool
abbrev pub is_in : PoolId → Option PoolId → Bool
is_in pool None = false
is_in pool (Some other) = place_of_pool other == place_of_pool pool

-- there is a number, and it is n
abbrev pub is_number : Option ℕ → ℕ → Bool
is_number None n = false
is_number (Some m) n = m == n

-- conditional branches and JALR: what comes after them isn't known before they have finished
abbrev pub is_branch : Step → Bool
is_branch x = is_in pools.Bru (step_pool x)

abbrev pub is_store : Step → Bool
is_store x = is_in pools.Store (step_pool x)
