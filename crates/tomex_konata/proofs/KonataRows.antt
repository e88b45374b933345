-- The log of a short run, computed by the definition itself.
use Rattle.std.proofs.Common.{◌≡◌, refl}
use Rattle.std.specs.Prelude.{codes}
use Rattle.std.specs.Fmt.{char_count, digits, padded_integral}
use Rattle.tomex_rvdec.specs.declared.pool.UnitId.TheVariants as units
use Rattle.tomex_timing.specs.Search.{times_in, times_of}
use Rattle.tomex_timing.proofs.Programs.{product, two_alu_stations, with_latency}
use Rattle.tomex_konata.specs.Konata.{log_of, out_lines, step_lines}

product_log : log_of 1 product (times_in (with_latency units.Mul two_alu_stations 3) product)
    ≡ codes "Kanata\t0004\nC=\t1\nI\t0\t1\t0\nL\t0\t0\t00000000: addi x1,x0,5\nL\t0\t1\talu0\nS\t0\t0\tIs\nC\t1\nE\t0\t0\tIs\nS\t0\t0\tX\nI\t1\t2\t0\nL\t1\t0\t00000004: addi x2,x0,7\nL\t1\t1\talu1\nS\t1\t0\tIs\nC\t1\nE\t0\t0\tX\nS\t0\t0\tWr\nE\t1\t0\tIs\nS\t1\t0\tX\nI\t2\t3\t0\nL\t2\t0\t00000008: mul x3,x1,x2\nL\t2\t1\tmul0\nS\t2\t0\tIs\nW\t2\t0\t0\nC\t1\nE\t1\t0\tX\nS\t1\t0\tWr\nE\t2\t0\tIs\nS\t2\t0\tWt\nW\t2\t1\t0\nI\t3\t4\t0\nL\t3\t0\t0000000c: ebreak\nS\t3\t0\tIs\nE\t0\t0\tWr\nR\t0\t0\t0\nC\t1\nE\t2\t0\tWt\nS\t2\t0\tX\nE\t1\t0\tWr\nR\t1\t1\t0\nE\t3\t0\tIs\nR\t3\t2\t0\nC\t3\nE\t2\t0\tX\nS\t2\t0\tWr\nC\t1\nE\t2\t0\tWr\nR\t2\t3\t0\n"
unfolding step_lines out_lines times_of digits padded_integral char_count
product_log = refl
