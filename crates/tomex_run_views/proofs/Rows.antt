-- The pictures of short runs, computed by the definition itself.
use Rattle.std.proofs.Common.{◌≡◌, refl, ℕ, List}
use Rattle.std.specs.Prelude.{◌++◌, codes}
use Rattle.std.specs.Fmt.{char_count, digits, padded_integral}
use Rattle.tomex_rvdec.specs.declared.pool.UnitId.TheVariants as units
use Rattle.tomex_rvexec.specs.declared.step.Step.{Step}
use Rattle.tomex_config.specs.Configuration.{Configuration, plain}
use Rattle.tomex_timing.specs.Search.{times_in, times_of}
use Rattle.tomex_timing.proofs.Programs.{product, two_results, stored_and_loaded, two_alu_stations, with_latency}
use Rattle.tomex_run_views.specs.Chart.{line_of, picture_of, sign_in}
use Rattle.tomex_run_views.specs.Excerpt.{excerpt}

-- the picture of count steps from a number on
abbrev picture : ℕ → ℕ → Configuration → List Step → List ℕ
picture number count config steps =
    picture_of number (excerpt number count steps) (excerpt number count (times_in config steps))

product_picture : picture 1 32 (with_latency units.Mul two_alu_stations 3) product
    ≡ codes "cycles 1 to 8\n"
    ++ codes "1 00000000 addi x1,x0,5 IEW\n"
    ++ codes "2 00000004 addi x2,x0,7  IEW\n"
    ++ codes "3 00000008 mul x3,x1,x2   I=EEEW\n"
    ++ codes "4 0000000c ebreak          I\n"
unfolding line_of sign_in times_of digits padded_integral char_count
product_picture = refl

-- a part of it, with the width of its own instructions
two_of_product : picture 3 2 (with_latency units.Mul two_alu_stations 3) product
    ≡ codes "cycles 3 to 8\n3 00000008 mul x3,x1,x2 I=EEEW\n4 0000000c ebreak        I\n"
unfolding line_of sign_in times_of digits padded_integral char_count
two_of_product = refl

-- both results are ready for cycle 4: the younger one waits for the bus
results_picture : picture 1 32 (with_latency units.Mul plain 2) two_results
    ≡ codes "cycles 1 to 5\n1 00000000 mul x3,x0,x0 IEEW\n2 00000004 addi x4,x0,1  IE-W\n3 00000008 ebreak         I\n"
unfolding line_of sign_in times_of digits padded_integral char_count
results_picture = refl

-- addresses, and a store, which ends in its unit
accesses_picture : picture 3 2 (with_latency units.Mem two_alu_stations 2) (stored_and_loaded 1)
    ≡ codes "cycles 3 to 9\n3 00000008 sw x1,0(x8) IAEE\n4 0000000c lb x2,1(x8)  IA=EEW\n"
unfolding line_of sign_in times_of digits padded_integral char_count
accesses_picture = refl
