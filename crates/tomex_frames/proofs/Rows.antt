-- The path's line and the frame in views of a short run, computed by the definitions themselves.
use Rattle.std.proofs.Common.{ℕ, ◌≡◌, refl, List, [], ◌∷◌, Some}
use Rattle.std.specs.Prelude.{codes}
use Rattle.std.specs.Fmt.{digits, padded_integral}
use Rattle.tomex_rvdec.specs.declared.op.Op.TheVariants.{Sw, Lb, Add}
use Rattle.tomex_rvdec.specs.declared.pool.UnitId.TheVariants as units
use Rattle.tomex_rvexec.specs.declared.step.Step.{Step}
use Rattle.tomex_config.specs.Configuration.{Configuration}
use Rattle.tomex_timing.specs.Search.{history, times_of}
use Rattle.tomex_timing.proofs.Programs.{addi, ebreak, instr, mul, step, two_alu_stations, with_latency}
use Rattle.tomex_path.specs.Path.{path_of}
use Rattle.tomex_path.specs.declared.link.Link.{Link}
use Rattle.tomex_frames.specs.OnPath.{at_cycle, framed_step, path_line, path_words, place_line}

-- addi x8,x0,256; addi x1,x0,768; mul x3,x1,x1; sw x1,0(x8); lb x2,1(x8); add x4,x3,x2; ebreak
abbrev followed : List Step
followed = addi 0 8 0 256 0 ∷ addi 4 1 0 768 0 ∷ mul 8 3 1 1 768 768 ∷ step 12 (instr Sw 0 8 1 0) 256 768
    ∷ step 16 (instr Lb 2 8 0 1) 256 0 ∷ step 20 (instr Add 4 3 2 0) 589824 3 ∷ ebreak 24 ∷ []

abbrev five_for_mul : Configuration
five_for_mul = with_latency units.Mem (with_latency units.Mul two_alu_stations 5) 2

abbrev path : List Link
path = path_of five_for_mul (history five_for_mul followed)

abbrev line : ℕ → List ℕ
line t = path_line followed t (at_cycle t path)

first_line : line 1 ≡ codes "<p><span class=\"n\">On the path: 1 in cycle 1, the first</span></p>\n"
unfolding times_of place_line path_words digits padded_integral
first_line = refl

-- a link that goes on isn't marked
same_line : line 4 ≡ codes "<p><span>On the path: 2 in cycles 2&#8211;4, after 1 addi x8,x0,256 (width)</span></p>\n"
unfolding times_of place_line path_words digits padded_integral
same_line = refl

-- the load's end waits for the bus, which the product has
bus_line : line 11 ≡ codes "<p><span class=\"n\">On the path: 5 in cycle 11, after 3 mul x3,x1,x1 (bus)</span></p>\n"
unfolding times_of place_line path_words digits padded_integral
bus_line = refl

-- so its row has the frame in that cycle, the product's in the one before, and the sum's in the one after
frames : framed_step (at_cycle 10 path) ∷ framed_step (at_cycle 11 path) ∷ framed_step (at_cycle 12 path) ∷ []
    ≡ Some 3 ∷ Some 5 ∷ Some 6 ∷ []
unfolding times_of
frames = refl
