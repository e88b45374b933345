-- The board is made for the study's own costs and cycles.
use Rattle.tomex_study.specs.Cycles.{cycles_of}
use Rattle.tomex_tests_sweeps.proofs.alone.marks_of.Given as goal

abbrev pub ghosts-marks_on : goal.ghosts-marks_on
ghosts-marks_on a = record { costs = a.study.now.costs; cycles = cycles_of a.study.now }
