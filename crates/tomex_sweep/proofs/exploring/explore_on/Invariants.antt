-- The board is made for the study's own costs and cycles.
use Rattle.tomex_study.specs.Cycles.{cycles_of}
use Rattle.tomex_sweep.proofs.exploring.explore_on.Given as goal

abbrev pub ghosts-marks_of_workers : goal.ghosts-marks_of_workers
ghosts-marks_of_workers g a = record {
  costs = a.study.now.costs;
  cycles = cycles_of a.study.now;
}
