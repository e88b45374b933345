-- A step takes the least number that no older one holds.
use Rattle.tomex_timing.proofs.Holders.{number_low, station_there, stations_apart}
use Rattle.tomex_timing.proofs.laws.stations_hold_one_step.Goals as goal

pub returns : goal.returns
returns c = record { there = station_there; number = number_low; apart = stations_apart }
