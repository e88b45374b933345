-- A step waits for a station of its own pool, and for a unit of its own kind.
use Rattle.tomex_timing.proofs.Accounts.{kind_stalls, station_stalls}
use Rattle.tomex_timing.proofs.WaitLists.{bus_waits, waits_add_up, width_waits}
use Rattle.tomex_timing.proofs.laws.waits_add_up_to_stalls.Goals as goal

pub returns : goal.returns
returns c = record {
  steps = waits_add_up;
  stations = station_stalls;
  units = kind_stalls;
  buses = bus_waits;
  width = width_waits;
}
