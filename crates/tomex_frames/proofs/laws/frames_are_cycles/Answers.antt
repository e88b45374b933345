-- Each cycle of a run is of one link, and its step works in it.
use Rattle.tomex_frames.proofs.Framed.{each_view_has_one_frame, frames_add_up, frames_are_cycles}
use Rattle.tomex_frames.proofs.laws.frames_are_cycles.Goals as goal

pub returns-clause-one : goal.returns-clause-one
returns-clause-one c = each_view_has_one_frame

pub returns-clause-steps : goal.returns-clause-steps
returns-clause-steps c = frames_are_cycles

pub returns-clause-all : goal.returns-clause-all
returns-clause-all c = frames_add_up
