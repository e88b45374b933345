-- The greatest numbers that a line may give.
use Rattle.std.specs.Prelude.{ℕ, ◌-◌}

-- the number of the last configuration, if a study has as many as it may
abbrev pub last_row : ℕ
last_row = 16383

-- the most steps of a run
abbrev pub most_steps : ℕ
most_steps = 262144

-- the last cycle in which a run of the most steps can end: 67 cycles a step
abbrev pub last_cycle : ℕ
last_cycle = 17563648

-- the last step of a long run with which a part may begin
abbrev pub last_from : ℕ
last_from = 4294967296

-- the most steps that a part may be asked for: a run's most, less 64 that load the registers and one at its end
abbrev pub most_part : ℕ
most_part = most_steps - 65
