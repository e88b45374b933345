use Rattle.std.proofs.Common.{ℕ, ◌+◌, get_or, ap, arith}
use mathlib.Core.Logic.{dite}
use native.Mathlib.Decide.{ℕ_discrete, dec_le}
use Rattle.tomex_board.specs.Bands.{floors_of}
use Rattle.tomex_board.proofs.Rising.{floors_rise}
use Rattle.tomex_board.proofs.laws.floors_rise.Goals as goal

pub returns-clause-rise : goal.returns-clause-rise
returns-clause-rise c = floors_rise

pub returns-clause-least : goal.returns-clause-least
returns-clause-least c costs cost j k band near fits = dite (dec_le (j + 1) k)
    (λ below. let low = band.2 j (omega arith) in absurd (omega arith))
    (λ above. dite (ℕ_discrete j k) (λ e. let f = ap (λ (i : ℕ). get_or (floors_of costs) i 0) e in
    omega arith) (λ ne. let f = floors_rise costs k j (omega arith) near in omega arith))
