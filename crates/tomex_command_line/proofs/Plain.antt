-- A plain command has no global argument.
use Rattle.std.proofs.Common.{◌≡◌, sym, refl, Bool, true, false, not, ◌&&◌}
use Rattle.clap.specs.Simple.{shape_of}
use Rattle.clap.specs.declared.builder.command.Command.{Command}
use Rattle.clap.specs.declared.builder.command.Command.TheViews.{out-Command}

third_is_false : (a b g d : Bool) → (a && (not b && (not g && d))) ≡ true → g ≡ false
third_is_false true false false d e = refl
third_is_false true false true d e = sym e
third_is_false true true g d e = absurd (cc)
third_is_false false b g d e = absurd (cc)

pub no_globals : (c : Command) → (shape_of c).is_plain ≡ true → (out-Command c).has_globals ≡ false
no_globals c plain = third_is_false _ _ _ _ plain
