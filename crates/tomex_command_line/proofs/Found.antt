-- The command that was found, by its name and its values.
use Rattle.std.proofs.Common.{◌≡◌, ap₂, sym, refl, List, Option, Some, None}
use Rattle.std.specs.Box.{box_value}
use Rattle.std.specs.Option.{option_map}
use Rattle.clap.specs.Matches.{found_of, subcommand_name_of}
use Rattle.clap.specs.Simple.{subcommand_rows_of}
use Rattle.clap.specs.Walk.{rows_of}
use Rattle.clap.specs.declared.parser.matches.ArgMatches.{ArgMatches}
use Rattle.clap.specs.declared.parser.matches.ArgMatches.TheViews.{out-ArgMatches, out-SubCommand}
use Rattle.clap.specs.Words.{Row, Text}

abbrev both : {S : Type 0} → (S → Text) → (S → List Row) → S → Text × List Row
both f g s = (f s, g s)

both_of : {S : Type 0} (f : S → Text) (g : S → List Row) (o : Option S) (name : Text) (rows : List Row)
    → Some name ≡ option_map f o → Some rows ≡ option_map (λ (p : Text × List Row). p.1) (option_map (both f g) o)
    → option_map (both f g) o ≡ Some (name, rows)
both_of f g None name rows a b = let bad : Some name ≡ None = a in absurd (cc)
both_of f g (Some s) name rows a b =
    let n : name ≡ f s = cc in let r : rows ≡ g s = cc in ap₂ (λ x y. Some (x, y)) (sym n) (sym r)

-- what is found is the name and the rows of the subcommand
pub found_is : (m : ArgMatches) (name : Text) (rows : List Row) → Some name ≡ subcommand_name_of m
    → Some rows ≡ option_map (λ (p : Text × List Row). p.1) (subcommand_rows_of m)
    → subcommand_rows_of m ≡ Some (name, rows)
found_is m name rows a b = both_of (λ s. (out-SubCommand (box_value s)).name.now)
    (λ s. rows_of (found_of (out-SubCommand (box_value s)).matches)) (out-ArgMatches m).subcommand name rows a b

-- there is no subcommand if it has no rows
pub none_found : (found : Option (Text × List Row)) → None ≡ option_map (λ (p : Text × List Row). p.1) found
    → found ≡ None
none_found None is = refl
none_found (Some p) is = absurd (cc)
