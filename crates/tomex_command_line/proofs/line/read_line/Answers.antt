-- The parser's result is what the words ask for, and its error is help only if they ask for help.
use Rattle.std.proofs.Common.{◌≡◌, ◌∙◌, ap, sym, subst, refl, inl, inr, true, List, [], Option, map, string_bytes}
use Rattle.std.proofs.lemmas.Result.{IfErr-weaker, IfOk-weaker}
use Rattle.clap.specs.Words.{App, HasKind, HasMatchesOf, IsAmong, Row}
use Rattle.clap.specs.Words.{Text, fault_of, is_simple, is_simple_and_free, subcommand_of}
use Rattle.clap.specs.Values.{kind_of}
use Rattle.clap.specs.declared.error.Error.{Error}
use Rattle.clap.specs.declared.error.kind.ErrorKind.{ErrorKind}
use Rattle.clap.specs.declared.error.kind.ErrorKind.TheVariants.{DisplayHelp, DisplayVersion, OutOfMemory}
use Rattle.clap.proofs.OnLiterals.{clap_on_literals}
use Rattle.tomex_command_line.specs.Asked.{IsCommand, IsNoCommand, IsNoLineAsked}
use Rattle.tomex_command_line.specs.Grammar.{tomex_app}
use Rattle.tomex_arguments.specs.Faults.{IsRefusedIf, StandsFor}
use Rattle.tomex_arguments.specs.declared.fault.LineFault.{LineFault}
use Rattle.tomex_arguments.specs.declared.fault.LineFault.TheVariants.{Help, Usage, Memory}
use Rattle.tomex_command_line.proofs.line.read_line.Goals as goal

is_plain : is_simple tomex_app ≡ true
unfolding clap_on_literals
is_plain = refl

is_free : is_simple_and_free tomex_app ≡ true
unfolding clap_on_literals
is_free = refl

-- the kind of an error, if not out of memory, is one of those that the words may give
is_among : (words : List Text) (error : Error) (k : ErrorKind) → (k ≡ OutOfMemory → ⊥)
    → HasKind (fault_of tomex_app words) error → kind_of error ≡ k → IsAmong k (fault_of tomex_app words)
is_among words error k other (inl memory) is = absurd (other (sym is ∙ memory))
is_among words error k other (inr among) is = subst (λ (k : ErrorKind). IsAmong k (fault_of tomex_app words)) is among

asks : (words : List Text) (error : Error) (fault : LineFault) → HasKind (fault_of tomex_app words) error
    → StandsFor error fault → IsNoCommand words fault
asks words error (Help text) has (inl is) = inl (is_among words error DisplayHelp (λ bad. cc) has is)
asks words error (Help text) has (inr is) = inr (is_among words error DisplayVersion (λ bad. cc) has is)
asks words error (Usage text) has stands =
    inl (kind_of error, is_among words error (kind_of error) stands.2 has refl, stands.0, stands.1)
asks words error Memory has stands = tt

asks_nothing : (words : List Text) (found : Option (Text × List Row)) (fault : LineFault)
    → found ≡ subcommand_of tomex_app words → IsRefusedIf (IsNoLineAsked found) fault → IsNoCommand words fault
asks_nothing words found (Help text) is refused = absurd refused
asks_nothing words found (Usage text) is refused =
    inr (subst (λ (o : Option (Text × List Row)). IsNoLineAsked o) is refused)
asks_nothing words found Memory is refused = tt

pub returns-in-Ok-clause-asked : goal.returns-in-Ok-clause-asked
returns-in-Ok-clause-asked c =
    let words : List Text = map string_bytes c.args.words.now in
    let has = subst (λ (a : App). HasMatchesOf a words c.in-Ok.matches) c.in_ok-grammar.ensures c.in-Ok.ensures.matches
    in
    IfOk-weaker c.line_of.result _ _
    (λ line h. subst (λ (o : Option (Text × List Row)). IsCommand o line) (has is_plain).1 h)
    c.line_of.ensures.command

pub returns-in-Err-clause-no_command : goal.returns-in-Err-clause-no_command
returns-in-Err-clause-no_command c =
    let words : List Text = map string_bytes c.args.words.now in
    let is_app = c.in_ok-grammar.ensures in
    asks words c.in-Err.error c.fault_of.result
    (subst (λ (a : App). HasKind (fault_of a words) c.in-Err.error) is_app
    (c.in-Err.ensures.kinds (ap is_simple_and_free is_app ∙ is_free)))
    c.fault_of.ensures

pub returns-in-Ok-clause-no_command : goal.returns-in-Ok-clause-no_command
returns-in-Ok-clause-no_command c =
    let words : List Text = map string_bytes c.args.words.now in
    let has = subst (λ (a : App). HasMatchesOf a words c.in-Ok.matches) c.in_ok-grammar.ensures c.in-Ok.ensures.matches
    in
    IfErr-weaker c.line_of.result _ _
    (λ fault h. asks_nothing words _ fault (has is_plain).1 h) c.line_of.ensures.refused

pub returns-in-Ok-clause-accepted : goal.returns-in-Ok-clause-accepted
returns-in-Ok-clause-accepted c =
    let words : List Text = map string_bytes c.args.words.now in
    let is_app = c.in_ok-grammar.ensures in
    IfOk-weaker c.line_of.result _ _
    (λ line h. subst (λ (a : App). fault_of a words ≡ []) is_app
    (c.in-Ok.ensures.kinds (ap is_simple_and_free is_app ∙ is_free)))
    c.line_of.ensures.command
