-- The longest texts, by the variant: a search would compare their letters.
use Rattle.std.proofs.Common.{ap, sym}
use Rattle.tomex_refusals.specs.Studies.{advice_of}
use Rattle.tomex_refusals.proofs.studies.StudyRefusal.advice.Goals as goal

pub returns-in-OutOfRange : goal.returns-in-OutOfRange
returns-in-OutOfRange c = ap advice_of (sym c.in-OutOfRange.is)

pub returns-in-UnknownKey : goal.returns-in-UnknownKey
returns-in-UnknownKey c = ap advice_of (sym c.in-UnknownKey.is)

pub returns-in-WrongKind : goal.returns-in-WrongKind
returns-in-WrongKind c = ap advice_of (sym c.in-WrongKind.is)

pub returns-in-NotToml : goal.returns-in-NotToml
returns-in-NotToml c = ap advice_of (sym c.in-NotToml.is)
