-- The longest texts, by the variant: a search would compare their letters.
use Rattle.std.proofs.Common.{ap, sym}
use Rattle.tomex_refusals.specs.Commands.{advice_of}
use Rattle.tomex_refusals.proofs.commands.CommandRefusal.advice.Goals as goal

pub returns-in-TooLong : goal.returns-in-TooLong
returns-in-TooLong c = ap advice_of (sym c.in-TooLong.is)

pub returns-in-NoSuchChoice : goal.returns-in-NoSuchChoice
returns-in-NoSuchChoice c = ap advice_of (sym c.in-NoSuchChoice.is)

pub returns-in-NoSymbols : goal.returns-in-NoSymbols
returns-in-NoSymbols c = ap advice_of (sym c.in-NoSymbols.is)

pub returns-in-NoEnd : goal.returns-in-NoEnd
returns-in-NoEnd c = ap advice_of (sym c.in-NoEnd.is)

pub returns-in-CannotRead : goal.returns-in-CannotRead
returns-in-CannotRead c = ap advice_of (sym c.in-CannotRead.is)

pub returns-in-NoSuchRow : goal.returns-in-NoSuchRow
returns-in-NoSuchRow c = ap advice_of (sym c.in-NoSuchRow.is)

pub returns-in-SeveralRows : goal.returns-in-SeveralRows
returns-in-SeveralRows c = ap advice_of (sym c.in-SeveralRows.is)

pub returns-in-NoRoom : goal.returns-in-NoRoom
returns-in-NoRoom c = ap advice_of (sym c.in-NoRoom.is)
