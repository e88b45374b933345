-- The first number, the others, and the end of the record.
use Rattle.tomex_layout.proofs.PlainRecords.{record_added}
use Rattle.tomex_layout.proofs.plain_records.push_numbers.Goals as goal

pub returns : goal.returns
returns g c =
    record_added c.args.text.now.items _ _ _ c.args.numbers.now c.requires.some (λ i. (c.type_inv.numbers i).fits)
    c.in_ok-push_digits.ensures c.in_ok-push_others.ensures c.in_ok-push.ensures.items
