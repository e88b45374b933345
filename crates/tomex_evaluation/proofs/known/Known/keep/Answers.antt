-- A copy is kept, and a row of entries with nothing in them.
use Rattle.std.proofs.Common.{refl, arith}
use Rattle.std.proofs.lemmas.Grind.{common_steps}
use Rattle.tomex_evaluation.specs.declared.known.Entry.TheVariants.{Unknown}
use Rattle.tomex_evaluation.proofs.Keeping.{row_more}
use Rattle.tomex_evaluation.proofs.known.Known.keep.Goals as goal

pub returns : goal.returns
returns g c = record {
  copy = c.copy_from.new.self;
  is = c.in_ok-copy_from.ensures.copied;
  shows = c.in_ok-copy_from.ensures.shows;
  states = c.in_ok-push.ensures.items;
  next = row_more c.args.self.now.next.items c.resize.new.self.items c.len.result c.args.self.now.next.len
      c.args.self.now.different Unknown c.args.self.now.next.ok.0 c.len.ensures c.in_ok-resize.ensures.items;
  different = refl;
}

pub copy_from-requires : goal.copy_from-requires
copy_from-requires = grind (arith, common_steps)

pub overflow_add-count : goal.overflow_add-count
overflow_add-count = grind (arith, common_steps)
