-- The state after the block is shown; it gets a number if it can, and then an entry leads to it.
use Rattle.std.proofs.lemmas.Grind.{common_steps}
use Rattle.std.proofs.Common.{ℕ, ◌+◌, ◌-◌, ◌≡◌, ◌∙◌, ap, arith, length, sym, Option}
use Rattle.tomex_alike.specs.Laws.{first_issue_at, history_to}
use Rattle.tomex_evaluation.specs.Known.{kept_of}
use Rattle.tomex_evaluation.specs.declared.evaluation.Evaluation.{Evaluation}
use Rattle.tomex_evaluation.proofs.Row.{as_long, block_is, end_at_most}
use Rattle.tomex_evaluation.proofs.Shown.{all_usable, end_small, shows_some}
use Rattle.tomex_evaluation.proofs.Turns.{can_note, known_after, known_then, passes}
use Rattle.tomex_evaluation.proofs.evaluation.Evaluation.evaluate.Goals as goal

pub come_to-requires-clause-within : goal.come_to-requires-clause-within
come_to-requires-clause-within g c =
    let block = block_is c.args.task.now.config.now c.args.task.now.run.now c.args.task.now.blocks.now c.requires.cut
    c.args.block.now c.requires.block in
    omega (arith, block.some, block.within)

pub evaluate-requires-clause-some : goal.evaluate-requires-clause-some
evaluate-requires-clause-some g c =
    let block = block_is c.args.task.now.config.now c.args.task.now.run.now c.args.task.now.blocks.now c.requires.cut
    c.args.block.now c.requires.block in
    omega (arith, block.some)

pub evaluate-requires-clause-within : goal.evaluate-requires-clause-within
evaluate-requires-clause-within g c =
    let block = block_is c.args.task.now.config.now c.args.task.now.run.now c.args.task.now.blocks.now c.requires.cut
    c.args.block.now c.requires.block in
    let long = as_long c.args.task.now.config.now c.args.task.now.run.now c.args.task.now.blocks.now c.requires.cut in
    omega (arith, block.within, ap length c.facts.ensures.are, long)

pub first_issue-time-requires : goal.first_issue-time-requires
first_issue-time-requires g c =
    let config = c.args.task.now.config.now in
    let steps = c.args.task.now.run.now in
    let run = c.args.task.now.blocks.now in
    let b = c.args.block.now in
    let block = block_is config steps run c.requires.cut b c.requires.block in
    let shows = c.in_ok-evaluate.ensures.shown steps c.facts.ensures c.in_ok-come_to.ensures.here in
    let small = end_at_most config steps run c.requires.cut b.end block.within in
    record { shown = (history_to config steps b.end, shows, omega (arith, small)) }

pub find_or_keep-requires-clause-kept : goal.find_or_keep-requires-clause-kept
find_or_keep-requires-clause-kept g c =
    let config = c.args.task.now.config.now in
    let steps = c.args.task.now.run.now in
    let run = c.args.task.now.blocks.now in
    let b = c.args.block.now in
    let block = block_is config steps run c.requires.cut b c.requires.block in
    let at = c.in_ok-come_to.ensures.at in
    all_usable config steps run c.requires.cut b.first at.places _ (omega (arith, block.some, block.within)) at.known

pub find_or_keep-requires-clause-shows : goal.find_or_keep-requires-clause-shows
find_or_keep-requires-clause-shows g c =
    let config = c.args.task.now.config.now in
    let steps = c.args.task.now.run.now in
    let run = c.args.task.now.blocks.now in
    let b = c.args.block.now in
    let block = block_is config steps run c.requires.cut b c.requires.block in
    let shows = c.in_ok-evaluate.ensures.shown steps c.facts.ensures c.in_ok-come_to.ensures.here in
    shows_some config steps run c.requires.cut b.end block.within c.evaluate.new.self shows

pub find_or_keep-requires-clause-small : goal.find_or_keep-requires-clause-small
find_or_keep-requires-clause-small g c =
    let config = c.args.task.now.config.now in
    let steps = c.args.task.now.run.now in
    let run = c.args.task.now.blocks.now in
    let b = c.args.block.now in
    let block = block_is config steps run c.requires.cut b c.requires.block in
    let shows = c.in_ok-evaluate.ensures.shown steps c.facts.ensures c.in_ok-come_to.ensures.here in
    let small = end_small config steps run c.requires.cut b.end block.within c.evaluate.new.self shows in
    omega (arith, small)

pub find_or_keep-requires-clause-few : goal.find_or_keep-requires-clause-few
find_or_keep-requires-clause-few g c = c.in_ok-come_to.ensures.at.known.few

-- the evaluator is as before, except for what is known and the credit
time_is : (A : Type 0) (e other : Evaluation A) → e ≡ record other { known = e.known; credit = e.credit }
    → e.time ≡ other.time
time_is A e other same = ap (λ (x : Evaluation A). x.time) same

kept_is : (A : Type 0) (e other : Evaluation A) (from : Option ℕ)
    → e ≡ record other { known = e.known; credit = e.credit } → from ≡ kept_of e.standing
    → kept_of other.standing ≡ from
kept_is A e other from same is = sym (is ∙ ap (λ (x : Evaluation A). kept_of x.standing) same)

pub overflow_sub-passed : goal.overflow_sub-passed
overflow_sub-passed g c =
    let config = c.args.task.now.config.now in
    let steps = c.args.task.now.run.now in
    let run = c.args.task.now.blocks.now in
    let b = c.args.block.now in
    let shows = c.in_ok-evaluate.ensures.shown steps c.facts.ensures c.in_ok-come_to.ensures.here in
    let time = c.first_issue-time.ensures (history_to config steps b.end) shows in
    let e = record c.come_to.new.self { state = c.evaluate.new.self; demands = c.evaluate.new.demands } in
    let same = time_is g.row.A.Denot c.find_or_keep.new.self e c.in_ok-to.ensures.rest in
    let up = passes config steps run b c.requires.cut c.requires.block in
    omega (arith, time, same, c.in_ok-come_to.ensures.at.time, up)

pub note-requires : goal.note-requires
note-requires g c =
    let config = c.args.task.now.config.now in
    let steps = c.args.task.now.run.now in
    let run = c.args.task.now.blocks.now in
    let b = c.args.block.now in
    let at = c.in_ok-come_to.ensures.at in
    let shows = c.in_ok-evaluate.ensures.shown steps c.facts.ensures c.in_ok-come_to.ensures.here in
    let known = known_after config steps run b c.come_to.new.self c.evaluate.new.self c.find_or_keep.new.self.known
    c.in_ok-to.to c.requires.cut c.requires.block at shows c.in_ok-to.ensures.number in
    let e = record c.come_to.new.self { state = c.evaluate.new.self; demands = c.evaluate.new.demands } in
    let is = kept_is g.row.A.Denot c.find_or_keep.new.self e c.kept-from.result c.in_ok-to.ensures.rest
    c.kept-from.ensures in
    can_note config steps run b c.come_to.new.self c.find_or_keep.new.self.known c.kept-from.result c.in_ok-to.to
    c.requires.cut c.requires.block at known is

pub returns : goal.returns
returns g c =
    let config = c.args.task.now.config.now in
    let steps = c.args.task.now.run.now in
    let run = c.args.task.now.blocks.now in
    let b = c.args.block.now in
    let at = c.in_ok-come_to.ensures.at in
    let shows = c.in_ok-evaluate.ensures.shown steps c.facts.ensures c.in_ok-come_to.ensures.here in
    let noted = c.in_ok-evaluate.ensures.noted steps c.facts.ensures c.in_ok-come_to.ensures.here at.noted in
    let time = c.first_issue-time.ensures (history_to config steps b.end) shows in
    let known = known_after config steps run b c.come_to.new.self c.evaluate.new.self c.find_or_keep.new.self.known
    c.in_ok-to.to c.requires.cut c.requires.block at shows c.in_ok-to.ensures.number in
    let e = record c.come_to.new.self { state = c.evaluate.new.self; demands = c.evaluate.new.demands } in
    let rest = c.in_ok-to.ensures.rest in
    let same = time_is g.row.A.Denot c.find_or_keep.new.self e rest in
    let is = kept_is g.row.A.Denot c.find_or_keep.new.self e c.kept-from.result rest c.kept-from.ensures in
    let state_is = ap (λ (x : Evaluation g.row.A.Denot). x.state) rest in
    let demands_is = ap (λ (x : Evaluation g.row.A.Denot). x.demands) rest in
    let passed = c.first_issue-time.result - c.find_or_keep.new.self.time in
    let up = passes config steps run b c.requires.cut c.requires.block in
    let later : first_issue_at config steps b.end ≡ first_issue_at config steps b.first + passed =
    omega (arith, time, same, at.time, up) in
    record {
      places = known.places;
      known = known_then config steps run b c.come_to.new.self c.find_or_keep.new.self.known c.note.new.self
          c.kept-from.result c.in_ok-to.to passed c.requires.cut c.requires.block at known is later c.note.ensures;
      stands = (rw state_is shows, known.number);
      time = time;
      noted = rw demands_is noted;
    }

pub evaluate-requires-clause-few : goal.evaluate-requires-clause-few
evaluate-requires-clause-few = grind (arith, common_steps)
