-- The parts of a program are its entry's and its image, and its run is of that image.
use Rattle.std.proofs.Common.{◌≡◌, ◌∙◌, rules}
use Rattle.tomex_document.proofs.Studies.{in_window, unfit_refused}
use Rattle.tomex_document.proofs.study.program_of.Goals as goal

pub returns-in-Err-clause-err : goal.returns-in-Err-clause-err
returns-in-Err-clause-err g c =
    unfit_refused c.args.entry.now c.args.file.now c.from_str-in-Err.result c.in-Err.error c.program_refusal.result
    (search rules) c.program_refusal.ensures.with_name c.program_refusal.ensures.without_name (
      _,
      c.in_ok-image.ensures.ok.0,
      c.in_ok-image.ensures.ok.1,
      rw c.limit.ensures.value
          at c.in-Err.ensures.unfit,
    )

pub returns-in-Ok-clause-ok : goal.returns-in-Ok-clause-ok
returns-in-Ok-clause-ok g c =
    let program = rw c.in-Ok.ensures.parts at c.in-Ok.ensures.program in
    rw c.in-Ok.ensures.parts (record {
      name = c.in_ok-name.ensures.ok ∙ c.name.ensures.value;
      placed = c.in_ok-image.ensures.ok.0;
      accepted = c.in_ok-image.ensures.ok.1;
      limit = c.limit.ensures.value;
      ends = rw c.limit.ensures.value at program.ends;
      watch = rw (c.in_ok-extend_from_slice.ensures.items, c.new-watch.ensures.items) c.watch.ensures.value;
      weight = c.weight.ensures.value;
    })

pub new-requires-clause-some_steps : goal.new-requires-clause-some_steps
new-requires-clause-some_steps g c = rw c.limit.ensures.value c.keeps_limits.ensures.least_limit

pub new-requires-clause-few_steps : goal.new-requires-clause-few_steps
new-requires-clause-few_steps g c = rw c.limit.ensures.value c.keeps_limits.ensures.most_limit

pub new-requires-clause-watch : goal.new-requires-clause-watch
new-requires-clause-watch g c =
    let window = in_window c.args.file.now c.args.entry.now.window c.in_ok-image.image c.in_ok-image.ensures.ok.0 in
    let watch : c.extend_from_slice.new.self.items ≡ c.args.entry.now.watch =
    rw (c.in_ok-extend_from_slice.ensures.items, c.new-watch.ensures.items) c.watch.ensures.value in
    rw (window, watch) c.keeps_limits.ensures.watch

pub new-requires-clause-some_weight : goal.new-requires-clause-some_weight
new-requires-clause-some_weight g c = rw c.weight.ensures.value c.keeps_limits.ensures.least_weight

pub new-requires-clause-most_weight : goal.new-requires-clause-most_weight
new-requires-clause-most_weight g c = rw c.weight.ensures.value c.keeps_limits.ensures.most_weight
