-- The links add up, and are within the run.
use Rattle.std.proofs.Common.{rules, ◌≡◌, ◌∙◌, ap, length}
use Rattle.tomex_timing.specs.Search.{history, times_in}
use Rattle.tomex_timing.proofs.Histories.{length-times_in, times_bound}
use Rattle.tomex_path.specs.Path.{path_of}
use Rattle.tomex_path.proofs.LinkBounds.{links_chain, links_few, links_within}
use Rattle.tomex_path.proofs.walk.path.Goals as goal

pub returns : goal.returns
returns g c =
    let config = c.args.config.now in
    let steps = c.args.run.now in
    let good = c.keeps_limits.ensures in
    let timed : c.in_ok-noted.noted.times.items ≡ times_in c.args.config.now c.args.run.now =
    c.in_ok-noted.ensures.times c.args.run.now c.facts.ensures in
    let are : c.reverse.new.self.items ≡ path_of c.args.config.now (history c.args.config.now c.args.run.now) =
    search rules in
    record {
      times = timed;
      pairs = ap length timed ∙ length-times_in config steps;
      bound = rw timed (times_bound config steps good);
      exact = are;
      cycles = links_chain config steps c.in_ok-noted.noted.times.items c.reverse.new.self.items good timed are;
      within = links_within config steps c.in_ok-noted.noted.times.items c.reverse.new.self.items good timed are;
      few = links_few config steps c.in_ok-noted.noted.times.items c.reverse.new.self.items good timed are;
    }
