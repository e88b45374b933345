-- What holds of the loops of each run is what their columns need.
use Rattle.std.proofs.Common.{◌≡◌, ◌∙◌, ℕ, List, Option, ap, arith, get_or, length, subst, sym}
use Rattle.std.specs.Prelude.{All}
use Rattle.std.proofs.lemmas.List.{length-map}
use Rattle.tomex_path.specs.declared.link.Link.{Link}
use Rattle.tomex_path.specs.Within.{IsWithin}
use Rattle.tomex_timing.specs.declared.times.Times.{Times}
use Rattle.tomex_timing.specs.Search.{total_of}
use Rattle.tomex_loops.specs.Sound.{AreSound}
use Rattle.tomex_loop_views.proofs.AddingUp.{keys_low}
use Rattle.tomex_loop_views.proofs.report.columns_of.Goals as goal

pub turns_in-requires-clause-sound : goal.turns_in-requires-clause-sound
turns_in-requires-clause-sound g c =
    subst (λ (n : ℕ). AreSound n c.args.loops.now)
    (sym (ap (λ (ts : List Times). length ts) c.deref.ensures.value ∙ c.requires.path.pairs)) c.requires.sound

pub turns_in-requires-clause-few : goal.turns_in-requires-clause-few
turns_in-requires-clause-few g c =
    let many : length c.deref.result.now ≡ length c.args.path.now.times.items =
    ap (λ (ts : List Times). length ts) c.deref.ensures.value in
    omega (arith, many, c.requires.path.pairs, c.requires.few)

pub paths_of-requires-clause-steps : goal.paths_of-requires-clause-steps
paths_of-requires-clause-steps g c = λ k d low.
    let all : All (IsWithin (length c.args.run.now) (total_of c.args.path.now.times.items)) c.deref-3.result.now =
    subst (λ (ls : List Link). All (IsWithin (length c.args.run.now) (total_of c.args.path.now.times.items)) ls)
    (sym c.deref-3.ensures.value) c.requires.path.within in
    let within : IsWithin (length c.args.run.now) (total_of c.args.path.now.times.items)
    (get_or c.deref-3.result.now k d) = all k d low in
    let many : length c.args.keys.now ≡ length c.args.run.now =
    ap (λ (os : List (Option ℕ)). length os) c.requires.keys ∙ length-map c.args.loops.now.innermost _
    ∙ c.requires.sound.many_innermost in
    (within.first, omega (arith, within.last, many))

pub paths_of-requires-clause-keys : goal.paths_of-requires-clause-keys
paths_of-requires-clause-keys g c = rw (c.requires.keys, c.heads.ensures)
    (keys_low (length c.args.loops.now.heads) c.args.loops.now.visits c.args.loops.now.innermost
    c.requires.sound.loops c.requires.sound.innermost)

pub returns : goal.returns
returns g c =
    let times : c.deref.result.now ≡ _ = c.deref.ensures.value ∙ c.requires.path.times in
    let links : c.deref-3.result.now ≡ _ = c.deref-3.ensures.value ∙ c.requires.path.exact in
    record {
      places = rw c.steps.ensures at c.in_ok-places.ensures;
      turns = rw times at c.in_ok-turns.ensures;
      spent = rw c.requires.keys at c.in_ok-spent.ensures;
      paths_count = rw c.heads.ensures at c.in_ok-paths.ensures.count;
      paths = rw (c.heads.ensures, c.requires.keys, links) at c.in_ok-paths.ensures.by_loop;
      outside = rw (c.requires.keys, links) at c.in_ok-paths.ensures.outside;
      total = rw links at c.in_ok-paths.ensures.total;
    }
