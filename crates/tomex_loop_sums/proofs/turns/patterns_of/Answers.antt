-- The longest visit of a loop is one of those that have groups.
use Rattle.std.proofs.lemmas.Grind.{common_steps}
use Rattle.std.proofs.Common.{ℕ, ◌≡◌, ◌<◌, ◌^◌, ◌∙◌, None, arith, get_or, length, map, sym}
use Rattle.std.specs.Option.{option_map}
use Rattle.std.proofs.lemmas.List.{get_or_default, length-map}
use Rattle.std.proofs.lemmas.List.Elements.{All-map}
use Rattle.std.proofs.lemmas.Result.{IfOk-weaker}
use Rattle.tomex_loop_sums.specs.Columns.{LongestRepeats, RepeatsOf}
use Rattle.tomex_loop_sums.specs.Groups.{groups_by}
use Rattle.tomex_loop_sums.proofs.GroupsBy.{groups_few, groups_many, many_groups}
use Rattle.tomex_loop_sums.proofs.Longer.{longest_low}
use Rattle.tomex_loop_sums.proofs.turns.patterns_of.Goals as goal

pub cycles_by-requires-clause-keys : goal.cycles_by-requires-clause-keys
cycles_by-requires-clause-keys g c = rw (c.deref.ensures.value, c.in_ok-visits.ensures)
    (All-map (λ key. key < length c.args.loops.now) (λ r. r.visit) c.args.rounds.now c.requires.visits)

pub cycles_by-requires-clause-pairs : goal.cycles_by-requires-clause-pairs
cycles_by-requires-clause-pairs g c = rw (c.deref.ensures.value, c.in_ok-visits.ensures)
    (length-map c.args.rounds.now _ ∙ sym c.requires.pairs)

pub lengths_of-requires : goal.lengths_of-requires
lengths_of-requires g c = rw (c.deref-2.ensures.value, c.in_ok-groups.ensures)
    (groups_few (length c.args.loops.now) (2 ^ 32) c.deref.result.now c.args.cycles.now
    (omega (arith, c.requires.pairs, c.requires.few_rounds)))

pub longest_of-requires-clause-pairs : goal.longest_of-requires-clause-pairs
longest_of-requires-clause-pairs g c =
    rw (c.deref-3.ensures.value, c.in_ok-lengths.ensures, c.deref-2.ensures.value, c.in_ok-groups.ensures)
    (sym (length-map (groups_by (length c.args.loops.now) c.deref.result.now c.args.cycles.now) length
    ∙ groups_many (length c.args.loops.now) c.deref.result.now c.args.cycles.now))

pub patterns_in-requires : goal.patterns_in-requires
patterns_in-requires g c = rw (c.deref-4.ensures.value, c.deref-5.ensures.value) (λ n d l.
    let many = many_groups (λ group. group.items) c.in_ok-groups.groups.items (length c.args.loops.now)
    c.deref.result.now c.args.cycles.now c.in_ok-groups.ensures in
    let is = c.in_ok-longest.ensures.longest n (omega (arith, l, c.in_ok-longest.ensures.count)) in
    rw (many, get_or_default c.in_ok-longest.longest.items n d None l) (longest_low c.args.loops.now
    c.deref-3.result.now n (get_or c.in_ok-longest.longest.items n None) is))

pub returns-clause-count : goal.returns-clause-count
returns-clause-count g c = IfOk-weaker c.patterns_in.result
    (λ v. length v.items ≡ length c.deref-5.result.now) (λ v. length v.items ≡ c.args.count)
    (λ v many. rw c.deref-5.ensures.value at many ∙ c.in_ok-longest.ensures.count) c.patterns_in.ensures.count

pub returns-clause-patterns : goal.returns-clause-patterns
returns-clause-patterns g c = IfOk-weaker c.patterns_in.result
    (λ v. (n : ℕ) → n < length c.deref-5.result.now → RepeatsOf
    (map (λ group. group.items) c.deref-4.result.now) (get_or c.deref-5.result.now n None)
    (option_map (λ counts. counts.items) (get_or v.items n None)))
    (λ v. (n : ℕ) → n < c.args.count → LongestRepeats n c.args.loops.now (map (λ r. r.visit) c.args.rounds.now)
    c.args.cycles.now (option_map (λ counts. counts.items) (get_or v.items n None)))
    (λ v each n l.
    let here = each n (rw c.deref-5.ensures.value (omega (arith, l, c.in_ok-longest.ensures.count))) in
    record {
      longest = get_or c.in_ok-longest.longest.items n None;
      longest_is = rw (
        c.deref-3.ensures.value,
        c.in_ok-lengths.ensures,
        c.deref-2.ensures.value,
        c.in_ok-groups.ensures,
        c.deref.ensures.value,
        c.in_ok-visits.ensures,
      )
          at (c.in_ok-longest.ensures.longest n l);
      pattern_is = rw (
        c.deref-4.ensures.value,
        c.deref-5.ensures.value,
        c.in_ok-groups.ensures,
        c.deref.ensures.value,
        c.in_ok-visits.ensures,
      ) at here;
    }) c.patterns_in.ensures.patterns

pub longest_of-requires-clause-loops : goal.longest_of-requires-clause-loops
longest_of-requires-clause-loops = grind (arith, common_steps)
