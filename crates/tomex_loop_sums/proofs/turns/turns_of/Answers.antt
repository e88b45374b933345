-- The groups of the loops and of the visits say what is known of the rounds.
use Rattle.std.proofs.Common.{ℕ, ◌≡◌, ◌<◌, ◌^◌, ◌∙◌, [], List, ap, arith, get_or, length, map, sym}
use Rattle.std.proofs.lemmas.List.{get_or-map, length-map}
use Rattle.std.proofs.lemmas.List.Elements.{All-map}
use Rattle.tomex_loop_sums.specs.ByLoop.{loops_of, round_cycles}
use Rattle.tomex_loop_sums.specs.Groups.{groups_by}
use Rattle.tomex_loop_sums.proofs.GroupsBy.{groups_few, groups_many, many_groups}
use Rattle.tomex_loop_sums.proofs.TurnsBy.{keys, turn_is}
use Rattle.tomex_loop_sums.proofs.turns.turns_of.Goals as goal

pub patterns_of-requires-clause-loops : goal.patterns_of-requires-clause-loops
patterns_of-requires-clause-loops g c = rw (c.deref.ensures.value, c.in_ok-loops.ensures)
    (All-map (λ n. n < c.args.count) (λ v. v.number) c.args.visits.now c.requires.loops)

pub patterns_of-requires-clause-visits : goal.patterns_of-requires-clause-visits
patterns_of-requires-clause-visits g c =
    rw (c.deref.ensures.value, c.in_ok-loops.ensures, length-map c.args.visits.now (λ v. v.number))
    (λ k d l. (c.requires.rounds k d l).0)

pub patterns_of-requires-clause-pairs : goal.patterns_of-requires-clause-pairs
patterns_of-requires-clause-pairs g c =
    rw (c.deref-2.ensures.value, c.in_ok-cycles.ensures) (length-map c.args.rounds.now _)

pub patterns_of-requires-clause-few_visits : goal.patterns_of-requires-clause-few_visits
patterns_of-requires-clause-few_visits g c =
    rw (c.deref.ensures.value, c.in_ok-loops.ensures, length-map c.args.visits.now (λ v. v.number))
    c.requires.few_visits

pub round_loops-requires : goal.round_loops-requires
round_loops-requires g c =
    rw (c.deref-3.ensures.value, c.in_ok-loops.ensures, length-map c.args.visits.now (λ v. v.number))
    (λ k d l. (c.requires.rounds k d l).0)

pub cycles_by-requires-clause-pairs : goal.cycles_by-requires-clause-pairs
cycles_by-requires-clause-pairs g c =
    rw (c.deref-4.ensures.value, c.in_ok-keys.ensures, c.deref-5.ensures.value, c.in_ok-cycles.ensures)
    (length-map c.args.rounds.now _ ∙ sym (length-map c.args.rounds.now _))

pub cycles_by-requires-clause-keys : goal.cycles_by-requires-clause-keys
cycles_by-requires-clause-keys g c =
    let loops = All-map (λ n. n < c.args.count) (λ v. v.number) c.args.visits.now c.requires.loops in
    rw (c.deref-4.ensures.value, c.in_ok-keys.ensures, c.deref-3.ensures.value, c.in_ok-loops.ensures)
    (All-map (λ key. key < c.args.count) (λ r. get_or (loops_of c.args.visits.now) r.visit 0) c.args.rounds.now
    (λ k d l. loops (get_or c.args.rounds.now k d).visit 0
    (let is = c.requires.rounds k d l in
    omega (arith, is.0, length-map c.args.visits.now (λ v. v.number)))))

pub lengths_of-requires : goal.lengths_of-requires
lengths_of-requires g c =
    let many : length c.deref-5.result.now ≡ length c.args.rounds.now =
    ap (λ (xs : List ℕ). length xs) (c.deref-5.ensures.value ∙ c.in_ok-cycles.ensures)
    ∙ length-map c.args.rounds.now _ in
    rw (c.deref-6.ensures.value, c.in_ok-groups.ensures)
    (groups_few c.args.count (2 ^ 32) c.deref-4.result.now c.deref-5.result.now
    (omega (arith, many, c.requires.few_rounds)))

pub returns : goal.returns
returns g c =
    let are : map (λ group. group.items) c.in_ok-groups.groups.items
    ≡ groups_by c.args.count (keys c.args.visits.now c.args.rounds.now)
    (round_cycles (map (λ t. t.issue) c.args.times.now) c.args.rounds.now) =
    rw (
      c.deref-4.ensures.value,
      c.in_ok-keys.ensures,
      c.deref-3.ensures.value,
      c.in_ok-loops.ensures,
      c.deref-5.ensures.value,
      c.in_ok-cycles.ensures,
    ) at c.in_ok-groups.ensures in
    let rounds_are : c.in_ok-rounds.rounds.items ≡ map length (groups_by c.args.count
    (keys c.args.visits.now c.args.rounds.now)
    (round_cycles (map (λ t. t.issue) c.args.times.now) c.args.rounds.now)) =
    rw (c.deref-6.ensures.value, are) at c.in_ok-rounds.ensures in
    let many : length c.in_ok-groups.groups.items ≡ c.args.count =
    many_groups (λ group. group.items) c.in_ok-groups.groups.items c.args.count _ _ are in
    record {
      rounds_of_all = rw rounds_are (length-map (groups_by c.args.count (keys c.args.visits.now c.args.rounds.now)
          (round_cycles (map (λ t. t.issue) c.args.times.now) c.args.rounds.now)) length
          ∙ groups_many c.args.count _ _);
      counts_of_all = c.in_ok-counts.ensures.count ∙ rw c.deref_mut.ensures.value many;
      patterns_of_all = c.in_ok-patterns.ensures.count;
      each = λ n l. turn_is (map (λ t. t.issue) c.args.times.now) c.args.visits.now c.args.rounds.now c.args.count n
          _ _ _ l (rw rounds_are (get_or-map length _ n [] 0 (rw groups_many l)))
          (rw (c.deref_mut.ensures.value, are)
          at (c.in_ok-counts.ensures.counts n (rw (c.deref_mut.ensures.value, many) l)))
          (rw (c.deref.ensures.value, c.in_ok-loops.ensures, c.deref-2.ensures.value, c.in_ok-cycles.ensures)
          at (c.in_ok-patterns.ensures.patterns n l));
    }
