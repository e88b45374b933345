-- No key is less than one before it.
use Rattle.std.proofs.Common.{rules, arith, ℕ, ◌≡◌, false, List, get_or}
use Rattle.std.specs.List.{AllPairs}
use Rattle.std.specs.Cmp.{IsTotalOrder}
use Rattle.std.specs.Ordering.{is_lt, nat_cmp, ordering_then}
use Rattle.std.specs.declared.cmp.Ordering.{Ordering}
use Rattle.std.proofs.lemmas.Bool.Decides.{nat_tests}
use Rattle.std.proofs.lemmas.Cmp.{nat_cmp_total, on_total, then_total}
use Rattle.std.proofs.lemmas.List.Sorted.{answers_always, ranks_by, sorted_far}
use Rattle.tomex_choices.specs.declared.new_machine.NewMachine.{NewMachine}
use Rattle.tomex_choices.specs.Passing.{IsUpTo}
use Rattle.tomex_choices.proofs.useful.sort_machines.Goals as goal

abbrev compare : ℕ × ℕ × ℕ × ℕ → ℕ × ℕ × ℕ × ℕ → Ordering
compare x y =
    ordering_then (ordering_then (ordering_then (nat_cmp x.0 y.0) (nat_cmp x.1 y.1)) (nat_cmp x.2 y.2))
    (nat_cmp x.3 y.3)

abbrev key : NewMachine → ℕ × ℕ × ℕ × ℕ
key x = (x.cost, x.cycles, x.number, x.latency)

total : IsTotalOrder compare
total = then_total (then_total (then_total (on_total (λ x. x.0) nat_cmp_total) (on_total (λ x. x.1) nat_cmp_total))
    (on_total (λ x. x.2) nat_cmp_total)) (on_total (λ x. x.3) nat_cmp_total)

up_to : (a b : NewMachine) → is_lt (compare (key b) (key a)) ≡ false → IsUpTo a b
up_to a b f = grind (arith, nat_tests)

all_up_to : (xs : List NewMachine) → AllPairs (λ a b. is_lt (compare (key b) (key a)) ≡ false) xs → AllPairs IsUpTo xs
all_up_to xs far j k d l m = up_to (get_or xs j d) (get_or xs k d) (far j k d l m)

pub returns-clause-order : goal.returns-clause-order
returns-clause-order g c = all_up_to _ (λ j k d l m. sorted_far _ (ranks_by total key) _
    (c.sort_unstable_by_key.ensures.sorted key (answers_always _ _ _ (λ f a r g h. search rules)))
    j k d (omega arith) m)
